use Rattle.desk_text.specs.declared.bar_head.BarHead.TheVariants as bar_head
use Rattle.desk_text.proofs.bar_head.BarHead.split.Goals as goal

pub returns-in_default-behind-12-clause-none : goal.returns-in_default-behind-12-clause-none
returns-in_default-behind-12-clause-none c bar_head.Assigned rest e = c.in_default.ensures.none rest e
returns-in_default-behind-12-clause-none c bar_head.OnOffer rest e = c.in_default-behind.ensures.none rest e
returns-in_default-behind-12-clause-none c bar_head.Elsewhere rest e = c.in_default-behind-2.ensures.none rest e
returns-in_default-behind-12-clause-none c bar_head.OtherCraft rest e = c.in_default-behind-3.ensures.none rest e
returns-in_default-behind-12-clause-none c bar_head.Lacks rest e = c.in_default-behind-4.ensures.none rest e
returns-in_default-behind-12-clause-none c bar_head.Held rest e = c.in_default-behind-5.ensures.none rest e
returns-in_default-behind-12-clause-none c bar_head.Rest rest e = c.in_default-behind-6.ensures.none rest e
returns-in_default-behind-12-clause-none c bar_head.MoreRest rest e = c.in_default-behind-7.ensures.none rest e
returns-in_default-behind-12-clause-none c bar_head.Undisturbed rest e = c.in_default-behind-8.ensures.none rest e
returns-in_default-behind-12-clause-none c bar_head.SixDays rest e = c.in_default-behind-9.ensures.none rest e
returns-in_default-behind-12-clause-none c bar_head.SevenDays rest e = c.in_default-behind-10.ensures.none rest e
returns-in_default-behind-12-clause-none c bar_head.MonthHours rest e = c.in_default-behind-11.ensures.none rest e
returns-in_default-behind-12-clause-none c bar_head.LimboHours rest e = c.in_default-behind-12.ensures.none rest e
