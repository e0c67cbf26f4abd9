use Rattle.desk_text.specs.declared.reply_head.ReplyHead.TheVariants as head
use Rattle.desk_text.proofs.reply_head.ReplyHead.split.Goals as goal

pub returns-in_default-behind-17-clause-none : goal.returns-in_default-behind-17-clause-none
returns-in_default-behind-17-clause-none c head.Offered rest e = c.in_default.ensures.none rest e
returns-in_default-behind-17-clause-none c head.Hours rest e = c.in_default-behind.ensures.none rest e
returns-in_default-behind-17-clause-none c head.State rest e = c.in_default-behind-2.ensures.none rest e
returns-in_default-behind-17-clause-none c head.Clear rest e = c.in_default-behind-3.ensures.none rest e
returns-in_default-behind-17-clause-none c head.Seen rest e = c.in_default-behind-4.ensures.none rest e
returns-in_default-behind-17-clause-none c head.Closed rest e = c.in_default-behind-5.ensures.none rest e
returns-in_default-behind-17-clause-none c head.Denied rest e = c.in_default-behind-6.ensures.none rest e
returns-in_default-behind-17-clause-none c head.NoOne rest e = c.in_default-behind-7.ensures.none rest e
returns-in_default-behind-17-clause-none c head.Unfilled rest e = c.in_default-behind-8.ensures.none rest e
returns-in_default-behind-17-clause-none c head.RunAround rest e = c.in_default-behind-9.ensures.none rest e
returns-in_default-behind-17-clause-none c head.Frozen rest e = c.in_default-behind-10.ensures.none rest e
returns-in_default-behind-17-clause-none c head.EventAhead rest e = c.in_default-behind-11.ensures.none rest e
returns-in_default-behind-17-clause-none c head.UnknownBoard rest e = c.in_default-behind-12.ensures.none rest e
returns-in_default-behind-17-clause-none c head.BadChain rest e = c.in_default-behind-13.ensures.none rest e
returns-in_default-behind-17-clause-none c head.ReportPast rest e = c.in_default-behind-14.ensures.none rest e
returns-in_default-behind-17-clause-none c head.OfferOpen rest e = c.in_default-behind-15.ensures.none rest e
returns-in_default-behind-17-clause-none c head.Lapsed rest e = c.in_default-behind-16.ensures.none rest e
returns-in_default-behind-17-clause-none c head.Early rest e = c.in_default-behind-17.ensures.none rest e
