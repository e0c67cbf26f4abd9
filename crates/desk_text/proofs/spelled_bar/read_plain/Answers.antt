use Rattle.std.proofs.Common.{rules}
use Rattle.denial_rules.specs.declared.bar.Bar.TheVariants as bar
use Rattle.desk_text.specs.declared.bar_head.BarHead.TheVariants as bar_head
use Rattle.desk_text.proofs.spelled_bar.read_plain.Goals as goal

pub returns-else-eq-3-clause-only : goal.returns-else-eq-3-clause-only
returns-else-eq-3-clause-only c none (bar.Assigned v) spells = absurd (none bar_head.Assigned _ spells.text_is)
returns-else-eq-3-clause-only c none (bar.OnOffer v) spells = absurd (none bar_head.OnOffer _ spells.text_is)
returns-else-eq-3-clause-only c none (bar.Elsewhere p) spells = absurd (none bar_head.Elsewhere _ spells.text_is)
returns-else-eq-3-clause-only c none (bar.OtherCraft k) spells = absurd (none bar_head.OtherCraft _ spells.text_is)
returns-else-eq-3-clause-only c none (bar.Lacks n) spells = absurd (none bar_head.Lacks _ spells.text_is)
returns-else-eq-3-clause-only c none (bar.Held t) spells = absurd (none bar_head.Held _ spells.text_is)
returns-else-eq-3-clause-only c none (bar.Rest t) spells = absurd (none bar_head.Rest _ spells.text_is)
returns-else-eq-3-clause-only c none (bar.MoreRest t) spells = absurd (none bar_head.MoreRest _ spells.text_is)
returns-else-eq-3-clause-only c none (bar.Undisturbed t) spells = absurd (none bar_head.Undisturbed _ spells.text_is)
returns-else-eq-3-clause-only c none (bar.SixDays n m) spells = absurd (none bar_head.SixDays _ spells.text_is)
returns-else-eq-3-clause-only c none (bar.SevenDays n m) spells = absurd (none bar_head.SevenDays _ spells.text_is)
returns-else-eq-3-clause-only c none (bar.MonthHours n m) spells = absurd (none bar_head.MonthHours _ spells.text_is)
returns-else-eq-3-clause-only c none (bar.LimboHours n m) spells = absurd (none bar_head.LimboHours _ spells.text_is)
returns-else-eq-3-clause-only c none other spells = search rules
