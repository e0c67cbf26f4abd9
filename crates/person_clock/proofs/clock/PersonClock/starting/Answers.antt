use Rattle.std.proofs.Common.{[]}
use Rattle.std.proofs.lemmas.List.Elements.{All-nil}
use Rattle.duty_events.specs.declared.asked.Asked.TheVariants as asked
use Rattle.duty_events.specs.Asked.{asked_minutes}
use Rattle.duty_events.proofs.AskedLemmas.{asked_minutes-nil}
use Rattle.month_hours.specs.Capped.{capped_minutes}
use Rattle.month_hours.proofs.CappedLemmas.{capped_minutes-nil}
use Rattle.person_clock.specs.Clock.{LiesIn}
use Rattle.person_clock.proofs.clock.PersonClock.starting.Goals as goal

pub returns-clause-stands : goal.returns-clause-stands
returns-clause-stands c = record {
  totals = c.none.ensures;
  lie = All-nil (LiesIn c.args.window);
  rested = c.new.ensures;
  stayed = c.new-2.ensures;
  worked = c.none-2.ensures c.args.window (asked_minutes asked.Worked []) (asked_minutes-nil asked.Worked);
  waited = c.none-3.ensures c.args.window (capped_minutes []) capped_minutes-nil;
}
