use Rattle.std.proofs.Common.{ap, arith}
use Rattle.desk_base.specs.Window.{end_of}
use Rattle.person_clock.proofs.HoursLemmas.{window-ends}
use Rattle.person_clock.proofs.clock.PersonClock.law.Goals as goal

pub of-requires-clause-range : goal.of-requires-clause-range
of-requires-clause-range c = omega (arith, c.requires.end, ap (λ v. end_of v.window) c.self.view_is, (window-ends c.self.inside.window c.start.ensures.range).1, c.from.ensures, c.from-2.ensures)
