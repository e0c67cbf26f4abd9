use Rattle.std.proofs.Common.{refl, ap, ◌∙◌}
use Rattle.desk_model.specs.histories.Legal.{next}
use Rattle.day_gen.specs.Due.{last_entry}
use Rattle.day_gen.specs.Day.{day_after, generated_day, day_statement}
use Rattle.day_gen.proofs.KeepLemmas.{last_entry-with}
use Rattle.day_gen.proofs.DayLemmas.{day_keeps, generated_day-grows, day-callers}
use Rattle.day_gen.proofs.laws.a_generated_day_grows.Goals as goal

pub returns-clause-begins : goal.returns-clause-begins
unfolding generated_day day_after
returns-clause-begins c edition number = refl

pub returns-clause-grows : goal.returns-clause-grows
returns-clause-grows c = generated_day-grows

pub returns-clause-last : goal.returns-clause-last
returns-clause-last c edition number n =
    ap last_entry (generated_day-grows edition number n)
    ∙ last_entry-with (generated_day edition number n) (next (generated_day edition number n) 0 (day_statement edition number n))

pub returns-clause-opening : goal.returns-clause-opening
unfolding generated_day
returns-clause-opening c edition number n = (day_keeps edition number n).opening

pub returns-clause-entries : goal.returns-clause-entries
unfolding generated_day
returns-clause-entries c edition number n = (day_keeps edition number n).entries

pub returns-clause-callers : goal.returns-clause-callers
unfolding generated_day
returns-clause-callers c edition number n = day-callers edition number n
