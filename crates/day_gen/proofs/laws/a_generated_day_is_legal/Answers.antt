use Rattle.day_gen.specs.Day.{generated_day}
use Rattle.day_gen.proofs.LegalLemmas.{day-legal, day-stated}
use Rattle.day_gen.proofs.laws.a_generated_day_is_legal.Goals as goal

pub returns-clause-legal : goal.returns-clause-legal
unfolding generated_day
returns-clause-legal c = day-legal c.a_legal_history_fits.ensures

pub returns-clause-stated : goal.returns-clause-stated
returns-clause-stated c = day-stated c.a_legal_history_fits.ensures
