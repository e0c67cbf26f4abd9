use Rattle.std.proofs.Common.{◌≡◌, drop}
use Rattle.desk_model.specs.histories.History.{said, first_of}
use Rattle.desk_model.specs.histories.Register.{makes}
use Rattle.plain_core.proofs.register.vacancy_of.Given as goal

abbrev pub invariant-loop-entry : goal.invariant-loop-entry
invariant-loop-entry l = first_of (said (makes l.vac)) (drop l.entry-index l.entries) ≡ first_of (said (makes l.vac)) l.entries
