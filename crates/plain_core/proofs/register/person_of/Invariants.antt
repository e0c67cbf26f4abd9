use Rattle.std.proofs.Common.{◌≡◌, drop}
use Rattle.desk_model.specs.histories.History.{said, first_of}
use Rattle.desk_model.specs.histories.Register.{enrols}
use Rattle.plain_core.proofs.register.person_of.Given as goal

abbrev pub invariant-loop-entry : goal.invariant-loop-entry
invariant-loop-entry l = first_of (said (enrols l.person)) (drop l.entry-index l.entries) ≡ first_of (said (enrols l.person)) l.entries
