use Rattle.std.proofs.Common.{◌≡◌, ◌+◌, drop}
use Rattle.desk_model.specs.boards.Boards.{links}
use Rattle.desk_model.specs.answers.ExplainAnswer.{position_in}
use Rattle.plain_core.proofs.kept.chains.position_on.Given as goal

abbrev pub invariant-loop-other : goal.invariant-loop-other
invariant-loop-other l = record {
  position : l.position ≡ l.other-index + 1;
  first : position_in (links l.board l.position (drop l.other-index l.members)) l.person ≡ position_in (links l.board 1 l.members) l.person;
}
