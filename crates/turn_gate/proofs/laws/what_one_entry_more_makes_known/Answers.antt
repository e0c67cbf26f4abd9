use Rattle.std.proofs.Common.{[], ◌∷◌}
use Rattle.turn_gate.proofs.Notes.{own-mine, own-other, prefix_longer}
use Rattle.turn_gate.proofs.laws.what_one_entry_more_makes_known.Goals as goal

pub returns : goal.returns
returns c = record {
  mine = own-mine;
  other = own-other;
  begins = λ known entries e is. prefix_longer known entries (e ∷ []) is;
}
