use Rattle.std.proofs.Common.{◌≡◌, ℕ, Some, max, drop}
use Rattle.desk_model.specs.histories.History.{History}
use Rattle.desk_model.specs.offers.Held.{hold_end}
use Rattle.desk_model.specs.histories.Register.{persons}
use Rattle.desk_register.specs.Among.{index_among}
use Rattle.fast_core.specs.KeptDesk.{Tells}
use Rattle.fast_core.proofs.kept_desk.KeptDesk.hold_end.Given as goal

-- the greatest end by the boards so far
abbrev pub invariant-loop-board : goal.invariant-loop-board
invariant-loop-board l = (h : History) (p : ℕ) → Tells l.self h → index_among (persons h) p ≡ Some l.person → max l.end (hold_end h (drop l.board-index l.board-items) p) ≡ hold_end h l.board-items p
