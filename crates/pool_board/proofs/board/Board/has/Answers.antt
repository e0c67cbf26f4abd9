use Rattle.std.proofs.Common.{◌≡◌, ℕ, false, Option, None, Some, is_some, IfSome, List, refl, sym, ap, ◌∙◌}
use Rattle.slot_tree.specs.declared.slot.Slot.{Slot}
use Rattle.slot_tree.specs.Slots.{slot_at, filled}
use Rattle.pool_board.specs.declared.slots.Standing.{Standing}
use Rattle.pool_board.specs.Members.{is_listed}
use Rattle.pool_board.proofs.SlotLemmas.{is_listed-there}
use Rattle.pool_board.proofs.board.Board.has.Goals as goal

found : (slots : List (Option Slot)) (p : ℕ) (at : Option Standing) → IfSome at (λ s. slot_at slots s.slot ≡ Some (record { person = p; ready = s.ready }))
    → (at ≡ None → is_listed p (filled slots) ≡ false) → is_some at ≡ is_listed p (filled slots)
found slots p None there none = sym (none refl)
found slots p (Some s) there none = sym (is_listed-there slots s.slot _ there)

pub returns : goal.returns
returns c =
    c.is_some.ensures ∙ found c.self.inside.tree c.args.person c.find.result c.find.ensures.found c.find.ensures.only ∙ ap (λ v. is_listed c.args.person v.members) c.self.view_is
