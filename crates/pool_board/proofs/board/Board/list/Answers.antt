use Rattle.std.proofs.Common.{◌≡◌, false, length, ap, ◌∙◌, ◌++◌, ◌∷◌, [], arith}
use Rattle.std.proofs.lemmas.List.{length-set}
use Rattle.pool_board.specs.Members.{is_listed}
use Rattle.slot_tree.specs.Slots.{filled}
use Rattle.slot_tree.specs.declared.slot.Slot.{Slot}
use Rattle.pool_board.proofs.BoardLemmas.{is_board-in}
use Rattle.pool_board.proofs.board.Board.list.Goals as goal

pub invariant_of-self : goal.invariant_of-self
invariant_of-self c =
    let slots = c.self.inside.tree in
    let x : Slot = record { person = c.args.person; ready = c.args.ready } in
    let out : is_listed c.args.person (filled slots) ≡ false = ap (λ v. is_listed c.args.person v.members) c.self.view_is ∙ c.requires in
    is_board-in c.self.inside.listed slots c.append-slot.new.self x c.self.invariant (omega (arith, c.self.invariant.most, c.if-self-eq-MOST_MEMBERS.false)) out
    (ap length c.append-slot.ensures.slots ∙ length-set c.make_room.new.tree _ _ ∙ c.make_room.ensures.length)
    (c.append-slot.ensures.order ∙ ap (λ ms. ms ++ x ∷ []) c.make_room.ensures.order)
