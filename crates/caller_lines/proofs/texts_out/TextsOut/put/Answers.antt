use Rattle.std.proofs.Common.{rules, ◌≡◌, [], ◌++◌, subst, sym, ap, ◌∙◌, inl, inr, arith}
use Rattle.caller_lines.specs.FileLine.{GaveOn, Wrote}
use Rattle.caller_lines.proofs.WaitLemmas.{GaveOn-all, on-true, on-both}
use Rattle.caller_lines.proofs.texts_out.TextsOut.put.Goals as goal

pub returns-then-text-gt-ROOM-clause-gave : goal.returns-then-text-gt-ROOM-clause-gave
returns-then-text-gt-ROOM-clause-gave g c =
    let contents = g.W.Write.contents in
    let old = c.args.self.now in
    let mid = c.make_room.new.self in
    let now = c.write.new.self in
    let text = c.args.text.now in
    let empty : mid.waiting.items ≡ [] = elim c.if-not-make_room.ensures.room [
      | inl fits ↦ absurd (omega (arith, fits, c.if-text-gt-ROOM.true))
      | inr none ↦ none
    ] in
    on-true c.write.result
    (λ wrote. subst (λ w. GaveOn contents old.writer now.writer old.waiting.items w text) (sym (ap (λ w. w.items) c.write.ensures.waiting ∙ empty))
    (GaveOn-all contents old.writer mid.writer now.writer old.waiting.items mid.waiting.items text c.if-not-make_room.ensures.gave
    (subst (λ m. Wrote contents mid.writer now.writer (m ++ text)) (sym empty) wrote)))
    c.write.ensures.wrote

pub returns-then-at_once-clause-gave : goal.returns-then-at_once-clause-gave
returns-then-at_once-clause-gave g c =
    let contents = g.W.Write.contents in
    let old = c.args.self.now in
    let mid = c.make_room.new.self in
    let now = c.write_waiting.new.self in
    let text = c.args.text.now in
    let waits : c.try_extend_from_slice.new.self.items ≡ mid.waiting.items ++ text = search rules in
    on-both c.write_waiting.result
    (λ wrote none. subst (λ w. GaveOn contents old.writer now.writer old.waiting.items w text) (sym none)
    (GaveOn-all contents old.writer mid.writer now.writer old.waiting.items mid.waiting.items text c.if-not-make_room.ensures.gave
    (subst (Wrote contents mid.writer now.writer) waits wrote)))
    c.write_waiting.ensures.wrote c.write_waiting.ensures.none
