use Rattle.std.proofs.Common.{◌≡◌, ℕ, ◌+◌, ◌-◌, ◌==◌, List, [], ◌∷◌, ◌++◌, false, length, take, drop, subst, arith}
use Rattle.std.specs.List.{All}
use Rattle.std.proofs.lemmas.List.{take_all, length-drop, length-append}
use Rattle.byte_marks.specs.Marks.{IsFirstFrom, IsNowhere}
use Rattle.desk_base.specs.Parts.{parts_by}
use Rattle.record_rows.proofs.FieldLemmas.{take-front}
use Rattle.record_rows.proofs.CommaLemmas.{parts-comma, parts-last, uncut-between}
use Rattle.record_rows.proofs.fields.fill_with_line.Goals as goal

pub loop-filled-preserved : goal.loop-filled-preserved
loop-filled-preserved c =
    let text = c.args.text.now in
    let start = c.loop-filled.start in
    let at = c.in-Some.at in
    let so_far = c.loop-filled.invariant in
    let more : (field : List ℕ) → length (c.loop-filled.fields ++ field ∷ []) ≡ c.loop-filled.filled + 1 = λ field. omega (arith, length-append c.loop-filled.fields (field ∷ []), so_far.count) in
    let found : IsFirstFrom text 44 start at = rw so_far.commas at c.in-Some.ensures.found.0 in
    record {
      parts = rw c.push-in-loop-filled.ensures
          (parts-comma c.loop-filled.fields text start at _ found.behind found.stands.0 found.stands.1
          (uncut-between text start at (omega (arith, found.stands.0)) found.first) so_far.parts);
      count = rw c.push-in-loop-filled.ensures (more _);
      within = omega (arith, found.stands.0);
      commas = rw so_far.commas at c.in-Some.ensures.found.1;
    }

pub returns : goal.returns
returns c = take-front _ (parts_by 44 (drop c.loop-filled.start c.args.text.now)) _ c.loop-filled.invariant.parts
    (omega (arith, c.loop-filled.invariant.count, c.loop-filled-test.false))

pub returns-in_default : goal.returns-in_default
returns-in_default c =
    let text = c.args.text.now in
    let start = c.loop-filled.start in
    let fields = c.loop-filled.fields in
    let none : IsNowhere text 44 start (length text) = rw c.loop-filled.invariant.commas at c.in_default.ensures.none.0 in
    let whole : take (length text - start) (drop start text) ≡ drop start text = take_all (length text - start) (drop start text) (omega (arith, length-drop start text)) in
    let uncut : All (λ b. (b == 44) ≡ false) (drop start text) = subst (λ bytes. All (λ b. (b == 44) ≡ false) bytes) whole (uncut-between text start (length text) (omega arith) none) in
    rw (c.push.ensures, whole)
    (parts-last fields (drop start text) (parts_by 44 text) uncut
    (omega (arith, c.loop-filled.invariant.count, c.loop-filled-test.true))
    c.loop-filled.invariant.parts)
