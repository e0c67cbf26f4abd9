-- Whole lines of a text.
use Rattle.std.proofs.Common.{◌≡◌, ◌∙◌, ℕ, ◌+◌, ◌-◌, ◌<◌, ◌≤◌, ◌==◌, false, List, [], ◌∷◌, ◌++◌, length, get_or, take, drop, refl, sym, ap, arith, inr, Option, None, Some}
use Rattle.std.specs.List.{All}
use Rattle.std.proofs.lemmas.List.{take_more, take-append-drop, append-nil}
use Rattle.desk_model.specs.histories.History.{History}
use Rattle.desk_model.specs.texts.Journal.{journal}
use Rattle.journal_device.specs.Device.{Tells, Leaves}
use Rattle.kept_desk.specs.WholeLines.{IsWhole}

-- a line feed with none behind it ends the whole lines
pub whole-at : (text : List ℕ) (len : ℕ) → 0 < len → len ≤ length text → get_or text (len - 1) 0 ≡ 10 → All (λ b. (b == 10) ≡ false) (drop len text) → IsWhole text (take len text)
whole-at text len some within is all =
    let one : len - 1 + 1 ≡ len = omega arith in
    record {
      fed = inr (take (len - 1) text, ap (λ n. take n text) (sym one) ∙ take_more text (len - 1) 0 (omega arith) ∙ ap (λ b. take (len - 1) text ++ b ∷ []) is);
      rest = drop len text;
      parts = sym (take-append-drop len text);
      cut = all;
    }

-- what is left of a text is the journal that its front is
pub leaves-tells : (there left : Option (List ℕ)) (text : List ℕ) (len : ℕ) (h : History) → Tells there text → Leaves there left len → take len text ≡ journal h ++ [] → Tells left (journal h)
leaves-tells None left text len h tells leaves is = rw leaves tt
leaves-tells (Some bytes) left text len h tells leaves is = rw (leaves.1) (ap (take len) tells ∙ is ∙ append-nil (journal h))

-- a device that has nothing has nothing left
pub leaves-nothing : (there left : Option (List ℕ)) → Tells there [] → Leaves there left 0 → Tells left []
leaves-nothing None left tells leaves = rw leaves tt
leaves-nothing (Some bytes) left tells leaves = rw (leaves.1) refl
