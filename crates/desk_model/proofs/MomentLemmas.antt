-- Moments never fall.
use Rattle.std.specs.List.{slice_get}
use Rattle.std.proofs.lemmas.List.{take_more, take_all}
use Rattle.std.proofs.lemmas.Option.{slice_get_within, get_or_from_slice_get}
use Rattle.std.proofs.Common.{◌≡◌, ◌+◌, ◌-◌, ◌≤◌, List, [], ◌∷◌, ◌++◌, length, take, get_or, Bool, true, false, cond, max, Some, unwrap_or, refl, ap, subst, sym, arith, ◌∙◌}
use Rattle.desk_model.specs.statements.Entry.{EntryValue}
use Rattle.desk_model.specs.histories.History.{History, with_entry, last_of}
use Rattle.desk_model.specs.histories.Legal.{is_within, last_moment, IsNext, IsLegal}
use Rattle.desk_model.proofs.SaidLemmas.{last_of-tells}

pub last_moment-comes : (h : History) (e : EntryValue) → last_moment (with_entry h e) ≡ e.moment
last_moment-comes h e = ap (λ o. unwrap_or o h.opening.start) (last_of-tells (λ (x : EntryValue). Some x.moment) h.entries e e.moment refl)

pub never-before : (h : History) (e : EntryValue) → IsLegal h → IsNext h e → last_moment h ≤ e.moment
never-before h e legal is = subst (λ m. last_moment h ≤ m) (sym is.moment) (go (is_within h.opening.window e.stated.minute))
  where
    go : (within : Bool) → last_moment h ≤ cond within (max e.stated.minute (last_moment h)) (last_moment h)
    go true = omega arith
    go false = omega arith

-- the last entry's moment
pub last_moment-is : (es : List EntryValue) (e : EntryValue) → slice_get es (length es - 1) ≡ Some e → last_of (λ x. Some x.moment) es ≡ Some e.moment
last_moment-is es e found =
    let within = slice_get_within es (length es - 1) e found in
    let is : get_or es (length es - 1) e ≡ e = get_or_from_slice_get es (length es - 1) e e found in
    let whole : take (length es - 1) es ++ e ∷ [] ≡ es =
    ap (λ x. take (length es - 1) es ++ x ∷ []) (sym is) ∙ sym (take_more es (length es - 1) e within) ∙ take_all (length es - 1 + 1) es (omega arith) in
    subst (λ xs. last_of (λ x. Some x.moment) xs ≡ Some e.moment) whole (last_of-tells (λ x. Some x.moment) (take (length es - 1) es) e e.moment refl)
