-- The entries of a map, taken in one after the other by a map that is empty, are its entries.
use Rattle.std.proofs.Common.{◌≡◌, Bool, List, [], ◌∷◌, ◌++◌, true, refl, sym, ap, ap₂, subst, ◌∙◌, append_assoc}
use Rattle.std.proofs.lemmas.List.{append-nil}
use Rattle.std.proofs.iter.runs.Made.{run, to_end}
use Rattle.std.specs.Borrow.{Bor}
use Rattle.std.specs.Prelude.{map}
use Rattle.std.specs.Cmp.{IsEquivalence}
use Rattle.std.specs.Iterator.{Drains}
use Rattle.std.specs.List.{IsDistinct}
use Rattle.std.specs.Map.{keys_of}
use Rattle.std.specs.Map.Iter.{TakesFirst, ShowsInOrder, deref_pair}
use Rattle.indexmap.specs.IndexMap.{insert_entry, insert_all}
use Rattle.indexmap.proofs.MapLemmas.{absent_before, absent_from_lookup, insert_entry-absent}

-- where all entries were shown in their order, it was they that were shown
pub all-shown : {K V : Type 0} (es : List (K × V)) (xs : List (Bor K × Bor V)) → ShowsInOrder (deref_pair {K = K} {X = V})
    → Drains (TakesFirst deref_pair) es xs → map deref_pair xs ≡ es
all-shown es xs shows all =
    let p = run (TakesFirst deref_pair) es xs true (to_end (TakesFirst deref_pair) es xs all) in
    (shows p p.seen).4 refl

-- entries whose keys are apart from one another and from those that are there go last
pub all-inserted : {K V : Type 0} (eq : K → K → Bool) → IsEquivalence eq → (done es : List (K × V)) → IsDistinct eq (keys_of (done ++ es))
    → insert_all eq done es ≡ done ++ es
all-inserted eq laws done [] apart = sym (append-nil done)
all-inserted eq laws done (e ∷ es) apart =
    let absent = absent_from_lookup (eq e.0) done (absent_before laws done es e apart) in
    let last : insert_entry eq done e.0 e.1 ≡ done ++ e ∷ [] = insert_entry-absent eq e.0 e.1 done absent in
    let moved : (done ++ e ∷ []) ++ es ≡ done ++ e ∷ es = append_assoc done (e ∷ []) es in
    ap (λ l. insert_all eq l es) last ∙ all-inserted eq laws (done ++ e ∷ []) es (subst (λ l. IsDistinct eq (keys_of l)) (sym moved) apart) ∙ moved

-- so a map that was empty and takes in what is shown of another has its entries
pub all-copied : {K V : Type 0} (eq : K → K → Bool) → IsEquivalence eq → (es had copy : List (K × V)) (shown : List (Bor K × Bor V))
    → map deref_pair shown ≡ es → IsDistinct eq (keys_of es) → had ≡ [] → copy ≡ insert_all eq had (map deref_pair shown) → copy ≡ es
all-copied eq laws es had copy shown same apart empty took = took ∙ ap₂ (insert_all eq) empty same ∙ all-inserted eq laws [] es apart
