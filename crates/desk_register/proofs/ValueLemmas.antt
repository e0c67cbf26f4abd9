-- A write of what is kept at an index.
use Rattle.std.proofs.Common.{◌≡◌, ◌<◌, ℕ, zero, suc, Bool, true, false, nat_eq, Option, Some, slice_get, get_or, List, [], ◌∷◌, length, refl, sym, ap, subst, ◌∙◌, arith}
use Rattle.std.specs.Prelude.{if◌then◌else◌}
use Rattle.std.specs.Option.{option_map}
use Rattle.std.specs.Map.{keys_of}
use Rattle.std.proofs.lemmas.Cmp.{nat_eq_equiv}
use Rattle.indexmap.specs.IndexMap.{IndexMap, keys, values, get, with_value_at, IsUnique}
use Rattle.indexmap.proofs.CallerLemmas.{updates-with_value_at}
use Rattle.indexmap.proofs.MapLemmas.{Found-position}
use Rattle.desk_model.specs.declared.command.Cmd.{Cmd}
use Rattle.desk_register.specs.Among.{index_among}
use Rattle.desk_register.specs.Vacancies.{target, IsChanged, BecomesBy, ChangesAt, Changes}
use Rattle.desk_register.specs.declared.kept_vacancy.KeptVacancy.{KeptVacancy}
use Rattle.desk_register.proofs.PersonLemmas.{same_number}
use Rattle.desk_register.proofs.IndexAmongLemmas.{index-lt, index-is}

entry-at : {V : Type 0} (entries : List (ℕ × V)) (i : ℕ) → i < length (keys_of entries) → (v : V) × (slice_get entries i ≡ Some (get_or (keys_of entries) i 0, v))
entry-at [] i within = absurd (omega (arith, within))
entry-at (e ∷ es) zero within = (e.1, refl)
entry-at (e ∷ es) (suc i) within = entry-at es i (omega (arith, within))

-- it is what is kept under the number whose index that is, and under each other one what was kept stays
pub get-with_value_at : {V S : Type 0} (m : IndexMap ℕ V S) (i k : ℕ) (w : V) → IsUnique nat_eq m → index_among (keys m) k ≡ Some i
    → (q : ℕ) → get nat_eq (with_value_at m i w) q ≡ (if nat_eq k q then Some w else get nat_eq m q)
get-with_value_at m i k w unique at q =
    let found = entry-at m.entries i (index-lt (keys m) k i at) in
    let here : slice_get m.entries i ≡ Some (k, found.0) = found.1 ∙ ap (λ n. Some (n, found.0)) (sym (index-is (keys m) k i at)) in
    (updates-with_value_at m i w nat_eq_equiv unique k found.0 here).0 q

-- what is kept there is what is kept under the number
kept-at : {V S : Type 0} (m : IndexMap ℕ V S) (i k : ℕ) (v : V) → index_among (keys m) k ≡ Some i → Some v ≡ slice_get (values m) i
    → (q : ℕ) → nat_eq k q ≡ true → get nat_eq m q ≡ Some v
kept-at m i k v at here q is =
    ap (get nat_eq m) (sym (same_number k q is)) ∙ (Found-position (nat_eq k) m.entries i at).value ∙ sym here

-- where it is changed by a function, so is what is kept under the number
pub get-changed_at : {V S : Type 0} (m : IndexMap ℕ V S) (i k : ℕ) (v : V) (change : V → V) → IsUnique nat_eq m → index_among (keys m) k ≡ Some i → Some v ≡ slice_get (values m) i
    → (q : ℕ) → get nat_eq (with_value_at m i (change v)) q ≡ (if nat_eq k q then option_map change (get nat_eq m q) else get nat_eq m q)
get-changed_at m i k v change unique at here q = get-with_value_at m i k (change v) unique at q ∙ go (nat_eq k q) refl
  where
    go : (b : Bool) → nat_eq k q ≡ b → (if b then Some (change v) else get nat_eq m q) ≡ (if b then option_map change (get nat_eq m q) else get nat_eq m q)
    go true is = sym (ap (option_map change) (kept-at m i k v at here q is))
    go false is = refl

-- and where it is changed by a command
pub Changes-with_value_at : {S : Type 0} (m : IndexMap ℕ KeptVacancy S) (i k : ℕ) (v w : KeptVacancy) (c : Cmd) (had : Option ℕ) → IsUnique nat_eq m → index_among (keys m) k ≡ Some i
    → Some v ≡ slice_get (values m) i → target c had ≡ Some k → IsChanged c v w → Changes c had (get nat_eq m) (get nat_eq (with_value_at m i w))
Changes-with_value_at m i k v w c had unique at here names changed q = rw names (go (nat_eq k q) refl)
  where
    go : (b : Bool) → nat_eq k q ≡ b → ChangesAt b c (get nat_eq m q) (get nat_eq (with_value_at m i w) q)
    go true is =
        let now : get nat_eq (with_value_at m i w) q ≡ Some w = get-with_value_at m i k w unique at q ∙ ap (λ b. if b then Some w else get nat_eq m q) is in
        subst (λ x. BecomesBy c x (get nat_eq (with_value_at m i w) q)) (sym (kept-at m i k v at here q is)) (w, (now, changed))
    go false is = get-with_value_at m i k w unique at q ∙ ap (λ b. if b then Some w else get nat_eq m q) is
