-- Where the filled slots end.
use Rattle.std.proofs.Common.{◌≡◌, ℕ, zero, suc, ◌+◌, ◌-◌, ◌<◌, ◌≤◌, inl, inr, true, nat_lt, Option, None, Some, is_some, List, [], ◌∷◌, ◌++◌, length, replicate, set, if◌then◌else◌, ◌&&◌, ◌==◌, is_none, refl, sym, ap, subst, ◌∙◌, arith}
use Rattle.std.specs.List.{filter}
use Rattle.std.proofs.lemmas.Bool.{cases_order, cases_lt, cases_eq, eq-eqb, ne_eqb, lt-ltb, le-ltb, false≢true}
use Rattle.std.proofs.lemmas.List.{length-append, length-replicate}
use Rattle.slot_tree.specs.declared.slot.Slot.{Slot}
use Rattle.slot_tree.specs.Slots.{slot_at, filled, filled_end, compacted}
use Rattle.slot_tree.proofs.SlotLemmas.{slot_at-written, slot_at-others, slot_at-within}

-- none is filled from one on, and the one before it is
pub record IsEnd (slots : List (Option Slot)) (n : ℕ) : Type 0 where
  pub after : (s : ℕ) → n ≤ s → slot_at slots s ≡ None
  pub before : 0 < n → is_some (slot_at slots (n - 1)) ≡ true

there : (y : Option Slot) (xs : List (Option Slot)) (e : ℕ) → IsEnd xs e → (e ≡ 0 → is_some y ≡ true) → is_some (slot_at (y ∷ xs) e) ≡ true
there y xs zero ends some = some refl
there y xs (suc e) ends some =
    let below : suc e - 1 ≡ e = omega arith in
    ap (λ k. is_some (slot_at xs k)) (sym below) ∙ ends.before (omega arith)

late : (y : Option Slot) (xs : List (Option Slot)) (e : ℕ) → IsEnd xs e → (e ≡ 0 → is_some y ≡ true) → IsEnd (y ∷ xs) (e + 1)
late y xs e ends some = record {
  after = after;
  before = λ many.
      let here : e + 1 - 1 ≡ e = omega arith in
      ap (λ k. is_some (slot_at (y ∷ xs) k)) here ∙ there y xs e ends some;
}
  where
    after : (s : ℕ) → e + 1 ≤ s → slot_at (y ∷ xs) s ≡ None
    after zero low = absurd (omega (arith, low))
    after (suc s) low = ends.after s (omega (arith, low))

none_yet : (xs : List (Option Slot)) → IsEnd xs 0 → IsEnd (None ∷ xs) 0
none_yet xs ends = record { after = after; before = λ some. absurd (omega (arith, some)) }
  where
    after : (s : ℕ) → 0 ≤ s → slot_at (None ∷ xs) s ≡ None
    after zero low = refl
    after (suc s) low = ends.after s (omega arith)

end-more : (x : Option Slot) (xs : List (Option Slot)) (e : ℕ) → IsEnd xs e → IsEnd (x ∷ xs) (if is_none x && (e == 0) then 0 else e + 1)
end-more None xs e ends = elim (cases_eq e 0) [
  | inl is ↦ rw (eq-eqb e 0 is) (none_yet xs (subst (IsEnd xs) is ends))
  | inr some ↦ rw (ne_eqb e 0 some) (late None xs e ends (λ is. absurd (some is)))
]
end-more (Some x) xs e ends = late (Some x) xs e ends (λ is. refl)

pub is_end : (slots : List (Option Slot)) → IsEnd slots (filled_end slots)
is_end [] = record { after = λ s low. refl; before = λ some. absurd (omega (arith, some)) }
is_end (x ∷ xs) = end-more x xs (filled_end xs) (is_end xs)

not_before : (slots : List (Option Slot)) (m n : ℕ) → IsEnd slots m → IsEnd slots n → m < n → ⊥
not_before slots m n ms ns less = false≢true (sym (ap is_some (ms.after (n - 1) (omega (arith, less)))) ∙ ns.before (omega (arith, less)))

-- there is one end
pub filled_end-is : (slots : List (Option Slot)) (n : ℕ) → IsEnd slots n → filled_end slots ≡ n
filled_end-is slots n ends = elim (cases_order (filled_end slots) n) [
  | inl same ↦ same
  | inr (inl less) ↦ absurd (not_before slots (filled_end slots) n (is_end slots) ends less)
  | inr (inr more) ↦ absurd (not_before slots n (filled_end slots) ends (is_end slots) more)
]

-- a filled slot stands before it
pub filled_end-behind : (slots : List (Option Slot)) (s : ℕ) → is_some (slot_at slots s) ≡ true → s < filled_end slots
filled_end-behind slots s some = elim (cases_lt s (filled_end slots)) [
  | inl before ↦ before
  | inr from ↦ absurd (false≢true (sym (ap is_some ((is_end slots).after s from)) ∙ some))
]

-- the slot behind the last filled one is filled
pub filled_end-append : (slots : List (Option Slot)) (x : Slot) → filled_end slots < length slots → filled_end (set slots (filled_end slots) (Some x)) ≡ filled_end slots + 1
filled_end-append slots x room = filled_end-is _ _ record {
  after = λ s low. slot_at-others slots (filled_end slots) s (Some x) (omega (arith, low)) ∙ (is_end slots).after s (omega (arith, low));
  before = λ some. rw here (ap is_some (slot_at-written slots (filled_end slots) (Some x) room));
}
  where
    here : filled_end slots + 1 - 1 ≡ filled_end slots
    here = omega arith

-- a filled slot stays filled
pub filled_end-kept : (slots : List (Option Slot)) (i : ℕ) (x : Slot) → i < length slots → is_some (slot_at slots i) ≡ true → filled_end (set slots i (Some x)) ≡ filled_end slots
filled_end-kept slots i x within some = filled_end-is _ _ record {
  after = λ s low. slot_at-others slots i s (Some x) (omega (arith, low, filled_end-behind slots i some)) ∙ (is_end slots).after s low;
  before = λ many. elim (cases_eq (filled_end slots - 1) i) [
    | inl same ↦ rw same (ap is_some (slot_at-written slots i (Some x) within))
    | inr other ↦ ap is_some (slot_at-others slots i (filled_end slots - 1) (Some x) other) ∙ (is_end slots).before many
  ];
}

-- a slot is emptied: none is filled from the end on
pub end-cleared : (slots : List (Option Slot)) (i s : ℕ) → i < length slots → filled_end slots ≤ s → slot_at (set slots i None) s ≡ None
end-cleared slots i s within low = elim (cases_eq s i) [
  | inl same ↦ rw same (slot_at-written slots i None within)
  | inr other ↦ slot_at-others slots i s None other ∙ (is_end slots).after s low
]

-- ---- moved to the front

pub empties : (n s : ℕ) → slot_at (replicate n None) s ≡ None
empties zero s = refl
empties (suc n) zero = refl
empties (suc n) (suc s) = empties n s

filter-after : (slots : List (Option Slot)) (n s : ℕ) → length (filter is_some slots) ≤ s → slot_at (filter is_some slots ++ replicate n None) s ≡ None
filter-after [] n s low = empties n s
filter-after (None ∷ xs) n s low = filter-after xs n s low
filter-after (Some x ∷ xs) n zero low = absurd (omega (arith, low))
filter-after (Some x ∷ xs) n (suc s) low = filter-after xs n s (omega (arith, low))

filter-before : (slots : List (Option Slot)) (n s : ℕ) → s < length (filter is_some slots) → is_some (slot_at (filter is_some slots ++ replicate n None) s) ≡ true
filter-before [] n s low = absurd (omega (arith, low))
filter-before (None ∷ xs) n s low = filter-before xs n s low
filter-before (Some x ∷ xs) n zero low = refl
filter-before (Some x ∷ xs) n (suc s) low = filter-before xs n s (omega (arith, low))

pub filled_end-compacted : (slots : List (Option Slot)) → filled_end (compacted slots) ≡ length (filter is_some slots)
filled_end-compacted slots = filled_end-is _ _ record {
  after = λ s low. filter-after slots (length slots - length (filter is_some slots)) s low;
  before = λ some. filter-before slots (length slots - length (filter is_some slots)) (length (filter is_some slots) - 1) (omega (arith, some));
}

-- a slot is filled exactly where it is one of as many at the front as are filled
pub front-filled : (slots : List (Option Slot)) (s : ℕ) → nat_lt s (length (filter is_some slots)) ≡ is_some (slot_at (compacted slots) s)
front-filled slots s = elim (cases_lt s (length (filter is_some slots))) [
  | inl before ↦ lt-ltb s _ before ∙ sym (filter-before slots (length slots - length (filter is_some slots)) s before)
  | inr behind ↦ le-ltb s _ behind ∙ ap is_some (sym (filter-after slots (length slots - length (filter is_some slots)) s behind))
]

few : (slots : List (Option Slot)) → length (filter is_some slots) ≤ length slots
few [] = omega arith
few (None ∷ xs) = omega (arith, few xs)
few (Some x ∷ xs) = omega (arith, few xs)

pub length-compacted : (slots : List (Option Slot)) → length (compacted slots) ≡ length slots
length-compacted slots =
    length-append (filter is_some slots) (replicate (length slots - length (filter is_some slots)) None)
    ∙ ap (λ n. length (filter is_some slots) + n) (length-replicate (length slots - length (filter is_some slots)) None) ∙ omega (arith, few slots)

pub filled_end-few : (slots : List (Option Slot)) → filled_end slots ≤ length slots
filled_end-few slots = elim (cases_lt (length slots) (filled_end slots)) [
  | inl beyond ↦
      absurd (omega (arith, beyond, slot_at-within slots (filled_end slots - 1) ((is_end slots).before (omega (arith, beyond)))))
  | inr within ↦ within
]

-- ---- in order

filled-none : (slots : List (Option Slot)) → ((s : ℕ) → slot_at slots s ≡ None) → filled slots ≡ []
filled-none [] none = refl
filled-none (None ∷ xs) none = filled-none xs (λ s. none (suc s))
filled-none (Some x ∷ xs) none = absurd (let is : Some x ≡ None = none 0 in cc)

filled-behind : (slots : List (Option Slot)) (e : ℕ) (x : Slot) → e < length slots → ((s : ℕ) → e ≤ s → slot_at slots s ≡ None) → filled (set slots e (Some x)) ≡ filled slots ++ x ∷ []
filled-behind [] e x within after = absurd (omega (arith, within))
filled-behind (None ∷ xs) zero x within after = rw (filled-none xs (λ s. after (suc s) (omega arith))) refl
filled-behind (Some y ∷ xs) zero x within after = absurd (let is : Some y ≡ None = after 0 (omega arith) in cc)
filled-behind (None ∷ xs) (suc e) x within after = filled-behind xs e x (omega (arith, within)) (λ s low. after (suc s) (omega (arith, low)))
filled-behind (Some y ∷ xs) (suc e) x within after = ap (λ ys. y ∷ ys) (filled-behind xs e x (omega (arith, within)) (λ s low. after (suc s) (omega (arith, low))))

-- who fills the slot behind the last filled one comes last
pub filled-append : (slots : List (Option Slot)) (x : Slot) → filled_end slots < length slots → filled (set slots (filled_end slots) (Some x)) ≡ filled slots ++ x ∷ []
filled-append slots x room = filled-behind slots (filled_end slots) x room (is_end slots).after

filled-empties : (n : ℕ) → filled (replicate n None) ≡ []
filled-empties zero = refl
filled-empties (suc n) = filled-empties n

filled-front : (slots : List (Option Slot)) (n : ℕ) → filled (filter is_some slots ++ replicate n None) ≡ filled slots
filled-front [] n = filled-empties n
filled-front (None ∷ xs) n = filled-front xs n
filled-front (Some x ∷ xs) n = ap (λ ys. x ∷ ys) (filled-front xs n)

pub filled-compacted : (slots : List (Option Slot)) → filled (compacted slots) ≡ filled slots
filled-compacted slots = filled-front slots (length slots - length (filter is_some slots))

length-filter : (slots : List (Option Slot)) → length (filter is_some slots) ≡ length (filled slots)
length-filter [] = refl
length-filter (None ∷ xs) = length-filter xs
length-filter (Some x ∷ xs) = ap suc (length-filter xs)

-- and then no slot before the end is empty
pub filled_end-front : (slots : List (Option Slot)) → filled_end (compacted slots) ≡ length (filled (compacted slots))
filled_end-front slots = filled_end-compacted slots ∙ length-filter slots ∙ sym (ap length (filled-compacted slots))
