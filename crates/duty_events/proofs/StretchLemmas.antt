-- A stretch is there just where the test finds one, and what makes one of another.
use Rattle.std.proofs.Common.{inl, inr, ◌≡◌, ℕ, zero, suc, ◌+◌, ◌-◌, ◌<◌, ◌≤◌, Bool, true, false, ◌&&◌, ◌||◌, nat_le, refl, sym, subst, ◌∙◌, arith}
use Rattle.std.specs.Bool.{Decides}
use Rattle.std.specs.List.{list_any, list_all, range_with_len}
use Rattle.std.proofs.lemmas.Bool.{false≢true, le-leb, cases_eq}
use Rattle.std.proofs.lemmas.Bool.Decides.{nat_tests}
use Rattle.duty_events.specs.Stretch.{Stretch, is_stretch, has_stretch}

-- what all numbers of a range pass, and what one of them passes
abbrev pub EachIn : (ℕ → Bool) → ℕ → ℕ → Type 0
EachIn test x n = (t : ℕ) → x ≤ t → t < x + n → test t ≡ true

pub record FoundIn (test : ℕ → Bool) (x n : ℕ) : Type 0 where
  pub at : ℕ
  pub from : x ≤ at
  pub to : at < x + n
  pub passes : test at ≡ true

both : (a b : Bool) → (a && b) ≡ true → (a ≡ true) × (b ≡ true)
both true b is = (refl, is)
both false b is = absurd (false≢true is)

list_all-each : (test : ℕ → Bool) (x n : ℕ) → list_all test (range_with_len x n) ≡ true → EachIn test x n
list_all-each test x zero all t from to = absurd (omega (arith, from, to))
list_all-each test x (suc n) all t from to =
    let parts : (test x ≡ true) × (list_all test (range_with_len (x + 1) n) ≡ true) = both (test x) (list_all test (range_with_len (x + 1) n)) all in
    elim (cases_eq x t) [
      | inl same ↦ subst (λ u. test u ≡ true) same parts.0
      | inr other ↦ list_all-each test (x + 1) n parts.1 t (omega (arith, from, other)) (omega (arith, to))
    ]

each-list_all : (test : ℕ → Bool) (x n : ℕ) → EachIn test x n → list_all test (range_with_len x n) ≡ true
each-list_all test x zero each = refl
each-list_all test x (suc n) each =
    rw (each x (omega arith) (omega arith)) (each-list_all test (x + 1) n (λ t from to. each t (omega (arith, from)) (omega (arith, to))))

list_any-found : (test : ℕ → Bool) (x n : ℕ) → list_any test (range_with_len x n) ≡ true → FoundIn test x n
list_any-found test x zero any = absurd (false≢true any)
list_any-found test x (suc n) any = go (test x) refl any (λ rest. list_any-found test (x + 1) n rest)
  where
    go : (b : Bool) → test x ≡ b → (b || list_any test (range_with_len (x + 1) n)) ≡ true
        → (list_any test (range_with_len (x + 1) n) ≡ true → FoundIn test (x + 1) n) → FoundIn test x (suc n)
    go true is any later = record { at = x; from = omega arith; to = omega arith; passes = is }
    go false is any later =
        let found = later any in
        record { at = found.at; from = omega (arith, found.from); to = omega (arith, found.to); passes = found.passes }

found-list_any : (test : ℕ → Bool) (x n t : ℕ) → x ≤ t → t < x + n → test t ≡ true → list_any test (range_with_len x n) ≡ true
found-list_any test x zero t from to passes = absurd (omega (arith, from, to))
found-list_any test x (suc n) t from to passes = elim (cases_eq x t) [
  | inl same ↦ here (test x) (subst (λ u. test u ≡ true) (sym same) passes)
  | inr other ↦ later (test x) (found-list_any test (x + 1) n t (omega (arith, from, other)) (omega (arith, to)) passes)
]
  where
    here : (b : Bool) → b ≡ true → (b || list_any test (range_with_len (x + 1) n)) ≡ true
    here b is = rw is refl

    later : (b : Bool) → list_any test (range_with_len (x + 1) n) ≡ true → (b || list_any test (range_with_len (x + 1) n)) ≡ true
    later true is = refl
    later false is = is

-- the test finds a stretch just where there is one
pub has_stretch-decides : (asked : ℕ → Bool) (many from to : ℕ) → 0 < many → Decides (has_stretch asked many from to) (Stretch asked many from to)
unfolding has_stretch
has_stretch-decides asked many from to some = (there, found)
  where
    there : list_any (is_stretch asked many to) (range_with_len from (to - from)) ≡ true → Stretch asked many from to
    there any =
        let f = list_any-found (is_stretch asked many to) from (to - from) any in
        let parts = both (nat_le (f.at + many) to) (list_all asked (range_with_len f.at many)) f.passes in
        let ends : f.at + many ≤ to = grind (arith, nat_tests, parts) in
        record { first = f.at; begins = f.from; ends = ends; each = list_all-each asked f.at many parts.1 }

    found : Stretch asked many from to → list_any (is_stretch asked many to) (range_with_len from (to - from)) ≡ true
    found s =
        found-list_any (is_stretch asked many to) from (to - from) s.first s.begins (omega (arith, s.begins, s.ends, some))
        (rw (le-leb (s.first + many) to s.ends) (each-list_all asked s.first many s.each))

-- a stretch of minutes of which another kind is asked about that they are all of, up to a later end
pub stretch-same : (was asked : ℕ → Bool) (many from to end : ℕ) → Stretch was many from to → to ≤ end → ((t : ℕ) → t < to → asked t ≡ was t) → Stretch asked many from end
stretch-same was asked many from to end s later same = record {
  first = s.first;
  begins = s.begins;
  ends = omega (arith, s.ends, later);
  each = λ t low high. same t (omega (arith, high, s.ends)) ∙ s.each t low high;
}

-- there is none where there is no room
pub has_stretch-none : (asked : ℕ → Bool) (many from to : ℕ) → 0 < many → to < from + many → has_stretch asked many from to ≡ false
has_stretch-none asked many from to some short = go (has_stretch asked many from to) refl
  where
    go : (b : Bool) → has_stretch asked many from to ≡ b → b ≡ false
    go true is = let s = (has_stretch-decides asked many from to some).0 is in absurd (omega (arith, s.begins, s.ends, short))
    go false is = refl
