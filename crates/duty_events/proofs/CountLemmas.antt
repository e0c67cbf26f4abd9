-- Counts of minutes: a stretch, two that are apart, and a stretch within another.
use Rattle.std.proofs.Common.{◌≡◌, ℕ, zero, suc, ◌+◌, ◌-◌, ◌<◌, ◌≤◌, Bool, true, false, cond, ◌&&◌, ◌||◌, nat_lt, nat_le, min, max, refl, sym, ap, ◌∙◌, arith}
use Rattle.std.specs.List.{range_with_len}
use Rattle.std.proofs.lemmas.Bool.{false≢true, lt-ltb, le-ltb, le-leb, lt-leb}
use Rattle.std.proofs.lemmas.Bool.Decides.{nat_tests}
use Rattle.std.proofs.lemmas.List.Sums.{sum_by-cons}
use Rattle.duty_events.specs.Minutes.{minutes_where, is_within, shared}

abbrev pub tick : Bool → ℕ
tick b = cond b 1 0

-- the first minute, and those behind it
pub minutes_where-suc : (q : ℕ → Bool) (x n : ℕ) → minutes_where q x (suc n) ≡ tick (q x) + minutes_where q (x + 1) n
unfolding minutes_where
minutes_where-suc q x n = sum_by-cons (λ t. cond (q t) 1 0) x (range_with_len (x + 1) n)

pub minutes_where-none : (q : ℕ → Bool) (x : ℕ) → minutes_where q x 0 ≡ 0
unfolding minutes_where
minutes_where-none q x = refl

-- the same minutes are asked about
pub minutes_where-same : (p q : ℕ → Bool) (x n : ℕ) → ((t : ℕ) → x ≤ t → t < x + n → p t ≡ q t) → minutes_where p x n ≡ minutes_where q x n
minutes_where-same p q x zero same = minutes_where-none p x ∙ sym (minutes_where-none q x)
minutes_where-same p q x (suc n) same =
    let here : tick (p x) ≡ tick (q x) = ap tick (same x (omega arith) (omega arith)) in
    let rest = minutes_where-same p q (x + 1) n (λ t low high. same t (omega (arith, low)) (omega (arith, high))) in
    omega (arith, here, rest, minutes_where-suc p x n, minutes_where-suc q x n)

-- no more than there are
pub minutes_where-most : (q : ℕ → Bool) (x n : ℕ) → minutes_where q x n ≤ n
minutes_where-most q x zero = omega (arith, minutes_where-none q x)
minutes_where-most q x (suc n) = omega (arith, minutes_where-suc q x n, minutes_where-most q (x + 1) n, most (q x))
  where
    most : (b : Bool) → tick b ≤ 1
    most true = omega arith
    most false = omega arith

-- two kinds of minutes that are apart, together
pub minutes_where-or : (p q r : ℕ → Bool) → ((t : ℕ) → r t ≡ (p t || q t)) → ((t : ℕ) → (p t && q t) ≡ false) → (x n : ℕ)
    → minutes_where r x n ≡ minutes_where p x n + minutes_where q x n
minutes_where-or p q r is apart x zero = omega (arith, minutes_where-none p x, minutes_where-none q x, minutes_where-none r x)
minutes_where-or p q r is apart x (suc n) =
    let here : tick (r x) ≡ tick (p x) + tick (q x) = ap tick (is x) ∙ both (p x) (q x) (apart x) in
    omega (arith, here, minutes_where-or p q r is apart (x + 1) n, minutes_where-suc p x n, minutes_where-suc q x n, minutes_where-suc r x n)
  where
    both : (a b : Bool) → (a && b) ≡ false → tick (a || b) ≡ tick a + tick b
    both true true apart = absurd (false≢true (sym apart))
    both true false apart = refl
    both false true apart = refl
    both false false apart = refl

-- the first minutes, and the others
pub minutes_where-add : (q : ℕ → Bool) (x m n : ℕ) → minutes_where q x (m + n) ≡ minutes_where q x m + minutes_where q (x + m) n
minutes_where-add q x zero n =
    let move : minutes_where q (x + 0) n ≡ minutes_where q x n = ap (λ y. minutes_where q y n) (omega arith) in
    let same : minutes_where q x (0 + n) ≡ minutes_where q x n = ap (minutes_where q x) (omega arith) in
    omega (arith, move, same, minutes_where-none q x)
minutes_where-add q x (suc m) n =
    let move : minutes_where q (x + 1 + m) n ≡ minutes_where q (x + suc m) n = ap (λ y. minutes_where q y n) (omega arith) in
    let more : minutes_where q x (suc m + n) ≡ minutes_where q x (suc (m + n)) = ap (minutes_where q x) (omega arith) in
    omega (arith, move, more, minutes_where-suc q x (m + n), minutes_where-suc q x m, minutes_where-add q (x + 1) m n)

-- a minute before a stretch, in it, and behind it
pub is_within-before : (from to t : ℕ) → t < from → is_within from to t ≡ false
is_within-before from to t before = rw (lt-leb from t before) refl

pub is_within-in : (from to t : ℕ) → from ≤ t → t < to → is_within from to t ≡ true
is_within-in from to t low high = rw (le-leb from t low, lt-ltb t to high) refl

pub is_within-behind : (from to t : ℕ) → to ≤ t → is_within from to t ≡ false
is_within-behind from to t behind = rw (le-ltb t to behind) (and_false (nat_le from t))
  where
    and_false : (c : Bool) → (c && false) ≡ false
    and_false true = refl
    and_false false = refl

-- a stretch
tick-within : (a b x : ℕ) → tick (is_within a b x) ≡ min b (x + 1) - max a x
tick-within a b x = go (nat_le a x) (nat_lt x b) refl refl
  where
    go : (low high : Bool) → nat_le a x ≡ low → nat_lt x b ≡ high → tick (nat_le a x && nat_lt x b) ≡ min b (x + 1) - max a x
    go true true low high =
        let from : a ≤ x = grind (arith, nat_tests, low) in
        let to : x < b = grind (arith, nat_tests, high) in
        rw (low, high) (omega (arith, from, to))
    go true false low high =
        let to : b ≤ x = grind (arith, nat_tests, high) in
        rw (low, high) (omega (arith, to))
    go false high low was =
        let from : x < a = grind (arith, nat_tests, low) in
        rw low (omega (arith, from))

pub minutes_where-within : (a b x n : ℕ) → minutes_where (is_within a b) x n ≡ shared a b x n
minutes_where-within a b x zero = omega (arith, minutes_where-none (is_within a b) x)
minutes_where-within a b x (suc n) =
    omega (arith, tick-within a b x, minutes_where-suc (is_within a b) x n, minutes_where-within a b (x + 1) n)

pub minutes_where-never : (x n : ℕ) → minutes_where (λ t. false) x n ≡ 0
minutes_where-never x zero = minutes_where-none (λ t. false) x
minutes_where-never x (suc n) = omega (arith, minutes_where-suc (λ t. false) x n, minutes_where-never (x + 1) n)

-- a stretch of which all is asked about, or nothing
pub minutes_where-within_if : (asked : Bool) (a b x n : ℕ) → minutes_where (λ t. is_within a b t && asked) x n ≡ cond asked (shared a b x n) 0
minutes_where-within_if true a b x n = minutes_where-same (λ t. is_within a b t && true) (is_within a b) x n (λ t low high. and_true (is_within a b t)) ∙ minutes_where-within a b x n
  where
    and_true : (c : Bool) → (c && true) ≡ c
    and_true true = refl
    and_true false = refl
minutes_where-within_if false a b x n = minutes_where-same (λ t. is_within a b t && false) (λ t. false) x n (λ t low high. and_false (is_within a b t)) ∙ minutes_where-never x n
  where
    and_false : (c : Bool) → (c && false) ≡ false
    and_false true = refl
    and_false false = refl
