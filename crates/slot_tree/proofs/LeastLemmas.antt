-- Nodes that each have the lesser number of their two: what a search goes down and up by.
use Rattle.std.proofs.Common.{◌≡◌, ◌≢◌, ℕ, zero, suc, ◌+◌, ◌-◌, ◌*◌, ◌/◌, ◌%◌, ◌^◌, ◌<◌, ◌≤◌, inl, inr, List, length, slice_index, refl, sym, ap, ◌∙◌, arith}
use Rattle.std.proofs.lemmas.Bool.{cases_lt, cases_eq}
use Rattle.std.proofs.lemmas.Nat.{pow-add, pow_pos}
use Rattle.std.proofs.Math.Nat.{add-mul, one-mul, mul_assoc, mul_comm, le-mul_of_pos_right, mul-le-mul_right}
use Rattle.slot_tree.specs.Nodes.{IsLesser, AreLeast}

-- all have, but maybe one
abbrev pub AreLeastBut : List ℕ → ℕ → Type 0
AreLeastBut nodes odd = (n : ℕ) → 1 ≤ n → 2 * n + 1 < length nodes → n ≢ odd → IsLesser nodes n

-- ---- products

more : (i p : ℕ) → (i + 1) * p ≡ i * p + p
more i p = add-mul i 1 p ∙ ap (λ q. i * p + q) (one-mul p)

pub pow_twice : (t n : ℕ) → n ≡ t + 1 → 2 ^ n ≡ 2 * 2 ^ t
pow_twice t n is = ap (λ k. 2 ^ k) is ∙ pow-add 2 t 1 ∙ mul_comm (2 ^ t) 2

twice : (i t n : ℕ) → n ≡ t + 1 → i * 2 ^ n ≡ 2 * (i * 2 ^ t)
twice i t n is = ap (λ k. i * 2 ^ k) is ∙ ap (λ p. i * p) (pow-add 2 t 1) ∙ sym (mul_assoc i (2 ^ t) 2) ∙ mul_comm (i * 2 ^ t) 2

at_least : (i t : ℕ) → i ≤ i * 2 ^ t
at_least i t = le-mul_of_pos_right i (pow_pos t)

-- ---- down

-- a node has no more than any of the lowest below it
least_below : (nodes : List ℕ) (t at : ℕ) → AreLeast nodes → 1 ≤ at → (at + 1) * 2 ^ t ≤ length nodes
    → (a : ℕ) → at * 2 ^ t ≤ a → a < (at + 1) * 2 ^ t → slice_index nodes at ≤ slice_index nodes a
least_below nodes zero at least some within a from to =
    let same : at ≡ a = omega (arith, from, to) in
    let is : slice_index nodes at ≡ slice_index nodes a = ap (slice_index nodes) same in
    omega (arith, is)
least_below nodes (suc t) at least some within a from to =
    let whole = twice at t (suc t) (omega arith) in
    let end = twice (at + 1) t (suc t) (omega arith) in
    let one = more at (2 ^ t) in
    let left : 2 * at * 2 ^ t ≡ 2 * (at * 2 ^ t) = mul_assoc 2 at (2 ^ t) in
    let middle = more (2 * at) (2 ^ t) in
    let right = more (2 * at + 1) (2 ^ t) in
    let lesser = least at some (omega (arith, end, within, at_least (at + 1) t)) in
    elim (cases_lt a ((2 * at + 1) * 2 ^ t)) [
      | inl low ↦
          let below = least_below nodes t (2 * at) least (omega (arith, some)) (omega (arith, within, end, one, left, middle)) a (omega (arith, from, whole, left)) low in
          omega (arith, lesser, below)
      | inr high ↦
          let below = least_below nodes t (2 * at + 1) least (omega arith) (omega (arith, within, end, one, left, middle, right)) a high (omega (arith, to, end, one, left, middle, right)) in
          omega (arith, lesser, below)
    ]

-- a search that has come to a node so many levels above the lowest, of those from `low` on and before `high`
pub record Descent (nodes : List ℕ) (low high m i left : ℕ) : Type 0 where
  pub from : low ≤ i * 2 ^ left
  pub to : (i + 1) * 2 ^ left ≤ high
  pub some : 1 ≤ i
  pub below : slice_index nodes i ≤ m
  pub first : (a : ℕ) → low ≤ a → a < i * 2 ^ left → m < slice_index nodes a

pub descent_within : (nodes : List ℕ) (low high m i left n : ℕ) → Descent nodes low high m i n → n ≡ left + 1 → high ≤ length nodes → 2 * i + 1 < length nodes
descent_within nodes low high m i left n d is within =
    let end = twice (i + 1) left n is in
    omega (arith, d.to, end, within, at_least (i + 1) left)

pub descends_left : (nodes : List ℕ) (low high m i left n j : ℕ) → Descent nodes low high m i n → n ≡ left + 1 → j ≡ 2 * i → slice_index nodes j ≤ m
    → Descent nodes low high m j left
descends_left nodes low high m i left n j d is at_left below = rw at_left record {
  from = omega (arith, d.from, whole, left_is);
  to = omega (arith, d.to, end, one, left_is, middle);
  some = omega (arith, d.some);
  below = rw at_left at below;
  first = λ a from to. d.first a from (omega (arith, to, whole, left_is));
}
  where
    whole : i * 2 ^ n ≡ 2 * (i * 2 ^ left)
    whole = twice i left n is

    end : (i + 1) * 2 ^ n ≡ 2 * ((i + 1) * 2 ^ left)
    end = twice (i + 1) left n is

    one : (i + 1) * 2 ^ left ≡ i * 2 ^ left + 2 ^ left
    one = more i (2 ^ left)

    left_is : 2 * i * 2 ^ left ≡ 2 * (i * 2 ^ left)
    left_is = mul_assoc 2 i (2 ^ left)

    middle : (2 * i + 1) * 2 ^ left ≡ 2 * i * 2 ^ left + 2 ^ left
    middle = more (2 * i) (2 ^ left)

pub descends_right : (nodes : List ℕ) (low high m i left n j : ℕ) → AreLeast nodes → high ≤ length nodes → Descent nodes low high m i n → n ≡ left + 1 → j ≡ 2 * i
    → m < slice_index nodes j → Descent nodes low high m (j + 1) left
descends_right nodes low high m i left n j least within d is at_left above = rw at_left record {
  from = omega (arith, d.from, whole, left_is, middle);
  to = omega (arith, d.to, end, one, left_is, middle, right);
  some = omega arith;
  below = omega (arith, lesser, over, d.below);
  first = λ a from to. elim (cases_lt a (i * 2 ^ n)) [
    | inl before ↦ d.first a from before
    | inr behind ↦
        let below = least_below nodes left (2 * i) least (omega (arith, d.some)) (omega (arith, d.to, within, end, one, left_is, middle)) a (omega (arith, behind, whole, left_is)) to in
        omega (arith, below, over)
  ];
}
  where
    whole : i * 2 ^ n ≡ 2 * (i * 2 ^ left)
    whole = twice i left n is

    end : (i + 1) * 2 ^ n ≡ 2 * ((i + 1) * 2 ^ left)
    end = twice (i + 1) left n is

    one : (i + 1) * 2 ^ left ≡ i * 2 ^ left + 2 ^ left
    one = more i (2 ^ left)

    left_is : 2 * i * 2 ^ left ≡ 2 * (i * 2 ^ left)
    left_is = mul_assoc 2 i (2 ^ left)

    middle : (2 * i + 1) * 2 ^ left ≡ 2 * i * 2 ^ left + 2 ^ left
    middle = more (2 * i) (2 ^ left)

    right : (2 * i + 1 + 1) * 2 ^ left ≡ (2 * i + 1) * 2 ^ left + 2 ^ left
    right = more (2 * i + 1) (2 ^ left)

    over : m < slice_index nodes (2 * i)
    over = rw at_left at above

    lesser : IsLesser nodes i
    lesser = least i d.some (descent_within nodes low high m i left n d is within)

-- ---- up

-- a search that has come up to a node so many levels above the lowest, and has found none up to the last below that node
pub record Climb (nodes : List ℕ) (height from m i t : ℕ) : Type 0 where
  pub level : 2 ^ (height - t) ≤ i
  pub next_level : i < 2 * 2 ^ (height - t)
  pub behind : from < (i + 1) * 2 ^ t
  pub none : (a : ℕ) → from ≤ a → a < (i + 1) * 2 ^ t → m < slice_index nodes a

-- the node to the right of a left one lies in the tree
pub sibling_within : (nodes : List ℕ) (height from m i t : ℕ) → length nodes ≡ 2 * 2 ^ height → Climb nodes height from m i t → t < height → i % 2 ≡ 0
    → (i + 1 + 1) * 2 ^ t ≤ length nodes
sibling_within nodes height from m i t long c less is_left =
    let level : 2 ^ (height - t) ≡ 2 * 2 ^ (height - (t + 1)) = pow_twice (height - (t + 1)) (height - t) (omega (arith, less)) in
    let whole : 2 ^ height ≡ 2 ^ (height - t) * 2 ^ t = ap (λ k. 2 ^ k) (omega (arith, less)) ∙ pow-add 2 (height - t) t in
    let few : i + 1 + 1 ≤ 2 * 2 ^ (height - t) = omega (arith, level, c.next_level, is_left) in
    let rows : (i + 1 + 1) * 2 ^ t ≤ 2 * 2 ^ (height - t) * 2 ^ t = mul-le-mul_right (2 ^ t) few in
    omega (arith, rows, mul_assoc 2 (2 ^ (height - t)) (2 ^ t), whole, long)

pub sibling_below : (nodes : List ℕ) (height from m i t : ℕ) → length nodes ≡ 2 * 2 ^ height → Climb nodes height from m i t → t < height → i % 2 ≡ 0 → i + 1 < length nodes
sibling_below nodes height from m i t long c less is_left =
    omega (arith, sibling_within nodes height from m i t long c less is_left, at_least (i + 1 + 1) t)

pub climbs : (nodes : List ℕ) (height from m i t : ℕ) → length nodes ≡ 2 * 2 ^ height → AreLeast nodes → Climb nodes height from m i t → t < height
    → (i % 2 ≡ 0 → m < slice_index nodes (i + 1)) → Climb nodes height from m (i / 2) (t + 1)
climbs nodes height from m i t long least c less above = record {
  level = omega (arith, level, c.level);
  next_level = omega (arith, level, c.next_level);
  behind = elim (cases_eq (i % 2) 0) [
    | inl is_left ↦ omega (arith, c.behind, up, left_end is_left, more (i + 1) (2 ^ t))
    | inr is_right ↦ omega (arith, c.behind, up, right_end is_right)
  ];
  none = λ a low to. elim (cases_lt a ((i + 1) * 2 ^ t)) [
    | inl before ↦ c.none a low before
    | inr beyond ↦ elim (cases_eq (i % 2) 0) [
      | inl is_left ↦
          let below = least_below nodes t (i + 1) least (omega arith) (sibling_within nodes height from m i t long c less is_left) a beyond (omega (arith, to, up, left_end is_left)) in
          omega (arith, below, above is_left)
      | inr is_right ↦ absurd (omega (arith, beyond, to, up, right_end is_right))
    ]
  ];
}
  where
    level : 2 ^ (height - t) ≡ 2 * 2 ^ (height - (t + 1))
    level = pow_twice (height - (t + 1)) (height - t) (omega (arith, less))

    up : (i / 2 + 1) * 2 ^ (t + 1) ≡ 2 * (i / 2 + 1) * 2 ^ t
    up = twice (i / 2 + 1) t (t + 1) refl ∙ sym (mul_assoc 2 (i / 2 + 1) (2 ^ t))

    left_end : i % 2 ≡ 0 → 2 * (i / 2 + 1) * 2 ^ t ≡ (i + 1 + 1) * 2 ^ t
    left_end is = ap (λ k. k * 2 ^ t) (omega (arith, is))

    right_end : i % 2 ≢ 0 → 2 * (i / 2 + 1) * 2 ^ t ≡ (i + 1) * 2 ^ t
    right_end is = ap (λ k. k * 2 ^ t) (omega (arith, is))
