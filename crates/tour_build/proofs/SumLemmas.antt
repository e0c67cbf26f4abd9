-- Sums by months, as the minutes of an interval are added month by month.
use Rattle.std.proofs.Common.{◌≡◌, ◌≢◌, ℕ, ◌+◌, ◌-◌, ◌≤◌, ◌<◌, inl, inr, Bool, true, false, cond, ◌&&◌, nat_le, nat_lt, List, get_or, refl, sym, ap, ◌∙◌, arith}
use Rattle.std.proofs.lemmas.Bool.{cases_lt, lt-ltb, le-ltb}
use Rattle.std.proofs.lemmas.Bool.Decides.{nat_tests}
use Rattle.desk_base.specs.Month.{first_minute, minutes_of}
use Rattle.desk_base.specs.Window.{WindowValue}
use Rattle.desk_base.proofs.MonthLemmas.{first_day-next, first_day_mono}
use Rattle.duty_events.specs.Minutes.{shared}
use Rattle.tour_build.specs.MonthSums.{AreSums}

-- a month before that in which the interval begins has none of it
pub shared-before : (from to begin month : ℕ) → first_minute begin ≤ from → month < begin → shared from to (first_minute month) (minutes_of month) ≡ 0
shared-before from to begin month begun before = omega (arith, begun, first_day-next month, first_day_mono (month + 1) begin (omega (arith, before)))

-- and none behind that in which it ends
pub shared-behind : (from to end month : ℕ) → to < first_minute (end + 1) → end < month → shared from to (first_minute month) (minutes_of month) ≡ 0
shared-behind from to end month over behind = omega (arith, over, first_day_mono (end + 1) month (omega (arith, behind)))

-- what stands at an index from `low` on and before one: the new value, and else the old
abbrev pub passed : ℕ → ℕ → ℕ → ℕ → ℕ → ℕ
passed low index k was now = cond (nat_le low k && nat_lt k index) now was

pub passed-in : (low index k was now : ℕ) → low ≤ k → k < index → passed low index k was now ≡ now
passed-in low index k was now from to = ap (λ b. cond b now was) (within (nat_le low k && nat_lt k index) refl)
  where
    within : (b : Bool) → (nat_le low k && nat_lt k index) ≡ b → (nat_le low k && nat_lt k index) ≡ true
    within true is = is
    within false is = absurd (grind (arith, nat_tests, is, from, to))

pub passed-before : (low index k was now : ℕ) → k < low → passed low index k was now ≡ was
passed-before low index k was now before = ap (λ b. cond b now was) (apart (nat_le low k && nat_lt k index) refl)
  where
    apart : (b : Bool) → (nat_le low k && nat_lt k index) ≡ b → (nat_le low k && nat_lt k index) ≡ false
    apart true is = absurd (grind (arith, nat_tests, is, before))
    apart false is = is

pub passed-behind : (low index k was now : ℕ) → index ≤ k → passed low index k was now ≡ was
passed-behind low index k was now behind = ap (λ b. cond b now was) (apart (nat_le low k && nat_lt k index) refl)
  where
    apart : (b : Bool) → (nat_le low k && nat_lt k index) ≡ b → (nat_le low k && nat_lt k index) ≡ false
    apart true is = absurd (grind (arith, nat_tests, is, behind))
    apart false is = is

-- one index more changes that index alone
pub passed-next : (low index k was now : ℕ) → k ≢ index → passed low index k was now ≡ passed low (index + 1) k was now
passed-next low index k was now other = ap (λ b. cond (nat_le low k && b) now was) (next (nat_lt k index) refl)
  where
    next : (b : Bool) → nat_lt k index ≡ b → nat_lt k index ≡ nat_lt k (index + 1)
    next true is = let before : k < index = grind (arith, nat_tests, is) in is ∙ sym (lt-ltb k (index + 1) (omega (arith, before)))
    next false is =
        let behind : index ≤ k = grind (arith, nat_tests, is) in
        elim (cases_lt index k) [
          | inl past ↦ is ∙ sym (le-ltb k (index + 1) (omega (arith, past)))
          | inr here ↦ absurd (other (omega (arith, behind, here)))
        ]

-- the sum of a month of the window
pub sum-at : (w : WindowValue) (counted : ℕ → ℕ → ℕ) (sums : List ℕ) → AreSums w counted sums → (month : ℕ) → w.first ≤ month → month < w.first + w.months
    → get_or sums (month - w.first) 0 ≡ counted (first_minute month) (minutes_of month)
sum-at w counted sums are month from to =
    let same : w.first + (month - w.first) ≡ month = omega (arith, from) in
    are (month - w.first) (omega (arith, from, to)) ∙ ap (λ m. counted (first_minute m) (minutes_of m)) same
