-- Whether the time off was had, in numbers and in words.
use Rattle.std.proofs.Common.{◌≡◌, ℕ, zero, suc, ◌+◌, ◌<◌, ◌==◌, ◌⊎◌, inl, inr, Bool, true, false, ◌&&◌, ◌||◌, not, nat_le, Option, None, Some, List, refl, sym, arith}
use Rattle.std.specs.Bool.{Decides}
use Rattle.std.specs.Str.{bytes_eq}
use Rattle.std.proofs.lemmas.Bool.{false≢true}
use Rattle.std.proofs.lemmas.Bool.Decides.{Decides-eqb, Decides-not}
use Rattle.std.proofs.lemmas.Slice.Eq.{bytes_eq-Decides}
use Rattle.consecutive_days.specs.declared.run.TheConstants.{SIX_DAYS}
use Rattle.desk_base.specs.Day.{day_of}
use Rattle.duty_events.specs.declared.event.Event.{Event}
use Rattle.duty_events.specs.declared.tour.Tour.{Tour}
use Rattle.duty_events.specs.EndedTours.{last_tour, end_of}
use Rattle.duty_events.proofs.StretchLemmas.{has_stretch-decides}
use Rattle.consecutive_days.specs.Days.{is_off_at_home, was_off_at_home, is_away, is_day_after, is_seventh_from_away, days_ok, IsAway, IsDayAfter, IsSeventhFromAway, DaysOk}
use Rattle.consecutive_days.specs.Run.{run_days, run_from, starts_on, last_start, need}
use Rattle.consecutive_days.specs.Steps.{last_day}

-- the longest stretch tells whether there is one of as many minutes as are needed
enough : (needed longest : ℕ) (has seventh : Bool) → (0 < needed → nat_le needed longest ≡ has) → ((needed == 0) || nat_le needed longest || seventh) ≡ ((needed == 0) || has || seventh)
enough zero longest has seventh is = refl
enough (suc n) longest has seventh is = rw (is (omega arith)) refl

-- the day of the last start is at hand where there are six
seventh : (has_start : ℕ → Bool) (away : Bool) (o : Option ℕ) (report : ℕ)
    → ((run_from has_start o == SIX_DAYS) && away && (day_of report == last_day o + 1)) ≡ ((run_from has_start o == SIX_DAYS) && away && is_day_after o report)
seventh has_start away None report = refl
seventh has_start away (Some t) report = refl

pub days_ok-is : (es : List Event) (home : List ℕ) (report days last longest : ℕ) → days ≡ run_days es → last ≡ last_day (last_start es)
    → ((many : ℕ) → 0 < many → nat_le many longest ≡ was_off_at_home es home many report)
    → ((need days == 0) || nat_le (need days) longest || ((days == SIX_DAYS) && is_away (last_tour es) home && (day_of report == last + 1))) ≡ days_ok es home report
unfolding days_ok run_days
days_ok-is es home report days last longest days_is last_is tells =
    rw (days_is, last_is, seventh (starts_on es) (is_away (last_tour es) home) (last_start es) report)
    (enough (need (run_days es)) longest (was_off_at_home es home (need (run_days es)) report) (is_seventh_from_away es home report) (tells (need (run_days es))))

-- the tests tell the words
is_away-decides : (o : Option Tour) (home : List ℕ) → Decides (is_away o home) (IsAway o home)
is_away-decides None home = (λ is. absurd (false≢true is), λ none. absurd none)
is_away-decides (Some tour) home = Decides-not (bytes_eq tour.place home) (bytes_eq-Decides tour.place home)

is_day_after-decides : (o : Option ℕ) (t : ℕ) → Decides (is_day_after o t) (IsDayAfter o t)
is_day_after-decides None t = (λ is. absurd (false≢true is), λ none. absurd none)
is_day_after-decides (Some start) t = Decides-eqb (day_of t) (day_of start + 1)

seventh-decides : (es : List Event) (home : List ℕ) (report : ℕ) → Decides (is_seventh_from_away es home report) (IsSeventhFromAway es home report)
seventh-decides es home report =
    go (run_days es == SIX_DAYS) (is_away (last_tour es) home) (is_day_after (last_start es) report) (Decides-eqb (run_days es) SIX_DAYS) (is_away-decides (last_tour es) home) (is_day_after-decides (last_start es) report)
  where
    go : (a b c : Bool) → Decides a (run_days es ≡ SIX_DAYS) → Decides b (IsAway (last_tour es) home) → Decides c (IsDayAfter (last_start es) report) → Decides (a && b && c) (IsSeventhFromAway es home report)
    go true true true six away next = (λ is. record { six = six.0 refl; away = away.0 refl; next_day = next.0 refl }, λ words. refl)
    go true true false six away next = (λ is. absurd (false≢true is), λ words. next.1 words.next_day)
    go true false c six away next = (λ is. absurd (false≢true is), λ words. absurd (false≢true (away.1 words.away)))
    go false b c six away next = (λ is. absurd (false≢true is), λ words. absurd (false≢true (six.1 words.six)))

-- one of three, of which the second is told only where the first doesn't hold
one_of_three : {P Q R : Type 0} → (a b c : Bool) → Decides a P → (a ≡ false → Decides b Q) → Decides c R → Decides (a || b || c) (P ⊎ (Q ⊎ R))
one_of_three true b c first second third = (λ is. inl (first.0 refl), λ words. refl)
one_of_three false true c first second third = (λ is. inr (inl ((second refl).0 refl)), λ words. refl)
one_of_three false false true first second third = (λ is. inr (inr (third.0 refl)), λ words. refl)
one_of_three {P} {Q} {R} false false false first second third = (λ is. absurd (false≢true is), none)
  where
    none : P ⊎ (Q ⊎ R) → false ≡ true
    none (inl is) = first.1 is
    none (inr (inl is)) = (second refl).1 is
    none (inr (inr is)) = third.1 is

some : (n : ℕ) → (n == 0) ≡ false → 0 < n
some zero not = absurd (false≢true (sym not))
some (suc n) not = omega arith

pub days_ok-decides : (es : List Event) (home : List ℕ) (report : ℕ) → Decides (days_ok es home report) (DaysOk es home report)
unfolding days_ok
days_ok-decides es home report =
    one_of_three (need (run_days es) == 0) (was_off_at_home es home (need (run_days es)) report) (is_seventh_from_away es home report)
    (Decides-eqb (need (run_days es)) 0)
    (λ not. has_stretch-decides (is_off_at_home es home) (need (run_days es)) (end_of (last_tour es)) report (some (need (run_days es)) not))
    (seventh-decides es home report)
