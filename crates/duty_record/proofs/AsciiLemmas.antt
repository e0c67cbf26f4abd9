-- The text of a minute is plain bytes, below 128.
use Rattle.std.proofs.Common.{ℕ, ◌+◌, ◌/◌, ◌%◌, ◌<◌, ◌^◌, List, [], ◌∷◌, ◌++◌, Result, Ok, Err, rules, arith}
use Rattle.std.specs.Result.{IsOk, MatchResult}
use Rattle.std.specs.Str.{IsAscii}
use Rattle.std.proofs.lemmas.Str.{IsAscii-append}
use Rattle.std.proofs.lemmas.Str.Ascii.{IsAscii-nil, IsAscii-cons}
use Rattle.desk_base.specs.Day.{day_of, day_text, number_in_month}
use Rattle.desk_base.specs.Minute.{minute_text}
use Rattle.desk_base.specs.Month.{month_text, month_of_day, two_digits, year_of, number_in_year}
use Rattle.desk_base.proofs.MonthLemmas.{month_of_day_is, month_bound, first_day-next, length_of_bounds}

pub record IsPlain (text : List ℕ) : Type 0 where
  pub bytes : IsAscii text

none : IsPlain []
none = record { bytes = IsAscii-nil }

mark : (b : ℕ) {rest : List ℕ} → b < 128 → IsPlain rest → IsPlain (b ∷ rest)
mark b {rest} low is = record { bytes = IsAscii-cons b rest low is.bytes }

append : {xs ys : List ℕ} → IsPlain xs → IsPlain ys → IsPlain (xs ++ ys)
append {xs} {ys} one other = record { bytes = IsAscii-append xs ys one.bytes other.bytes }

two : (n : ℕ) {rest : List ℕ} → n < 100 → IsPlain rest → IsPlain (two_digits n ++ rest)
two n few rest = mark (48 + n / 10) (omega (arith, few)) (mark (48 + n % 10) (omega arith) rest)

month : (m : ℕ) → year_of m < 10_000 → IsPlain (month_text m)
unfolding month_text
month m years = two (year_of m / 100) (omega (arith, years)) (two (year_of m % 100) (omega arith) (mark 45 (omega arith) (two (number_in_year m) (omega arith) none)))

day : (d : ℕ) → d < 186_414 → IsPlain (day_text d)
unfolding day_text
day d few =
    let is = month_of_day_is d in
    let place : number_in_month d < 100 = omega (arith, is.begun, is.not_over, first_day-next (month_of_day d), length_of_bounds (month_of_day d)) in
    append (month (month_of_day d) (omega (arith, month_bound d (month_of_day d) is few))) (mark 45 (omega arith) (two (number_in_month d) place none))

pub minute_text-plain : (t : ℕ) → t < 2 ^ 28 → IsPlain (minute_text t)
unfolding minute_text
minute_text-plain t few =
    append (day (day_of t) (omega (arith, few))) (mark 32 (omega arith) (two ((t % 1440) / 60) (omega arith) (mark 58 (omega arith) (two ((t % 1440) % 60) (omega arith) none))))

pub ok-from_text : {T E : Type 0} (r : Result T E) (P : T → Type 0) (U : Type 0) (Q : E → Type 0) → U → MatchResult r P (λ e. ¬ U × Q e) → IsOk r
ok-from_text (Ok x) P U Q is cases = search rules
ok-from_text (Err e) P U Q is cases = absurd (cases.0 is)
