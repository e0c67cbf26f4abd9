-- The bytes of a month's and of a minute's text, two digits and two digits, and texts with these bytes.
use Rattle.std.proofs.Common.{◌≡◌, ℕ, zero, suc, ◌+◌, ◌-◌, ◌*◌, ◌/◌, ◌%◌, ◌≤◌, List, [], ◌∷◌, ◌++◌, length, get_or, take, drop, refl, ap, sym, ◌∙◌, arith, add-one, take-append-drop}
use Rattle.std.proofs.lemmas.List.{drop_all}
use Rattle.std.proofs.Math.Seq.{drop-cons}
use Rattle.desk_base.specs.Month.{year_of, number_in_year, first_day, month_text, two_digits, IsMonthOf}
use Rattle.desk_base.specs.Day.{day_of, day_text, number_in_month}
use Rattle.desk_base.specs.Minute.{month_of, minute_text}
use Rattle.desk_base.proofs.MonthLemmas.{first_day-next, length_of, month_of_day-unique}

-- so many bytes of a text, from this index on
abbrev pub bytes_from : ℕ → ℕ → List ℕ → List ℕ
bytes_from index zero text = []
bytes_from index (suc count) text = get_or text index 0 ∷ bytes_from (index + 1) count text

-- with as many bytes behind the index they are the rest
rest_is : (count index : ℕ) (text : List ℕ) → length text ≡ index + count → drop index text ≡ bytes_from index count text
rest_is zero index text len = drop_all index text (omega (arith, len))
rest_is (suc count) index text len =
    drop-cons text index 0 (omega (arith, len)) ∙ ap (λ rest. get_or text index 0 ∷ rest) (rw (← add-one index) (rest_is count (index + 1) text (omega (arith, len))))

-- the two bytes at an index
abbrev pub pair : List ℕ → ℕ → List ℕ
pair text index = get_or text index 0 ∷ get_or text (index + 1) 0 ∷ []

-- the bytes of a month's text
pub record HasMonth (text : List ℕ) (month : ℕ) : Type 0 where
  pub len : length text ≡ 7
  pub century : pair text 0 ≡ two_digits (year_of month / 100)
  pub year : pair text 2 ≡ two_digits (year_of month % 100)
  pub mark : get_or text 4 0 ≡ 45
  pub number : pair text 5 ≡ two_digits (number_in_year month)

pub has_month : (text : List ℕ) (month : ℕ) → text ≡ month_text month → HasMonth text month
unfolding month_text
has_month text month e = record {
  len = ap length e;
  century = ap (λ t. pair t 0) e;
  year = ap (λ t. pair t 2) e;
  mark = ap (λ t. get_or t 4 0) e;
  number = ap (λ t. pair t 5) e;
}

-- which are all that it has
same_month : {c d y z p q : List ℕ} {m : ℕ} → c ≡ d → y ≡ z → m ≡ 45 → p ≡ q → c ++ y ++ m ∷ p ≡ d ++ z ++ 45 ∷ q
same_month century year mark number = rw (century, year, mark, number) refl

pub is_month_text : (text : List ℕ) (month : ℕ) → HasMonth text month → text ≡ month_text month
unfolding month_text
is_month_text text month has =
    rest_is 7 0 text has.len ∙ same_month has.century has.year has.mark has.number

-- the bytes of a minute's text behind those of its month
pub record HasTime (rest : List ℕ) (number hour past : ℕ) : Type 0 where
  pub len : length rest ≡ 9
  pub mark : get_or rest 0 0 ≡ 45
  pub day : pair rest 1 ≡ two_digits number
  pub blank : get_or rest 3 0 ≡ 32
  pub hours : pair rest 4 ≡ two_digits hour
  pub colon : get_or rest 6 0 ≡ 58
  pub pasts : pair rest 7 ≡ two_digits past

pub has_time : (text rest : List ℕ) (minute : ℕ) → rest ≡ drop 7 text → text ≡ minute_text minute → HasTime rest (number_in_month (day_of minute)) (minute % 1440 / 60) (minute % 1440 % 60)
unfolding minute_text day_text month_text
has_time text rest minute behind e =
    let whole = behind ∙ ap (drop 7) e in
    record {
      len = ap length whole;
      mark = ap (λ r. get_or r 0 0) whole;
      day = ap (λ r. pair r 1) whole;
      blank = ap (λ r. get_or r 3 0) whole;
      hours = ap (λ r. pair r 4) whole;
      colon = ap (λ r. get_or r 6 0) whole;
      pasts = ap (λ r. pair r 7) whole;
    }

pub length-minute : (text : List ℕ) (minute : ℕ) → text ≡ minute_text minute → length text ≡ 16
unfolding minute_text day_text month_text
length-minute text minute e = ap length e

pub month_text-in : (text : List ℕ) (minute : ℕ) → text ≡ minute_text minute → take 7 text ≡ month_text (month_of minute)
unfolding minute_text day_text month_text
month_text-in text minute e = ap (take 7) e

-- the minute at this time of this day of the month
abbrev pub minute_at : ℕ → ℕ → ℕ → ℕ → ℕ
minute_at month day hour past = 1440 * first_day month + (1440 * (day - 1) + (60 * hour + past))

pub record IsTime (month day hour past : ℕ) : Type 0 where
  pub first : 1 ≤ day
  pub last : day ≤ length_of month
  pub hours : hour ≤ 23
  pub pasts : past ≤ 59

-- it lies in the month
pub is_month_at : (month day hour past : ℕ) → IsTime month day hour past → IsMonthOf (day_of (minute_at month day hour past)) month
is_month_at month day hour past is = record {
  begun = omega (arith, is.first, is.hours, is.pasts);
  not_over = omega (arith, is.first, is.last, is.hours, is.pasts, first_day-next month);
}

same_minute : {f g d e h i p q : List ℕ} {m n o : ℕ} → f ≡ g → m ≡ 45 → d ≡ e → n ≡ 32 → h ≡ i → o ≡ 58 → p ≡ q → f ++ (m ∷ d ++ n ∷ h ++ o ∷ p) ≡ g ++ (45 ∷ e ++ 32 ∷ i ++ 58 ∷ q)
same_minute front mark day blank hour colon past = rw (front, mark, day, blank, hour, colon, past) refl

pub minute_text-parts : (minute month day hour past : ℕ) → month_of minute ≡ month → number_in_month (day_of minute) ≡ day → minute % 1440 / 60 ≡ hour → minute % 1440 % 60 ≡ past → minute_text minute ≡ month_text month ++ (45 ∷ two_digits day ++ 32 ∷ two_digits hour ++ 58 ∷ two_digits past)
unfolding minute_text day_text month_text
minute_text-parts minute month day hour past same number hours pasts = rw (number, same, hours, pasts) refl

-- and its text has these numbers
pub is_minute_text : (text : List ℕ) (month day hour past : ℕ) → IsTime month day hour past → take 7 text ≡ month_text month → HasTime (drop 7 text) day hour past → text ≡ minute_text (minute_at month day hour past)
is_minute_text text month day hour past is front has =
    let minute = minute_at month day hour past in
    let same : month_of minute ≡ month = month_of_day-unique (day_of minute) month (is_month_at month day hour past is) in
    let number : number_in_month (day_of minute) ≡ day = rw same (omega (arith, is.first, is.hours, is.pasts)) in
    let parts = minute_text-parts minute month day hour past same number (omega (arith, is.hours, is.pasts)) (omega (arith, is.hours, is.pasts)) in
    let bytes : drop 7 text ≡ get_or (drop 7 text) 0 0 ∷ pair (drop 7 text) 1 ++ get_or (drop 7 text) 3 0 ∷ pair (drop 7 text) 4 ++ get_or (drop 7 text) 6 0 ∷ pair (drop 7 text) 7 =
    rest_is 9 0 (drop 7 text) has.len in
    sym (take-append-drop 7 text) ∙ ap (λ rest. take 7 text ++ rest) bytes
    ∙ same_minute front has.mark has.day has.blank has.hours has.colon has.pasts ∙ sym parts
