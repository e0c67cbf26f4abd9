use Rattle.std.proofs.Common.{◌≡◌, ℕ, ◌/◌, ◌%◌, List, [], ◌∷◌, get_or, refl, ◌∙◌, ap, sym, arith, pos}
use Rattle.desk_base.specs.Month.{month_of_day, month_text}
use Rattle.desk_base.specs.Day.{day_of, number_in_month}
use Rattle.desk_base.specs.Minute.{month_of}
use Rattle.desk_base.proofs.MonthLemmas.{month_of_day-unique, month_of_day_is}
use Rattle.desk_base.proofs.CivilLemmas.{IsMonthAt-date}
use Rattle.desk_base.proofs.ReadLemmas.{minute_text-parts}
use Rattle.desk_base.proofs.TextLemmas.{minute_text-civil}
use Rattle.desk_base.proofs.minute.Minute.write.Goals as goal
use Rattle.desk_base.proofs.minute.Minute.write.Goals.{After-of_day-month, After-in_month}

-- the month that is found is that of the minute
month_is : (c : After-of_day-month) → month_of c.args.self ≡ c.of_day-month.result
month_is c =
    ap month_of_day (sym c.of-day.ensures.value) ∙ month_of_day-unique c.of-day.result c.of_day-month.result c.of_day-month.ensures

-- and the day's number in it as well
number_is : (c : After-in_month) → number_in_month (day_of c.args.self) ≡ c.in_month.result
number_is c = ap number_in_month (sym c.of-day.ensures.value) ∙ sym c.in_month.ensures.value

-- the bytes that are put together
abbrev minute_bytes : List ℕ → List ℕ → List ℕ → List ℕ → List ℕ
minute_bytes m d h p =
    get_or m 0 0 ∷ get_or m 1 0 ∷ get_or m 2 0 ∷ get_or m 3 0 ∷ 45 ∷ get_or m 5 0 ∷ get_or m 6 0 ∷ 45 ∷ get_or d 0 0 ∷ get_or d 1 0
    ∷ 32 ∷ get_or h 0 0 ∷ get_or h 1 0 ∷ 58 ∷ get_or p 0 0 ∷ get_or p 1 0 ∷ []

same_bytes : {m n d e h i p q : List ℕ} → m ≡ n → d ≡ e → h ≡ i → p ≡ q → minute_bytes m d h p ≡ minute_bytes n e i q
same_bytes month day hour past = rw (month, day, hour, past) refl

pub returns-clause-text : goal.returns-clause-text
unfolding month_text
returns-clause-text c =
    let at = goal.at.returns-clause-text c in
    let parts = minute_text-parts c.args.self c.of_day-month.result c.in_month.result (c.args.self % 1440 / 60) (c.args.self % 1440 % 60) (month_is at.After-of_day-month) (number_is at.After-in_month) refl refl in
    let hours = rw (c.self.view_is) at c.digits_of-2.ensures in
    let pasts = rw (c.self.view_is) at c.digits_of-3.ensures in
    same_bytes c.write.ensures c.digits_of.ensures hours pasts ∙ sym parts

pub returns-clause-civil : goal.returns-clause-civil
returns-clause-civil c = λ date hour past at.
    let month = IsMonthAt-date date (day_of c.args.self) (month_of c.args.self) (omega arith) (c.of-day.ensures.civil date hour past at ∙ ap pos c.of-day.ensures.value) (month_of_day_is (day_of c.args.self)) in
    returns-clause-text c ∙ minute_text-civil c.args.self date hour past at month
