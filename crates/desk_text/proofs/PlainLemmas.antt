-- The bytes of fields, and of what stands between the marks of a line.
use Rattle.std.proofs.Common.{◌≡◌, ℕ, zero, suc, subst, ◌<◌, ◌≤◌, ◌^◌, ◌+◌, ◌/◌, ◌%◌, ◌==◌, Bool, true, false, cond, nat_le, nat_lt, not, ◌&&◌, List, [], ◌∷◌, ◌++◌, length, get_or, map, codes, decimal, refl, sym, ◌∙◌, arith}
use Rattle.std.specs.Bool.{⊤}
use Rattle.std.specs.List.{All, list_all, join_with_byte}
use Rattle.std.proofs.lemmas.Bool.Decides.{nat_tests}
use Rattle.std.proofs.lemmas.Fmt.{decimal_is_IsNumeral}
use Rattle.std.proofs.lemmas.List.{map-append}
use Rattle.std.proofs.lemmas.List.Elements.{All-nil, All-cons, All-head, All-tail, All-append, All-from_get_or}
use Rattle.std.proofs.lemmas.Str.Parse.{digit_at}
use Rattle.std.proofs.lemmas.List.Folds.{list_all-append}
use Rattle.std.proofs.lemmas.List.Sums.{AllPass-from_list_all, list_all-from_AllPass}
use Rattle.desk_base.specs.declared.minute.TheConstants.{YEARS_END}
use Rattle.desk_base.specs.Number.{IsNumber}
use Rattle.desk_base.specs.Code.{IsCode, is_code_byte}
use Rattle.desk_base.specs.Day.{day_of, day_text, number_in_month}
use Rattle.desk_base.specs.Minute.{IsInYears, minute_text}
use Rattle.desk_base.specs.Month.{IsMonthInYears, month_text, month_of_day, two_digits, year_of, number_in_year}
use Rattle.desk_base.proofs.MonthLemmas.{month_of_day_is, month_bound, first_day-next, length_of_bounds}
use Rattle.duty_events.specs.declared.event.Event.{Event}
use Rattle.duty_events.specs.declared.event.Event.TheVariants as event
use Rattle.duty_events.specs.declared.kind.Kind.{Kind}
use Rattle.duty_events.specs.declared.kind.Kind.TheVariants as kind
use Rattle.qualifications.specs.declared.craft.Craft.{Craft}
use Rattle.qualifications.specs.declared.craft.Craft.TheVariants as craft
use Rattle.qualifications.specs.Craft.{craft_text}
use Rattle.qualifications.specs.Quals.{has, numbers_below, joined, quals_text}
use Rattle.desk_model.specs.declared.command.Cmd.{Cmd}
use Rattle.desk_model.specs.declared.command.Cmd.TheVariants as cmd
use Rattle.desk_model.specs.texts.BarTexts.{late_text}
use Rattle.desk_model.specs.statements.Fits.{IsEvent, IsCommand}
use Rattle.desk_model.specs.texts.StatedTexts.{sort_text, job_word, kind_text, event_fields, command_fields}

-- ---- texts

-- each byte passes
pub record Passes (test : ℕ → Bool) (text : List ℕ) : Type 0 where
  pub all : list_all test text ≡ true

-- 32 to 123 but a comma: no line feed, and neither the mark between the parts of a line nor that between fields
abbrev pub is_inner : ℕ → Bool
is_inner b = nat_le 32 b && nat_le b 123 && not (b == 44)

abbrev pub IsInner : List ℕ → Type 0
IsInner text = Passes is_inner text

pub append : {test : ℕ → Bool} (xs : List ℕ) {ys : List ℕ} → Passes test xs → Passes test ys → Passes test (xs ++ ys)
append {test} xs {ys} one other = record { all = list_all-append test xs ys ∙ rw (one.all, other.all) refl }

pub mark : {test : ℕ → Bool} (b : ℕ) {xs : List ℕ} → test b ≡ true → Passes test xs → Passes test (b ∷ xs)
mark b is rest = record { all = rw is rest.all }

pub literal : (w : List ℕ) → list_all is_inner w ≡ true → IsInner w
literal w is = record { all = is }

pub word : (xs : List ℕ) {ys : List ℕ} → list_all is_inner xs ≡ true → IsInner ys → IsInner (xs ++ ys)
word xs is rest = append xs (literal xs is) rest

pub join : {test : ℕ → Bool} (c : ℕ) → test c ≡ true → (parts : List (List ℕ)) → All (Passes test) parts → Passes test (join_with_byte c parts)
join c fine [] all = record { all = refl }
join {test} c fine (x ∷ []) all = All-head (Passes test) x [] all
join {test} c fine (x ∷ y ∷ parts) all =
    append x (All-head (Passes test) x (y ∷ parts) all) (mark c fine (join c fine (y ∷ parts) (All-tail (Passes test) x (y ∷ parts) all)))

-- a text of such bytes passes a weaker test
pub weaker : (test : ℕ → Bool) (xs : List ℕ) → ((b : ℕ) → is_inner b ≡ true → test b ≡ true) → IsInner xs → Passes test xs
weaker test xs each is = record {
  all = list_all-from_AllPass test xs (λ k d within. each (get_or xs k d) (AllPass-from_list_all is_inner xs is.all k d within));
}

digit : (b : ℕ) → 48 ≤ b → b ≤ 57 → is_inner b ≡ true
digit b low high = grind (arith, nat_tests, low, high)

pub number : (n : ℕ) → n < 2 ^ 64 → IsInner (decimal n)
number n small = record {
  all = list_all-from_AllPass is_inner (decimal n) (All-from_get_or (λ b. is_inner b ≡ true) (decimal n) 0 (λ k within.
      let at = digit_at (decimal n) k (decimal_is_IsNumeral n small).0.1 within in digit (get_or (decimal n) k 0) (omega (arith, at)) (omega (arith, at))));
}

two : (n : ℕ) {rest : List ℕ} → n < 100 → IsInner rest → IsInner (two_digits n ++ rest)
two n few rest = mark (48 + n / 10) (digit (48 + n / 10) (omega arith) (omega (arith, few))) (mark (48 + n % 10) (digit (48 + n % 10) (omega arith) (omega arith)) rest)

none : IsInner []
none = record { all = refl }

-- a month whose year has four digits
month : (m : ℕ) → year_of m < 10_000 → IsInner (month_text m)
unfolding month_text
month m years = two (year_of m / 100) (omega (arith, years)) (two (year_of m % 100) (omega arith) (mark 45 refl (two (number_in_year m) (omega arith) none)))

pub month_in : (m : ℕ) → IsMonthInYears m → IsInner (month_text m)
month_in m is = month m (omega (arith, is.1))

day : (d : ℕ) → d < 186_414 → IsInner (day_text d)
unfolding day_text
day d few =
    let is = month_of_day_is d in
    let index : number_in_month d < 100 = omega (arith, is.begun, is.not_over, first_day-next (month_of_day d), length_of_bounds (month_of_day d)) in
    append (month_text (month_of_day d)) (month (month_of_day d) (omega (arith, month_bound d (month_of_day d) is few))) (mark 45 refl (two (number_in_month d) index none))

pub minute : (t : ℕ) → t < 2 ^ 28 → IsInner (minute_text t)
unfolding minute_text
minute t few =
    append (day_text (day_of t)) (day (day_of t) (omega (arith, few)))
    (mark 32 refl (two ((t % 1440) / 60) (omega arith) (mark 58 refl (two ((t % 1440) % 60) (omega arith) none))))

pub minute_in : (t : ℕ) → IsInYears t → IsInner (minute_text t)
minute_in t is = minute t (omega (arith, is.1))

pub code : (c : List ℕ) → IsCode c → IsInner c
code c is = record { all = list_all-from_AllPass is_inner c (λ k d within. letter (get_or c k d) (AllPass-from_list_all is_code_byte c is.bytes k d within)) }
  where
    letter : (b : ℕ) → is_code_byte b ≡ true → is_inner b ≡ true
    letter b is = grind (arith, nat_tests, is)

-- ---- values

pub craft_inner : (c : Craft) → IsInner (craft_text c)
craft_inner craft.E = record { all = refl }
craft_inner craft.C = record { all = refl }
craft_inner craft.B = record { all = refl }

pub kind_inner : (k : Kind) → IsInner (kind_text k)
kind_inner kind.D = record { all = refl }
kind_inner kind.P = record { all = refl }
kind_inner kind.O = record { all = refl }

sort_inner : (extra : Bool) → IsInner (sort_text extra)
sort_inner true = record { all = refl }
sort_inner false = record { all = refl }

job_word_inner : (relief : Bool) → IsInner (job_word relief)
job_word_inner true = record { all = refl }
job_word_inner false = record { all = refl }

decimals : (quals n : ℕ) → n ≤ 64 → All IsInner (map decimal (numbers_below quals n))
unfolding numbers_below
decimals quals zero few = All-nil IsInner
decimals quals (suc n) few =
    subst (All IsInner) (sym (map-append decimal (numbers_below quals n) (cond (has quals n) (n ∷ []) [])))
    (All-append IsInner (map decimal (numbers_below quals n)) _ (decimals quals n (omega (arith, few))) (one (has quals n)))
  where
    one : (b : Bool) → All IsInner (map decimal (cond b (n ∷ []) []))
    one true = All-cons IsInner (decimal n) [] (number n (omega (arith, few))) (All-nil IsInner)
    one false = All-nil IsInner

quals_inner : (quals : ℕ) → IsInner (quals_text quals)
unfolding quals_text
quals_inner quals = go (length (numbers_below quals 64) == 0)
  where
    go : (b : Bool) → IsInner (cond b (codes "-") (joined (numbers_below quals 64)))
    go true = record { all = refl }
    go false = join 43 refl (map decimal (numbers_below quals 64)) (decimals quals 64 (omega arith))

codes_inner : (cs : List (List ℕ)) → All IsCode cs → All IsInner cs
codes_inner cs all = λ k d within. code _ (all k d within)

pub late : (m : ℕ) → m < 2 ^ 28 → IsInner (late_text m)
late m small = go (nat_lt m YEARS_END)
  where
    go : (b : Bool) → IsInner (cond b (minute_text m) (decimal m))
    go true = minute m small
    go false = number m (omega (arith, small))

-- ---- what is stated

abbrev pub AreInner : List (List ℕ) → Type 0
AreInner [] = ⊤
AreInner (x ∷ xs) = IsInner x × AreInner xs

pub all_inner : (xs : List (List ℕ)) → AreInner xs → All IsInner xs
all_inner [] are = All-nil IsInner
all_inner (x ∷ xs) are = All-cons IsInner x xs are.0 (all_inner xs are.1)

event_inner : (e : Event) → IsEvent e → AreInner (event_fields e)
event_inner (event.Ride t) is = (literal (codes "ride") refl, (minute_in t is, tt))
event_inner (event.Duty t) is = (literal (codes "duty") refl, (minute_in t is, tt))
event_inner (event.Interim t k place) is = (literal (codes "interim") refl, (minute_in t is.0, (kind_inner k, (code place is.1, tt))))
event_inner (event.Resume t) is = (literal (codes "resume") refl, (minute_in t is, tt))
event_inner (event.Relieve t) is = (literal (codes "relieve") refl, (minute_in t is, tt))
event_inner (event.RideHome t) is = (literal (codes "ridehome") refl, (minute_in t is, tt))
event_inner (event.Final t place) is = (literal (codes "final") refl, (minute_in t is.0, (code place is.1, tt)))
event_inner (event.Other span place) is = (literal (codes "other") refl, (minute_in span.from is.0, (minute_in span.to is.1, (code place is.3, tt))))

pub numbered : (n : ℕ) → IsNumber n → IsInner (decimal n)
numbered n is = number n (omega (arith, is.1))

pub command_inner : (c : Cmd) → IsCommand c → AreInner (command_fields c)
command_inner (cmd.Enrol p c home quals) is = (literal (codes "enrol") refl, (numbered p is.0, (craft_inner c, (code home is.1, (quals_inner quals, tt)))))
command_inner (cmd.Board b extra place) is = (literal (codes "board") refl, (code b is.0, (sort_inner extra, (code place is.1, tt))))
command_inner (cmd.List p b) is = (literal (codes "list") refl, (numbered p is.0, (code b is.1, tt)))
command_inner (cmd.Unlist p b) is = (literal (codes "unlist") refl, (numbered p is.0, (code b is.1, tt)))
command_inner (cmd.MarkOff p) is = (literal (codes "off") refl, (numbered p is, tt))
command_inner (cmd.MarkOn p) is = (literal (codes "on") refl, (numbered p is, tt))
command_inner (cmd.Qualify p quals) is = (literal (codes "qualify") refl, (numbered p is.0, (quals_inner quals, tt)))
command_inner (cmd.Past p e) is = (literal (codes "past") refl, (numbered p is.0, event_inner e is.1))
command_inner (cmd.Happened p e) is = (literal (codes "event") refl, (numbered p is.0, event_inner e is.1))
command_inner (cmd.Vacancy job) is = (job_word_inner job.relief, (numbered job.vac is.vac, (craft_inner job.craft, (quals_inner job.quals, (code job.place is.place, (minute_in job.report is.plan.report_in, (number job.duty (omega (arith, is.plan.most)), (number job.limbo (omega (arith, is.plan.limbo_most)), (join 43 refl job.chain (codes_inner job.chain is.chain.codes), tt)))))))))
command_inner (cmd.Next v) is = (literal (codes "next") refl, (numbered v is, tt))
command_inner (cmd.Offer v p) is = (literal (codes "offer") refl, (numbered v is.0, (numbered p is.1, tt)))
command_inner (cmd.Accept v p) is = (literal (codes "accept") refl, (numbered v is.0, (numbered p is.1, tt)))
command_inner (cmd.Decline v p) is = (literal (codes "decline") refl, (numbered v is.0, (numbered p is.1, tt)))
command_inner (cmd.NoAnswer v p) is = (literal (codes "noanswer") refl, (numbered v is.0, (numbered p is.1, tt)))
command_inner (cmd.Withdraw v p) is = (literal (codes "withdraw") refl, (numbered v is.0, (numbered p is.1, tt)))
command_inner (cmd.Annul v) is = (literal (codes "annul") refl, (numbered v is, tt))
command_inner (cmd.Drop p) is = (literal (codes "drop") refl, (numbered p is, tt))
command_inner (cmd.Hours p m) is = (literal (codes "hours") refl, (numbered p is.0, (month_in m is.1, tt)))
command_inner (cmd.At b k) is = (literal (codes "at") refl, (code b is.0, (number k (omega (arith, is.2)), tt)))
command_inner (cmd.Explain v p) is = (literal (codes "explain") refl, (numbered v is.0, (numbered p is.1, tt)))
command_inner (cmd.Vac v) is = (literal (codes "vac") refl, (numbered v is, tt))
