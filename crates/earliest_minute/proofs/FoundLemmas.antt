-- The earliest minute is the one that is found among all.
use Rattle.std.proofs.Common.{◌≡◌, ◌≢◌, ℕ, zero, suc, ◌+◌, ◌-◌, ◌<◌, ◌≤◌, Bool, true, false, cond, nat_lt, nat_eq, Option, None, Some, is_none, unwrap_or, refl, sym, ap, subst, ◌∙◌, arith}
use Rattle.std.proofs.lemmas.Bool.Decides.{nat_tests}
use Rattle.std.specs.List.{find, range_with_len}
use Rattle.denial_rules.specs.declared.bar.Bar.{Bar}
use Rattle.desk_model.specs.declared.person.Person.{Person}
use Rattle.desk_model.specs.declared.link.Link.{Link}
use Rattle.desk_model.specs.declared.reply.Reply.{Reply}
use Rattle.desk_model.specs.declared.reply.Reply.TheVariants as reply
use Rattle.desk_model.specs.histories.History.{History}
use Rattle.desk_model.specs.statements.Job.{JobValue}
use Rattle.desk_model.specs.histories.Register.{person_of, vacancy_of}
use Rattle.desk_model.specs.boards.Boards.{chain}
use Rattle.desk_model.specs.offers.Bars.{bar_of}
use Rattle.desk_model.specs.histories.Legal.{last_moment}
use Rattle.desk_model.specs.answers.ExplainAnswer.{position_in, position_answer, clear_answer, person_answer, job_answer}
use Rattle.earliest_minute.specs.declared.earliest.Earliest.{Earliest}
use Rattle.earliest_minute.specs.declared.earliest.Earliest.TheVariants as earliest
use Rattle.earliest_minute.specs.Least.{IsLeast}
use Rattle.earliest_minute.specs.When.{IsTimeOrBar, IsTime, IsToldBy, IsWhen, minutes, first_clear, clear_or, time_or_bar_of, told_of, when_of}

-- the first of some minutes at which a test of bars has none
record IsFirst (f : ℕ → Option Bar) (from behind t : ℕ) : Type 0 where
  from_it : from ≤ t
  to_it : t < behind
  clear : f t ≡ None
  before : (m : ℕ) → from ≤ m → m < t → f m ≢ None

some≢none : (b : Bar) (x : Option Bar) → x ≡ Some b → x ≢ None
some≢none b x is none = cc

found : (f : ℕ → Option Bar) (from n t : ℕ) → find (λ m. is_none (f m)) (range_with_len from n) ≡ Some t → IsFirst f from (from + n) t
found f from zero t is = cc
found f from (suc n) t is = go (f from) refl is (found f (from + 1) n t)
  where
    go : (bar : Option Bar) → f from ≡ bar → cond (is_none bar) (Some from) (find (λ m. is_none (f m)) (range_with_len (from + 1) n)) ≡ Some t
        → (find (λ m. is_none (f m)) (range_with_len (from + 1) n) ≡ Some t → IsFirst f (from + 1) ((from + 1) + n) t) → IsFirst f from (from + suc n) t
    go None at told rest =
        let same : from ≡ t = ap (λ o. unwrap_or o t) told in
        record { from_it = omega (arith, same); to_it = omega (arith, same); clear = subst (λ m. f m ≡ None) same at; before = λ m late below. absurd (omega (arith, same, late, below)) }
    go (Some b) at told rest =
        let later = rest told in
        record {
          from_it = omega (arith, later.from_it);
          to_it = omega (arith, later.to_it);
          clear = later.clear;
          before = λ m late below. split m late below (nat_eq from m) refl later;
        }
      where
        split : (m : ℕ) → from ≤ m → m < t → (same : Bool) → nat_eq from m ≡ same → IsFirst f (from + 1) ((from + 1) + n) t → f m ≢ None
        split m late below true is later = let here : from ≡ m = grind (arith, nat_tests, is) in some≢none b (f m) (sym (ap f here) ∙ at)
        split m late below false is later = later.before m (grind (arith, nat_tests, is, late)) below

none-found : (f : ℕ → Option Bar) (from n : ℕ) → find (λ m. is_none (f m)) (range_with_len from n) ≡ None → (m : ℕ) → from ≤ m → m < from + n → f m ≢ None
none-found f from zero is m late below = absurd (omega (arith, late, below))
none-found f from (suc n) is m late below = go (f from) refl is (none-found f (from + 1) n)
  where
    go : (bar : Option Bar) → f from ≡ bar → cond (is_none bar) (Some from) (find (λ k. is_none (f k)) (range_with_len (from + 1) n)) ≡ None
        → (find (λ k. is_none (f k)) (range_with_len (from + 1) n) ≡ None → (k : ℕ) → from + 1 ≤ k → k < (from + 1) + n → f k ≢ None) → f m ≢ None
    go None at told rest = cc
    go (Some b) at told rest = split (nat_eq from m) refl
      where
        split : (same : Bool) → nat_eq from m ≡ same → f m ≢ None
        split true is = let here : from ≡ m = grind (arith, nat_tests, is) in some≢none b (f m) (sym (ap f here) ∙ at)
        split false is = rest told m (grind (arith, nat_tests, is, late)) (omega (arith, below))

-- ---- of a job and a person who is listed for it

module _ (h : History) (job : JobValue) (p : ℕ) (person : Person) (on_time : last_moment h ≤ job.report) where
  abbrev bars : ℕ → Option Bar
  bars m = bar_of h m job p person

  abbrev first : Option ℕ
  first = first_clear h job p person (minutes (last_moment h) job.report)

  time_or_bar-is : (told : Earliest) → IsTimeOrBar h job p person told → told ≡ clear_or first (bars job.report)
  time_or_bar-is (earliest.Clear minute) least = go first refl
    where
      go : (t : Option ℕ) → first ≡ t → earliest.Clear minute ≡ clear_or t (bars job.report)
      go (Some t) is =
          let it = found bars (last_moment h) (job.report + 1 - last_moment h) t is in
          ap earliest.Clear (order minute t least it (nat_lt minute t) refl (nat_lt t minute) refl)
        where
          order : (minute t : ℕ) → IsLeast h job p person minute → IsFirst bars (last_moment h) (last_moment h + (job.report + 1 - last_moment h)) t
              → (less : Bool) → nat_lt minute t ≡ less → (more : Bool) → nat_lt t minute ≡ more → minute ≡ t
          order minute t least it true less more is = absurd (it.before minute least.from (grind (arith, nat_tests, less)) least.clear)
          order minute t least it false less true is = absurd (least.before t it.from_it (grind (arith, nat_tests, is)) it.clear)
          order minute t least it false less false is = grind (arith, nat_tests, less, is)
      go None is = absurd (none-found bars (last_moment h) (job.report + 1 - last_moment h) is minute least.from (omega (arith, least.to, on_time)) least.clear)
  time_or_bar-is (earliest.Barred bar) barred = go first refl
    where
      go : (t : Option ℕ) → first ≡ t → earliest.Barred bar ≡ clear_or t (bars job.report)
      go (Some t) is =
          let it = found bars (last_moment h) (job.report + 1 - last_moment h) t is in
          absurd (barred.each t it.from_it (omega (arith, it.to_it, on_time)) it.clear)
      go None is = ap (clear_or None) (sym barred.report)
  time_or_bar-is earliest.UnknownVacancy none = absurd none
  time_or_bar-is earliest.UnknownPerson none = absurd none
  time_or_bar-is (earliest.Lapsed report) none = absurd none
  time_or_bar-is earliest.NotListed none = absurd none

  is-time_or_bar : IsTimeOrBar h job p person (clear_or first (bars job.report))
  is-time_or_bar = go first refl (bars job.report) refl
    where
      go : (t : Option ℕ) → first ≡ t → (bar : Option Bar) → bars job.report ≡ bar → IsTimeOrBar h job p person (clear_or t bar)
      go (Some t) is bar at =
          let it = found bars (last_moment h) (job.report + 1 - last_moment h) t is in
          record { from = it.from_it; to = omega (arith, it.to_it, on_time); clear = it.clear; before = it.before }
      go None is (Some bar) at = record {
        each = λ m late early. none-found bars (last_moment h) (job.report + 1 - last_moment h) is m late (omega (arith, early, on_time));
        report = at;
      }
      go None is None at = absurd (none-found bars (last_moment h) (job.report + 1 - last_moment h) is job.report on_time (omega (arith, on_time)) at)

-- ---- by the numbers

abbrev Agrees : History → ℕ → ℕ → Earliest → Reply → Earliest → Type 0
Agrees h v p told answer time_or_bar = (IsToldBy h v p answer told → told ≡ told_of answer time_or_bar) × (told ≡ told_of answer time_or_bar → IsToldBy h v p answer told)

timed : (h : History) (v p : ℕ) (told : Earliest) (job : JobValue) (person : Person) → vacancy_of h v ≡ Some job → person_of h p ≡ Some person → last_moment h ≤ job.report
    → (IsTime h v p told → told ≡ time_or_bar_of h p (Some job) (Some person)) × (told ≡ time_or_bar_of h p (Some job) (Some person) → IsTime h v p told)
timed h v p told job person made enrolled on_time = (there, back)
  where
    there : IsTime h v p told → told ≡ time_or_bar_of h p (Some job) (Some person)
    there time =
        let same_job : time.job ≡ job = ap (λ o. unwrap_or o job) (sym time.made ∙ made) in
        let same_person : time.person ≡ person = ap (λ o. unwrap_or o person) (sym time.enrolled ∙ enrolled) in
        time_or_bar-is h job p person on_time told (subst (λ x. IsTimeOrBar h x p person told) same_job (subst (λ x. IsTimeOrBar h time.job p x told) same_person time.time_or_bar))

    back : told ≡ time_or_bar_of h p (Some job) (Some person) → IsTime h v p told
    back is = record { job = job; person = person; made = made; enrolled = enrolled; time_or_bar = subst (IsTimeOrBar h job p person) (sym is) (is-time_or_bar h job p person on_time) }

pub one-time : (h : History) (v p : ℕ) (told : Earliest) → (IsWhen h v p told → told ≡ when_of h v p) × (told ≡ when_of h v p → IsWhen h v p told)
one-time h v p told = by-job (vacancy_of h v) refl
  where
    by-job : (made : Option JobValue) → vacancy_of h v ≡ made → Agrees h v p told (job_answer h (last_moment h) p made) (time_or_bar_of h p made (person_of h p))
    by-job None is = ((λ x. x), (λ x. x))
    by-job (Some job) made = by-person (person_of h p) refl
      where
        by-person : (known : Option Person) → person_of h p ≡ known → Agrees h v p told (person_answer h (last_moment h) job p known) (time_or_bar_of h p (Some job) known)
        by-person None is = ((λ x. x), (λ x. x))
        by-person (Some person) enrolled = by-time (nat_lt job.report (last_moment h)) refl
          where
            by-place : (found : Option Link) (bar : Option Bar) → last_moment h ≤ job.report
                → Agrees h v p told (position_answer bar clear_answer found) (time_or_bar_of h p (Some job) (Some person))
            by-place None bar on_time = ((λ x. x), (λ x. x))
            by-place (Some link) (Some bar) on_time = timed h v p told job person made enrolled on_time
            by-place (Some link) None on_time = timed h v p told job person made enrolled on_time

            by-time : (past : Bool) → nat_lt job.report (last_moment h) ≡ past
                → Agrees h v p told (cond past (reply.Lapsed job.report) (position_answer (bar_of h (last_moment h) job p person) clear_answer (position_in (chain h job.chain) p))) (time_or_bar_of h p (Some job) (Some person))
            by-time true is = ((λ x. x), (λ x. x))
            by-time false is = by-place (position_in (chain h job.chain) p) (bar_of h (last_moment h) job p person) (grind (arith, nat_tests, is))
