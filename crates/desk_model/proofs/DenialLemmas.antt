-- A vacancy is unfilled where all of its chain are barred, and else offered to the first who isn't.
use Rattle.std.proofs.Common.{◌≡◌, ℕ, Bool, true, false, cond, nat_lt, Option, None, Some, is_none, is_some, List, [], ◌∷◌, ◌++◌, length, filter, refl, sym, ap, subst, ◌∙◌, arith}
use Rattle.std.specs.List.{All, find}
use Rattle.std.proofs.lemmas.Bool.{false≢true}
use Rattle.std.proofs.lemmas.Bool.Decides.{nat_tests}
use Rattle.std.proofs.lemmas.List.Folds.{find-append}
use Rattle.std.proofs.lemmas.List.Elements.{All-nil, All-cons, All-tail}
use Rattle.denial_rules.specs.declared.bar.Bar.{Bar}
use Rattle.desk_model.specs.declared.person.Person.{Person}
use Rattle.desk_model.specs.declared.link.Link.{Link}
use Rattle.desk_model.specs.declared.reply.Reply.TheVariants as reply
use Rattle.desk_model.specs.statements.Job.{JobValue}
use Rattle.desk_model.specs.histories.History.{History}
use Rattle.desk_model.specs.histories.Register.{person_of}
use Rattle.desk_model.specs.boards.Boards.{chain}
use Rattle.desk_model.specs.offers.Bars.{bar_of, may_have, is_free, first_free}
use Rattle.desk_model.specs.answers.NextAnswer.{choice_answer, vacant_answer, unless_closed, known_answer, next_answer}
use Rattle.desk_model.specs.laws.Denials.{IsOpen, IsBarred, IsClear, AreBarred, IsUnfilled, IsFirstClear}
use Rattle.desk_model.specs.histories.Legal.{IsLegal}
use Rattle.desk_model.proofs.ListedLemmas.{on-listed, chain-keeps}

-- ---- all of a chain are enrolled

abbrev IsEnrolled : History → ℕ → Type 0
IsEnrolled h p = is_some (person_of h p) ≡ true

filter-passes : (f : ℕ → Bool) (ps : List ℕ) → All (λ p. f p ≡ true) (filter f ps)
filter-passes f [] = All-nil (λ p. f p ≡ true)
filter-passes f (p ∷ ps) = go (f p) refl (filter-passes f ps)
  where
    go : (kept : Bool) → f p ≡ kept → All (λ q. f q ≡ true) (filter f ps) → All (λ q. f q ≡ true) (cond kept (p ∷ filter f ps) (filter f ps))
    go true is rest = All-cons (λ q. f q ≡ true) p (filter f ps) is rest
    go false is rest = rest

chain-enrolled : (h : History) (codes : List (List ℕ)) → IsLegal h → All (λ (link : Link). IsEnrolled h link.person) (chain h codes)
chain-enrolled h codes legal = chain-keeps (λ (link : Link). IsEnrolled h link.person) h codes (λ b i p on. (on-listed h legal p b on).enrolled)

-- ---- one person

barred-person : (h : History) (m : ℕ) (job : JobValue) (p : ℕ) → IsEnrolled h p → is_free h m job p ≡ false → IsBarred h m job p
barred-person h m job p known held = go (person_of h p) refl known held
  where
    go : (found : Option Person) → person_of h p ≡ found → is_some found ≡ true → may_have h m job p found ≡ false → IsBarred h m job p
    go None is known held = absurd (false≢true known)
    go (Some person) is known held = by_bar (bar_of h m job p person) refl held
      where
        by_bar : (first : Option Bar) → bar_of h m job p person ≡ first → is_none first ≡ false → IsBarred h m job p
        by_bar None first held = absurd (false≢true (sym held))
        by_bar (Some bar) first held = record { person = person; bar = bar; enrolled = is; barred = first }

clear-person : (h : History) (m : ℕ) (job : JobValue) (p : ℕ) → is_free h m job p ≡ true → IsClear h m job p
clear-person h m job p free = go (person_of h p) refl free
  where
    go : (found : Option Person) → person_of h p ≡ found → may_have h m job p found ≡ true → IsClear h m job p
    go None is free = absurd (false≢true free)
    go (Some person) is free = by_bar (bar_of h m job p person) refl free
      where
        by_bar : (first : Option Bar) → bar_of h m job p person ≡ first → is_none first ≡ true → IsClear h m job p
        by_bar None first free = record { person = person; enrolled = is; clear = first }
        by_bar (Some bar) first free = absurd (false≢true free)

not-free : (h : History) (m : ℕ) (job : JobValue) (p : ℕ) → IsBarred h m job p → is_free h m job p ≡ false
not-free h m job p b = ap (may_have h m job p) b.enrolled ∙ ap is_none b.barred

-- ---- positions of a chain

abbrev are_free : History → ℕ → JobValue → Link → Bool
are_free h m job link = is_free h m job link.person

none-barred : (h : History) (m : ℕ) (job : JobValue) (positions : List Link) → All (λ (link : Link). IsEnrolled h link.person) positions
    → find (are_free h m job) positions ≡ None → AreBarred h m job positions
none-barred h m job [] known none = All-nil (λ (link : Link). IsBarred h m job link.person)
none-barred h m job (link ∷ positions) known none =
    go (is_free h m job link.person) refl none (none-barred h m job positions (All-tail (λ (x : Link). IsEnrolled h x.person) link positions known))
  where
    go : (free : Bool) → is_free h m job link.person ≡ free → cond free (Some link) (find (are_free h m job) positions) ≡ None
        → (find (are_free h m job) positions ≡ None → AreBarred h m job positions) → AreBarred h m job (link ∷ positions)
    go true is none rest = cc
    go false is none rest =
        All-cons (λ (x : Link). IsBarred h m job x.person) link positions (barred-person h m job link.person (known 0 link (omega arith)) is) (rest none)

barred-none : (h : History) (m : ℕ) (job : JobValue) (positions : List Link) → AreBarred h m job positions → find (are_free h m job) positions ≡ None
barred-none h m job [] barred = refl
barred-none h m job (link ∷ positions) barred =
    rw (not-free h m job link.person (barred 0 link (omega arith)))
    (barred-none h m job positions (All-tail (λ (x : Link). IsBarred h m job x.person) link positions barred))

-- the first position whose person is free, and what stands before and behind it
record Found (h : History) (m : ℕ) (job : JobValue) (positions : List Link) (link : Link) : Type 0 where
  before : List Link
  behind : List Link
  positions_are : positions ≡ before ++ link ∷ behind
  barred : AreBarred h m job before
  free : is_free h m job link.person ≡ true

found-first : (h : History) (m : ℕ) (job : JobValue) (positions : List Link) (link : Link) → All (λ (x : Link). IsEnrolled h x.person) positions
    → find (are_free h m job) positions ≡ Some link → Found h m job positions link
found-first h m job [] link known found = cc
found-first h m job (x ∷ positions) link known found =
    go (is_free h m job x.person) refl found (found-first h m job positions link (All-tail (λ (y : Link). IsEnrolled h y.person) x positions known))
  where
    go : (free : Bool) → is_free h m job x.person ≡ free → cond free (Some x) (find (are_free h m job) positions) ≡ Some link
        → (find (are_free h m job) positions ≡ Some link → Found h m job positions link) → Found h m job (x ∷ positions) link
    go true is found rest =
        let same : x ≡ link = cc in record {
          before = [];
          behind = positions;
          positions_are = ap (λ y. y ∷ positions) same;
          barred = All-nil (λ (y : Link). IsBarred h m job y.person);
          free = subst (λ (y : Link). is_free h m job y.person ≡ true) same is;
        }
    go false is found rest =
        let later = rest found in record {
          before = x ∷ later.before;
          behind = later.behind;
          positions_are = ap (λ all. x ∷ all) later.positions_are;
          barred = All-cons (λ (y : Link). IsBarred h m job y.person) x later.before (barred-person h m job x.person (known 0 x (omega arith)) is) later.barred;
          free = later.free;
        }

-- ---- the vacancy

-- what is answered of a vacancy that is open
pub open-answer : (h : History) (m v : ℕ) (job : JobValue) → IsOpen h m v job
    → next_answer h m v ≡ choice_answer (length (chain h job.chain)) (first_free h m job)
open-answer h m v job is_open =
    let in_time : nat_lt job.report m ≡ false = grind (arith, nat_tests, is_open.in_time) in
    ap (known_answer h m v) is_open.made ∙ ap (λ how. unless_closed how (vacant_answer h m job)) is_open.vacant
    ∙ ap (λ late. cond late (reply.Lapsed job.report) (choice_answer (length (chain h job.chain)) (first_free h m job))) in_time

-- it is unfilled where all are barred
pub unfilled-barred : (h : History) (m v : ℕ) (job : JobValue) → IsLegal h → IsOpen h m v job
    → IsUnfilled h job (next_answer h m v) → AreBarred h m job (chain h job.chain)
unfilled-barred h m v job legal is_open is = go (first_free h m job) refl (sym (open-answer h m v job is_open) ∙ is)
  where
    go : (first : Option Link) → first_free h m job ≡ first → choice_answer (length (chain h job.chain)) first ≡ reply.Unfilled (length (chain h job.chain)) → AreBarred h m job (chain h job.chain)
    go None first is = none-barred h m job (chain h job.chain) (chain-enrolled h job.chain legal) first
    go (Some link) first is = cc

pub barred-unfilled : (h : History) (m v : ℕ) (job : JobValue) → IsOpen h m v job → AreBarred h m job (chain h job.chain) → IsUnfilled h job (next_answer h m v)
barred-unfilled h m v job is_open barred =
    open-answer h m v job is_open ∙ ap (choice_answer (length (chain h job.chain))) (barred-none h m job (chain h job.chain) barred)

-- what a search finds is the first who is clear
pub found-clear : (h : History) (m : ℕ) (job : JobValue) (link : Link) → IsLegal h → first_free h m job ≡ Some link → IsFirstClear h m job link
found-clear h m job link legal first =
    let found = found-first h m job (chain h job.chain) link (chain-enrolled h job.chain legal) first in
    record {
      before = found.before;
      behind = found.behind;
      chain_is = found.positions_are;
      barred = found.barred;
      clear = clear-person h m job link.person found.free;
    }

-- the first who is clear is offered it
clear-free : (h : History) (m : ℕ) (job : JobValue) (p : ℕ) → IsClear h m job p → is_free h m job p ≡ true
clear-free h m job p c = ap (may_have h m job p) c.enrolled ∙ ap is_none c.clear

clear-found : (h : History) (m : ℕ) (job : JobValue) (link : Link) → IsFirstClear h m job link → first_free h m job ≡ Some link
clear-found h m job link first =
    ap (find (are_free h m job)) first.chain_is
    ∙ find-append (are_free h m job) first.before (link ∷ first.behind)
    ∙ rw (barred-none h m job first.before first.barred, clear-free h m job link.person first.clear) refl

pub first-offered : (h : History) (m v : ℕ) (job : JobValue) (link : Link) → IsOpen h m v job → IsFirstClear h m job link
    → next_answer h m v ≡ reply.Offered link.person link.board link.position
first-offered h m v job link is_open first = open-answer h m v job is_open ∙ ap (choice_answer (length (chain h job.chain))) (clear-found h m job link first)
