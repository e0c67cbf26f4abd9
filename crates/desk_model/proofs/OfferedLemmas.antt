-- What an entry says that offers a vacancy, denies it, or tells that another would be run around.
use Rattle.std.proofs.Common.{◌≡◌, ◌≤◌, inl, inr, ℕ, Bool, true, false, cond, ◌||◌, nat_eq, is_none, Option, None, Some, List, [], ◌∷◌, length, refl, sym, ap, subst, ◌∙◌}
use Rattle.std.specs.List.{find, list_any}
use Rattle.std.proofs.lemmas.Bool.{false≢true}
use Rattle.desk_model.specs.declared.command.Cmd.{Cmd}
use Rattle.desk_model.specs.declared.command.Cmd.TheVariants as cmd
use Rattle.desk_model.specs.declared.link.Link.{Link}
use Rattle.desk_model.specs.declared.person.Person.{Person}
use Rattle.desk_model.specs.declared.reply.Reply.{Reply}
use Rattle.desk_model.specs.declared.reply.Reply.TheVariants as reply
use Rattle.desk_model.specs.declared.vac_state.VacState.TheVariants as state
use Rattle.desk_model.specs.statements.Job.{JobValue}
use Rattle.desk_model.specs.statements.Entry.{EntryValue}
use Rattle.desk_model.specs.histories.History.{History}
use Rattle.desk_model.specs.histories.Register.{person_of, vacancy_of}
use Rattle.desk_model.specs.boards.Boards.{chain}
use Rattle.desk_model.specs.offers.Offers.{asks_for}
use Rattle.desk_model.specs.offers.States.{state_of}
use Rattle.desk_model.specs.offers.Bars.{bar_of, may_have, is_free, first_free}
use Rattle.desk_model.specs.answers.NextAnswer.{choice_answer}
use Rattle.desk_model.specs.answers.ExplainAnswer.{position_in}
use Rattle.desk_model.specs.answers.OfferAnswer.{named_answer}
use Rattle.desk_model.specs.histories.Legal.{answer_to, IsNext}
use Rattle.desk_model.proofs.LegalLemmas.{reply-is}
use Rattle.desk_model.proofs.OrderLemmas.{same_number}
use Rattle.desk_model.proofs.JudgedLemmas.{is_call, other-no, IsJudged, IsKnown, IsChosen, explained, called, chosen}

-- ---- searches

pub find-passes : {X : Type 0} (test : X → Bool) (xs : List X) (x : X) → find test xs ≡ Some x → test x ≡ true
find-passes test [] x found = cc
find-passes test (y ∷ ys) x found = go (test y) refl (find-passes test ys x) found
  where
    go : (passes : Bool) → test y ≡ passes → (find test ys ≡ Some x → test x ≡ true) → cond passes (Some y) (find test ys) ≡ Some x → test x ≡ true
    go true is rest found = let same : y ≡ x = cc in subst (λ z. test z ≡ true) same is
    go false is rest found = rest found

pub find-any : {X : Type 0} (test : X → Bool) (xs : List X) (x : X) → find test xs ≡ Some x → list_any test xs ≡ true
find-any test [] x found = cc
find-any test (y ∷ ys) x found = go (test y) (find-any test ys x) found
  where
    go : (passes : Bool) → (find test ys ≡ Some x → list_any test ys ≡ true) → cond passes (Some y) (find test ys) ≡ Some x → (passes || list_any test ys) ≡ true
    go true rest found = refl
    go false rest found = rest found

-- what passes a narrower test too is the first that does
find-narrow : {X : Type 0} (wide narrow : X → Bool) → ((x : X) → narrow x ≡ true → wide x ≡ true) → (xs : List X) (x : X)
    → find wide xs ≡ Some x → narrow x ≡ true → find narrow xs ≡ Some x
find-narrow wide narrow fits [] x found passes = cc
find-narrow wide narrow fits (y ∷ ys) x found passes = go (wide y) (narrow y) refl refl (λ later. find-narrow wide narrow fits ys x later passes) found
  where
    go : (w n : Bool) → wide y ≡ w → narrow y ≡ n → (find wide ys ≡ Some x → find narrow ys ≡ Some x) → cond w (Some y) (find wide ys) ≡ Some x → cond n (Some y) (find narrow ys) ≡ Some x
    go true true is also rest found = found
    go true false is also rest found = let same : y ≡ x = cc in absurd (false≢true (sym also ∙ ap narrow same ∙ passes))
    go false true is also rest found = absurd (false≢true (sym is ∙ fits y also))
    go false false is also rest found = rest found

-- and where nothing passes a test, nothing passes a narrower one
find-nothing : {X : Type 0} (wide narrow : X → Bool) → ((x : X) → narrow x ≡ true → wide x ≡ true) → (xs : List X) → find wide xs ≡ None → find narrow xs ≡ None
find-nothing wide narrow fits [] none = refl
find-nothing wide narrow fits (y ∷ ys) none = go (wide y) (narrow y) refl refl (find-nothing wide narrow fits ys) none
  where
    go : (w n : Bool) → wide y ≡ w → narrow y ≡ n → (find wide ys ≡ None → find narrow ys ≡ None) → cond w (Some y) (find wide ys) ≡ None → cond n (Some y) (find narrow ys) ≡ None
    go true n is also rest none = cc
    go false true is also rest none = absurd (false≢true (sym is ∙ fits y also))
    go false false is also rest none = rest none

-- ---- offers

abbrev pub link_of : List ℕ → ℕ → ℕ → Link
link_of b k p = record { board = b; position = k; person = p }

-- the vacancy was made as a job; it is vacant, and the moment is not after its report; and this position is the first of its chain whose person is free
pub record WasOffered (h : History) (m v : ℕ) (link : Link) : Type 0 where
  pub job : JobValue
  pub made : vacancy_of h v ≡ Some job
  pub vacant : state_of h v ≡ state.Vacant
  pub in_time : m ≤ job.report
  pub first : first_free h m job ≡ Some link

same_link : (link : Link) (p k : ℕ) (b : List ℕ) → reply.Offered link.person link.board link.position ≡ reply.Offered p b k → link ≡ link_of b k p
same_link link p k b is =
    let board : link.board ≡ b = cc in
    let position : link.position ≡ k = cc in
    let person : link.person ≡ p = cc in
    ap (λ x. link_of x link.position link.person) board ∙ ap (λ x. link_of b x link.person) position ∙ ap (link_of b k) person

next-offered : (h : History) (m v p k : ℕ) (b : List ℕ) → IsChosen h m v (reply.Offered p b k) → WasOffered h m v (link_of b k p)
next-offered h m v p k b is = record { job = is.job; made = is.made; vacant = is.vacant; in_time = is.in_time; first = go (first_free h m is.job) is.so }
  where
    go : (first : Option Link) → choice_answer (length (chain h is.job.chain)) first ≡ reply.Offered p b k → first ≡ Some (link_of b k p)
    go None so = cc
    go (Some link) so = ap Some (same_link link p k b so)

-- whom no bar holds is free, and so is each position of theirs
free-person : (h : History) (m : ℕ) (job : JobValue) (p : ℕ) (person : Person) → person_of h p ≡ Some person → bar_of h m job p person ≡ None → is_free h m job p ≡ true
free-person h m job p person enrolled none = ap (may_have h m job p) enrolled ∙ ap is_none none

free-positions : (h : History) (m : ℕ) (job : JobValue) (p : ℕ) → is_free h m job p ≡ true → (link : Link) → nat_eq link.person p ≡ true → is_free h m job link.person ≡ true
free-positions h m job p free link same = ap (is_free h m job) (same_number link.person p same) ∙ free

-- the first of the chain who is free, where a person is who stands there
pub record IsFirstFor (h : History) (m : ℕ) (job : JobValue) (p : ℕ) (link : Link) (r : Reply) : Type 0 where
  pub first : Link
  pub is : first_free h m job ≡ Some first
  pub so : cond (nat_eq first.person p) (reply.Offered p link.board link.position) (reply.RunAround first.person) ≡ r

named : (h : History) (m : ℕ) (job : JobValue) (p : ℕ) (link : Link) (r : Reply) → is_free h m job p ≡ true → position_in (chain h job.chain) p ≡ Some link
    → named_answer p (first_free h m job) link ≡ r → IsFirstFor h m job p link r
named h m job p link r free position is = go (first_free h m job) refl is
  where
    go : (first : Option Link) → first_free h m job ≡ first → named_answer p first link ≡ r → IsFirstFor h m job p link r
    go None none is =
        let nowhere = find-nothing (λ (l : Link). is_free h m job l.person) (λ l. nat_eq l.person p) (free-positions h m job p free) (chain h job.chain) none in cc
    go (Some first) some is = record { first = first; is = some; so = is }

offer-offered : (h : History) (m v q p k : ℕ) (b : List ℕ) (job : JobValue) (person : Person) → IsKnown h v q job person → state_of h v ≡ state.Vacant
    → IsJudged h m job q (named_answer q (first_free h m job)) person (reply.Offered p b k) → WasOffered h m v (link_of b k p)
offer-offered h m v q p k b job person known vacant judged = elim judged.so [
  | inl denied ↦ let no : reply.Offered p b k ≡ reply.Denied denied.0 = denied.1.1 in cc
  | inr clear ↦
      let free = free-person h m job q person known.enrolled clear.0 in
      let found = named h m job q judged.link (reply.Offered p b k) free judged.position clear.1 in
      go free found.first found.is (nat_eq found.first.person q) refl found.so
]
  where
    go : is_free h m job q ≡ true → (first : Link) → first_free h m job ≡ Some first → (mine : Bool) → nat_eq first.person q ≡ mine
        → cond mine (reply.Offered q judged.link.board judged.link.position) (reply.RunAround first.person) ≡ reply.Offered p b k → WasOffered h m v (link_of b k p)
    go free first is false other so = cc
    go free first is true mine so =
        let narrow = find-narrow (λ (l : Link). is_free h m job l.person) (λ l. nat_eq l.person q) (free-positions h m job q free) (chain h job.chain) first is mine in
        let same : first ≡ judged.link = cc in
        let person_is : judged.link.person ≡ q = same_number judged.link.person q (find-passes (λ (l : Link). nat_eq l.person q) (chain h job.chain) judged.link judged.position) in
        let link_is : judged.link ≡ link_of b k p = same_link judged.link p k b (ap (λ n. reply.Offered n judged.link.board judged.link.position) person_is ∙ so) in
        record { job = job; made = known.made; vacant = vacant; in_time = judged.in_time; first = is ∙ ap Some (same ∙ link_is) }

-- ---- entries

-- what is answered as one of these is what the command was answered
pub entry-called : (h : History) (e : EntryValue) (r : Reply) → IsNext h e → e.reply ≡ r → is_call r ≡ true → answer_to h e.moment e.stated.cmd ≡ r
entry-called h e r is told call = elim (reply-is h e is) [
  | inl outside ↦ absurd (false≢true (ap is_call (sym outside ∙ told) ∙ call))
  | inr answer ↦ sym answer ∙ told
]

-- an entry that offers, which the rules give: it asked for a vacancy, and this was offered
pub entry-offered : (h : History) (e : EntryValue) (p k : ℕ) (b : List ℕ) → IsNext h e → e.reply ≡ reply.Offered p b k
    → (v : ℕ) × ((asks_for e.stated.cmd ≡ Some v) × WasOffered h e.moment v (link_of b k p))
entry-offered h e p k b is told = go e.stated.cmd (entry-called h e (reply.Offered p b k) is told refl)
  where
    go : (c : Cmd) → answer_to h e.moment c ≡ reply.Offered p b k → (v : ℕ) × ((asks_for c ≡ Some v) × WasOffered h e.moment v (link_of b k p))
    go (cmd.Next v) answer = (v, (refl, next-offered h e.moment v p k b (chosen h e.moment v (reply.Offered p b k) refl answer)))
    go (cmd.Offer v q) answer =
        let found = called h e.moment v q (reply.Offered p b k) refl answer in
        (v, (refl, offer-offered h e.moment v q p k b found.0 found.1.0 found.1.1.0 found.1.1.1.0 found.1.1.1.1))
    go (cmd.Explain v q) answer = elim (explained h e.moment v q (reply.Offered p b k) refl answer).1.1.1.so [
      | inl denied ↦ let no : reply.Offered p b k ≡ reply.Denied denied.0 = denied.1.1 in cc
      | inr clear ↦ let no = clear.1 in cc
    ]
    go other answer = absurd (false≢true (sym (other-no h e.moment other refl) ∙ ap is_call answer))
