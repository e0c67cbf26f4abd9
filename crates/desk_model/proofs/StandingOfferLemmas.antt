-- In a legal history the vacancy of an open offer was made, and whom it names is enrolled: so the offer may be settled.
use Rattle.std.proofs.Common.{◌≡◌, ℕ, ◌<◌, ◌≤◌, inl, inr, Bool, true, false, cond, nat_eq, nat_lt, Option, None, Some, is_none, is_some, refl, sym, ap, subst, ◌∙◌, arith}
use Rattle.std.proofs.lemmas.Bool.{cases_Bool, false≢true}
use Rattle.std.proofs.lemmas.Bool.Decides.{nat_tests}
use Rattle.std.proofs.lemmas.Option.{same_Some}
use Rattle.desk_model.specs.declared.reply.Reply.{Reply}
use Rattle.desk_model.specs.declared.reply.Reply.TheVariants as reply
use Rattle.desk_model.specs.declared.offer.Offer.{Offer}
use Rattle.desk_model.specs.statements.Entry.{EntryValue}
use Rattle.desk_model.specs.statements.Job.{JobValue}
use Rattle.desk_model.specs.histories.History.{History, with_entry, said}
use Rattle.desk_model.specs.histories.Register.{enrols, makes, person_of, vacancy_of}
use Rattle.desk_model.specs.offers.Offers.{offer_in, open_offer, is_to, deadline}
use Rattle.desk_model.specs.answers.SettleAnswer.{settle_answer, accept_answer, decline_answer, no_answer}
use Rattle.desk_model.specs.laws.RestsOn.{IsEnrolled, IsMade, MaySettle}
use Rattle.desk_model.specs.histories.Legal.{IsNext, IsLegal}
use Rattle.desk_model.proofs.SaidLemmas.{first_of-snoc}
use Rattle.desk_model.proofs.OrderLemmas.{same_number, nat_eq-same}
use Rattle.desk_model.proofs.LegalLemmas.{legal-induction}
use Rattle.desk_model.proofs.OpensLemmas.{Opens, next-says, still-open, stays, opens-this}
use Rattle.desk_model.proofs.ListedLemmas.{still-there, offered-rests}

-- both are there
abbrev AreThere : History → ℕ → ℕ → Type 0
AreThere h v p = IsMade h v × IsEnrolled h p

still : (h : History) (e : EntryValue) (v p : ℕ) → AreThere h v p → AreThere (with_entry h e) v p
still h e v p were = (
  ap is_some (first_of-snoc (said (makes v)) h.entries e) ∙ still-there (vacancy_of h v) (said (makes v) e) were.0,
  ap is_some (first_of-snoc (said (enrols p)) h.entries e) ∙ still-there (person_of h p) (said (enrols p) e) were.1,
)

-- where an entry opens an offer
opens-there : (h : History) (e : EntryValue) (new : Opens h e) → IsLegal h → IsNext h e → AreThere h new.vac new.offer.person
opens-there h e new legal is = go e.reply refl
  where
    go : (r : Reply) → e.reply ≡ r → AreThere h new.vac new.offer.person
    go (reply.Offered p b k) told =
        let rests = offered-rests h e new.vac p k b legal is new.asks told in
        let offer = same_Some _ new.offer (sym (ap (offer_in e.moment) told) ∙ new.makes) in (rests.made, subst (IsEnrolled h) (ap (λ (o : Offer). o.person) offer) rests.listed.enrolled)
    go other told = let none = sym (ap (offer_in e.moment) told) ∙ new.makes in cc

abbrev OpenAreThere : History → Type 0
OpenAreThere h = (v p : ℕ) → is_to p (open_offer h v) ≡ true → AreThere h v p

grown : (h : History) (e : EntryValue) → IsLegal h → IsNext h e → OpenAreThere h → OpenAreThere (with_entry h e)
grown h e legal is was v p to = still h e v p (elim (next-says h e is) [
  | inl none ↦ was v p (still-open h e v p none to)
  | inr new ↦ elim (cases_Bool (nat_eq new.vac v)) [
    | inl this ↦
        let who : new.offer.person ≡ p = same_number new.offer.person p (sym (ap (is_to p) (opens-this h e new v this)) ∙ to) in
        let there = opens-there h e new legal is in
        (subst (IsMade h) (same_number new.vac v this) there.0, subst (IsEnrolled h) who there.1)
    | inr other ↦ was v p (sym (ap (is_to p) (stays h e v (new.no_other v other))) ∙ to)
  ]
])

pub may-settle : (h : History) → IsLegal h → (v p : ℕ) → is_to p (open_offer h v) ≡ true → MaySettle h v p
may-settle h legal v p to =
    let there = legal-induction OpenAreThere (λ o valid w q stands. absurd (false≢true stands)) grown h legal v p to in
    record { made = there.0; enrolled = there.1; to = to }

is_to-whom : (h : History) (v : ℕ) (offer : Offer) → open_offer h v ≡ Some offer → is_to offer.person (open_offer h v) ≡ true
is_to-whom h v offer is = ap (is_to offer.person) is ∙ nat_eq-same offer.person

-- what was never made has no open offer
pub unmade-closed : (h : History) → IsLegal h → (v : ℕ) → vacancy_of h v ≡ None → open_offer h v ≡ None
unmade-closed h legal v unmade = go (open_offer h v) refl
  where
    go : (offer : Option Offer) → open_offer h v ≡ offer → offer ≡ None
    go None is = refl
    go (Some offer) is = absurd (false≢true (sym (ap is_some unmade) ∙ (may-settle h legal v offer.person (is_to-whom h v offer is)).made))

-- ---- the answers to whom it names

there : {X : Type 0} (o : Option X) → is_some o ≡ true → is_none o ≡ false
there None is = absurd (false≢true is)
there (Some x) is = refl

settled-as : (h : History) (v : ℕ) (rest : JobValue → Offer → Reply) (job : JobValue) (offer : Offer) → IsLegal h → vacancy_of h v ≡ Some job → open_offer h v ≡ Some offer
    → settle_answer h v offer.person rest ≡ rest job offer
settled-as h v rest job offer legal made stands =
    let may = may-settle h legal v offer.person (is_to-whom h v offer stands) in
    rw (made, there (person_of h offer.person) may.enrolled, stands, nat_eq-same offer.person) refl

-- the vacancy's job, where an offer of it is open
made-job : (h : History) (v : ℕ) (offer : Offer) → IsLegal h → open_offer h v ≡ Some offer → (job : JobValue) × (vacancy_of h v ≡ Some job)
made-job h v offer legal stands = go (vacancy_of h v) refl
  where
    go : (made : Option JobValue) → vacancy_of h v ≡ made → (job : JobValue) × (made ≡ Some job)
    go None is = absurd (false≢true (sym (ap is_some is) ∙ (may-settle h legal v offer.person (is_to-whom h v offer stands)).made))
    go (Some job) is = (job, refl)

pub decline-done : (h : History) → IsLegal h → (v p : ℕ) → is_to p (open_offer h v) ≡ true → decline_answer h v p ≡ reply.Done
decline-done h legal v p to = go (open_offer h v) refl to
  where
    go : (offer : Option Offer) → open_offer h v ≡ offer → is_to p offer ≡ true → decline_answer h v p ≡ reply.Done
    go None is to = absurd (false≢true to)
    go (Some offer) is to =
        let job = made-job h v offer legal is in
        subst (λ q. decline_answer h v q ≡ reply.Done) (same_number offer.person p to) (settled-as h v (λ j o. reply.Done) job.0 offer legal job.1 is)

accept-as : (h : History) (m v : ℕ) (job : JobValue) (offer : Offer) (late : Bool) → IsLegal h → vacancy_of h v ≡ Some job → open_offer h v ≡ Some offer → nat_lt job.report m ≡ late
    → accept_answer h m v offer.person ≡ cond late (reply.Lapsed job.report) reply.Done
accept-as h m v job offer late legal made stands is =
    settled-as h v (λ j o. cond (nat_lt j.report m) (reply.Lapsed j.report) reply.Done) job offer legal made stands
    ∙ ap (λ b. cond b (reply.Lapsed job.report) reply.Done) is

pub accept-done : (h : History) → IsLegal h → (m v : ℕ) (job : JobValue) (offer : Offer) → vacancy_of h v ≡ Some job → open_offer h v ≡ Some offer → m ≤ job.report
    → accept_answer h m v offer.person ≡ reply.Done
accept-done h legal m v job offer made stands within = accept-as h m v job offer false legal made stands (grind (arith, nat_tests, within))

pub accept-lapsed : (h : History) → IsLegal h → (m v : ℕ) (job : JobValue) (offer : Offer) → vacancy_of h v ≡ Some job → open_offer h v ≡ Some offer → job.report < m
    → accept_answer h m v offer.person ≡ reply.Lapsed job.report
accept-lapsed h legal m v job offer made stands late = accept-as h m v job offer true legal made stands (grind (arith, nat_tests, late))

silent-as : (h : History) (m v : ℕ) (offer : Offer) (soon : Bool) → IsLegal h → open_offer h v ≡ Some offer → nat_lt m (deadline h.opening offer) ≡ soon
    → no_answer h m v offer.person ≡ cond soon (reply.EarlyNoAnswer (deadline h.opening offer)) reply.Done
silent-as h m v offer soon legal stands is =
    let job = made-job h v offer legal stands in
    settled-as h v (λ j o. cond (nat_lt m (deadline h.opening o)) (reply.EarlyNoAnswer (deadline h.opening o)) reply.Done) job.0 offer legal job.1 stands
    ∙ ap (λ b. cond b (reply.EarlyNoAnswer (deadline h.opening offer)) reply.Done) is

pub silent-done : (h : History) → IsLegal h → (m v : ℕ) (offer : Offer) → open_offer h v ≡ Some offer → deadline h.opening offer ≤ m → no_answer h m v offer.person ≡ reply.Done
silent-done h legal m v offer stands over = silent-as h m v offer false legal stands (grind (arith, nat_tests, over))

pub silent-early : (h : History) → IsLegal h → (m v : ℕ) (offer : Offer) → open_offer h v ≡ Some offer → m < deadline h.opening offer
    → no_answer h m v offer.person ≡ reply.EarlyNoAnswer (deadline h.opening offer)
silent-early h legal m v offer stands soon = silent-as h m v offer true legal stands (grind (arith, nat_tests, soon))
