-- What is answered of a vacancy in a legal history has its values in their ranges.
use Rattle.std.proofs.Common.{◌≡◌, ℕ, Bool, true, false, cond, nat_eq, Option, None, Some, IfSome, length, refl, arith}
use Rattle.std.specs.List.{All}
use Rattle.desk_base.specs.Number.{IsNumber}
use Rattle.denial_rules.specs.declared.bar.Bar.{Bar}
use Rattle.denial_rules.specs.Bar.{FitsBar}
use Rattle.desk_model.specs.declared.link.Link.{Link}
use Rattle.desk_model.specs.declared.offer.Offer.{Offer}
use Rattle.desk_model.specs.declared.person.Person.{Person}
use Rattle.desk_model.specs.declared.reply.Reply.{Reply}
use Rattle.desk_model.specs.declared.reply.Reply.TheVariants as reply
use Rattle.desk_model.specs.declared.vac_state.VacState.{VacState}
use Rattle.desk_model.specs.declared.vac_state.VacState.TheVariants as state
use Rattle.desk_model.specs.statements.Job.{JobValue}
use Rattle.desk_model.specs.statements.Fits.{IsJob, FitsState, FitsReply, Fits}
use Rattle.desk_model.specs.histories.History.{History}
use Rattle.desk_model.specs.histories.Register.{person_of, vacancy_of}
use Rattle.desk_model.specs.offers.Offers.{open_offer}
use Rattle.desk_model.specs.boards.Boards.{chain}
use Rattle.desk_model.specs.offers.Assigned.{holder, begun, is_annulled}
use Rattle.desk_model.specs.offers.States.{open_state, taken_state, begun_state, state_of}
use Rattle.desk_model.specs.offers.Bars.{bar_of, is_free, first_free}
use Rattle.desk_model.specs.answers.NextAnswer.{choice_answer, vacant_answer, unless_closed, known_answer, next_answer}
use Rattle.desk_model.specs.answers.ExplainAnswer.{position_in, position_answer, judged_by, clear_answer, person_answer, job_answer, explain_answer}
use Rattle.desk_model.specs.answers.OfferAnswer.{named_answer, called_answer, offer_made_answer, offer_answer}
use Rattle.desk_model.specs.histories.Legal.{IsLegal}
use Rattle.desk_model.proofs.BoundLemmas.{length-chain-most}
use Rattle.desk_model.proofs.FoundLemmas.{find-passes, IfSome-find}
use Rattle.desk_model.proofs.PlanLemmas.{vacancy-in_years}
use Rattle.desk_model.proofs.FitRegisterLemmas.{FitsLink, IsOffer, person-fits, job-fits, chain-fits, open_offer-fits, holder-fits, begun-fits}
use Rattle.desk_model.proofs.FitBarLemmas.{LawFits, bar-fits}

-- ---- what a reply that is chosen by a test keeps

pub either-fits : (test : Bool) (one other : Reply) → FitsReply one → FitsReply other → FitsReply (cond test one other)
either-fits true one other is also = is
either-fits false one other is also = also

pub lapsed-fits : (job : JobValue) → IsJob job → FitsReply (reply.Lapsed job.report)
lapsed-fits job is = (is.plan.report_in.0, omega (arith, is.plan.report_in.1))

pub state-fits : (h : History) (v : ℕ) → IsLegal h → All Fits h.entries → FitsState (state_of h v)
state-fits h v legal all = by_annulled (is_annulled h v)
  where
    by_open : (o : Option Offer) → IfSome o IsOffer → FitsState (open_state o)
    by_open None fits = tt
    by_open (Some offer) fits = fits.0

    by_holder : (o : Option ℕ) → IfSome o IsNumber → FitsState (taken_state o (open_state (open_offer h v)))
    by_holder None fits = by_open (open_offer h v) (open_offer-fits h v all)
    by_holder (Some p) fits = fits

    by_begun : (o : Option ℕ) → begun h v ≡ o → FitsState (begun_state o (taken_state (holder h v) (open_state (open_offer h v))))
    by_begun None is = by_holder (holder h v) (holder-fits h v all)
    by_begun (Some p) is = begun-fits h v p legal is

    by_annulled : (over : Bool) → FitsState (cond over state.Annulled (begun_state (begun h v) (taken_state (holder h v) (open_state (open_offer h v)))))
    by_annulled true = tt
    by_annulled false = by_begun (begun h v) refl

pub closed-fits : (how : VacState) (other : Reply) → FitsState how → FitsReply other → FitsReply (unless_closed how other)
closed-fits state.Vacant other fits rest = rest
closed-fits (state.OnOffer p) other fits rest = fits
closed-fits (state.Taken p) other fits rest = fits
closed-fits (state.Begun p) other fits rest = fits
closed-fits state.Annulled other fits rest = tt

pub next-fits : (h : History) (m v : ℕ) → IsLegal h → All Fits h.entries → FitsReply (next_answer h m v)
next-fits h m v legal all = known (vacancy_of h v) refl
  where
    chosen : (job : JobValue) (first : Option Link) → IsJob job → first_free h m job ≡ first → FitsReply (choice_answer (length (chain h job.chain)) first)
    chosen job None is found = omega (arith, length-chain-most h job.chain legal is.chain.most)
    chosen job (Some link) is found = find-passes (λ link. is_free h m job link.person) FitsLink (chain h job.chain) (chain-fits h job.chain legal is.chain.codes) link found

    by_job : (job : JobValue) → IsJob job → FitsReply (vacant_answer h m job)
    by_job job is = let late = lapsed-fits job is in let rest = chosen job (first_free h m job) is refl in search (either-fits, late, rest)

    known : (made : Option JobValue) → vacancy_of h v ≡ made → FitsReply (known_answer h m v made)
    known None made = tt
    known (Some job) made = closed-fits (state_of h v) (vacant_answer h m job) (state-fits h v legal all) (by_job job (job-fits h v all job made))

-- what is answered of a person whom the caller named
judged_by-fits : LawFits → (h : History) (m v p : ℕ) (job : JobValue) (person : Person) (rest : Link → Reply) → IsLegal h → All Fits h.entries
    → vacancy_of h v ≡ Some job → person_of h p ≡ Some person → ((link : Link) → FitsLink link → FitsReply (rest link)) → FitsReply (judged_by h m job p rest person)
judged_by-fits law h m v p job person rest legal all made who fits =
    let is = job-fits h v all job made in
    let late = lapsed-fits job is in
    let barred = bar-fits law h m job p person legal all is (vacancy-in_years h legal v job made) (person-fits h p all person who) in
    let rest_fits = positioned (bar_of h m job p person) (position_in (chain h job.chain) p) barred
    (IfSome-find (λ link. nat_eq link.person p) FitsLink (chain h job.chain) (chain-fits h job.chain legal is.chain.codes)) in
    search (either-fits, late, rest_fits)
  where
    positioned : (b : Option Bar) (position : Option Link) → IfSome b FitsBar → IfSome position FitsLink → FitsReply (position_answer b rest position)
    positioned b None bar_fits link_fits = tt
    positioned None (Some link) bar_fits link_fits = fits link link_fits
    positioned (Some b) (Some link) bar_fits link_fits = bar_fits

pub explain-fits : LawFits → (h : History) (m v p : ℕ) → IsLegal h → All Fits h.entries → FitsReply (explain_answer h m v p)
explain-fits law h m v p legal all = known (vacancy_of h v) refl
  where
    of_person : (job : JobValue) → vacancy_of h v ≡ Some job → (who : Option Person) → person_of h p ≡ who → FitsReply (person_answer h m job p who)
    of_person job made None who = tt
    of_person job made (Some person) who = judged_by-fits law h m v p job person clear_answer legal all made who (λ link fits. (fits.1, fits.2, fits.3))

    known : (made : Option JobValue) → vacancy_of h v ≡ made → FitsReply (job_answer h m p made)
    known None made = tt
    known (Some job) made = of_person job made (person_of h p) refl

pub offer-fits : LawFits → (h : History) (m v p : ℕ) → IsLegal h → All Fits h.entries → IsNumber p → FitsReply (offer_answer h m v p)
offer-fits law h m v p legal all number = known (vacancy_of h v) refl
  where
    named : (first : Option Link) (link : Link) → IfSome first FitsLink → FitsLink link → FitsReply (named_answer p first link)
    named None link first_fits fits = (number, fits.1, fits.2, fits.3)
    named (Some first) link first_fits fits =
        let offered : FitsReply (reply.Offered p link.board link.position) = (number, fits.1, fits.2, fits.3) in
        let around : FitsReply (reply.RunAround first.person) = first_fits.0 in either-fits (nat_eq first.person p) _ _ offered around

    of_person : (job : JobValue) → vacancy_of h v ≡ Some job → (who : Option Person) → person_of h p ≡ who → FitsReply (called_answer h m v job p who)
    of_person job made None who = tt
    of_person job made (Some person) who =
        closed-fits (state_of h v) (judged_by h m job p (named_answer p (first_free h m job)) person) (state-fits h v legal all)
        (judged_by-fits law h m v p job person (named_answer p (first_free h m job)) legal all made who (λ link fits.
        named (first_free h m job) link (IfSome-find (λ link. is_free h m job link.person) FitsLink (chain h job.chain) (chain-fits h job.chain legal (job-fits h v all job made).chain.codes)) fits))

    known : (made : Option JobValue) → vacancy_of h v ≡ made → FitsReply (offer_made_answer h m v p made)
    known None made = tt
    known (Some job) made = of_person job made (person_of h p) refl
