-- What is registered, listed, offered and assigned in a legal history has its values in their ranges.
use Rattle.std.proofs.Common.{◌≡◌, ℕ, ◌+◌, ◌≤◌, Bool, true, false, cond, ◌&&◌, nat_eq, Option, None, Some, IfSome, unwrap_or, List, [], ◌∷◌, length, refl, subst, arith}
use Rattle.desk_model.specs.declared.limits.TheConstants.{POSITION_LIMIT}
use Rattle.std.specs.Option.{option_map, option_or}
use Rattle.std.specs.Str.{bytes_eq}
use Rattle.std.specs.List.{All}
use Rattle.std.proofs.lemmas.List.Elements.{All-nil, All-cons, All-head, All-tail, All-append, All-filter}
use Rattle.desk_base.specs.Code.{IsCode}
use Rattle.desk_base.specs.Minute.{IsInYears}
use Rattle.desk_base.specs.Number.{IsNumber}
use Rattle.duty_events.specs.declared.event.Event.{Event}
use Rattle.duty_events.specs.declared.event.Event.TheVariants as event
use Rattle.desk_model.specs.declared.command.Cmd.{Cmd}
use Rattle.desk_model.specs.declared.command.Cmd.TheVariants as cmd
use Rattle.desk_model.specs.declared.link.Link.{Link}
use Rattle.desk_model.specs.declared.offer.Offer.{Offer}
use Rattle.desk_model.specs.declared.person.Person.{Person}
use Rattle.desk_model.specs.declared.reply.Reply.{Reply}
use Rattle.desk_model.specs.declared.reply.Reply.TheVariants as reply
use Rattle.desk_model.specs.statements.Job.{JobValue}
use Rattle.desk_model.specs.statements.Entry.{EntryValue}
use Rattle.desk_model.specs.statements.Fits.{IsJob, IsCommand, FitsReply, Fits}
use Rattle.desk_model.specs.histories.History.{History, step_of, steps, said, last_of}
use Rattle.desk_model.specs.histories.Register.{enrols, makes, makes_any, person_of, board_of, vacancy_of, vacancies}
use Rattle.desk_model.specs.offers.Offers.{asks_for, offer_in, is_of, settles, is_to, offer_said, open_offer, on_offer}
use Rattle.desk_model.specs.boards.Boards.{is_on, released, is_at, declined, sends, sent, sent_to, keep_last, order, links, chain}
use Rattle.desk_model.specs.offers.Assigned.{reports, is_assigned, accepts, accepted_by, only_if, assigned, holder, begins, begun_by, begun}
use Rattle.desk_model.specs.histories.Legal.{IsNext, IsLegal}
use Rattle.desk_model.proofs.BoundLemmas.{length-order}
use Rattle.desk_model.proofs.FoundLemmas.{Tells, first_of-tells, last_of-says, All-filter_map, IfSome-find, All-keep_last, said-fits}
use Rattle.desk_model.proofs.LegalLemmas.{each-step}
use Rattle.desk_model.proofs.SaidLemmas.{said-some}

-- ---- the register

abbrev pub FitsPerson : Person → Type 0
FitsPerson person = IsCode person.home

enrols-fits : (p : ℕ) (c : Cmd) (person : Person) → IsCommand c → enrols p c ≡ Some person → FitsPerson person
enrols-fits p (cmd.Enrol q craft home quals) person is told = go (nat_eq q p) told
  where
    go : (mine : Bool) → cond mine (Some (record { craft = craft; home = home })) None ≡ Some person → FitsPerson person
    go true told = let home_is : home ≡ person.home = cc in subst IsCode home_is is.1
    go false told = cc
enrols-fits p other person is told = cc

pub person-fits : (h : History) (p : ℕ) → All Fits h.entries → (person : Person) → person_of h p ≡ Some person → FitsPerson person
person-fits h p all = first_of-tells (said (enrols p)) FitsPerson h.entries (said-fits (enrols p) FitsPerson (enrols-fits p) h.entries all)

makes-fits : (v : ℕ) (c : Cmd) (job : JobValue) → IsCommand c → makes v c ≡ Some job → IsJob job
makes-fits v (cmd.Vacancy j) job is told = go (nat_eq j.vac v) told
  where
    go : (mine : Bool) → cond mine (Some j) None ≡ Some job → IsJob job
    go true told = let same : j ≡ job = cc in subst IsJob same is
    go false told = cc
makes-fits v other job is told = cc

pub job-fits : (h : History) (v : ℕ) → All Fits h.entries → (job : JobValue) → vacancy_of h v ≡ Some job → IsJob job
job-fits h v all = first_of-tells (said (makes v)) IsJob h.entries (said-fits (makes v) IsJob (makes-fits v) h.entries all)

makes_any-fits : (c : Cmd) (v : ℕ) → IsCommand c → makes_any c ≡ Some v → IsNumber v
makes_any-fits (cmd.Vacancy j) v is told = let same : j.vac ≡ v = cc in subst IsNumber same is.vac
makes_any-fits other v is told = cc

vacancies-fit : (h : History) → All Fits h.entries → All IsNumber (vacancies h)
vacancies-fit h all = All-filter_map (said makes_any) IsNumber h.entries (said-fits makes_any IsNumber makes_any-fits h.entries all)

-- ---- boards

released-fits : (b : List ℕ) (h : History) (q : ℕ) (e : Event) (p : ℕ) → IsNumber q → released (board_of h b) q e ≡ Some p → IsNumber p
released-fits b h q (event.Final t place) p is told = go (is_at place (board_of h b)) told
  where
    go : (here : Bool) → cond here (Some q) None ≡ Some p → IsNumber p
    go true told = let same : q ≡ p = cc in subst IsNumber same is
    go false told = cc
released-fits b h q other p is told = cc

sends-fits : (b : List ℕ) (h : History) (c : Cmd) (p : ℕ) → IsCommand c → sends b h c ≡ Some p → IsNumber p
sends-fits b h (cmd.List q board) p is told = go (bytes_eq board b) told
  where
    go : (here : Bool) → cond here (Some q) None ≡ Some p → IsNumber p
    go true told = let same : q ≡ p = cc in subst IsNumber same is.0
    go false told = cc
sends-fits b h (cmd.MarkOn q) p is told = let same : q ≡ p = cc in subst IsNumber same is
sends-fits b h (cmd.Decline v q) p is told = go (open_offer h v) told
  where
    go : (offer : Option Offer) → declined b offer q ≡ Some p → IsNumber p
    go None told = cc
    go (Some offer) told = by_board (bytes_eq offer.board b) told
      where
        by_board : (here : Bool) → cond here (Some q) None ≡ Some p → IsNumber p
        by_board true told = let same : q ≡ p = cc in subst IsNumber same is.1
        by_board false told = cc
sends-fits b h (cmd.Happened q e) p is told = released-fits b h q e p is.0 told
sends-fits b h other p is told = cc

sent-fits : (b : List ℕ) (h : History) (e : EntryValue) → IsLegal h → IsNext h e → Tells (sent b) IsNumber (step_of h e)
sent-fits b h e legal is = λ p told. let parts = said-some (sends b h) e p told in sends-fits b h e.stated.cmd p is.may.stated.cmd parts.1

pub order-fits : (h : History) (b : List ℕ) → IsLegal h → All IsNumber (order h b)
order-fits h b legal =
    All-filter (λ p. is_on h p b) IsNumber (keep_last (sent_to h b))
    (All-keep_last IsNumber (sent_to h b) (All-filter_map (sent b) IsNumber (steps h) (each-step (Tells (sent b) IsNumber) (sent-fits b) h legal)))

abbrev pub FitsLink : Link → Type 0
FitsLink link = IsNumber link.person × IsCode link.board × (1 ≤ link.position) × (link.position ≤ POSITION_LIMIT)

links-fit : (b : List ℕ) (k : ℕ) (ps : List ℕ) → IsCode b → 1 ≤ k → k + length ps ≤ 10_000 → All IsNumber ps → All FitsLink (links b k ps)
links-fit b k [] code some few all = All-nil FitsLink
links-fit b k (p ∷ ps) code some few all =
    All-cons FitsLink (record { board = b; position = k; person = p }) (links b (k + 1) ps)
    (All-head IsNumber p ps all, code, some, omega (arith, few))
    (links-fit b (k + 1) ps code (omega arith) (omega (arith, few)) (All-tail IsNumber p ps all))

pub chain-fits : (h : History) (codes : List (List ℕ)) → IsLegal h → All IsCode codes → All FitsLink (chain h codes)
chain-fits h [] legal all = All-nil FitsLink
chain-fits h (b ∷ codes) legal all =
    All-append FitsLink (links b 1 (order h b)) (chain h codes)
    (links-fit b 1 (order h b) (All-head IsCode b codes all) (omega arith) (omega (arith, length-order h b legal)) (order-fits h b legal))
    (chain-fits h codes legal (All-tail IsCode b codes all))

-- ---- offers

-- it is to somebody, and was made in the years 2000 to 2099
abbrev pub IsOffer : Offer → Type 0
IsOffer offer = IsNumber offer.person × IsInYears offer.made

offer_in-fits : (m : ℕ) (r : Reply) (offer : Offer) → IsInYears m → FitsReply r → offer_in m r ≡ Some offer → IsOffer offer
offer_in-fits m (reply.Offered p b k) offer in_years is made =
    let same : p ≡ offer.person = cc in let at : m ≡ offer.made = cc in (subst IsNumber same is.0, subst IsInYears at in_years)
offer_in-fits m other offer in_years is made = cc

abbrev FitsOffer : Option Offer → Type 0
FitsOffer o = IfSome o IsOffer

offer_said-fits : (v : ℕ) (e : EntryValue) → Fits e → Tells (offer_said v) FitsOffer e
offer_said-fits v e is o told = go (is_of v (asks_for e.stated.cmd)) (offer_in e.moment e.reply) refl (is_of v (said settles e)) told
  where
    ended : (ends : Bool) → cond ends (Some None) None ≡ Some o → FitsOffer o
    ended true told = let same : None ≡ o = cc in subst FitsOffer same tt
    ended false told = cc

    go : (mine : Bool) (made : Option Offer) → offer_in e.moment e.reply ≡ made → (ends : Bool)
        → option_or (cond mine (option_map (λ offer. Some offer) made) None) (cond ends (Some None) None) ≡ Some o → FitsOffer o
    go false made by ends told = ended ends told
    go true None by ends told = ended ends told
    go true (Some offer) by ends told = let same : Some offer ≡ o = cc in subst FitsOffer same (offer_in-fits e.moment e.reply offer is.moment is.reply by)

pub open_offer-fits : (h : History) (v : ℕ) → All Fits h.entries → FitsOffer (open_offer h v)
open_offer-fits h v all = go (last_of (offer_said v) h.entries) refl
  where
    go : (last : Option (Option Offer)) → last_of (offer_said v) h.entries ≡ last → FitsOffer (unwrap_or last None)
    go None is = tt
    go (Some o) is = last_of-says (offer_said v) FitsOffer h.entries (λ k d within. offer_said-fits v _ (all k d within)) o is

pub on_offer-fits : (h : History) (p : ℕ) → All Fits h.entries → IfSome (on_offer h p) IsNumber
on_offer-fits h p all = IfSome-find (λ w. is_to p (open_offer h w)) IsNumber (vacancies h) (vacancies-fit h all)

-- ---- assignments

accepts-fits : (p : ℕ) (c : Cmd) (v : ℕ) → IsCommand c → accepts p c ≡ Some v → IsNumber v
accepts-fits p (cmd.Accept vac person) v is told = go (nat_eq person p) told
  where
    go : (mine : Bool) → cond mine (Some vac) None ≡ Some v → IsNumber v
    go true told = let same : vac ≡ v = cc in subst IsNumber same is.0
    go false told = cc
accepts-fits p other v is told = cc

accepted_by-fits : (v : ℕ) (c : Cmd) (p : ℕ) → IsCommand c → accepted_by v c ≡ Some p → IsNumber p
accepted_by-fits v (cmd.Accept vac person) p is told = go (nat_eq vac v) told
  where
    go : (mine : Bool) → cond mine (Some person) None ≡ Some p → IsNumber p
    go true told = let same : person ≡ p = cc in subst IsNumber same is.1
    go false told = cc
accepted_by-fits v other p is told = cc

begins-fits : (v : ℕ) (h : History) (c : Cmd) (p : ℕ) → IsCommand c → begins v h c ≡ Some p → IsNumber p
begins-fits v h (cmd.Happened person event) p is told = go (reports event && is_assigned h person v) told
  where
    go : (mine : Bool) → cond mine (Some person) None ≡ Some p → IsNumber p
    go true told = let same : person ≡ p = cc in subst IsNumber same is.0
    go false told = cc
begins-fits v h other p is told = cc

-- what passes a test has its range
only_if-fits : (test : ℕ → Bool) (o : Option ℕ) → ((n : ℕ) → o ≡ Some n → IsNumber n) → IfSome (only_if test o) IsNumber
only_if-fits test None fits = tt
only_if-fits test (Some n) fits = go (test n)
  where
    go : (passes : Bool) → IfSome (cond passes (Some n) None) IsNumber
    go true = fits n refl
    go false = tt

pub assigned-fits : (h : History) (p : ℕ) → All Fits h.entries → IfSome (assigned h p) IsNumber
assigned-fits h p all = only_if-fits (is_assigned h p) (last_of (said (accepts p)) h.entries) (last_of-says (said (accepts p)) IsNumber h.entries (said-fits (accepts p) IsNumber (accepts-fits p) h.entries all))

pub holder-fits : (h : History) (v : ℕ) → All Fits h.entries → IfSome (holder h v) IsNumber
holder-fits h v all =
    only_if-fits (λ p. is_assigned h p v) (last_of (said (accepted_by v)) h.entries) (last_of-says (said (accepted_by v)) IsNumber h.entries (said-fits (accepted_by v) IsNumber (accepted_by-fits v) h.entries all))

begun_by-fits : (v : ℕ) (h : History) (e : EntryValue) → IsLegal h → IsNext h e → Tells (begun_by v) IsNumber (step_of h e)
begun_by-fits v h e legal is = λ p told. let parts = said-some (begins v h) e p told in begins-fits v h e.stated.cmd p is.may.stated.cmd parts.1

pub begun-fits : (h : History) (v p : ℕ) → IsLegal h → begun h v ≡ Some p → IsNumber p
begun-fits h v p legal = first_of-tells (begun_by v) IsNumber (steps h) (each-step (Tells (begun_by v) IsNumber) (begun_by-fits v) h legal) p
