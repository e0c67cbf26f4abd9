-- Each answer in a legal history has its values in their ranges.
use Rattle.std.proofs.Common.{◌≡◌, ℕ, ◌-◌, ◌<◌, ◌^◌, nat_eq, nat_lt, Option, None, Some, IfSome, Result, Ok, Err, is_none, not, List, [], ◌∷◌, length, drop, refl, subst, arith}
use Rattle.std.specs.Option.{option_or}
use Rattle.std.specs.List.{All}
use Rattle.std.proofs.lemmas.List.Elements.{All-tail}
use Rattle.std.proofs.lemmas.Option.{slice_get_within, get_or_from_slice_get}
use Rattle.desk_base.specs.Code.{IsCode}
use Rattle.desk_base.specs.Minute.{IsInYears}
use Rattle.desk_base.specs.Month.{first_minute as month_start, minutes_of}
use Rattle.desk_base.specs.Number.{IsNumber}
use Rattle.desk_base.proofs.MonthLemmas.{length_of_bounds}
use Rattle.duty_events.specs.declared.event.Event.{Event}
use Rattle.duty_events.specs.declared.stage.Stage.{Stage}
use Rattle.duty_events.specs.declared.event_fault.EventFault.{EventFault}
use Rattle.duty_events.specs.Allowed.{allow}
use Rattle.duty_events.specs.Lists.{stage_of, latest}
use Rattle.duty_events.specs.MinuteKind.{is_worked, kind_of}
use Rattle.duty_events.proofs.CountLemmas.{minutes_where-most}
use Rattle.month_hours.specs.Used.{used}
use Rattle.month_hours.specs.Capped.{capped}
use Rattle.month_hours.proofs.CappedLemmas.{capped_minutes-most}
use Rattle.desk_model.specs.declared.command.Cmd.{Cmd}
use Rattle.desk_model.specs.declared.command.Cmd.TheVariants as cmd
use Rattle.desk_model.specs.declared.offer.Offer.{Offer}
use Rattle.desk_model.specs.declared.reply.Reply.{Reply}
use Rattle.desk_model.specs.declared.reply.Reply.TheVariants as reply
use Rattle.desk_model.specs.declared.vac_state.VacState.{VacState}
use Rattle.desk_model.specs.declared.vac_state.VacState.TheVariants as state
use Rattle.desk_model.specs.statements.Opening.{OpeningValue}
use Rattle.desk_model.specs.statements.Job.{JobValue}
use Rattle.desk_model.specs.statements.Fits.{IsJob, IsEvent, IsCommand, FitsState, FitsReply, Fits}
use Rattle.desk_model.specs.histories.History.{History}
use Rattle.desk_model.specs.histories.Register.{person_of, board_of, vacancy_of}
use Rattle.desk_model.specs.offers.Offers.{open_offer, on_offer, deadline}
use Rattle.desk_model.specs.boards.Boards.{order}
use Rattle.desk_model.specs.histories.Duty.{events}
use Rattle.desk_model.specs.offers.Assigned.{assigned}
use Rattle.desk_model.specs.offers.States.{state_of}
use Rattle.desk_model.specs.answers.ListAnswer.{list_answer}
use Rattle.desk_model.specs.answers.UnlistAnswer.{unlist_answer}
use Rattle.desk_model.specs.answers.MarkAnswer.{off_answer}
use Rattle.desk_model.specs.answers.EventAnswer.{judged_answer, told_answer, unless_frozen, event_answer}
use Rattle.desk_model.specs.answers.VacancyAnswer.{is_extra, unknown_in, bad_in, chain_answer, vacancy_answer}
use Rattle.desk_model.specs.answers.SettleAnswer.{offered_answer, made_answer, settle_answer}
use Rattle.desk_model.specs.answers.GiveUpAnswer.{over_answer, annul_answer}
use Rattle.desk_model.specs.answers.QuestionAnswer.{seen_answer, member_at, at_answer}
use Rattle.desk_model.specs.answers.HoursAnswer.{hours_answer}
use Rattle.desk_model.specs.histories.Legal.{answer_to, IsLegal}
use Rattle.desk_model.proofs.BoundLemmas.{length-order}
use Rattle.desk_model.proofs.FoundLemmas.{find-passes}
use Rattle.desk_model.proofs.FitEventLemmas.{events-fit, fault-fits}
use Rattle.desk_model.proofs.FitRegisterLemmas.{IsOffer, job-fits, order-fits, open_offer-fits, on_offer-fits, assigned-fits}
use Rattle.desk_model.proofs.FitBarLemmas.{LawFits}
use Rattle.desk_model.proofs.FitCallLemmas.{either-fits, lapsed-fits, state-fits, next-fits, explain-fits, offer-fits}

list-fits : (h : History) (p : ℕ) (b : List ℕ) → IsCode b → FitsReply (list_answer h p b)
list-fits h p b code = search (either-fits, code) depth 8

frozen-fits : (o : Option ℕ) (other : Reply) → IfSome o IsNumber → FitsReply other → FitsReply (unless_frozen o other)
frozen-fits None other fits rest = rest
frozen-fits (Some v) other fits rest = fits

unlist-fits : (h : History) (p : ℕ) (b : List ℕ) → All Fits h.entries → IsCode b → FitsReply (unlist_answer h p b)
unlist-fits h p b all code = let rest = frozen-fits (on_offer h p) reply.Done (on_offer-fits h p all) tt in search (either-fits, code, rest) depth 8

off-fits : (h : History) (p : ℕ) → All Fits h.entries → FitsReply (off_answer h p)
off-fits h p all = let rest = frozen-fits (option_or (on_offer h p) (assigned h p)) reply.Done (either (on_offer h p) (on_offer-fits h p all)) tt in search (either-fits, rest)
  where
    either : (o : Option ℕ) → IfSome o IsNumber → IfSome (option_or o (assigned h p)) IsNumber
    either None fits = assigned-fits h p all
    either (Some v) fits = fits

judged-fits : (es : List Event) (e : Event) (r : Result Stage EventFault) → All IsEvent es → IsEvent e → allow (stage_of es) e (latest es) ≡ r → FitsReply (judged_answer r)
judged-fits es e (Ok s) all is told = tt
judged-fits es e (Err f) all is told = fault-fits es e f all is told

told-fits : (o : OpeningValue) (es : List Event) (m : ℕ) (e : Event) → All IsEvent es → IsEvent e → IsInYears m → FitsReply (told_answer o es m e)
told-fits o es m e all is m_in =
    let judged = judged-fits es e (allow (stage_of es) e (latest es)) all is refl in search (either-fits, m_in, judged)

event-fits : (h : History) (m p : ℕ) (e : Event) → IsLegal h → All Fits h.entries → IsEvent e → IsInYears m → FitsReply (event_answer h m p e)
event-fits h m p e legal all is m_in =
    let rest = frozen-fits (on_offer h p) (told_answer h.opening (events h p) m e) (on_offer-fits h p all) (told-fits h.opening (events h p) m e (events-fit h p legal all) is m_in) in
    search (either-fits, rest)

All-behind : (codes : List (List ℕ)) → All IsCode codes → All IsCode (drop 1 codes)
All-behind [] all = all
All-behind (b ∷ codes) all = All-tail IsCode b codes all

vacancy-fits : (h : History) (m : ℕ) (job : JobValue) → IsJob job → FitsReply (vacancy_answer h m job)
vacancy-fits h m job is = let rest = chained (unknown_in h job.chain) (bad_in h job.chain) refl refl in search (either-fits, rest)
  where
    chained : (unknown bad : Option (List ℕ)) → unknown_in h job.chain ≡ unknown → bad_in h job.chain ≡ bad → FitsReply (chain_answer h.opening m job unknown bad)
    chained (Some b) bad u v = find-passes (λ b. is_none (board_of h b)) IsCode job.chain is.chain.codes b u
    chained None (Some b) u v = find-passes (λ b. not (is_extra (board_of h b))) IsCode (drop 1 job.chain) (All-behind job.chain is.chain.codes) b v
    chained None None u v =
        let report = is.plan.report_in in search (either-fits, report)

hours-fits : (h : History) (p month : ℕ) → FitsReply (hours_answer h p month)
unfolding used
hours-fits h p month = let told : FitsReply (reply.Hours (used es month) (capped es month)) = (few, capped_few) in search (either-fits, told)
  where
    es : List Event
    es = events h p

    few : used es month < 2 ^ 32
    few = omega (arith, minutes_where-most (λ t. is_worked (kind_of es t)) (month_start month) (minutes_of month), (length_of_bounds month).1)

    capped_few : capped es month < 2 ^ 32
    capped_few = omega (arith, capped_minutes-most es (month_start month) (minutes_of month), (length_of_bounds month).1)

settle-fits : (h : History) (v p : ℕ) (rest : JobValue → Offer → Reply) → All Fits h.entries
    → ((job : JobValue) (offer : Offer) → IsJob job → IsOffer offer → FitsReply (rest job offer)) → FitsReply (settle_answer h v p rest)
settle-fits h v p rest all fits = known (vacancy_of h v) refl
  where
    by_offer : (job : JobValue) → IsJob job → (o : Option Offer) → IfSome o IsOffer → FitsReply (offered_answer p (rest job) o)
    by_offer job is None has = tt
    by_offer job is (Some offer) has = either-fits (nat_eq offer.person p) (rest job offer) reply.NoOffer (fits job offer is has) tt

    known : (made : Option JobValue) → vacancy_of h v ≡ made → FitsReply (made_answer h v p rest made)
    known None made = tt
    known (Some job) made = either-fits (is_none (person_of h p)) reply.UnknownPerson _ tt (by_offer job (job-fits h v all job made) (open_offer h v) (open_offer-fits h v all))

early-fits : (h : History) (offer : Offer) → IsLegal h → IsOffer offer → FitsReply (reply.EarlyNoAnswer (deadline h.opening offer))
early-fits h offer legal is = (omega (arith, is.1.0), omega (arith, is.1.1, legal.opening.most))

at-fits : (h : History) (b : List ℕ) (k : ℕ) → IsLegal h → IsCode b → FitsReply (at_answer h b k)
at-fits h b k legal code = let rest = seen (member_at h b k) refl in search (either-fits, code, rest)
  where
    seen : (o : Option ℕ) → member_at h b k ≡ o → FitsReply (seen_answer (length (order h b)) o)
    seen None is = omega (arith, length-order h b legal)
    seen (Some p) is =
        subst IsNumber (get_or_from_slice_get (order h b) (k - 1) p p is) (order-fits h b legal (k - 1) p (slice_get_within (order h b) (k - 1) p is))

annul-fits : (h : History) (v : ℕ) → IsLegal h → All Fits h.entries → FitsReply (annul_answer h v)
annul-fits h v legal all = let rest = over (state_of h v) (state-fits h v legal all) in search (either-fits, rest)
  where
    over : (how : VacState) → FitsState how → FitsReply (over_answer how)
    over (state.Begun p) fits = fits
    over state.Annulled fits = tt
    over other fits = tt

pub answer-fits : LawFits → (h : History) (m : ℕ) (c : Cmd) → IsLegal h → All Fits h.entries → IsInYears m → IsCommand c → FitsReply (answer_to h m c)
answer-fits law h m (cmd.Enrol person craft home quals) legal all m_in is = search (either-fits)
answer-fits law h m (cmd.Board board extra place) legal all m_in is = search (either-fits)
answer-fits law h m (cmd.List person board) legal all m_in is = list-fits h person board is.1
answer-fits law h m (cmd.Unlist person board) legal all m_in is = unlist-fits h person board all is.1
answer-fits law h m (cmd.MarkOff person) legal all m_in is = off-fits h person all
answer-fits law h m (cmd.MarkOn person) legal all m_in is = search (either-fits)
answer-fits law h m (cmd.Qualify person quals) legal all m_in is = search (either-fits)
answer-fits law h m (cmd.Past person e) legal all m_in is =
    let rest = told-fits h.opening (events h person) m e (events-fit h person legal all) is.1 m_in in search (either-fits, rest)
answer-fits law h m (cmd.Happened person e) legal all m_in is = event-fits h m person e legal all is.1 m_in
answer-fits law h m (cmd.Vacancy job) legal all m_in is = vacancy-fits h m job is
answer-fits law h m (cmd.Next v) legal all m_in is = next-fits h m v legal all
answer-fits law h m (cmd.Offer v p) legal all m_in is = offer-fits law h m v p legal all is.1
answer-fits law h m (cmd.Accept v p) legal all m_in is =
    settle-fits h v p _ all (λ job offer job_is has. either-fits (nat_lt job.report m) (reply.Lapsed job.report) reply.Done (lapsed-fits job job_is) tt)
answer-fits law h m (cmd.Decline v p) legal all m_in is = settle-fits h v p _ all (λ job offer job_is has. tt)
answer-fits law h m (cmd.NoAnswer v p) legal all m_in is =
    settle-fits h v p _ all (λ job offer job_is has.
    either-fits (nat_lt m (deadline h.opening offer)) (reply.EarlyNoAnswer (deadline h.opening offer)) reply.Done (early-fits h offer legal has) tt)
answer-fits law h m (cmd.Withdraw v p) legal all m_in is = settle-fits h v p _ all (λ job offer job_is has. tt)
answer-fits law h m (cmd.Annul v) legal all m_in is = annul-fits h v legal all
answer-fits law h m (cmd.Drop person) legal all m_in is = search (either-fits)
answer-fits law h m (cmd.Hours person month) legal all m_in is = hours-fits h person month
answer-fits law h m (cmd.At board k) legal all m_in is = at-fits h board k legal is.0
answer-fits law h m (cmd.Explain v p) legal all m_in is = explain-fits law h m v p legal all
answer-fits law h m (cmd.Vac v) legal all m_in is = let how = state-fits h v legal all in search (either-fits, how)
