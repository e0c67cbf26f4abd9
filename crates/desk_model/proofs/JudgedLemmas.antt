-- Which commands are answered by an offer, a denial, a run around or that all are barred, and what such an answer says.
use Rattle.std.proofs.Common.{◌≡◌, ◌≤◌, ◌⊎◌, inl, inr, ℕ, Bool, true, false, cond, nat_lt, Option, None, Some, Result, Ok, Err, List, length, refl, sym, ap, ◌∙◌, arith}
use Rattle.std.specs.Option.{option_or}
use Rattle.std.proofs.lemmas.Bool.{false≢true}
use Rattle.std.proofs.lemmas.Bool.Decides.{nat_tests}
use Rattle.duty_events.specs.declared.event.Event.{Event}
use Rattle.duty_events.specs.declared.stage.Stage.{Stage}
use Rattle.duty_events.specs.declared.event_fault.EventFault.{EventFault}
use Rattle.denial_rules.specs.declared.bar.Bar.{Bar}
use Rattle.desk_model.specs.declared.command.Cmd.{Cmd}
use Rattle.desk_model.specs.declared.command.Cmd.TheVariants as cmd
use Rattle.desk_model.specs.declared.link.Link.{Link}
use Rattle.desk_model.specs.declared.offer.Offer.{Offer}
use Rattle.desk_model.specs.declared.person.Person.{Person}
use Rattle.desk_model.specs.declared.reply.Reply.{Reply}
use Rattle.desk_model.specs.declared.reply.Reply.TheVariants as reply
use Rattle.desk_model.specs.declared.vac_state.VacState.{VacState}
use Rattle.desk_model.specs.declared.vac_state.VacState.TheVariants as state
use Rattle.desk_model.specs.statements.Opening.{OpeningValue}
use Rattle.desk_model.specs.statements.Job.{JobValue}
use Rattle.desk_model.specs.histories.History.{History}
use Rattle.desk_model.specs.histories.Register.{person_of, vacancy_of}
use Rattle.desk_model.specs.offers.Offers.{on_offer, open_offer, deadline}
use Rattle.desk_model.specs.offers.Assigned.{assigned}
use Rattle.desk_model.specs.boards.Boards.{order, chain}
use Rattle.desk_model.specs.histories.Duty.{events}
use Rattle.desk_model.specs.offers.States.{state_of}
use Rattle.desk_model.specs.offers.Bars.{bar_of, first_free}
use Rattle.desk_model.specs.answers.VacancyAnswer.{unknown_in, bad_in, plan_answer, chain_answer}
use Rattle.desk_model.specs.answers.EventAnswer.{judged_answer, told_answer, unless_frozen}
use Rattle.desk_model.specs.answers.ExplainAnswer.{position_in, position_answer, judged_by, clear_answer, person_answer, job_answer, explain_answer}
use Rattle.desk_model.specs.answers.NextAnswer.{choice_answer, vacant_answer, unless_closed, known_answer, next_answer}
use Rattle.desk_model.specs.answers.OfferAnswer.{named_answer, called_answer, offer_made_answer, offer_answer}
use Rattle.desk_model.specs.answers.SettleAnswer.{offered_answer, made_answer, settle_answer}
use Rattle.desk_model.specs.answers.GiveUpAnswer.{over_answer}
use Rattle.desk_model.specs.answers.QuestionAnswer.{seen_answer, member_at}
use Rattle.desk_model.specs.histories.Legal.{answer_to}

-- ---- only `next`, `offer` and `explain` allow

-- an answer that judges
abbrev pub is_call : Reply → Bool
is_call (reply.Offered p b k) = true
is_call (reply.Unfilled listed) = true
is_call (reply.Denied bar) = true
is_call (reply.RunAround q) = true
is_call other = false

-- a command that asks for one
abbrev pub is_judging : Cmd → Bool
is_judging (cmd.Next v) = true
is_judging (cmd.Offer v p) = true
is_judging (cmd.Explain v p) = true
is_judging other = false

is_call-cond : (test : Bool) (one other : Reply) → is_call (cond test one other) ≡ cond test (is_call one) (is_call other)
is_call-cond true one other = refl
is_call-cond false one other = refl

neither : (test : Bool) → cond test false false ≡ false
neither true = refl
neither false = refl

plan-no : (o : OpeningValue) (m : ℕ) (job : JobValue) → is_call (plan_answer o m job) ≡ false
plan-no o m job = simp (is_call-cond, neither)

chain-no : (o : OpeningValue) (m : ℕ) (job : JobValue) (unknown bad : Option (List ℕ)) → is_call (chain_answer o m job unknown bad) ≡ false
chain-no o m job (Some b) bad = refl
chain-no o m job None (Some b) = refl
chain-no o m job None None = plan-no o m job

judged-no : (r : Result Stage EventFault) → is_call (judged_answer r) ≡ false
judged-no (Ok next) = refl
judged-no (Err fault) = refl

told-no : (o : OpeningValue) (es : List Event) (m : ℕ) (e : Event) → is_call (told_answer o es m e) ≡ false
told-no o es m e = simp (is_call-cond, judged-no, neither)

frozen-no : (offer : Option ℕ) (other : Reply) → is_call other ≡ false → is_call (unless_frozen offer other) ≡ false
frozen-no None other none = none
frozen-no (Some v) other none = refl

settle-no : (h : History) (v p : ℕ) (rest : JobValue → Offer → Reply) → ((job : JobValue) (offer : Offer) → is_call (rest job offer) ≡ false) → is_call (settle_answer h v p rest) ≡ false
settle-no h v p rest none = go (vacancy_of h v)
  where
    by_offer : (job : JobValue) (offer : Option Offer) → is_call (offered_answer p (rest job) offer) ≡ false
    by_offer job None = refl
    by_offer job (Some offer) = let no = none job offer in simp (is_call-cond, no, neither)

    go : (made : Option JobValue) → is_call (made_answer h v p rest made) ≡ false
    go None = refl
    go (Some job) = let no = by_offer job (open_offer h v) in simp (is_call-cond, no, neither)

over-no : (how : VacState) → is_call (over_answer how) ≡ false
over-no (state.Begun p) = refl
over-no state.Annulled = refl
over-no other = refl

seen-no : (count : ℕ) (p : Option ℕ) → is_call (seen_answer count p) ≡ false
seen-no count None = refl
seen-no count (Some p) = refl

-- what is answered to any other command
pub other-no : (h : History) (m : ℕ) (c : Cmd) → is_judging c ≡ false → is_call (answer_to h m c) ≡ false
other-no h m (cmd.Next v) other = absurd (false≢true (sym other))
other-no h m (cmd.Offer v p) other = absurd (false≢true (sym other))
other-no h m (cmd.Explain v p) other = absurd (false≢true (sym other))
other-no h m (cmd.Unlist p b) other = let no = frozen-no (on_offer h p) reply.Done refl in simp (is_call-cond, no, neither)
other-no h m (cmd.MarkOff p) other = let no = frozen-no (option_or (on_offer h p) (assigned h p)) reply.Done refl in simp (is_call-cond, no, neither)
other-no h m (cmd.Vacancy job) other = let no = chain-no h.opening m job (unknown_in h job.chain) (bad_in h job.chain) in simp (is_call-cond, no, neither)
other-no h m (cmd.Past p e) other = simp (is_call-cond, judged-no, neither)
other-no h m (cmd.Happened p e) other = let no = frozen-no (on_offer h p) _ (told-no h.opening (events h p) m e) in simp (is_call-cond, no, neither)
other-no h m (cmd.Accept v p) other = settle-no h v p _ (λ job offer. is_call-cond (nat_lt job.report m) (reply.Lapsed job.report) reply.Done ∙ neither (nat_lt job.report m))
other-no h m (cmd.Decline v p) other = settle-no h v p _ (λ job offer. refl)
other-no h m (cmd.NoAnswer v p) other =
    settle-no h v p _ (λ job offer. is_call-cond (nat_lt m (deadline h.opening offer)) (reply.EarlyNoAnswer (deadline h.opening offer)) reply.Done ∙ neither (nat_lt m (deadline h.opening offer)))
other-no h m (cmd.Withdraw v p) other = settle-no h v p _ (λ job offer. refl)
other-no h m (cmd.Annul v) other = let no = over-no (state_of h v) in simp (is_call-cond, no, neither)
other-no h m (cmd.At b k) other = let no = seen-no (length (order h b)) (member_at h b k) in simp (is_call-cond, no, neither)
other-no h m c other = simp (is_call-cond, neither)

-- ---- what such an answer says of a person whom the caller named

-- the moment is not after the report, the person stands at this position of the chain, and a bar holds or the position tells the answer
pub record IsJudged (h : History) (m : ℕ) (job : JobValue) (p : ℕ) (rest : Link → Reply) (person : Person) (r : Reply) : Type 0 where
  pub in_time : m ≤ job.report
  pub link : Link
  pub position : position_in (chain h job.chain) p ≡ Some link
  pub so : ((bar : Bar) × ((bar_of h m job p person ≡ Some bar) × (r ≡ reply.Denied bar))) ⊎ ((bar_of h m job p person ≡ None) × (rest link ≡ r))

judged : (h : History) (m : ℕ) (job : JobValue) (p : ℕ) (rest : Link → Reply) (person : Person) (r : Reply) → is_call r ≡ true
    → judged_by h m job p rest person ≡ r → IsJudged h m job p rest person r
judged h m job p rest person r call is = late (nat_lt job.report m) refl is
  where
    positioned : m ≤ job.report → (bar : Option Bar) (position : Option Link) → bar_of h m job p person ≡ bar → position_in (chain h job.chain) p ≡ position
        → position_answer bar rest position ≡ r → IsJudged h m job p rest person r
    positioned in_time bar None b pl is = absurd (false≢true (ap is_call is ∙ call))
    positioned in_time (Some bar) (Some link) b pl is = record { in_time = in_time; link = link; position = pl; so = inl (bar, (b, sym is)) }
    positioned in_time None (Some link) b pl is = record { in_time = in_time; link = link; position = pl; so = inr (b, is) }

    late : (after : Bool) → nat_lt job.report m ≡ after
        → cond after (reply.Lapsed job.report) (position_answer (bar_of h m job p person) rest (position_in (chain h job.chain) p)) ≡ r → IsJudged h m job p rest person r
    late true now is = absurd (false≢true (ap is_call is ∙ call))
    late false now is = positioned (grind (arith, nat_tests, now)) (bar_of h m job p person) (position_in (chain h job.chain) p) refl refl is

-- the vacancy was made as this job, and the person is enrolled as this
pub record IsKnown (h : History) (v p : ℕ) (job : JobValue) (person : Person) : Type 0 where
  pub made : vacancy_of h v ≡ Some job
  pub enrolled : person_of h p ≡ Some person

pub explained : (h : History) (m v p : ℕ) (r : Reply) → is_call r ≡ true → explain_answer h m v p ≡ r
    → (job : JobValue) × ((person : Person) × (IsKnown h v p job person × IsJudged h m job p clear_answer person r))
explained h m v p r call is = known (vacancy_of h v) refl is
  where
    by_person : (job : JobValue) → vacancy_of h v ≡ Some job → (who : Option Person) → person_of h p ≡ who → person_answer h m job p who ≡ r
        → (job : JobValue) × ((person : Person) × (IsKnown h v p job person × IsJudged h m job p clear_answer person r))
    by_person job made None who is = absurd (false≢true (ap is_call is ∙ call))
    by_person job made (Some person) who is = (job, (person, (record { made = made; enrolled = who }, judged h m job p clear_answer person r call is)))

    known : (made : Option JobValue) → vacancy_of h v ≡ made → job_answer h m p made ≡ r
        → (job : JobValue) × ((person : Person) × (IsKnown h v p job person × IsJudged h m job p clear_answer person r))
    known None made is = absurd (false≢true (ap is_call is ∙ call))
    known (Some job) made is = by_person job made (person_of h p) refl is

-- where the vacancy isn't vacant, nobody is judged
vacant : (how : VacState) (other r : Reply) → is_call r ≡ true → unless_closed how other ≡ r → (how ≡ state.Vacant) × (other ≡ r)
vacant state.Vacant other r call is = (refl, is)
vacant how other r call is = absurd (false≢true (ap is_call is ∙ call))

pub called : (h : History) (m v p : ℕ) (r : Reply) → is_call r ≡ true → offer_answer h m v p ≡ r
    → (job : JobValue) × ((person : Person) × (IsKnown h v p job person × ((state_of h v ≡ state.Vacant) × IsJudged h m job p (named_answer p (first_free h m job)) person r)))
called h m v p r call is = known (vacancy_of h v) refl is
  where
    Found : Type 0
    Found = (job : JobValue) × ((person : Person) × (IsKnown h v p job person × ((state_of h v ≡ state.Vacant) × IsJudged h m job p (named_answer p (first_free h m job)) person r)))

    by_person : (job : JobValue) → vacancy_of h v ≡ Some job → (who : Option Person) → person_of h p ≡ who → called_answer h m v job p who ≡ r → Found
    by_person job made None who is = absurd (false≢true (ap is_call is ∙ call))
    by_person job made (Some person) who is =
        let found = vacant (state_of h v) _ r call is in
        (job, (person, (record { made = made; enrolled = who }, (found.0, judged h m job p (named_answer p (first_free h m job)) person r call found.1))))

    known : (made : Option JobValue) → vacancy_of h v ≡ made → offer_made_answer h m v p made ≡ r → Found
    known None made is = absurd (false≢true (ap is_call is ∙ call))
    known (Some job) made is = by_person job made (person_of h p) refl is

-- the vacancy was made as a job; it is vacant, and the moment is not after its report; and the first of its chain tells the answer
pub record IsChosen (h : History) (m v : ℕ) (r : Reply) : Type 0 where
  pub job : JobValue
  pub made : vacancy_of h v ≡ Some job
  pub vacant : state_of h v ≡ state.Vacant
  pub in_time : m ≤ job.report
  pub so : choice_answer (length (chain h job.chain)) (first_free h m job) ≡ r

pub chosen : (h : History) (m v : ℕ) (r : Reply) → is_call r ≡ true → next_answer h m v ≡ r → IsChosen h m v r
chosen h m v r call is = known (vacancy_of h v) refl is
  where
    late : (job : JobValue) → vacancy_of h v ≡ Some job → state_of h v ≡ state.Vacant → (after : Bool) → nat_lt job.report m ≡ after
        → cond after (reply.Lapsed job.report) (choice_answer (length (chain h job.chain)) (first_free h m job)) ≡ r → IsChosen h m v r
    late job made free true now is = absurd (false≢true (ap is_call is ∙ call))
    late job made free false now is = record { job = job; made = made; vacant = free; in_time = grind (arith, nat_tests, now); so = is }

    known : (made : Option JobValue) → vacancy_of h v ≡ made → known_answer h m v made ≡ r → IsChosen h m v r
    known None made is = absurd (false≢true (ap is_call is ∙ call))
    known (Some job) made is = let found = vacant (state_of h v) (vacant_answer h m job) r call is in late job made found.0 (nat_lt job.report m) refl found.1
