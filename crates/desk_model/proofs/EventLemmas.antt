-- The events of a person are a lawful list, and none that was told and accepted is left out.
use Rattle.std.proofs.Common.{◌≡◌, ℕ, ◌≤◌, Bool, true, false, cond, nat_eq, nat_lt, Option, None, Some, Result, Ok, Err, is_ok, is_none, List, [], ◌∷◌, ◌++◌, fold, length, refl, sym, ap, subst, ◌∙◌, arith, append-nil}
use Rattle.std.specs.Option.{option_map}
use Rattle.std.specs.List.{cons_option, filter_map}
use Rattle.std.proofs.lemmas.Bool.{false≢true}
use Rattle.std.proofs.lemmas.List.{map-append}
use Rattle.std.proofs.lemmas.List.Sums.{fold_push}
use Rattle.std.proofs.lemmas.Option.{slice_get_within}
use Rattle.desk_base.specs.Minute.{IsInYears}
use Rattle.desk_base.specs.Window.{start_of}
use Rattle.duty_events.specs.declared.event.Event.{Event}
use Rattle.duty_events.specs.declared.event.Event.TheVariants as event
use Rattle.duty_events.specs.declared.stage.Stage.{Stage}
use Rattle.duty_events.specs.declared.event_fault.EventFault.{EventFault}
use Rattle.duty_events.specs.Allowed.{first_minute, last_minute, allow}
use Rattle.duty_events.specs.Lists.{stage_of, latest, may_follow, IsLawful}
use Rattle.duty_events.proofs.FollowLemmas.{may_follow-decides}
use Rattle.duty_events.proofs.ListLemmas.{lawful-push}
use Rattle.desk_model.specs.declared.command.Cmd.{Cmd}
use Rattle.desk_model.specs.declared.command.Cmd.TheVariants as cmd
use Rattle.desk_model.specs.declared.reply.Reply.TheVariants as reply
use Rattle.desk_model.specs.statements.Opening.{OpeningValue}
use Rattle.desk_model.specs.statements.Entry.{EntryValue}
use Rattle.desk_model.specs.statements.Fits.{IsEvent, IsCommand}
use Rattle.desk_model.specs.histories.History.{History, opened, with_entry, step_of, steps, is_done, said}
use Rattle.desk_model.specs.histories.Register.{person_of}
use Rattle.desk_model.specs.offers.Offers.{on_offer}
use Rattle.desk_model.specs.histories.Duty.{tells, Told, told_at, told_by, events_in, may_come, keep, told, events, is_closed}
use Rattle.desk_model.specs.laws.Comes.{kept}
use Rattle.desk_model.specs.answers.EventAnswer.{judged_answer, told_answer, past_answer, unless_frozen, event_answer}
use Rattle.desk_model.specs.histories.Legal.{answer_to, IsNext, IsLegal}
use Rattle.desk_model.proofs.OrderLemmas.{same_number}
use Rattle.desk_model.proofs.SaidLemmas.{filter_map-snoc, steps-snoc}
use Rattle.desk_model.proofs.LegalLemmas.{legal-induction, said-next}

-- ---- a lawful list

lawful-nil : IsLawful []
lawful-nil = record { each = λ place e found. absurd (omega (arith, slice_get_within [] place e found)) }

events_in-push : (xs : List Told) (x : Told) → events_in (xs ++ x ∷ []) ≡ events_in xs ++ x.event ∷ []
events_in-push xs x = map-append (λ (y : Told). y.event) xs (x ∷ [])

lawful-keep : (xs : List Told) (x : Told) → IsLawful (events_in xs) → IsLawful (events_in (keep xs x))
lawful-keep xs x lawful = go (may_come (events_in xs) x.event) refl
  where
    go : (may : Bool) → may_come (events_in xs) x.event ≡ may → IsLawful (events_in (cond may (xs ++ x ∷ []) xs))
    go true may =
        subst IsLawful (sym (events_in-push xs x)) (lawful-push (events_in xs) x.event lawful ((may_follow-decides (stage_of (events_in xs)) (latest (events_in xs)) x.event).0 may))
    go false may = lawful

lawful-fold : (xs more : List Told) → IsLawful (events_in xs) → IsLawful (events_in (fold keep xs more))
lawful-fold xs [] lawful = lawful
lawful-fold xs (x ∷ more) lawful = lawful-fold (keep xs x) more (lawful-keep xs x lawful)

pub lawful-events : (h : History) (p : ℕ) → IsLawful (events h p)
unfolding events told
lawful-events h p = lawful-fold [] (filter_map (told_by p) (steps h)) lawful-nil

-- ---- one entry more

pub events-snoc : (h : History) (e : EntryValue) (p : ℕ) → events (with_entry h e) p ≡ kept (events h p) (said (tells p) e)
unfolding events told
events-snoc h e p =
    ap (λ xs. events_in (fold keep [] xs)) (ap (filter_map (told_by p)) (steps-snoc h e) ∙ filter_map-snoc (told_by p) (steps h) (step_of h e))
    ∙ go (said (tells p) e)
  where
    so_far : List Told
    so_far = filter_map (told_by p) (steps h)

    go : (this : Option Event) → events_in (fold keep [] (so_far ++ cons_option (option_map (told_at (length h.entries)) this) [])) ≡ kept (events_in (fold keep [] so_far)) this
    go None = ap (λ xs. events_in (fold keep [] xs)) (append-nil so_far)
    go (Some t) = ap events_in (fold_push keep [] so_far (told_at (length h.entries) t)) ∙ by_test (fold keep [] so_far) (may_come (events_in (fold keep [] so_far)) t)
      where
        by_test : (xs : List Told) (may : Bool) → events_in (cond may (xs ++ told_at (length h.entries) t ∷ []) xs) ≡ cond may (events_in xs ++ t ∷ []) (events_in xs)
        by_test xs true = events_in-push xs (told_at (length h.entries) t)
        by_test xs false = refl

-- ---- none is left out

pub event-years : (e : Event) → IsEvent e → IsInYears (first_minute e) × (IsInYears (last_minute e) × (first_minute e ≤ last_minute e))
event-years (event.Interim t k place) is = (is.0, (is.0, omega arith))
event-years (event.Final t place) is = (is.0, (is.0, omega arith))
event-years (event.Other span place) is = (is.0, (is.1, omega (arith, is.2)))
event-years other is = (is, (is, omega arith))

may_follow-allowed : (s : Stage) (last : Option ℕ) (e : Event) → IsEvent e → is_ok (allow s e last) ≡ true → may_follow s last e ≡ true
may_follow-allowed s last e is allowed =
    let years = event-years e is in
    (may_follow-decides s last e).1 (record { allowed = allowed; first_in = years.0; last_in = years.1.0; whole = years.1.1 })

-- what is told and done was allowed
pub told-done : (o : OpeningValue) (es : List Event) (m : ℕ) (e : Event) → is_done (told_answer o es m e) ≡ true → is_ok (allow (stage_of es) e (latest es)) ≡ true
told-done o es m e done = go (nat_lt (first_minute e) (start_of o.window)) (nat_lt m (last_minute e)) (allow (stage_of es) e (latest es)) done
  where
    go : (early ahead : Bool) (r : Result Stage EventFault) → is_done (cond early reply.OutsideWindow (cond ahead (reply.EventAhead m) (judged_answer r))) ≡ true → is_ok r ≡ true
    go true ahead r done = absurd (false≢true done)
    go false true r done = absurd (false≢true done)
    go false false (Ok s) done = refl
    go false false (Err f) done = absurd (false≢true done)

pub past-done : (h : History) (m p : ℕ) (e : Event) → is_done (past_answer h m p e) ≡ true → is_done (told_answer h.opening (events h p) m e) ≡ true
past-done h m p e done = go (is_none (person_of h p)) (is_closed h p) done
  where
    go : (unknown closed : Bool) → is_done (cond unknown reply.UnknownPerson (cond closed reply.PastClosed (told_answer h.opening (events h p) m e))) ≡ true
        → is_done (told_answer h.opening (events h p) m e) ≡ true
    go true closed done = absurd (false≢true done)
    go false true done = absurd (false≢true done)
    go false false done = done

pub event-done : (h : History) (m p : ℕ) (e : Event) → is_done (event_answer h m p e) ≡ true → is_done (told_answer h.opening (events h p) m e) ≡ true
event-done h m p e done = go (is_none (person_of h p)) (on_offer h p) done
  where
    go : (unknown : Bool) (offer : Option ℕ) → is_done (cond unknown reply.UnknownPerson (unless_frozen offer (told_answer h.opening (events h p) m e))) ≡ true
        → is_done (told_answer h.opening (events h p) m e) ≡ true
    go true offer done = absurd (false≢true done)
    go false None done = done
    go false (Some vac) done = absurd (false≢true done)

-- an event of a person that is told, and done, may come after the person's events
event-comes : (h : History) (m q p : ℕ) (e t : Event) → IsEvent e → cond (nat_eq q p) (Some e) None ≡ Some t
    → is_done (told_answer h.opening (events h q) m e) ≡ true → may_come (events h p) t ≡ true
event-comes h m q p e t is tells done = go (nat_eq q p) refl tells
  where
    go : (same : Bool) → nat_eq q p ≡ same → cond same (Some e) None ≡ Some t → may_come (events h p) t ≡ true
    go false apart tells = cc
    go true same tells =
        let self : e ≡ t = cc in
        let allowed = subst (λ n. is_ok (allow (stage_of (events h n)) e (latest (events h n))) ≡ true) (same_number q p same) (told-done h.opening (events h q) m e done) in
        subst (λ x. may_come (events h p) x ≡ true) self (may_follow-allowed (stage_of (events h p)) (latest (events h p)) e is allowed)

pub command-comes : (h : History) (m : ℕ) (c : Cmd) (p : ℕ) (t : Event) → IsCommand c → tells p c ≡ Some t
    → is_done (answer_to h m c) ≡ true → may_come (events h p) t ≡ true
command-comes h m (cmd.Past q e) p t is told done = event-comes h m q p e t is.1 told (past-done h m q e done)
command-comes h m (cmd.Happened q e) p t is told done = event-comes h m q p e t is.1 told (event-done h m q e done)
command-comes h m other p t is told done = cc

-- the events of a person are all that were told of them
abbrev HasAllEvents : History → Type 0
HasAllEvents h = (p : ℕ) → events h p ≡ filter_map (said (tells p)) h.entries

grown : (h : History) (e : EntryValue) → IsLegal h → IsNext h e → HasAllEvents h → HasAllEvents (with_entry h e)
grown h e legal is was p =
    events-snoc h e p ∙ go (said (tells p) e) refl ∙ sym (filter_map-snoc (said (tells p)) h.entries e)
  where
    go : (this : Option Event) → said (tells p) e ≡ this → kept (events h p) this ≡ filter_map (said (tells p)) h.entries ++ cons_option this []
    go None told = was p ∙ sym (append-nil (filter_map (said (tells p)) h.entries))
    go (Some t) told =
        let done = said-next (tells p) h e t is told in
        rw (command-comes h e.moment e.stated.cmd p t is.may.stated.cmd done.0 done.1) (ap (λ front. front ++ t ∷ []) (was p))

events-opened : (o : OpeningValue) → HasAllEvents (opened o)
unfolding events told steps
events-opened o p = refl

pub events-all : (h : History) (p : ℕ) → IsLegal h → events h p ≡ filter_map (said (tells p)) h.entries
events-all h p legal = legal-induction HasAllEvents (λ o valid. events-opened o) grown h legal p
