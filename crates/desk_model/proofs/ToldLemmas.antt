-- An event that is told and accepted lies in the window.
use Rattle.std.proofs.Common.{◌≡◌, ℕ, ◌≤◌, ◌<◌, Bool, true, false, ◌&&◌, cond, max, nat_eq, nat_le, nat_lt, None, Some, List, refl, sym, subst, arith}
use Rattle.std.proofs.lemmas.Bool.{false≢true}
use Rattle.std.proofs.lemmas.Bool.Decides.{nat_tests}
use Rattle.desk_base.specs.Window.{WindowValue, start_of, end_of, Holds}
use Rattle.duty_events.specs.declared.event.Event.{Event}
use Rattle.duty_events.specs.Allowed.{first_minute, last_minute, allow}
use Rattle.duty_events.specs.Lists.{stage_of, latest}
use Rattle.desk_model.specs.declared.command.Cmd.{Cmd}
use Rattle.desk_model.specs.declared.command.Cmd.TheVariants as cmd
use Rattle.desk_model.specs.declared.reply.Reply.TheVariants as reply
use Rattle.desk_model.specs.statements.Opening.{OpeningValue}
use Rattle.desk_model.specs.statements.Entry.{EntryValue}
use Rattle.desk_model.specs.statements.Fits.{IsEvent, IsCommand}
use Rattle.desk_model.specs.histories.History.{History, is_done, said}
use Rattle.desk_model.specs.histories.Duty.{tells, may_come, events}
use Rattle.desk_model.specs.answers.EventAnswer.{judged_answer, told_answer}
use Rattle.desk_model.specs.histories.Legal.{is_within, last_moment, answer_to, IsNext, IsLegal}
use Rattle.desk_model.proofs.LegalLemmas.{legal-induction, said-next}
use Rattle.desk_model.proofs.MomentLemmas.{last_moment-comes}
use Rattle.desk_model.proofs.EventLemmas.{event-years, past-done, event-done, command-comes}

moment-within : (h : History) (e : EntryValue) → IsNext h e → Holds h.opening.window (last_moment h) → Holds h.opening.window e.moment
moment-within h e is last = subst (Holds h.opening.window) (sym is.moment) (go (is_within h.opening.window e.stated.minute) refl)
  where
    go : (within : Bool) → is_within h.opening.window e.stated.minute ≡ within → Holds h.opening.window (cond within (max e.stated.minute (last_moment h)) (last_moment h))
    go true within = later e.stated.minute (nat_le (start_of h.opening.window) e.stated.minute) (nat_lt e.stated.minute (end_of h.opening.window)) refl refl within
      where
        later : (minute : ℕ) (from to : Bool) → nat_le (start_of h.opening.window) minute ≡ from → nat_lt minute (end_of h.opening.window) ≡ to → (from && to) ≡ true
            → Holds h.opening.window (max minute (last_moment h))
        later minute true true from to both =
            let low : start_of h.opening.window ≤ minute = grind (arith, nat_tests, from) in
            let high : minute < end_of h.opening.window = grind (arith, nat_tests, to) in
            (omega (arith, low, last.0), omega (arith, high, last.1))
        later minute false to from x both = absurd (false≢true both)
        later minute true false from x both = absurd (false≢true both)
    go false within = last

-- in a legal history the last moment lies in the window, and so the next one
last-within : (h : History) → IsLegal h → Holds h.opening.window (last_moment h)
last-within h legal = legal-induction (λ past. Holds past.opening.window (last_moment past)) (λ o valid. valid.start)
    (λ past e fine is was. subst (Holds past.opening.window) (sym (last_moment-comes past e)) (moment-within past e is was)) h legal

pub entry-within : (h : History) (e : EntryValue) → IsLegal h → IsNext h e → Holds h.opening.window e.moment
entry-within h e legal is = moment-within h e is (last-within h legal)

-- the event lies in the window
abbrev pub Lies : WindowValue → Event → Type 0
Lies window t = Holds window (first_minute t) × Holds window (last_minute t)

told-lies : (o : OpeningValue) (es : List Event) (m : ℕ) (t : Event) → IsEvent t → Holds o.window m → is_done (told_answer o es m t) ≡ true → Lies o.window t
told-lies o es m t is within done = go (nat_lt (first_minute t) (start_of o.window)) (nat_lt m (last_minute t)) refl refl done
  where
    whole : first_minute t ≤ last_minute t
    whole = (event-years t is).1.1

    go : (early ahead : Bool) → nat_lt (first_minute t) (start_of o.window) ≡ early → nat_lt m (last_minute t) ≡ ahead
        → is_done (cond early reply.OutsideWindow (cond ahead (reply.EventAhead m) (judged_answer (allow (stage_of es) t (latest es))))) ≡ true → Lies o.window t
    go true ahead x y done = absurd (false≢true done)
    go false true x y done = absurd (false≢true done)
    go false false x y done =
        let from : start_of o.window ≤ first_minute t = grind (arith, nat_tests, x) in
        let to : last_minute t ≤ m = grind (arith, nat_tests, y) in
        ((from, omega (arith, whole, to, within.1)), (omega (arith, from, whole), omega (arith, to, within.1)))

pub told-of : (q p : ℕ) (e t : Event) → cond (nat_eq q p) (Some e) None ≡ Some t → e ≡ t
told-of q p e t told = go (nat_eq q p) told
  where
    go : (same : Bool) → cond same (Some e) None ≡ Some t → e ≡ t
    go true told = cc
    go false told = cc

command-lies : (h : History) (m : ℕ) (c : Cmd) (p : ℕ) (t : Event) → IsCommand c → Holds h.opening.window m → tells p c ≡ Some t
    → is_done (answer_to h m c) ≡ true → Lies h.opening.window t
command-lies h m (cmd.Past q e) p t is within told done = subst (Lies h.opening.window) (told-of q p e t told) (told-lies h.opening (events h q) m e is.1 within (past-done h m q e done))
command-lies h m (cmd.Happened q e) p t is within told done = subst (Lies h.opening.window) (told-of q p e t told) (told-lies h.opening (events h q) m e is.1 within (event-done h m q e done))
command-lies h m other p t is within told done = cc

pub said-lies : (h : History) (e : EntryValue) (p : ℕ) (t : Event) → IsLegal h → IsNext h e → said (tells p) e ≡ Some t → Lies h.opening.window t
said-lies h e p t legal is told =
    let done = said-next (tells p) h e t is told in
    command-lies h e.moment e.stated.cmd p t is.may.stated.cmd (entry-within h e legal is) done.0 done.1

pub said-comes : (h : History) (e : EntryValue) (p : ℕ) (t : Event) → IsNext h e → said (tells p) e ≡ Some t → may_come (events h p) t ≡ true
said-comes h e p t is told = let done = said-next (tells p) h e t is told in command-comes h e.moment e.stated.cmd p t is.may.stated.cmd done.0 done.1
