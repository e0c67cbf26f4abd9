-- In a legal history nobody's latest minute is after the last moment.
use Rattle.std.proofs.Common.{◌≡◌, ◌≤◌, ℕ, Bool, true, false, cond, nat_lt, Option, None, Some, unwrap_or, List, refl, sym, subst, arith}
use Rattle.std.proofs.lemmas.Bool.{false≢true}
use Rattle.std.proofs.lemmas.Bool.Decides.{nat_tests}
use Rattle.desk_base.specs.Window.{start_of}
use Rattle.duty_events.specs.declared.event.Event.{Event}
use Rattle.duty_events.specs.Allowed.{first_minute, last_minute, allow}
use Rattle.duty_events.specs.Lists.{stage_of, latest}
use Rattle.duty_events.proofs.ListLemmas.{last_event-push}
use Rattle.desk_model.specs.declared.command.Cmd.{Cmd}
use Rattle.desk_model.specs.declared.command.Cmd.TheVariants as cmd
use Rattle.desk_model.specs.declared.reply.Reply.TheVariants as reply
use Rattle.desk_model.specs.statements.Opening.{OpeningValue}
use Rattle.desk_model.specs.statements.Entry.{EntryValue}
use Rattle.desk_model.specs.histories.History.{History, opened, with_entry, steps, is_done, said}
use Rattle.desk_model.specs.histories.Duty.{tells, events, told}
use Rattle.desk_model.specs.laws.Comes.{kept}
use Rattle.desk_model.specs.answers.EventAnswer.{judged_answer, told_answer}
use Rattle.desk_model.specs.histories.Legal.{last_moment, answer_to, IsNext, IsLegal}
use Rattle.desk_model.proofs.LegalLemmas.{legal-induction, said-next}
use Rattle.desk_model.proofs.MomentLemmas.{last_moment-comes, never-before}
use Rattle.desk_model.proofs.EventLemmas.{events-snoc, past-done, event-done}
use Rattle.desk_model.proofs.ToldLemmas.{told-of, said-comes}

-- an event that is told and done is over at the moment
told-over : (o : OpeningValue) (es : List Event) (m : ℕ) (t : Event) → is_done (told_answer o es m t) ≡ true → last_minute t ≤ m
told-over o es m t done = go (nat_lt (first_minute t) (start_of o.window)) (nat_lt m (last_minute t)) refl done
  where
    go : (early ahead : Bool) → nat_lt m (last_minute t) ≡ ahead
        → is_done (cond early reply.OutsideWindow (cond ahead (reply.EventAhead m) (judged_answer (allow (stage_of es) t (latest es))))) ≡ true → last_minute t ≤ m
    go true ahead is done = absurd (false≢true done)
    go false true is done = absurd (false≢true done)
    go false false is done = grind (arith, nat_tests, is)

command-over : (h : History) (m : ℕ) (c : Cmd) (p : ℕ) (t : Event) → tells p c ≡ Some t → is_done (answer_to h m c) ≡ true → last_minute t ≤ m
command-over h m (cmd.Past q e) p t told done = subst (λ x. last_minute x ≤ m) (told-of q p e t told) (told-over h.opening (events h q) m e (past-done h m q e done))
command-over h m (cmd.Happened q e) p t told done = subst (λ x. last_minute x ≤ m) (told-of q p e t told) (told-over h.opening (events h q) m e (event-done h m q e done))
command-over h m other p t told done = cc

abbrev IsOver : History → Type 0
IsOver h = (p : ℕ) → unwrap_or (latest (events h p)) 0 ≤ last_moment h

grown : (h : History) (e : EntryValue) → IsLegal h → IsNext h e → IsOver h → IsOver (with_entry h e)
grown h e legal is was p =
    subst (λ m. unwrap_or (latest (events (with_entry h e) p)) 0 ≤ m) (sym (last_moment-comes h e))
    (subst (λ es. unwrap_or (latest es) 0 ≤ e.moment) (sym (events-snoc h e p)) (go (said (tells p) e) refl))
  where
    go : (this : Option Event) → said (tells p) e ≡ this → unwrap_or (latest (kept (events h p) this)) 0 ≤ e.moment
    go None told = omega (arith, was p, never-before h e legal is)
    go (Some t) told =
        let done = said-next (tells p) h e t is told in
        rw (said-comes h e p t is told)
        (rw (last_event-push (events h p) t) (command-over h e.moment e.stated.cmd p t done.0 done.1))

opened-over : (o : OpeningValue) → IsOver (opened o)
unfolding events told steps
opened-over o p = omega arith

pub latest-over : (h : History) → IsLegal h → (p : ℕ) → unwrap_or (latest (events h p)) 0 ≤ last_moment h
latest-over h legal = legal-induction IsOver (λ o valid. opened-over o) grown h legal
