-- What is so where a command is done.
use Rattle.std.proofs.Common.{◌≡◌, ℕ, Bool, true, false, Option, None, Some, is_none, sym, ap, ◌∙◌, subst, refl}
use Rattle.std.proofs.lemmas.Bool.{false≢true}
use Rattle.std.specs.Prelude.{if◌then◌else◌}
use Rattle.desk_model.specs.declared.command.Cmd.{Cmd}
use Rattle.desk_model.specs.declared.command.Cmd.TheVariants as cmd
use Rattle.desk_model.specs.declared.reply.Reply.{Reply}
use Rattle.desk_model.specs.declared.reply.Reply.TheVariants as reply
use Rattle.desk_model.specs.declared.offer.Offer.{Offer}
use Rattle.desk_model.specs.statements.Job.{JobValue}
use Rattle.desk_model.specs.statements.Entry.{EntryValue}
use Rattle.desk_model.specs.histories.History.{History, is_done}
use Rattle.desk_model.specs.histories.Register.{person_of, vacancy_of}
use Rattle.desk_model.specs.answers.SettleAnswer.{made_answer}
use Rattle.desk_model.specs.histories.Legal.{is_within, moment, answer_to, IsNext}
use Rattle.desk_register.specs.Changes.{subject}
use Rattle.desk_register.proofs.ChangeLemmas.{OfNumber}
use Rattle.desk_register.specs.Vacancies.{turner}
use Rattle.desk_register.specs.Done.{IsDone}

pub known : (unknown : Bool) (other : Reply) → is_done (if unknown then reply.UnknownPerson else other) ≡ true → unknown ≡ false
known true other done = absurd (false≢true done)
known false other done = refl

known-settled : (h : History) (v p : ℕ) (rest : JobValue → Offer → Reply) (made : Option JobValue) → is_done (made_answer h v p rest made) ≡ true → is_none (person_of h p) ≡ false
known-settled h v p rest None done = absurd (false≢true done)
known-settled h v p rest (Some job) done = known (is_none (person_of h p)) _ done

-- whom a command changes that is done is enrolled
pub subject-known : (h : History) (m : ℕ) (c : Cmd) → is_done (answer_to h m c) ≡ true → OfNumber (λ p. is_none (person_of h p) ≡ false) (subject c)
subject-known h m (cmd.List p a) done = known (is_none (person_of h p)) _ done
subject-known h m (cmd.MarkOff p) done = known (is_none (person_of h p)) _ done
subject-known h m (cmd.MarkOn p) done = known (is_none (person_of h p)) _ done
subject-known h m (cmd.Qualify p a) done = known (is_none (person_of h p)) _ done
subject-known h m (cmd.Happened p a) done = known (is_none (person_of h p)) _ done
subject-known h m (cmd.Drop p) done = known (is_none (person_of h p)) _ done
subject-known h m (cmd.Accept v p) done = known-settled h v p _ (vacancy_of h v) done
subject-known h m (cmd.NoAnswer v p) done = known-settled h v p _ (vacancy_of h v) done
subject-known h m other done = tt

pub done-answer : (h : History) (e : EntryValue) (c : Cmd) → IsNext h e → IsDone e c → is_done (answer_to h e.moment c) ≡ true
done-answer h e c next is = go (is_within h.opening.window e.stated.minute) (ap is_done (sym next.reply) ∙ is.done)
  where
    go : (within : Bool) → is_done (if within then answer_to h (moment h e.stated.minute) e.stated.cmd else reply.OutsideWindow) ≡ true → is_done (answer_to h e.moment c) ≡ true
    go true done = subst (λ x. is_done (answer_to h e.moment x) ≡ true) is.of (subst (λ m. is_done (answer_to h m e.stated.cmd) ≡ true) (sym next.moment) done)
    go false done = absurd (false≢true done)

-- and so is who turns a vacancy down
pub turner-known : (h : History) (m : ℕ) (c : Cmd) → is_done (answer_to h m c) ≡ true → OfNumber (λ p. is_none (person_of h p) ≡ false) (turner c)
turner-known h m (cmd.Decline v p) done = known-settled h v p _ (vacancy_of h v) done
turner-known h m (cmd.NoAnswer v p) done = known-settled h v p _ (vacancy_of h v) done
turner-known h m (cmd.Drop p) done = known (is_none (person_of h p)) _ done
turner-known h m other done = tt
