-- What the last entry leaves to do.
use Rattle.std.specs.Prelude.{ℕ, Option, None, Some, if◌then◌else◌}
use Rattle.duty_events.specs.declared.event.Event.{Event}
use Rattle.duty_events.specs.declared.event.Event.TheVariants as event
use Rattle.desk_model.specs.declared.command.Cmd.{Cmd}
use Rattle.desk_model.specs.declared.command.Cmd.TheVariants as cmd
use Rattle.desk_model.specs.declared.offer.Offer.{Offer}
use Rattle.desk_model.specs.statements.Entry.{EntryValue}
use Rattle.desk_model.specs.histories.History.{History, is_done, said, last_of}
use Rattle.desk_model.specs.statements.Job.{JobValue}
use Rattle.desk_model.specs.offers.Offers.{asks_for, offer_in}
use Rattle.desk_model.specs.histories.Register.{vacancy_of}
use Rattle.day_gen.specs.declared.due.Due.{Due}
use Rattle.day_gen.specs.declared.due.Due.TheVariants as due

-- who reported is to be released
abbrev pub due_after_event : ℕ → Event → Due
due_after_event person (event.Duty at) = due.Release person
due_after_event person other = due.Nothing

-- who accepted a vacancy is to report for it; a vacancy that was made, declined or taken back is to be called for
abbrev pub due_after_done : Cmd → Due
due_after_done (cmd.Accept vac person) = due.Report vac person
due_after_done (cmd.Happened person event) = due_after_event person event
due_after_done (cmd.Vacancy job) = due.Call job.vac
due_after_done (cmd.Decline vac person) = due.Call vac
due_after_done (cmd.Withdraw vac person) = due.Call vac
due_after_done other = due.Nothing

-- an offer is to be answered
abbrev pub due_after_offer : Option ℕ → Option Offer → Due
due_after_offer (Some vac) (Some offer) = due.Answer vac offer.person
due_after_offer asked other = due.Nothing

abbrev pub due_after : EntryValue → Due
due_after e = if is_done e.reply then due_after_done e.stated.cmd else due_after_offer (asks_for e.stated.cmd) (offer_in e.moment e.reply)

-- the last entry of a history, and what it leaves to do; nothing where there is none
abbrev pub last_entry : History → Option EntryValue
last_entry h = last_of (λ e. Some e) h.entries

abbrev pub due_by : Option EntryValue → Due
due_by None = due.Nothing
due_by (Some e) = due_after e

-- the vacancy that a command accepts, and the one that was accepted last
abbrev pub accepts : Cmd → Option ℕ
accepts (cmd.Accept vac person) = Some vac
accepts other = None

abbrev pub accepted_last : History → Option ℕ
accepted_last h = last_of (said accepts) h.entries

-- the job of a vacancy, if one is meant
abbrev pub job_of_vacancy : History → Option ℕ → Option JobValue
job_of_vacancy h None = None
job_of_vacancy h (Some vac) = vacancy_of h vac

-- the job for which there is something to do: who reported did so for the vacancy that was accepted last
abbrev pub job_due : History → Due → Option JobValue
job_due h (due.Answer vac person) = vacancy_of h vac
job_due h (due.Report vac person) = vacancy_of h vac
job_due h (due.Release person) = job_of_vacancy h (accepted_last h)
job_due h (due.Call vac) = vacancy_of h vac
job_due h due.Nothing = None

-- the job of a vacancy that a command makes, and that of the last one that was stated, whatever was answered
abbrev pub plans : Cmd → Option JobValue
plans (cmd.Vacancy job) = Some job
plans other = None

abbrev pub planned_last : History → Option JobValue
planned_last h = last_of (λ e. plans e.stated.cmd) h.entries
