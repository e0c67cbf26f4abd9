-- What is kept of a generated day is enough to go on with it.
use Rattle.std.proofs.Common.{◌≡◌, ℕ, ◌+◌, ◌≤◌, ◌<◌, Option, None, Some, refl, sym, ap, ◌∙◌, add-one, arith}
use Rattle.std.specs.Option.{option_or}
use Rattle.std.specs.List.{slice_get}
use Rattle.desk_model.specs.declared.command.Cmd.{Cmd}
use Rattle.desk_model.specs.declared.edition.Edition.{Edition}
use Rattle.desk_model.specs.declared.edition.Edition.TheVariants as edition
use Rattle.desk_model.specs.statements.Job.{JobValue}
use Rattle.desk_model.specs.statements.Statement.{stated_of}
use Rattle.desk_model.specs.statements.Entry.{EntryValue}
use Rattle.desk_model.specs.histories.History.{History}
use Rattle.desk_model.specs.histories.Legal.{next}
use Rattle.desk_model.specs.histories.Register.{vacancy_of}
use Rattle.desk_model.proofs.SaidLemmas.{last_of-snoc}
use Rattle.day_gen.specs.declared.course.Course.{Course}
use Rattle.day_gen.specs.declared.due.Due.{Due}
use Rattle.day_gen.specs.declared.due.Due.TheVariants as due
use Rattle.day_gen.specs.declared.day_gen.DayGen.TheInside.{Inside}
use Rattle.day_gen.specs.Room.{HasRoom}
use Rattle.day_gen.specs.SetUp.{set_up}
use Rattle.day_gen.specs.Turn.{Turn, stated_by}
use Rattle.day_gen.specs.Due.{due_by, last_entry, job_of_vacancy, job_due}
use Rattle.day_gen.specs.Rules.{report_turn, release_turn, turn_by}
use Rattle.day_gen.specs.Day.{Day, turn_at, due_on, next_turn, day_after, generated_day, day_statement}
use Rattle.day_gen.specs.Generator.{GeneratorValue, most_commands}
use Rattle.day_gen.specs.Due.{plans, planned_last}
use Rattle.day_gen.specs.GeneratorInside.{generator_value, KeepsGenerator}
use Rattle.day_gen.proofs.OpeningLemmas.{start_from, start_to}
use Rattle.day_gen.proofs.KeepLemmas.{IsDue, Keeps}
use Rattle.day_gen.proofs.DayLemmas.{day_keeps}

pub most_few : (this : Edition) → most_commands this ≤ 20_000
most_few edition.One = omega arith
most_few edition.Two = omega arith

pub day-room : (edition : Edition) (number n : ℕ) → n < 20_000 → HasRoom (day_after edition number n).course
day-room edition number n below =
    let keeps : Keeps edition n (day_after edition number n) = day_keeps edition number n in
    record {
      begins = omega (arith, keeps.begins, start_from);
      ends = omega (arith, keeps.ends, start_to, below);
      numbers = omega (arith, keeps.made, below);
    }

-- the job that was stated last is the one for which there is something to do
rule-job : (edition : Edition) (c : Course) (h : History) (made : ℕ) (due : Due) → IsDue h made due
    → turn_by edition c (planned_last h) due ≡ turn_by edition c (job_due h due) due
rule-job edition c h made (due.Answer vac person) todo = refl
rule-job edition c h made (due.Report vac person) todo =
    ap (λ job. report_turn c job person) (sym (ap (vacancy_of h) todo.0 ∙ todo.1))
rule-job edition c h made (due.Release person) todo =
    ap (λ job. release_turn c job person) (sym (ap (job_of_vacancy h) todo.0 ∙ todo.1))
rule-job edition c h made (due.Call vac) todo = refl
rule-job edition c h made due.Nothing todo = refl

turn-job : (edition : Edition) (c : Course) (h : History) (made : ℕ) (due : Due) (o : Option Cmd) → IsDue h made due
    → turn_at edition c o (planned_last h) due ≡ turn_at edition c o (job_due h due) due
turn-job edition c h made due None todo = rule-job edition c h made due todo
turn-job edition c h made due (Some x) todo = refl

-- the turn that what is kept gives is the day's next
pub turn-is : (g : Inside) (due : Due) → KeepsGenerator g → due ≡ due_by (last_entry (generated_day g.edition g.number g.given))
    → turn_at g.edition g.course (slice_get set_up g.given) g.job due ≡ next_turn g.edition (day_after g.edition g.number g.given)
unfolding generated_day
turn-is g due keeps same =
    let day : Day = day_after g.edition g.number g.given in
    let is : Keeps g.edition g.given day = day_keeps g.edition g.number g.given in
    ap (λ x. turn_at g.edition x (slice_get set_up g.given) g.job due) keeps.course
    ∙ ap (λ x. turn_at g.edition day.course (slice_get set_up g.given) x due) keeps.job
    ∙ ap (turn_at g.edition day.course (slice_get set_up g.given) (planned_last day.history)) same
    ∙ turn-job g.edition day.course day.history day.course.made (due_on day) (slice_get set_up g.given) is.due
    ∙ ap (λ k. turn_at g.edition day.course (slice_get set_up k) (job_due day.history (due_on day)) (due_on day)) (sym is.entries)

-- what there is to do, where this is the last entry
pub due-is : (g : Inside) (value : GeneratorValue) (due : Due) → generator_value g ≡ value
    → due ≡ due_by (last_entry (generated_day value.edition value.number value.given)) → due ≡ due_by (last_entry (generated_day g.edition g.number g.given))
due-is g value due view is = is ∙ ap (λ v. due_by (last_entry (generated_day v.edition v.number v.given))) (sym view)

-- what is stated at the end of the turn
pub stated-is : (edition : Edition) (number n : ℕ) (turn : Turn) (course : Course) (cmd : Cmd) → turn ≡ next_turn edition (day_after edition number n)
    → course ≡ turn.course → cmd ≡ turn.cmd → stated_of course.minute cmd ≡ day_statement edition number n
unfolding day_statement
stated-is edition number n turn course cmd is is_course is_cmd =
    ap (λ x. stated_of x.minute cmd) is_course ∙ ap (stated_of turn.course.minute) is_cmd ∙ ap stated_by is

-- what is kept when the turn is over
pub kept-on : (g : Inside) (course : Course) (job : Option JobValue) → KeepsGenerator g → g.given < g.commands
    → course ≡ (next_turn g.edition (day_after g.edition g.number g.given)).course
    → job ≡ option_or (plans (next_turn g.edition (day_after g.edition g.number g.given)).cmd) g.job
    → KeepsGenerator (record g { given = g.given + 1; course = course; job = job })
unfolding generated_day day_after next
kept-on g course job keeps below is_course is_job =
    let day : Day = day_after g.edition g.number g.given in
    let turn : Turn = next_turn g.edition day in
    let e : EntryValue = next day.history 0 (stated_by turn) in
    record {
      some = keeps.some;
      most = keeps.most;
      given = omega (arith, below);
      course = is_course ∙ ap (λ k. (day_after g.edition g.number k).course) (sym (add-one g.given));
      job = is_job
          ∙ ap (option_or (plans turn.cmd)) keeps.job
          ∙ sym (last_of-snoc (λ x. plans x.stated.cmd) day.history.entries e)
          ∙ ap (λ k. planned_last (day_after g.edition g.number k).history) (sym (add-one g.given));
    }

-- whatever there is to do is for the job that was stated last
due-job : (h : History) (made : ℕ) (due : Due) (job : JobValue) → IsDue h made due → job_due h due ≡ Some job → planned_last h ≡ Some job
due-job h made (due.Answer vac person) job todo is = sym (ap (vacancy_of h) todo.0 ∙ todo.1) ∙ is
due-job h made (due.Report vac person) job todo is = sym (ap (vacancy_of h) todo.0 ∙ todo.1) ∙ is
due-job h made (due.Release person) job todo is = sym (ap (job_of_vacancy h) todo.0 ∙ todo.1) ∙ is
due-job h made (due.Call vac) job todo is = sym (ap (vacancy_of h) todo.0 ∙ todo.1) ∙ is
due-job h made due.Nothing job todo is = cc

pub due-last : (edition : Edition) (number n : ℕ) (job : JobValue) → job_due (generated_day edition number n) (due_by (last_entry (generated_day edition number n))) ≡ Some job
    → planned_last (generated_day edition number n) ≡ Some job
unfolding generated_day
due-last edition number n job is =
    let day : Day = day_after edition number n in
    due-job day.history day.course.made (due_on day) job (day_keeps edition number n).due is
