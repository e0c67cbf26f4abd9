-- Rows of the table of records, and the fields of a command's record, which have one.
use Rattle.std.proofs.Common.{◌≡◌, ℕ, zero, suc, Bool, true, false, ◌+◌, ◌-◌, ◌<◌, List, [], ◌∷◌, length, get_or, decimal, arith, refl, sym, ap}
use Rattle.std.proofs.lemmas.List.Elements.{Contains-get_or}
use Rattle.desk_base.specs.Minute.{IsInYears, minute_text}
use Rattle.desk_base.specs.Number.{IsNumber}
use Rattle.duty_events.specs.declared.event.Event.{Event}
use Rattle.duty_events.specs.declared.event.Event.TheVariants as event
use Rattle.desk_model.specs.declared.command.Cmd.{Cmd}
use Rattle.desk_model.specs.declared.command.Cmd.TheVariants as cmd
use Rattle.desk_model.specs.statements.Job.{JobValue}
use Rattle.desk_model.specs.statements.Statement.{StatedValue}
use Rattle.desk_model.specs.statements.Fits.{IsEvent, IsJob, IsCommand}
use Rattle.desk_model.specs.texts.StatedTexts.{event_fields, job_word, job_fields, command_fields}
use Rattle.command_parser.specs.declared.field_form.FieldForm.{FieldForm}
use Rattle.command_parser.specs.declared.field_form.FieldForm.TheVariants as form
use Rattle.command_parser.specs.declared.word.Word.{Word}
use Rattle.command_parser.specs.declared.word.Word.TheVariants as word
use Rattle.command_parser.specs.declared.event_word.EventWord.TheVariants as event_word
use Rattle.command_parser.specs.Word.{word_text}
use Rattle.command_parser.specs.Spelled.{StatesCommand}
use Rattle.command_parser.specs.RecordForms.{HasForm, record_forms, HasRow}

-- the fields have the forms one by one, behind that field
pub data Fit : List FieldForm → List ℕ → List (List ℕ) → Type 0 where
  none : {before : List ℕ} → Fit [] before []
  next : {f : FieldForm} {forms : List FieldForm} {before field : List ℕ} {fields : List (List ℕ)}
      → HasForm f before field → Fit forms field fields → Fit (f ∷ forms) before (field ∷ fields)

Fit-length : {forms : List FieldForm} {before : List ℕ} {fields : List (List ℕ)} → Fit forms before fields → length forms ≡ length fields
Fit-length none = refl
Fit-length (next has fit) = ap suc (Fit-length fit)

Fit-each : {forms : List FieldForm} {before : List ℕ} {fields : List (List ℕ)} → Fit forms before fields
    → (i : ℕ) → i < length fields → HasForm (get_or forms i form.Minute) (get_or (before ∷ fields) i []) (get_or fields i [])
Fit-each none i lt = absurd (omega (arith, lt))
Fit-each (next has fit) zero lt = has
Fit-each (next has fit) (suc i) lt = Fit-each fit i (omega (arith, lt))

pub fit-each : (forms : List FieldForm) (before : List ℕ) (fields : List (List ℕ)) → length forms ≡ length fields
    → ((i : ℕ) → i < length fields → HasForm (get_or forms i form.Minute) (get_or (before ∷ fields) i []) (get_or fields i []))
    → Fit forms before fields
fit-each [] before [] same each = none
fit-each [] before (_ ∷ _) same each = absurd (omega (arith, same))
fit-each (_ ∷ _) before [] same each = absurd (omega (arith, same))
fit-each (f ∷ forms) before (field ∷ fields) same each =
    next (each 0 (omega arith)) (fit-each forms field fields (omega (arith, same)) (λ i lt. each (suc i) (omega (arith, lt))))

-- the field before one; before the first the first stands
pub before-at : (fields : List (List ℕ)) (i : ℕ) → get_or (get_or fields 0 [] ∷ fields) i [] ≡ get_or fields (i - 1) []
before-at fields zero = refl
before-at fields (suc i) = let e : suc i - 1 ≡ i = omega arith in rw e refl

-- fields that fit the row at this place of the table
row : (n : ℕ) (fields : List (List ℕ)) → n < length record_forms → Fit (get_or record_forms n []) (get_or fields 0 []) fields → HasRow fields
row n fields lt fit = record {
  forms = get_or record_forms n [];
  among = Contains-get_or record_forms n [] lt;
  as_many = Fit-length fit;
  has = record {
    some = omega (arith, Fit-length fit);
    most = omega arith;
    each = λ i lt. rw (sym (before-at fields i)) (Fit-each fit i lt);
  };
}

-- the forms of an event's fields
abbrev event_forms : Event → List FieldForm
event_forms (event.Ride t) = form.Event event_word.Ride ∷ form.Minute ∷ []
event_forms (event.Duty t) = form.Event event_word.Duty ∷ form.Minute ∷ []
event_forms (event.Interim t kind place) = form.Event event_word.Interim ∷ form.Minute ∷ form.Kind ∷ form.Code ∷ []
event_forms (event.Resume t) = form.Event event_word.Resume ∷ form.Minute ∷ []
event_forms (event.Relieve t) = form.Event event_word.Relieve ∷ form.Minute ∷ []
event_forms (event.RideHome t) = form.Event event_word.RideHome ∷ form.Minute ∷ []
event_forms (event.Final t place) = form.Event event_word.Final ∷ form.Minute ∷ form.Code ∷ []
event_forms (event.Other span place) = form.Event event_word.Other ∷ form.Minute ∷ form.LaterMinute ∷ form.Code ∷ []

event-fit : {before : List ℕ} (e : Event) → IsEvent e → Fit (event_forms e) before (event_fields e)
event-fit (event.Ride t) h = next refl (next (t, h, refl) none)
event-fit (event.Duty t) h = next refl (next (t, h, refl) none)
event-fit (event.Interim t kind place) h = next refl (next (t, h.0, refl) (next (kind, refl) (next h.1 none)))
event-fit (event.Resume t) h = next refl (next (t, h, refl) none)
event-fit (event.Relieve t) h = next refl (next (t, h, refl) none)
event-fit (event.RideHome t) h = next refl (next (t, h, refl) none)
event-fit (event.Final t place) h = next refl (next (t, h.0, refl) (next h.1 none))
event-fit (event.Other span place) h =
    next refl (next (span.from, h.0, refl) (next (span.from, span.to, h.0, h.1, h.2, refl, refl) (next h.3 none)))

-- the fields of a command's record fit the row of its word, where what it is about fits the forms behind the word
said : {t : ℕ} {w : Word} {forms : List FieldForm} {before : List ℕ} {about : List (List ℕ)} → IsInYears t → Fit forms (word_text w) about
    → Fit (form.Minute ∷ form.Word w ∷ forms) before (minute_text t ∷ word_text w ∷ about)
said h fit = next (_, h, refl) (next refl fit)

-- one number, and two
number : {before : List ℕ} (n : ℕ) → IsNumber n → Fit (form.Number ∷ []) before (decimal n ∷ [])
number n h = next (n, h, refl) none

numbers : {before : List ℕ} (m n : ℕ) → IsNumber m × IsNumber n → Fit (form.Number ∷ form.Number ∷ []) before (decimal m ∷ decimal n ∷ [])
numbers m n h = next (m, h.0, refl) (number n h.1)

-- a person and an event
told : {before : List ℕ} (person : ℕ) (e : Event) → IsNumber person × IsEvent e
    → Fit (form.Number ∷ event_forms e) before (decimal person ∷ event_fields e)
told person e h = next (person, h.0, refl) (event-fit e h.1)

-- the forms of a record that tells an event
abbrev event_row : Word → Event → List FieldForm
event_row w e = form.Minute ∷ form.Word w ∷ form.Number ∷ event_forms e

-- the place of an event's row behind the word `past`; that behind the word `event` stands eight rows on
event-rows : (e : Event) → (n : ℕ) × (n + 8 < length record_forms) × (get_or record_forms n [] ≡ event_row word.Past e)
    × (get_or record_forms (n + 8) [] ≡ event_row word.Event e)
event-rows (event.Ride t) = (7, omega arith, refl, refl)
event-rows (event.Duty t) = (8, omega arith, refl, refl)
event-rows (event.Interim t kind place) = (9, omega arith, refl, refl)
event-rows (event.Resume t) = (10, omega arith, refl, refl)
event-rows (event.Relieve t) = (11, omega arith, refl, refl)
event-rows (event.RideHome t) = (12, omega arith, refl, refl)
event-rows (event.Final t place) = (13, omega arith, refl, refl)
event-rows (event.Other span place) = (14, omega arith, refl, refl)

-- a job
job-fit : {before : List ℕ} (job : JobValue) → IsJob job
    → Fit (form.Number ∷ form.Craft ∷ form.Quals ∷ form.Code ∷ form.Minute ∷ form.Duty ∷ form.Limbo ∷ form.Chain ∷ []) before (job_fields job)
job-fit job h =
    next (job.vac, h.vac, refl) (next (job.craft, refl) (next (job.quals, h.quals, refl) (next h.place (next (job.report, h.plan.report_in, refl)
    (next (job.duty, h.plan.some, h.plan.most, refl) (next (job.limbo, h.plan.limbo_most, refl) (next (job.chain, h.chain, refl) none)))))))

job-row : (t : ℕ) (relief : Bool) (job : JobValue) → IsInYears t → IsJob job → HasRow (minute_text t ∷ job_word relief ∷ job_fields job)
job-row t false job at h = row 23 _ (omega arith) (said {w = word.Vacancy} at (job-fit job h))
job-row t true job at h = row 24 _ (omega arith) (said {w = word.Relief} at (job-fit job h))

has-row : (t : ℕ) (command : Cmd) → IsInYears t → IsCommand command → HasRow (minute_text t ∷ command_fields command)
has-row t (cmd.Enrol person craft home quals) at h =
    row 0 _ (omega arith) (said {w = word.Enrol} at (next (person, h.0, refl) (next (craft, refl) (next h.1 (next (quals, h.2, refl) none)))))
has-row t (cmd.Board board extra place) at h = row 1 _ (omega arith) (said {w = word.Board} at (next h.0 (next (extra, refl) (next h.1 none))))
has-row t (cmd.List person board) at h = row 2 _ (omega arith) (said {w = word.List} at (next (person, h.0, refl) (next h.1 none)))
has-row t (cmd.Unlist person board) at h = row 3 _ (omega arith) (said {w = word.Unlist} at (next (person, h.0, refl) (next h.1 none)))
has-row t (cmd.MarkOff person) at h = row 4 _ (omega arith) (said {w = word.Off} at (number person h))
has-row t (cmd.MarkOn person) at h = row 5 _ (omega arith) (said {w = word.On} at (number person h))
has-row t (cmd.Qualify person quals) at h = row 6 _ (omega arith) (said {w = word.Qualify} at (next (person, h.0, refl) (next (quals, h.1, refl) none)))
has-row t (cmd.Past person e) at h = let place = event-rows e in row place.0 _ (omega (arith, place.1)) (rw place.2 (said {w = word.Past} at (told person e h)))
has-row t (cmd.Happened person e) at h = let place = event-rows e in row (place.0 + 8) _ (omega (arith, place.1)) (rw place.3 (said {w = word.Event} at (told person e h)))
has-row t (cmd.Vacancy job) at h = job-row t job.relief job at h
has-row t (cmd.Next vac) at h = row 25 _ (omega arith) (said {w = word.Next} at (number vac h))
has-row t (cmd.Offer vac person) at h = row 26 _ (omega arith) (said {w = word.Offer} at (numbers vac person h))
has-row t (cmd.Accept vac person) at h = row 27 _ (omega arith) (said {w = word.Accept} at (numbers vac person h))
has-row t (cmd.Decline vac person) at h = row 28 _ (omega arith) (said {w = word.Decline} at (numbers vac person h))
has-row t (cmd.NoAnswer vac person) at h = row 29 _ (omega arith) (said {w = word.NoAnswer} at (numbers vac person h))
has-row t (cmd.Withdraw vac person) at h = row 30 _ (omega arith) (said {w = word.Withdraw} at (numbers vac person h))
has-row t (cmd.Annul vac) at h = row 31 _ (omega arith) (said {w = word.Annul} at (number vac h))
has-row t (cmd.Drop person) at h = row 32 _ (omega arith) (said {w = word.Drop} at (number person h))
has-row t (cmd.Hours person month) at h = row 33 _ (omega arith) (said {w = word.Hours} at (next (person, h.0, refl) (next (month, h.1, refl) none)))
has-row t (cmd.At board place) at h = row 34 _ (omega arith) (said {w = word.At} at (next h.0 (next (place, h.1, h.2, refl) none)))
has-row t (cmd.Explain vac person) at h = row 35 _ (omega arith) (said {w = word.Explain} at (numbers vac person h))
has-row t (cmd.Vac vac) at h = row 36 _ (omega arith) (said {w = word.Vac} at (number vac h))

pub StatesCommand-HasRow : (fields : List (List ℕ)) (s : StatedValue) → StatesCommand fields s → HasRow fields
StatesCommand-HasRow fields s states = rw states.fields_are (has-row s.minute s.cmd states.valid.minute states.valid.cmd)
