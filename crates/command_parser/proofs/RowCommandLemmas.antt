-- Fields that have a row of the table of records, and the command that they state.
use Rattle.std.proofs.Common.{◌≡◌, ℕ, Bool, true, false, List, [], ◌∷◌, get_or, decimal, refl}
use Rattle.std.specs.List.{All}
use Rattle.std.proofs.lemmas.List.Elements.{All-cons, All-nil, All-contains}
use Rattle.desk_base.specs.Code.{IsCode}
use Rattle.desk_base.specs.Minute.{IsInYears, minute_text}
use Rattle.desk_base.specs.Number.{IsNumber}
use Rattle.desk_base.specs.Span.{span_of}
use Rattle.duty_events.specs.declared.event.Event.{Event}
use Rattle.duty_events.specs.declared.event.Event.TheVariants as event
use Rattle.desk_model.specs.declared.command.Cmd.{Cmd}
use Rattle.desk_model.specs.declared.command.Cmd.TheVariants as cmd
use Rattle.desk_model.specs.statements.Job.{job_of}
use Rattle.desk_model.specs.statements.Statement.{stated_of}
use Rattle.desk_model.specs.statements.Fits.{IsEvent}
use Rattle.desk_model.specs.texts.StatedTexts.{job_word, event_fields}
use Rattle.command_parser.specs.declared.field_form.FieldForm.{FieldForm}
use Rattle.command_parser.specs.declared.field_form.FieldForm.TheVariants as form
use Rattle.command_parser.specs.declared.word.Word.{Word}
use Rattle.command_parser.specs.declared.word.Word.TheVariants as word
use Rattle.command_parser.specs.declared.event_word.EventWord.{EventWord}
use Rattle.command_parser.specs.declared.event_word.EventWord.TheVariants as event_word
use Rattle.command_parser.specs.Word.{word_text, event_word_text}
use Rattle.command_parser.specs.Spelled.{Spells, SpellsCommand, SpellsEvent, StatesSome}
use Rattle.command_parser.specs.RecordForms.{HasForm, record_forms, HasRow}
use Rattle.command_parser.proofs.RowLemmas.{Fit, none, next, fit-each, before-at}

-- fields that fit the forms state a command
abbrev States : List FieldForm → Type 0
States forms = (before : List ℕ) (fields : List (List ℕ)) → Fit forms before fields → StatesSome fields

-- a minute, and behind it the fields of a command
stated : (m : List ℕ) (fields : List (List ℕ)) (command : Cmd) → HasForm form.Minute [] m → SpellsCommand fields command → StatesSome (m ∷ fields)
stated m fields command (t, h, e) spells = record {
  stated = stated_of t command;
  states = record { valid = record { minute = h; cmd = spells.valid }; fields_are = rw (e, spells.fields_are) refl };
}

-- the fields behind a word spell a command that is about a number, about two, or about a number and a code
number-row : (w : Word) (about : ℕ → Cmd) → ((n : ℕ) → IsNumber n → Spells w (decimal n ∷ []) (about n))
    → States (form.Minute ∷ form.Word w ∷ form.Number ∷ [])
number-row w about spells _ _ (next at (next is (next (n, h, e) none))) = stated _ _ (about n) at (rw (is, e) (spells n h))

numbers-row : (w : Word) (about : ℕ → ℕ → Cmd) → ((m n : ℕ) → IsNumber m → IsNumber n → Spells w (decimal m ∷ decimal n ∷ []) (about m n))
    → States (form.Minute ∷ form.Word w ∷ form.Number ∷ form.Number ∷ [])
numbers-row w about spells _ _ (next at (next is (next (m, h, e) (next (n, h', e') none)))) =
    stated _ _ (about m n) at (rw (is, e, e') (spells m n h h'))

code-row : (w : Word) (about : ℕ → List ℕ → Cmd) → ((n : ℕ) (code : List ℕ) → IsNumber n → IsCode code → Spells w (decimal n ∷ code ∷ []) (about n code))
    → States (form.Minute ∷ form.Word w ∷ form.Number ∷ form.Code ∷ [])
code-row w about spells _ _ (next at (next is (next (n, h, e) (next {field = code} h' none)))) =
    stated _ _ (about n code) at (rw (is, e) (spells n code h h'))

-- or an event
abbrev Tells : List FieldForm → Type 0
Tells forms = (before : List ℕ) (fields : List (List ℕ)) → Fit forms before fields → (e : Event) × SpellsEvent fields e

event-states : (w : Word) (about : ℕ → Event → Cmd) → ((n : ℕ) (e : Event) → IsNumber n → IsEvent e → Spells w (decimal n ∷ event_fields e) (about n e))
    → (m x y : List ℕ) (fields : List (List ℕ)) → HasForm form.Minute [] m → x ≡ word_text w → HasForm form.Number [] y → (e : Event) × SpellsEvent fields e
    → StatesSome (m ∷ x ∷ y ∷ fields)
event-states w about spells m x y fields at is (n, h, e) (event, told) =
    stated _ _ (about n event) at (rw (is, e, told.fields_are) (spells n event h told.valid))

past-row : (forms : List FieldForm) → Tells forms → States (form.Minute ∷ form.Word word.Past ∷ form.Number ∷ forms)
past-row forms tells _ _ (next at (next is (next has fit))) =
    event-states word.Past cmd.Past (λ n e h h'. record { valid = (h, h'); fields_are = refl }) _ _ _ _ at is has (tells _ _ fit)

happened-row : (forms : List FieldForm) → Tells forms → States (form.Minute ∷ form.Word word.Event ∷ form.Number ∷ forms)
happened-row forms tells _ _ (next at (next is (next has fit))) =
    event-states word.Event cmd.Happened (λ n e h h'. record { valid = (h, h'); fields_are = refl }) _ _ _ _ at is has (tells _ _ fit)

moment-tells : (w : EventWord) (about : ℕ → Event) → ((t : ℕ) → IsInYears t → SpellsEvent (event_word_text w ∷ minute_text t ∷ []) (about t))
    → Tells (form.Event w ∷ form.Minute ∷ [])
moment-tells w about spells _ _ (next is (next (t, h, e) none)) = (about t, rw (is, e) (spells t h))

interim-tells : Tells (form.Event event_word.Interim ∷ form.Minute ∷ form.Kind ∷ form.Code ∷ [])
interim-tells _ _ (next is (next (t, h, e) (next (kind, ek) (next {field = place} hp none)))) =
    (event.Interim t kind place, record { valid = (h, hp); fields_are = rw (is, e, ek) refl })

final-tells : Tells (form.Event event_word.Final ∷ form.Minute ∷ form.Code ∷ [])
final-tells _ _ (next is (next (t, h, e) (next {field = place} hp none))) =
    (event.Final t place, record { valid = (h, hp); fields_are = rw (is, e) refl })

other-tells : Tells (form.Event event_word.Other ∷ form.Minute ∷ form.LaterMinute ∷ form.Code ∷ [])
other-tells _ _ (next is (next at (next (s, t, hs, ht, lt, es, et) (next {field = place} hp none)))) =
    (event.Other (span_of s t) place, record { valid = (hs, ht, lt, hp); fields_are = rw (is, es, et) refl })

enrol-row : States (form.Minute ∷ form.Word word.Enrol ∷ form.Number ∷ form.Craft ∷ form.Code ∷ form.Quals ∷ [])
enrol-row _ _ (next at (next is (next (n, h, e) (next (craft, ec) (next {field = home} hh (next (quals, hq, eq) none)))))) =
    stated _ _ (cmd.Enrol n craft home quals) at record { valid = (h, hh, hq); fields_are = rw (is, e, ec, eq) refl }

board-row : States (form.Minute ∷ form.Word word.Board ∷ form.Code ∷ form.Sort ∷ form.Code ∷ [])
board-row _ _ (next at (next is (next {field = board} hb (next (extra, e) (next {field = place} hp none))))) =
    stated _ _ (cmd.Board board extra place) at record { valid = (hb, hp); fields_are = rw (is, e) refl }

qualify-row : States (form.Minute ∷ form.Word word.Qualify ∷ form.Number ∷ form.Quals ∷ [])
qualify-row _ _ (next at (next is (next (n, h, e) (next (quals, hq, eq) none)))) =
    stated _ _ (cmd.Qualify n quals) at record { valid = (h, hq); fields_are = rw (is, e, eq) refl }

vacancy-row : (relief : Bool) (w : Word) → word_text w ≡ job_word relief
    → States (form.Minute ∷ form.Word w ∷ form.Number ∷ form.Craft ∷ form.Quals ∷ form.Code ∷ form.Minute ∷ form.Duty ∷ form.Limbo ∷ form.Chain ∷ [])
vacancy-row relief w same _ _ (next at (next is (next (n, h, e) (next (craft, ec) (next (quals, hq, eq) (next {field = place} hp (next (t, ht, et)
    (next (duty, some, most, ed) (next (limbo, hl, el) (next (chain, hc, eh) none)))))))))) =
    stated _ _ (cmd.Vacancy (job_of n craft quals place t duty limbo chain relief)) at record {
      valid = record { vac = h; quals = hq; place = hp; plan = record { report_in = ht; some = some; most = most; limbo_most = hl }; chain = hc };
      fields_are = rw (is, same, e, ec, eq, et, ed, el, eh) refl;
    }

hours-row : States (form.Minute ∷ form.Word word.Hours ∷ form.Number ∷ form.Month ∷ [])
hours-row _ _ (next at (next is (next (n, h, e) (next (month, hm, em) none)))) =
    stated _ _ (cmd.Hours n month) at record { valid = (h, hm); fields_are = rw (is, e, em) refl }

at-row : States (form.Minute ∷ form.Word word.At ∷ form.Code ∷ form.Position ∷ [])
at-row _ _ (next at (next is (next {field = board} hb (next (place, some, most, e) none)))) =
    stated _ _ (cmd.At board place) at record { valid = (hb, some, most); fields_are = rw (is, e) refl }

-- each of these rows is that of some command
infixr 40 ◌also◌
data Each : List (List FieldForm) → Type 0 where
  nothing : Each []
  ◌also◌ : {forms : List FieldForm} {rows : List (List FieldForm)} → States forms → Each rows → Each (forms ∷ rows)

All-each : (rows : List (List FieldForm)) → Each rows → All States rows
All-each [] nothing = All-nil States
All-each (forms ∷ rows) (states also each) = All-cons States forms rows states (All-each rows each)

ride-tells : Tells (form.Event event_word.Ride ∷ form.Minute ∷ [])
ride-tells = moment-tells event_word.Ride event.Ride (λ t h. record { valid = h; fields_are = refl })

duty-tells : Tells (form.Event event_word.Duty ∷ form.Minute ∷ [])
duty-tells = moment-tells event_word.Duty event.Duty (λ t h. record { valid = h; fields_are = refl })

resume-tells : Tells (form.Event event_word.Resume ∷ form.Minute ∷ [])
resume-tells = moment-tells event_word.Resume event.Resume (λ t h. record { valid = h; fields_are = refl })

relieve-tells : Tells (form.Event event_word.Relieve ∷ form.Minute ∷ [])
relieve-tells = moment-tells event_word.Relieve event.Relieve (λ t h. record { valid = h; fields_are = refl })

ride_home-tells : Tells (form.Event event_word.RideHome ∷ form.Minute ∷ [])
ride_home-tells = moment-tells event_word.RideHome event.RideHome (λ t h. record { valid = h; fields_are = refl })

each-row : Each record_forms
each-row =
    enrol-row
    also board-row
    also code-row word.List cmd.List (λ n code h h'. record { valid = (h, h'); fields_are = refl })
    also code-row word.Unlist cmd.Unlist (λ n code h h'. record { valid = (h, h'); fields_are = refl })
    also number-row word.Off cmd.MarkOff (λ n h. record { valid = h; fields_are = refl })
    also number-row word.On cmd.MarkOn (λ n h. record { valid = h; fields_are = refl })
    also qualify-row
    also past-row _ ride-tells
    also past-row _ duty-tells
    also past-row _ interim-tells
    also past-row _ resume-tells
    also past-row _ relieve-tells
    also past-row _ ride_home-tells
    also past-row _ final-tells
    also past-row _ other-tells
    also happened-row _ ride-tells
    also happened-row _ duty-tells
    also happened-row _ interim-tells
    also happened-row _ resume-tells
    also happened-row _ relieve-tells
    also happened-row _ ride_home-tells
    also happened-row _ final-tells
    also happened-row _ other-tells
    also vacancy-row false word.Vacancy refl
    also vacancy-row true word.Relief refl
    also number-row word.Next cmd.Next (λ n h. record { valid = h; fields_are = refl })
    also numbers-row word.Offer cmd.Offer (λ m n h h'. record { valid = (h, h'); fields_are = refl })
    also numbers-row word.Accept cmd.Accept (λ m n h h'. record { valid = (h, h'); fields_are = refl })
    also numbers-row word.Decline cmd.Decline (λ m n h h'. record { valid = (h, h'); fields_are = refl })
    also numbers-row word.NoAnswer cmd.NoAnswer (λ m n h h'. record { valid = (h, h'); fields_are = refl })
    also numbers-row word.Withdraw cmd.Withdraw (λ m n h h'. record { valid = (h, h'); fields_are = refl })
    also number-row word.Annul cmd.Annul (λ n h. record { valid = h; fields_are = refl })
    also number-row word.Drop cmd.Drop (λ n h. record { valid = h; fields_are = refl })
    also hours-row
    also at-row
    also numbers-row word.Explain cmd.Explain (λ m n h h'. record { valid = (h, h'); fields_are = refl })
    also number-row word.Vac cmd.Vac (λ n h. record { valid = h; fields_are = refl })
    also nothing

pub HasRow-StatesSome : (fields : List (List ℕ)) → HasRow fields → StatesSome fields
HasRow-StatesSome fields has =
    All-contains States record_forms has.forms (All-each record_forms each-row) has.among (get_or fields 0 []) fields
    (fit-each has.forms _ fields has.as_many (λ i lt. rw (before-at fields i) (has.has.each i lt)))
