-- The forms of the fields of a record.
use Rattle.std.specs.Prelude.{◌≡◌, ◌<◌, ◌≤◌, ◌^◌, ◌-◌, ℕ, Bool, List, decimal, length, get_or, [], ◌∷◌}
use Rattle.desk_model.specs.declared.limits.TheConstants.{DUTY_PLAN_LIMIT, LIMBO_PLAN_LIMIT, POSITION_LIMIT}
use Rattle.std.specs.List.{Contains}
use Rattle.desk_base.specs.Code.{IsCode}
use Rattle.desk_base.specs.Minute.{IsInYears, minute_text}
use Rattle.desk_base.specs.Month.{IsMonthInYears, month_text}
use Rattle.desk_base.specs.Number.{IsNumber}
use Rattle.duty_events.specs.declared.kind.Kind.{Kind}
use Rattle.qualifications.specs.declared.craft.Craft.{Craft}
use Rattle.qualifications.specs.Craft.{craft_text}
use Rattle.qualifications.specs.Quals.{quals_text}
use Rattle.desk_model.specs.statements.Chain.{IsChain, chain_text}
use Rattle.desk_model.specs.texts.StatedTexts.{sort_text, kind_text}
use Rattle.command_parser.specs.declared.field_form.FieldForm.{FieldForm}
use Rattle.command_parser.specs.declared.field_form.FieldForm.TheVariants as form
use Rattle.command_parser.specs.declared.word.Word.TheVariants as word
use Rattle.command_parser.specs.declared.event_word.EventWord.TheVariants as event_word
use Rattle.command_parser.specs.Word.{word_text, event_word_text}

-- the field has the form, where that field stands before it
abbrev pub HasForm : FieldForm → List ℕ → List ℕ → Type 0
HasForm (form.Word w) before field = field ≡ word_text w
HasForm (form.Event w) before field = field ≡ event_word_text w
HasForm form.Minute before field = (t : ℕ) × IsInYears t × (field ≡ minute_text t)
HasForm form.LaterMinute before field = (s : ℕ) × (t : ℕ) × IsInYears s × IsInYears t × (s < t) × (before ≡ minute_text s) × (field ≡ minute_text t)
HasForm form.Month before field = (month : ℕ) × IsMonthInYears month × (field ≡ month_text month)
HasForm form.Number before field = (number : ℕ) × IsNumber number × (field ≡ decimal number)
HasForm form.Code before field = IsCode field
HasForm form.Craft before field = (craft : Craft) × (field ≡ craft_text craft)
HasForm form.Quals before field = (quals : ℕ) × (quals < 2 ^ 64) × (field ≡ quals_text quals)
HasForm form.Sort before field = (extra : Bool) × (field ≡ sort_text extra)
HasForm form.Kind before field = (kind : Kind) × (field ≡ kind_text kind)
HasForm form.Chain before field = (chain : List (List ℕ)) × IsChain chain × (field ≡ chain_text chain)
HasForm form.Duty before field = (minutes : ℕ) × (1 ≤ minutes) × (minutes ≤ DUTY_PLAN_LIMIT) × (field ≡ decimal minutes)
HasForm form.Limbo before field = (minutes : ℕ) × (minutes ≤ LIMBO_PLAN_LIMIT) × (field ≡ decimal minutes)
HasForm form.Position before field = (position : ℕ) × (1 ≤ position) × (position ≤ POSITION_LIMIT) × (field ≡ decimal position)

-- the forms of the fields of each record that states a command
abbrev pub record_forms : List (List FieldForm)
record_forms =
    (form.Minute ∷ form.Word word.Enrol ∷ form.Number ∷ form.Craft ∷ form.Code ∷ form.Quals ∷ [])
    ∷ (form.Minute ∷ form.Word word.Board ∷ form.Code ∷ form.Sort ∷ form.Code ∷ [])
    ∷ (form.Minute ∷ form.Word word.List ∷ form.Number ∷ form.Code ∷ [])
    ∷ (form.Minute ∷ form.Word word.Unlist ∷ form.Number ∷ form.Code ∷ [])
    ∷ (form.Minute ∷ form.Word word.Off ∷ form.Number ∷ [])
    ∷ (form.Minute ∷ form.Word word.On ∷ form.Number ∷ [])
    ∷ (form.Minute ∷ form.Word word.Qualify ∷ form.Number ∷ form.Quals ∷ [])
    ∷ (form.Minute ∷ form.Word word.Past ∷ form.Number ∷ form.Event event_word.Ride ∷ form.Minute ∷ [])
    ∷ (form.Minute ∷ form.Word word.Past ∷ form.Number ∷ form.Event event_word.Duty ∷ form.Minute ∷ [])
    ∷ (form.Minute ∷ form.Word word.Past ∷ form.Number ∷ form.Event event_word.Interim ∷ form.Minute ∷ form.Kind ∷ form.Code ∷ [])
    ∷ (form.Minute ∷ form.Word word.Past ∷ form.Number ∷ form.Event event_word.Resume ∷ form.Minute ∷ [])
    ∷ (form.Minute ∷ form.Word word.Past ∷ form.Number ∷ form.Event event_word.Relieve ∷ form.Minute ∷ [])
    ∷ (form.Minute ∷ form.Word word.Past ∷ form.Number ∷ form.Event event_word.RideHome ∷ form.Minute ∷ [])
    ∷ (form.Minute ∷ form.Word word.Past ∷ form.Number ∷ form.Event event_word.Final ∷ form.Minute ∷ form.Code ∷ [])
    ∷ (form.Minute ∷ form.Word word.Past ∷ form.Number ∷ form.Event event_word.Other ∷ form.Minute ∷ form.LaterMinute ∷ form.Code ∷ [])
    ∷ (form.Minute ∷ form.Word word.Event ∷ form.Number ∷ form.Event event_word.Ride ∷ form.Minute ∷ [])
    ∷ (form.Minute ∷ form.Word word.Event ∷ form.Number ∷ form.Event event_word.Duty ∷ form.Minute ∷ [])
    ∷ (form.Minute ∷ form.Word word.Event ∷ form.Number ∷ form.Event event_word.Interim ∷ form.Minute ∷ form.Kind ∷ form.Code ∷ [])
    ∷ (form.Minute ∷ form.Word word.Event ∷ form.Number ∷ form.Event event_word.Resume ∷ form.Minute ∷ [])
    ∷ (form.Minute ∷ form.Word word.Event ∷ form.Number ∷ form.Event event_word.Relieve ∷ form.Minute ∷ [])
    ∷ (form.Minute ∷ form.Word word.Event ∷ form.Number ∷ form.Event event_word.RideHome ∷ form.Minute ∷ [])
    ∷ (form.Minute ∷ form.Word word.Event ∷ form.Number ∷ form.Event event_word.Final ∷ form.Minute ∷ form.Code ∷ [])
    ∷ (form.Minute ∷ form.Word word.Event ∷ form.Number ∷ form.Event event_word.Other ∷ form.Minute ∷ form.LaterMinute ∷ form.Code ∷ [])
    ∷ (form.Minute ∷ form.Word word.Vacancy ∷ form.Number ∷ form.Craft ∷ form.Quals ∷ form.Code ∷ form.Minute ∷ form.Duty ∷ form.Limbo ∷ form.Chain ∷ [])
    ∷ (form.Minute ∷ form.Word word.Relief ∷ form.Number ∷ form.Craft ∷ form.Quals ∷ form.Code ∷ form.Minute ∷ form.Duty ∷ form.Limbo ∷ form.Chain ∷ [])
    ∷ (form.Minute ∷ form.Word word.Next ∷ form.Number ∷ [])
    ∷ (form.Minute ∷ form.Word word.Offer ∷ form.Number ∷ form.Number ∷ [])
    ∷ (form.Minute ∷ form.Word word.Accept ∷ form.Number ∷ form.Number ∷ [])
    ∷ (form.Minute ∷ form.Word word.Decline ∷ form.Number ∷ form.Number ∷ [])
    ∷ (form.Minute ∷ form.Word word.NoAnswer ∷ form.Number ∷ form.Number ∷ [])
    ∷ (form.Minute ∷ form.Word word.Withdraw ∷ form.Number ∷ form.Number ∷ [])
    ∷ (form.Minute ∷ form.Word word.Annul ∷ form.Number ∷ [])
    ∷ (form.Minute ∷ form.Word word.Drop ∷ form.Number ∷ [])
    ∷ (form.Minute ∷ form.Word word.Hours ∷ form.Number ∷ form.Month ∷ [])
    ∷ (form.Minute ∷ form.Word word.At ∷ form.Code ∷ form.Position ∷ [])
    ∷ (form.Minute ∷ form.Word word.Explain ∷ form.Number ∷ form.Number ∷ [])
    ∷ (form.Minute ∷ form.Word word.Vac ∷ form.Number ∷ [])
    ∷ []

-- the first fields, so many, have the first forms
pub record HasForms (forms : List FieldForm) (fields : List (List ℕ)) (count : ℕ) : Type 0 where
  pub some : count ≤ length forms
  pub most : count ≤ length fields
  pub each : (i : ℕ) → i < count → HasForm (get_or forms i form.Minute) (get_or fields (i - 1) []) (get_or fields i [])

-- the first fields, so many, are those of some record
pub record Begins (fields : List (List ℕ)) (count : ℕ) : Type 0 where
  pub forms : List FieldForm
  pub among : Contains record_forms forms
  pub has : HasForms forms fields count

-- the fields before this one, counted from 1, are those of some record, and with it they are those of none: it is missing,
-- one too many, or none that may stand there
pub record IsWrongAt (fields : List (List ℕ)) (place : ℕ) : Type 0 where
  pub from_1 : 1 ≤ place
  pub right : Begins fields (place - 1)
  pub wrong : ¬ Begins fields place

-- the fields are as many as those of some record, and have their forms
pub record HasRow (fields : List (List ℕ)) : Type 0 where
  pub forms : List FieldForm
  pub among : Contains record_forms forms
  pub as_many : length forms ≡ length fields
  pub has : HasForms forms fields (length fields)
