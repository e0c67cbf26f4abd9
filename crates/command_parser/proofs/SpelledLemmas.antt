-- Commands taken apart into their fields.
use Rattle.std.proofs.Common.{◌≡◌, ℕ, ◌<◌, ◌^◌, Bool, true, false, List, [], ◌∷◌, length, get_or, map, codes, decimal, drop, refl, arith, sym, ◌∙◌, ap, Bor, Some, nat_eq, ◌≢◌}
use Rattle.std.specs.Cmp.Lexicographic.{pointwise}
use Rattle.std.specs.List.{join_with_byte}
use Rattle.std.proofs.lemmas.Bool.{false≢true}
use Rattle.std.proofs.lemmas.Bool.Decides.{Decides-eqb}
use Rattle.std.proofs.lemmas.Slice.Eq.{slice_eq-Decides}
use Rattle.std.proofs.lemmas.List.{get_or-map}
use Rattle.std.proofs.lemmas.List.Splits.{join_with_byte-slice_split}
use Rattle.desk_base.specs.Number.{IsNumber}
use Rattle.desk_base.specs.Code.{IsCode}
use Rattle.desk_base.specs.Minute.{minute_text}
use Rattle.desk_base.specs.Parts.{parts_by}
use Rattle.qualifications.specs.declared.craft.Craft.{Craft}
use Rattle.qualifications.specs.Craft.{craft_text}
use Rattle.qualifications.specs.Quals.{quals_text}
use Rattle.desk_model.specs.declared.command.Cmd.{Cmd}
use Rattle.desk_model.specs.declared.command.Cmd.TheVariants as cmd
use Rattle.desk_model.specs.statements.Chain.{chain_text}
use Rattle.desk_model.specs.statements.Job.{JobValue, job_of}
use Rattle.desk_model.specs.statements.Fits.{IsJob}
use Rattle.desk_model.specs.statements.Statement.{StatedValue}
use Rattle.desk_model.specs.texts.StatedTexts.{command_fields, job_word, job_fields}
use Rattle.command_parser.specs.declared.word.Word.{Word}
use Rattle.command_parser.specs.declared.word.Word.TheVariants as word
use Rattle.command_parser.specs.Word.{word_text}
use Rattle.command_parser.specs.Spelled.{Spells, SpellsCommand, SpellsStated, StatesCommand}

-- a field is what stands at its place
pub field_at : (borrowed : List (Bor (List ℕ))) (fields : List (List ℕ)) (i : ℕ) (d : Bor (List ℕ))
    → map (λ field. field.now) borrowed ≡ fields → i < length borrowed → (get_or borrowed i d).now ≡ get_or fields i []
field_at borrowed fields i d e lt = sym (get_or-map (λ field. field.now) borrowed i d [] lt) ∙ ap (λ list. get_or list i []) e

pub same : {T : Type 0} (x y : T) → Some x ≡ Some y → x ≡ y
same x y e = cc

-- texts that compare as different are different
pub apart : (a b : List ℕ) → pointwise nat_eq a b ≡ false → a ≢ b
apart a b e h = false≢true (sym e ∙ (slice_eq-Decides Decides-eqb a b _ refl).1 h)

-- a text that is neither word of a job
no-job_word : (text : List ℕ) (relief : Bool) → pointwise nat_eq text (codes "vacancy") ≡ false → pointwise nat_eq text (codes "relief") ≡ false → text ≢ job_word relief
no-job_word text true vacancy relief = apart text (codes "relief") relief
no-job_word text false vacancy relief = apart text (codes "vacancy") vacancy

-- the word of a command, and the fields behind it
pub record HasWord (command : Cmd) : Type 0 where
  pub word : Word
  pub about : List (List ℕ)
  pub fields_are : command_fields command ≡ word_text word ∷ about

job-has_word : (relief : Bool) → (word : Word) × (job_word relief ≡ word_text word)
job-has_word true = (word.Relief, refl)
job-has_word false = (word.Vacancy, refl)

pub has_word : (command : Cmd) → HasWord command
has_word (cmd.Enrol person craft home quals) = record { word = word.Enrol; about = _; fields_are = refl }
has_word (cmd.Board board extra place) = record { word = word.Board; about = _; fields_are = refl }
has_word (cmd.List person board) = record { word = word.List; about = _; fields_are = refl }
has_word (cmd.Unlist person board) = record { word = word.Unlist; about = _; fields_are = refl }
has_word (cmd.MarkOff person) = record { word = word.Off; about = _; fields_are = refl }
has_word (cmd.MarkOn person) = record { word = word.On; about = _; fields_are = refl }
has_word (cmd.Qualify person quals) = record { word = word.Qualify; about = _; fields_are = refl }
has_word (cmd.Past person event) = record { word = word.Past; about = _; fields_are = refl }
has_word (cmd.Happened person event) = record { word = word.Event; about = _; fields_are = refl }
has_word (cmd.Vacancy job) = let has = job-has_word job.relief in record { word = has.0; about = job_fields job; fields_are = ap (λ w. w ∷ job_fields job) has.1 }
has_word (cmd.Next vac) = record { word = word.Next; about = _; fields_are = refl }
has_word (cmd.Offer vac person) = record { word = word.Offer; about = _; fields_are = refl }
has_word (cmd.Accept vac person) = record { word = word.Accept; about = _; fields_are = refl }
has_word (cmd.Decline vac person) = record { word = word.Decline; about = _; fields_are = refl }
has_word (cmd.NoAnswer vac person) = record { word = word.NoAnswer; about = _; fields_are = refl }
has_word (cmd.Withdraw vac person) = record { word = word.Withdraw; about = _; fields_are = refl }
has_word (cmd.Annul vac) = record { word = word.Annul; about = _; fields_are = refl }
has_word (cmd.Drop person) = record { word = word.Drop; about = _; fields_are = refl }
has_word (cmd.Hours person month) = record { word = word.Hours; about = _; fields_are = refl }
has_word (cmd.At board place) = record { word = word.At; about = _; fields_are = refl }
has_word (cmd.Explain vac person) = record { word = word.Explain; about = _; fields_are = refl }
has_word (cmd.Vac vac) = record { word = word.Vac; about = _; fields_are = refl }

-- an enrolment, and its fields behind the word
pub record IsEnrolment (about : List (List ℕ)) (command : Cmd) : Type 0 where
  pub person : ℕ
  pub craft : Craft
  pub home : List ℕ
  pub quals : ℕ
  pub is : command ≡ cmd.Enrol person craft home quals
  pub person_in : IsNumber person
  pub home_in : IsCode home
  pub quals_in : quals < 2 ^ 64
  pub fields_are : about ≡ decimal person ∷ craft_text craft ∷ home ∷ quals_text quals ∷ []

pub enrolment : (about : List (List ℕ)) (command : Cmd) → Spells word.Enrol about command → IsEnrolment about command
enrolment about (cmd.Enrol person craft home quals) spells = record {
  person = person;
  craft = craft;
  home = home;
  quals = quals;
  is = refl;
  person_in = spells.valid.0;
  home_in = spells.valid.1;
  quals_in = spells.valid.2;
  fields_are = ap (λ list. drop 1 list) spells.fields_are;
}
enrolment about (cmd.Vacancy job) spells = absurd (no-job_word (codes "enrol") job.relief refl refl (ap (λ list. get_or list 0 []) spells.fields_are))
enrolment about other spells = absurd (apart (codes "enrol") (get_or (command_fields other) 0 []) refl (ap (λ list. get_or list 0 []) spells.fields_are))

-- the word of a relief job is not that of another
job_word-one : (a b : Bool) → job_word a ≡ job_word b → a ≡ b
job_word-one true true e = refl
job_word-one false false e = refl
job_word-one true false e = absurd (apart (codes "relief") (codes "vacancy") refl e)
job_word-one false true e = absurd (apart (codes "vacancy") (codes "relief") refl e)

-- a vacancy, whether it is a relief one, and its fields behind the word
pub record IsVacancy (relief : Bool) (about : List (List ℕ)) (command : Cmd) : Type 0 where
  pub job : JobValue
  pub is : command ≡ cmd.Vacancy job
  pub job_in : IsJob job
  pub relief_is : relief ≡ job.relief
  pub fields_are : about ≡ job_fields job

pub vacancy : (relief : Bool) (about : List (List ℕ)) (command : Cmd) → SpellsCommand (job_word relief ∷ about) command → IsVacancy relief about command
vacancy relief about (cmd.Vacancy job) spells = record {
  job = job;
  is = refl;
  job_in = spells.valid;
  relief_is = job_word-one relief job.relief (ap (λ list. get_or list 0 []) spells.fields_are);
  fields_are = ap (λ list. drop 1 list) spells.fields_are;
}
vacancy true about other spells = absurd (apart (codes "relief") (get_or (command_fields other) 0 []) refl (ap (λ list. get_or list 0 []) spells.fields_are))
vacancy false about other spells = absurd (apart (codes "vacancy") (get_or (command_fields other) 0 []) refl (ap (λ list. get_or list 0 []) spells.fields_are))

-- a job of these values is the job that has them
pub job-of : (job : JobValue) (vac : ℕ) (craft : Craft) (quals : ℕ) (place : List ℕ) (report duty limbo : ℕ) (chain : List (List ℕ)) (relief : Bool)
    → vac ≡ job.vac → craft ≡ job.craft → quals ≡ job.quals → place ≡ job.place → report ≡ job.report → duty ≡ job.duty → limbo ≡ job.limbo → chain ≡ job.chain → relief ≡ job.relief
    → job_of vac craft quals place report duty limbo chain relief ≡ job
job-of job vac craft quals place report duty limbo chain relief a b c d e f g h i = rw (a, b, c, d, e, f, g, h, i) refl

-- the fields at these places spell a job
pub record SpellsJob (about : List (Bor (List ℕ))) (d : Bor (List ℕ)) (job : JobValue) : Type 0 where
  pub valid : IsJob job
  pub vac_is : (get_or about 0 d).now ≡ decimal job.vac
  pub craft_is : (get_or about 1 d).now ≡ craft_text job.craft
  pub quals_is : (get_or about 2 d).now ≡ quals_text job.quals
  pub place_is : (get_or about 3 d).now ≡ job.place
  pub report_is : (get_or about 4 d).now ≡ minute_text job.report
  pub duty_is : (get_or about 5 d).now ≡ decimal job.duty
  pub limbo_is : (get_or about 6 d).now ≡ decimal job.limbo
  pub chain_is : (get_or about 7 d).now ≡ chain_text job.chain

-- four fields, each at its place
pub four : (about : List (Bor (List ℕ))) (d : Bor (List ℕ)) → length about ≡ 4
    → map (λ field. field.now) about ≡ (get_or about 0 d).now ∷ (get_or about 1 d).now ∷ (get_or about 2 d).now ∷ (get_or about 3 d).now ∷ []
four [] d e = absurd (omega arith)
four (_ ∷ []) d e = absurd (omega arith)
four (_ ∷ _ ∷ []) d e = absurd (omega arith)
four (_ ∷ _ ∷ _ ∷ []) d e = absurd (omega arith)
four (_ ∷ _ ∷ _ ∷ _ ∷ []) d e = refl
four (_ ∷ _ ∷ _ ∷ _ ∷ _ ∷ _) d e = absurd (omega arith)

eight : (about : List (Bor (List ℕ))) (d : Bor (List ℕ)) → length about ≡ 8 → map (λ field. field.now) about
    ≡ (get_or about 0 d).now ∷ (get_or about 1 d).now ∷ (get_or about 2 d).now ∷ (get_or about 3 d).now
    ∷ (get_or about 4 d).now ∷ (get_or about 5 d).now ∷ (get_or about 6 d).now ∷ (get_or about 7 d).now ∷ []
eight [] d e = absurd (omega arith)
eight (_ ∷ []) d e = absurd (omega arith)
eight (_ ∷ _ ∷ []) d e = absurd (omega arith)
eight (_ ∷ _ ∷ _ ∷ []) d e = absurd (omega arith)
eight (_ ∷ _ ∷ _ ∷ _ ∷ []) d e = absurd (omega arith)
eight (_ ∷ _ ∷ _ ∷ _ ∷ _ ∷ []) d e = absurd (omega arith)
eight (_ ∷ _ ∷ _ ∷ _ ∷ _ ∷ _ ∷ []) d e = absurd (omega arith)
eight (_ ∷ _ ∷ _ ∷ _ ∷ _ ∷ _ ∷ _ ∷ []) d e = absurd (omega arith)
eight (_ ∷ _ ∷ _ ∷ _ ∷ _ ∷ _ ∷ _ ∷ _ ∷ []) d e = refl
eight (_ ∷ _ ∷ _ ∷ _ ∷ _ ∷ _ ∷ _ ∷ _ ∷ _ ∷ _) d e = absurd (omega arith)

pub vacancy-spelled : (relief : Bool) (about : List (Bor (List ℕ))) (d : Bor (List ℕ)) (job : JobValue) → length about ≡ 8 → relief ≡ job.relief → SpellsJob about d job
    → SpellsCommand (job_word relief ∷ map (λ field. field.now) about) (cmd.Vacancy job)
vacancy-spelled relief about d job len is s = record {
  valid = s.valid;
  fields_are = rw (is, eight about d len, s.vac_is, s.craft_is, s.quals_is, s.place_is, s.report_is, s.duty_is, s.limbo_is, s.chain_is) refl;
}

-- parts that are joined again are the text
pub plain-spells : (text : List ℕ) (s : StatedValue) → StatesCommand (parts_by 44 text) s → SpellsStated text s
plain-spells text s states = record {
  valid = states.valid;
  text_is = sym (join_with_byte-slice_split 44 text) ∙ ap (join_with_byte 44) states.fields_are;
}
