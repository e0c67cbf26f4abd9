-- A crew call's record, which is no command's.
use Rattle.std.proofs.Common.{◌≡◌, ◌∙◌, ℕ, ◌<◌, ◌≤◌, Bool, true, false, List, [], ◌∷◌, length, get_or, map, codes, decimal, refl, sym, ap, arith, Bor}
use Rattle.std.specs.Str.{bytes_eq}
use Rattle.std.proofs.lemmas.Bool.{false≢true}
use Rattle.desk_base.specs.Minute.{IsInYears, minute_text}
use Rattle.desk_base.specs.Number.{IsNumber}
use Rattle.desk_model.specs.declared.command.Cmd.{Cmd}
use Rattle.desk_model.specs.declared.command.Cmd.TheVariants as cmd
use Rattle.desk_model.specs.statements.Statement.{StatedValue}
use Rattle.desk_model.specs.texts.StatedTexts.{job_word, job_fields, command_fields}
use Rattle.command_parser.specs.CommandLine.{IsCommandLine}
use Rattle.caller_lines.specs.CrewLines.{IsCrewRecord, IsNoCrew}

-- four fields are a crew call's, where each is
pub crew-record : (fields : List (Bor (List ℕ))) (d : Bor (List ℕ)) (minute first second : ℕ) → 4 ≤ length fields → length fields < 5 → (get_or fields 1 d).now ≡ codes "crew"
    → IsInYears minute × ((get_or fields 0 d).now ≡ minute_text minute) → IsNumber first × ((get_or fields 2 d).now ≡ decimal first) → IsNumber second × ((get_or fields 3 d).now ≡ decimal second)
    → IsCrewRecord (map (λ field. field.now) fields) minute first second
crew-record [] d minute first second least below word at one two = absurd (omega (arith, least))
crew-record (_ ∷ []) d minute first second least below word at one two = absurd (omega (arith, least))
crew-record (_ ∷ _ ∷ []) d minute first second least below word at one two = absurd (omega (arith, least))
crew-record (_ ∷ _ ∷ _ ∷ []) d minute first second least below word at one two = absurd (omega (arith, least))
crew-record (x ∷ y ∷ z ∷ a ∷ []) d minute first second least below word at one two =
    record { in_years = at.0; number = one.0; other = two.0; fields_are = rw (word, at.1, one.1, two.1) refl }
crew-record (_ ∷ _ ∷ _ ∷ _ ∷ _ ∷ rest) d minute first second least below word at one two = absurd (omega (arith, below))

-- a command's word, and what it is about
differs : (word : List ℕ) (about more : List (List ℕ)) → bytes_eq word (codes "crew") ≡ false → word ∷ about ≡ codes "crew" ∷ more → ⊥
differs word about more unlike is = false≢true (sym unlike ∙ ap (λ x. bytes_eq x (codes "crew")) (head is))
  where
    head : {x y : List ℕ} {xs ys : List (List ℕ)} → x ∷ xs ≡ y ∷ ys → x ≡ y
    head is = cc

-- no command's word is that of a crew call
no-crew-word : (c : Cmd) (more : List (List ℕ)) → command_fields c ≡ codes "crew" ∷ more → ⊥
no-crew-word (cmd.Enrol person craft home quals) more is = differs _ _ more refl is
no-crew-word (cmd.Board board extra place) more is = differs _ _ more refl is
no-crew-word (cmd.List person board) more is = differs _ _ more refl is
no-crew-word (cmd.Unlist person board) more is = differs _ _ more refl is
no-crew-word (cmd.MarkOff person) more is = differs _ _ more refl is
no-crew-word (cmd.MarkOn person) more is = differs _ _ more refl is
no-crew-word (cmd.Qualify person quals) more is = differs _ _ more refl is
no-crew-word (cmd.Past person event) more is = differs _ _ more refl is
no-crew-word (cmd.Happened person event) more is = differs _ _ more refl is
no-crew-word (cmd.Vacancy job) more is = go job.relief is
  where
    go : (relief : Bool) → job_word relief ∷ job_fields job ≡ codes "crew" ∷ more → ⊥
    go true is = differs _ _ more refl is
    go false is = differs _ _ more refl is
no-crew-word (cmd.Next vac) more is = differs _ _ more refl is
no-crew-word (cmd.Offer vac person) more is = differs _ _ more refl is
no-crew-word (cmd.Accept vac person) more is = differs _ _ more refl is
no-crew-word (cmd.Decline vac person) more is = differs _ _ more refl is
no-crew-word (cmd.NoAnswer vac person) more is = differs _ _ more refl is
no-crew-word (cmd.Withdraw vac person) more is = differs _ _ more refl is
no-crew-word (cmd.Annul vac) more is = differs _ _ more refl is
no-crew-word (cmd.Drop person) more is = differs _ _ more refl is
no-crew-word (cmd.Hours person month) more is = differs _ _ more refl is
no-crew-word (cmd.At board place) more is = differs _ _ more refl is
no-crew-word (cmd.Explain vac person) more is = differs _ _ more refl is
no-crew-word (cmd.Vac vac) more is = differs _ _ more refl is

pub no-command : (line : List ℕ) (s : StatedValue) → IsCommandLine line s → IsNoCrew line
no-command line s command minute first second crew =
    no-crew-word s.cmd (decimal first ∷ decimal second ∷ []) (behind (sym command.states.fields_are ∙ only (sym command.one ∙ crew.one)))
  where
    only : {xs ys : List (List ℕ)} → xs ∷ [] ≡ ys ∷ [] → xs ≡ ys
    only is = cc

    behind : {x y : List ℕ} {xs ys : List (List ℕ)} → x ∷ xs ≡ y ∷ ys → xs ≡ ys
    behind is = cc
