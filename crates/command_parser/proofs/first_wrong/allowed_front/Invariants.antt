use Rattle.std.proofs.Common.{map, ℕ, ◌-◌, ◌<◌, get_or, []}
use Rattle.command_parser.specs.declared.field_form.FieldForm.TheVariants as form
use Rattle.command_parser.specs.RecordForms.{HasForm}
use Rattle.command_parser.proofs.first_wrong.allowed_front.Given as goal

abbrev pub invariant-loop-i : goal.invariant-loop-i
invariant-loop-i l = (i : ℕ) → i < l.i
    → HasForm (get_or l.forms i form.Minute) (get_or (map (λ field. field.now) l.fields) (i - 1) []) (get_or (map (λ field. field.now) l.fields) i [])
