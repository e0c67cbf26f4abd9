use Rattle.std.proofs.Common.{◌∙◌, subst}
use Rattle.record_rows.specs.Rows.{row_fields}
use Rattle.command_parser.specs.RecordForms.{IsWrongAt}
use Rattle.command_parser.proofs.FormLemmas.{wrong-take}
use Rattle.command_parser.proofs.record_row.wrong_in_row.Goals as goal

pub returns : goal.returns
returns c =
    let fields = c.as_slice.ensures ∙ c.fill_fields.ensures in
    wrong-take (row_fields c.args.row.now) c.wrong_field.result (subst (λ list. IsWrongAt list c.wrong_field.result) fields c.wrong_field.ensures)
