use Rattle.std.proofs.Common.{◌∙◌, inr, subst, rules}
use Rattle.desk_base.specs.Parts.{parts_by}
use Rattle.command_parser.specs.RecordForms.{IsWrongAt}
use Rattle.command_parser.proofs.FormLemmas.{wrong-take}
use Rattle.command_parser.proofs.command_line.read_plain.Goals as goal

pub returns-in-Err-clause-fail : goal.returns-in-Err-clause-fail
returns-in-Err-clause-fail c = λ told.
    let parts = parts_by 44 c.args.line.now in
    let fields = c.as_slice.ensures ∙ c.fill_with_line.ensures in
    inr record {
      fields = parts;
      one = c.requires;
      wrong = λ s states. let is = c.in-Err.ensures.only s (search rules) in cc;
      field_is = wrong-take parts c.in-Err.field (subst (λ list. IsWrongAt list c.in-Err.field) fields c.in-Err.ensures.wrong);
    }
