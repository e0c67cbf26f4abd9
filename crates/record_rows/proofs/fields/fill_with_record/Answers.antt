use Rattle.std.proofs.Common.{◌∙◌, [], ◌∷◌, sym, arith}
use Rattle.std.proofs.lemmas.List.{length-append}
use Rattle.csv.specs.Records.{fields_of}
use Rattle.record_rows.specs.declared.fields.TheConstants.{FIELD_LIMIT}
use Rattle.record_rows.proofs.FieldLemmas.{field-there, field-none}
use Rattle.record_rows.proofs.fields.fill_with_record.Goals as goal

pub returns-in-None : goal.returns-in-None
returns-in-None c =
    c.loop-index.invariant.0 ∙ field-none (fields_of c.args.row.now) c.loop-index.index FIELD_LIMIT (omega (arith, c.loop-index-test.true)) c.in-None.ensures.value

pub loop-index-preserved : goal.loop-index-preserved
loop-index-preserved c = (
  rw (c.push.ensures, c.loop-index.invariant.0)
      (sym (field-there (fields_of c.args.row.now) c.loop-index.index c.in-Some.field.now (rw c.in-Some.is at c.get.ensures.value))),
  rw c.push.ensures (omega (arith, c.loop-index.invariant.1, length-append c.loop-index.fields (c.in-Some.field.now ∷ []))),
)
