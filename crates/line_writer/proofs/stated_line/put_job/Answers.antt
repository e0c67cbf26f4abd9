use Rattle.desk_model.specs.texts.StatedTexts.{job_fields}
use Rattle.line_writer.proofs.FieldLemmas.{added-marked}
use Rattle.line_writer.proofs.stated_line.put_job.Goals as goal

pub returns-clause-text : goal.returns-clause-text
returns-clause-text c =
    rw (c.put_field-5.ensures.text, c.put_number_field-3.ensures.text, c.put_number_field-2.ensures.text, c.put_field-4.ensures.text, c.put_field-3.ensures.text, c.put_field-2.ensures.text, c.put_field.ensures.text, c.put_number_field.ensures.text)
    (rw (c.as_slice-2.ensures.value, c.write-3.ensures, c.chain.ensures, c.from-2.ensures, c.limbo.ensures.value, c.from.ensures, c.duty.ensures.value, c.write-2.ensures.text, c.report.ensures.value, c.text-2.ensures.value, c.place.ensures, c.as_slice.ensures.value, c.write.ensures, c.quals.ensures, c.text.ensures, c.craft.ensures, c.number.ensures.value, c.vac.ensures)
    (added-marked c.args.line.now.items (job_fields c.args.job.now)))
