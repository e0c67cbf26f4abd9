use Rattle.std.proofs.Common.{sym}
use Rattle.line_writer.proofs.FieldLemmas.{opening_line-pieces}
use Rattle.line_writer.proofs.opening_line.write_opening.Goals as goal

pub returns : goal.returns
returns c =
    rw (c.put_byte-3.ensures.text, c.put-4.ensures.text, c.edition_text.ensures.text, c.put_number-2.ensures.text, c.put_byte-2.ensures.text, c.put_number.ensures.text, c.put_byte.ensures.text, c.put-3.ensures.text, c.put-2.ensures.text, c.put.ensures.text, c.new-line.ensures)
    (rw (c.write.ensures.text, c.start.ensures.value, c.write-2.ensures, c.first.ensures, c.from.ensures, c.from-2.ensures, c.months.ensures.value, c.answer.ensures.value, c.edition.ensures, c.window-window.ensures.value)
    (sym (opening_line-pieces c.args.opening.now)))
