use Rattle.std.proofs.Common.{◌++◌, ◌∙◌, sym, ap}
use Rattle.std.specs.List.{join_with_byte}
use Rattle.desk_model.specs.texts.StatedTexts.{stated_fields}
use Rattle.line_writer.proofs.FieldLemmas.{entry_line-pieces}
use Rattle.line_writer.proofs.entry_line.fill_with_entry.Goals as goal

pub returns : goal.returns
returns c =
    let stated = c.put_stated.ensures.text ∙ ap (λ s. c.put_byte.new.line.items ++ join_with_byte 44 (stated_fields s)) c.stated.ensures in
    rw (c.put_outcome.ensures, c.put_byte-2.ensures.text, stated, c.put_byte.ensures.text, c.put_number.ensures.text, c.clear.ensures)
    (rw (c.reply.ensures, c.moment-2.ensures, c.from.ensures, c.caller.ensures.value)
    (sym (entry_line-pieces c.args.entry.now)))
