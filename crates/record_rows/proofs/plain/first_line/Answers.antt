use Rattle.std.proofs.Common.{Some, None, ◌+◌, [], take, drop}
use Rattle.std.proofs.lemmas.List.{take_rest}
use Rattle.memchr.specs.Find.{IsFirstByte, is_byte}
use Rattle.desk_base.specs.Parts.{parts_by}
use Rattle.record_rows.proofs.FoundLemmas.{parts_by-found, parts_by-absent}
use Rattle.record_rows.proofs.PlainLemmas.{plain_records-cut}
use Rattle.record_rows.proofs.plain.first_line.Goals as goal

pub returns-in-Some-clause-parts : goal.returns-in-Some-clause-parts
returns-in-Some-clause-parts c =
    let text = c.args.text.now in
    let at = c.in-Some.at in
    let found : IsFirstByte (is_byte 10) text (Some at) = rw (c.in-Some.is) at c.memchr.ensures in
    rw (take_rest text (at + 1)) (plain_records-cut text (take at text) (parts_by 10 (drop (at + 1) text)) (parts_by-found 10 at text found))

pub returns-in-None-clause-parts : goal.returns-in-None-clause-parts
returns-in-None-clause-parts c =
    let text = c.args.text.now in
    let none : IsFirstByte (is_byte 10) text None = rw (c.in-None.is) at c.memchr.ensures in
    plain_records-cut text text [] (parts_by-absent 10 text none)
