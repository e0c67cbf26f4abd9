use Rattle.std.proofs.Common.{Some, subst, sym}
use Rattle.std.specs.Fmt.{option_append}
use Rattle.caller_lines.specs.Takes.{Gathers, left_of, reader_left}
use Rattle.caller_lines.proofs.TakeLemmas.{Gathers-cut}
use Rattle.caller_lines.proofs.file_line.FileLine.gather.Goals as goal

pub returns-clause-gathers : goal.returns-clause-gathers
returns-clause-gathers g c =
    let left = left_of g.R.Read.remaining c.args.self.now in
    let mid = c.fill.new.self in
    let now = c.cut_held.new.self in
    let before = c.args.into.now.items in
    let after = c.cut_held.new.into.items in
    subst (λ reader. Gathers left (option_append (Some now.held) (reader_left g.R.Read.remaining reader)) before after c.cut_held.result) (sym c.cut_held.ensures.reader)
    (Gathers-cut left (reader_left g.R.Read.remaining mid.reader) mid.held now.held before after c.cut_held.result c.if-not-fill.ensures.kept c.cut_held.ensures.cuts)
