use Rattle.std.proofs.Common.{◌∙◌, ap}
use Rattle.caller_lines.specs.LineCalls.{texts_in}
use Rattle.caller_lines.proofs.PutLemmas.{texts_in-asked}
use Rattle.caller_lines.proofs.memory_line.MemoryLineCallerLine.next.Goals as goal

pub invariant_of-self : goal.invariant_of-self
invariant_of-self c =
    let so = c.self.invariant in
    let texts = ap texts_in c.note_answer.ensures ∙ texts_in-asked c.self.inside.told _ ∙ so.7 in
    (so.0, so.1, so.2, so.3, so.4, so.5, so.6, texts)
