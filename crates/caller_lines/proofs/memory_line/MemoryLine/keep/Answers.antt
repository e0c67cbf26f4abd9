use Rattle.std.proofs.Common.{◌<◌, length, slice_range, subst, sym, ap, arith, rules}
use Rattle.std.proofs.lemmas.List.{length-map}
use Rattle.caller_lines.specs.LineCalls.{texts_in}
use Rattle.caller_lines.proofs.PutLemmas.{parts-more, text-last, texts-more}
use Rattle.caller_lines.proofs.memory_line.MemoryLine.keep.Goals as goal

pub invariant_of-self : goal.invariant_of-self
invariant_of-self c =
    let so = c.self.invariant in
    let texts = texts-more c.self.inside.told c.note_put.new.self c.self.inside.bytes.items c.args.text.now c.extend_from_slice.new.self.items c.self.inside.puts.items c.push_reserved.new.self.items
    (record { from = c.len-from.result; to = c.len-to.result }) c.note_put.ensures so.7 (search rules) (search rules) (search rules) (search rules) (search rules) in
    let few = subst (λ talk. length (texts_in talk.told) < talk.room) (sym c.self.view_is) c.requires.puts in
    let count = length-map c.self.inside.puts.items (λ put. slice_range c.self.inside.bytes.items put.from put.to) in
    let parts = parts-more _ _ c.self.inside.puts.items c.push_reserved.new.self.items (record { from = c.len-from.result; to = c.len-to.result })
    (search rules) so.6 (search rules) (search rules) (search rules) in
    (so.0, search rules, search rules, omega (arith, few, ap length so.7, count, c.push_reserved.ensures.len), search rules, so.5, parts, texts)

pub returns : goal.returns
returns c =
    let text = text-last c.self.inside.bytes.items c.args.text.now c.extend_from_slice.new.self.items
    (record { from = c.len-from.result; to = c.len-to.result }) in
    search (rules, text)
