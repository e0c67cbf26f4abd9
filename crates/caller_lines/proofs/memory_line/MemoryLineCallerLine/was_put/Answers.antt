use Rattle.std.proofs.Common.{rules, Some, ap, sym, ◌∙◌, ◌≡◌, ◌-◌, ℕ, List, slice_get, slice_range, arith}
use Rattle.std.proofs.lemmas.Bool.Decides.{Decides-eqb}
use Rattle.std.proofs.lemmas.Slice.Eq.{slice_eq-Decides}
use Rattle.caller_lines.specs.LineCalls.{texts_in}
use Rattle.caller_lines.proofs.PutLemmas.{slice_get-puts}
use Rattle.caller_lines.proofs.memory_line.MemoryLineCallerLine.was_put.Goals as goal

pub returns-in-Some : goal.returns-in-Some
returns-in-Some c =
    let part : List ℕ = slice_range c.self.inside.bytes.items c.in-Some.put.now.from c.in-Some.put.now.to in
    let kept = slice_get-puts c.self.inside.bytes.items part c.self.inside.puts.items (c.args.number - 1) c.in-Some.put.now in
    let there : slice_get (texts_in c.args.self.now.told) (c.args.number - 1) ≡ Some part = search (rules, kept) in
    let same = slice_eq-Decides Decides-eqb part c.args.text.now c.eq.result (search rules) in
    (λ yes. (omega arith, there ∙ ap (λ text. Some text) (same.0 yes)), λ put. same.1 (let e = sym there ∙ put.1 in cc))
