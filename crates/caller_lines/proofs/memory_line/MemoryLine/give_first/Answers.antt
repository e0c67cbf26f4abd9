use Rattle.std.proofs.Common.{rules, map}
use Rattle.std.proofs.lemmas.List.{drop-drop}
use Rattle.caller_lines.proofs.LineLemmas.{drop-map, first_given-long, first_given-line}
use Rattle.caller_lines.proofs.memory_line.MemoryLine.give_first.Goals as goal

pub returns-then-is_err-clause-answer : goal.returns-then-is_err-clause-answer
returns-then-is_err-clause-answer c =
    let left = drop-map (λ line. line.items) c.self.inside.lines.items c.self.inside.at c.in-Some.line.now in
    search (rules, left, first_given-long)

pub returns-then-is_err-clause-after : goal.returns-then-is_err-clause-after
returns-then-is_err-clause-after c =
    let next = drop-drop 1 c.self.inside.at (map (λ line. line.items) c.self.inside.lines.items) in search (rules, next)

pub returns-clause-answer : goal.returns-clause-answer
returns-clause-answer c =
    let left = drop-map (λ line. line.items) c.self.inside.lines.items c.self.inside.at c.in-Some.line.now in
    search (rules, left, first_given-line)

pub returns-clause-after : goal.returns-clause-after
returns-clause-after c =
    let next = drop-drop 1 c.self.inside.at (map (λ line. line.items) c.self.inside.lines.items) in search (rules, next)
