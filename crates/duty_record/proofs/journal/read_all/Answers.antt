use Rattle.std.proofs.Common.{◌≡◌, ◌+◌, ◌++◌, ◌∷◌, [], sym, subst, take, arith}
use Rattle.std.proofs.lemmas.Grind.{common_steps}
use Rattle.std.proofs.lemmas.List.{take_more}
use Rattle.desk_model.specs.histories.History.{history_of}
use Rattle.duty_record.specs.Kept.{Keeps}
use Rattle.duty_record.proofs.journal.read_all.Goals as goal

pub loop-entry-preserved : goal.loop-entry-preserved
loop-entry-preserved c o =
    let es = c.args.entries.now in
    let more : take (c.loop-entry.entry-index + 1) es ≡ take c.loop-entry.entry-index es ++ c.entry-item.result ∷ [] = grind (arith, common_steps, take_more) in
    subst (λ front. Keeps c.read.new.self (history_of o front)) (sym more) (c.in_ok-read.ensures (history_of o (take c.loop-entry.entry-index es)) (c.loop-entry.invariant o))

pub returns : goal.returns
returns c o =
    let es = c.args.entries.now in
    let whole : take c.loop-entry.entry-index es ≡ es = grind (arith, common_steps) in
    subst (λ front. Keeps c.loop-entry.records (history_of o front)) whole (c.loop-entry.invariant o)
