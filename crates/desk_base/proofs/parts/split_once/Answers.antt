use Rattle.std.proofs.Common.{◌∙◌, sym, rules, tests, eqb, ◌+◌}
use Rattle.std.proofs.lemmas.List.{take_rest}
use Rattle.std.proofs.lemmas.Iterator.{YieldsList-from_slice}
use Rattle.std.proofs.lemmas.Iterator.Search.{position_from_yields_List}
use Rattle.desk_base.proofs.PartsLemmas.{slice_split-found, slice_split-absent}
use Rattle.desk_base.proofs.parts.split_once.Goals as goal

pub returns-in-Some-clause-parts : goal.returns-in-Some-clause-parts
returns-in-Some-clause-parts c =
    let is = position_from_yields_List (λ b. eqb b c.args.mark) _ _ c.position.result c.position.ensures.ran (YieldsList-from_slice c.args.bytes.now cc) (λ x b q k. search (rules, tests)) in
    rw (take_rest c.args.bytes.now (c.in-Some.at + 1)) (slice_split-found _ _ 0 _ (sym c.in-Some.is ∙ is))

pub returns-in-None-clause-parts : goal.returns-in-None-clause-parts
returns-in-None-clause-parts c =
    let is = position_from_yields_List (λ b. eqb b c.args.mark) _ _ c.position.result c.position.ensures.ran (YieldsList-from_slice c.args.bytes.now cc) (λ x b q k. search (rules, tests)) in
    slice_split-absent _ _ (sym c.in-None.is ∙ is)
