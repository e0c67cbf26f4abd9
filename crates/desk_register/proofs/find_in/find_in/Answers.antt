use Rattle.std.proofs.Common.{◌≡◌, true, sym, ap, ◌∙◌}
use Rattle.std.specs.Prelude.{position}
use Rattle.std.specs.Map.{lookup}
use Rattle.std.specs.Option.{option_map}
use Rattle.std.proofs.lemmas.Option.{slice_get-map}
use Rattle.indexmap.specs.IndexMap.{keys}
use Rattle.indexmap.proofs.MapLemmas.{index-first, Found-position, Missing-position}
use Rattle.indexmap.proofs.RemoveLemmas.{own_first}
use Rattle.desk_register.proofs.find_in.find_in.Goals as goal

-- the key at the hint is the one that is asked for, and no key is there twice
pub returns-then-eq-clause-index : goal.returns-then-eq-clause-index
returns-then-eq-clause-index g c =
    let map = c.args.map.now in
    let there = c.in-Some.there.now in
    let same : g.K.PartialEq.eq there c.args.key.now ≡ true = sym c.eq.ensures ∙ c.if-eq.true in
    let tests : g.K.PartialEq.eq there ≡ g.K.PartialEq.eq c.args.key.now = λ j z. g.met.K.Eq.laws.congr there c.args.key.now z same j in
    let first = own_first g.K.PartialEq.eq g.met.K.Eq.laws map.entries c.args.hint there c.in-Some.value.now c.len.ensures.unique (sym c.in-Some.ensures.entry) in
    sym (index-first (g.K.PartialEq.eq there) map.entries c.args.hint first) ∙ ap (λ t. position t (keys map)) tests

pub returns-then-eq-clause-value : goal.returns-then-eq-clause-value
returns-then-eq-clause-value g c =
    let there = c.in-Some.there.now in
    let same : g.K.PartialEq.eq there c.args.key.now ≡ true = sym c.eq.ensures ∙ c.if-eq.true in
    let tests : g.K.PartialEq.eq there ≡ g.K.PartialEq.eq c.args.key.now = λ j z. g.met.K.Eq.laws.congr there c.args.key.now z same j in
    sym c.in-Some.ensures.value ∙ ap (λ t. lookup t c.args.map.now.entries) tests

-- else the map has it at its index, or not at all
pub returns-clause-value : goal.returns-clause-value
returns-clause-value g c =
    ap (option_map (λ e. e.1)) c.in_ok-value.ensures.entry ∙ sym (slice_get-map (λ e. e.1) c.args.map.now.entries c.in_ok-index.index)
    ∙ sym (Found-position (g.K.PartialEq.eq c.args.key.now) c.args.map.now.entries c.in_ok-index.index (sym c.in_ok-index.ensures.index)).value

pub returns-in_err-index-clause-value : goal.returns-in_err-index-clause-value
returns-in_err-index-clause-value g c =
    rw c.from_residual.ensures (sym (Missing-position (g.K.PartialEq.eq c.args.key.now) c.args.map.now.entries (sym c.in_err-index.ensures.index)).value)
