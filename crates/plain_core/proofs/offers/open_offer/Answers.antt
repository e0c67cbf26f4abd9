use Rattle.std.proofs.Common.{None, Some, sym, ◌∙◌}
use Rattle.desk_model.specs.offers.Offers.{offer_said}
use Rattle.plain_core.proofs.PrefixLemmas.{last_of-back}
use Rattle.plain_core.proofs.offers.open_offer.Goals as goal

pub returns-in-Some : goal.returns-in-Some
returns-in-Some c =
    last_of-back (offer_said c.args.vac) c.args.entries.now c.loop-i.i c.index-entries-i.result None (Some c.in-Some.open) c.loop-i-test.true c.loop-i.auto.i c.index-entries-i.is (sym c.offer_said.ensures ∙ c.in-Some.is)
    ∙ c.loop-i.invariant

pub loop-i-preserved : goal.loop-i-preserved
loop-i-preserved c =
    last_of-back (offer_said c.args.vac) c.args.entries.now c.loop-i.i c.index-entries-i.result None None c.loop-i-test.true c.loop-i.auto.i c.index-entries-i.is (sym c.offer_said.ensures ∙ c.in_default.is)
    ∙ c.loop-i.invariant
