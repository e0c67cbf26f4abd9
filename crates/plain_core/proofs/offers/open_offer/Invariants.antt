use Rattle.std.proofs.Common.{◌≡◌, None, unwrap_or, take}
use Rattle.desk_model.specs.histories.History.{last_of}
use Rattle.desk_model.specs.offers.Offers.{offer_said}
use Rattle.plain_core.proofs.offers.open_offer.Given as goal

abbrev pub invariant-loop-i : goal.invariant-loop-i
invariant-loop-i l = unwrap_or (last_of (offer_said l.vac) (take l.i l.entries)) None ≡ unwrap_or (last_of (offer_said l.vac) l.entries) None
