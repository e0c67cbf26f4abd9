use Rattle.std.proofs.Common.{◌≡◌, drop}
use Rattle.std.specs.Option.{option_or}
use Rattle.desk_model.specs.histories.History.{last_of}
use Rattle.desk_model.specs.offers.Offers.{offered_to}
use Rattle.plain_core.proofs.offers.last_offered.Given as goal

abbrev pub invariant-loop-entry : goal.invariant-loop-entry
invariant-loop-entry l = option_or (last_of (offered_to l.person) (drop l.entry-index l.entries)) l.last ≡ last_of (offered_to l.person) l.entries
