use Rattle.std.proofs.Common.{◌≡◌, map, take}
use Rattle.serde_json.specs.View.{view}
use Rattle.duty_record.specs.Json.{tour_data}
use Rattle.duty_record.proofs.json.to_json.Given as goal

abbrev pub invariant-loop-tour : goal.invariant-loop-tour
invariant-loop-tour l = map view l.values.items ≡ map tour_data (take l.tour-index l.records)
