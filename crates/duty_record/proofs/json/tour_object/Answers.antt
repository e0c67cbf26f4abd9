use Rattle.std.proofs.Common.{rules}
use Rattle.serde_json.specs.declared.value.Value.{the_lemmas}
use Rattle.serde_json.proofs.OnLiterals.{serde_json_on_literals}
use Rattle.duty_record.specs.Json.{tour_object}
use Rattle.duty_record.proofs.json.tour_object.Goals as goal

pub returns-in-Ok-json-20 : goal.returns-in-Ok-json-20
unfolding serde_json_on_literals tour_object
returns-in-Ok-json-20 c = search (rules, the_lemmas)
