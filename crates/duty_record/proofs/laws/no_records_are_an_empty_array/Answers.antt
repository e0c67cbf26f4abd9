use Rattle.std.proofs.Common.{refl}
use Rattle.duty_record.specs.Json.{json_text}
use Rattle.duty_record.proofs.laws.no_records_are_an_empty_array.Goals as goal

pub returns : goal.returns
unfolding json_text
returns c = refl
