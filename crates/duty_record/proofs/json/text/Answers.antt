use Rattle.std.proofs.lemmas.Str.{IsUtf8-from_ascii}
use Rattle.duty_record.proofs.AsciiLemmas.{ok-from_text}
use Rattle.duty_record.proofs.json.text.Goals as goal

pub unwrap-requires : goal.unwrap-requires
unwrap-requires c = ok-from_text c.from_utf8.result _ _ _ (IsUtf8-from_ascii c.args.bytes.now c.requires) c.from_utf8.ensures.cases
