use Rattle.record_rows.proofs.FoundLemmas.{all-plain}
use Rattle.record_rows.proofs.plain.has_plain_bytes.Goals as goal

pub returns : goal.returns
returns c = all-plain c.args.text.now c.memchr3.result c.is_none.result c.is_none.ensures c.memchr3.ensures
