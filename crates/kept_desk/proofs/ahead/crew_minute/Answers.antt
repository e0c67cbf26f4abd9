use Rattle.kept_desk.proofs.AheadLemmas.{crew-at, word-is}
use Rattle.kept_desk.proofs.ahead.crew_minute.Goals as goal

pub returns-clause-some : goal.returns-clause-some
returns-clause-some c =
    crew-at c.args.fields.now _ _ _ _ c.in-len4.len_at_least c.in-len4.len_below
    (word-is _ _ _ _ c.ne.ensures c.if-ne.false c.as_slice.ensures) c.in_ok-minute.ensures.some c.in_ok-_first.ensures.some c.in_ok-_second.ensures.some
