use Rattle.std.proofs.Common.{rules}
use Rattle.desk_model.specs.declared.reply.Reply.TheVariants as reply
use Rattle.desk_text.specs.declared.reply_head.ReplyHead.TheVariants as head
use Rattle.desk_text.proofs.spelled_reply.read_plain.Goals as goal

pub returns-else-eq-18-clause-only : goal.returns-else-eq-18-clause-only
returns-else-eq-18-clause-only c none (reply.Offered p b k) spells = absurd (none.head head.Offered _ spells.text_is)
returns-else-eq-18-clause-only c none (reply.Unfilled n) spells = absurd (none.head head.Unfilled _ spells.text_is)
returns-else-eq-18-clause-only c none (reply.Hours u k) spells = absurd (none.head head.Hours _ spells.text_is)
returns-else-eq-18-clause-only c none (reply.Seen p) spells = absurd (none.head head.Seen _ spells.text_is)
returns-else-eq-18-clause-only c none (reply.NoOne n) spells = absurd (none.head head.NoOne _ spells.text_is)
returns-else-eq-18-clause-only c none (reply.State s) spells = absurd (none.head head.State _ spells.text_is)
returns-else-eq-18-clause-only c none (reply.RunAround p) spells = absurd (none.head head.RunAround _ spells.text_is)
returns-else-eq-18-clause-only c none (reply.Denied b) spells = absurd (none.head head.Denied _ spells.text_is)
returns-else-eq-18-clause-only c none (reply.Clear b k) spells = absurd (none.head head.Clear _ spells.text_is)
returns-else-eq-18-clause-only c none (reply.Frozen v) spells = absurd (none.head head.Frozen _ spells.text_is)
returns-else-eq-18-clause-only c none (reply.EventAhead m) spells = absurd (none.head head.EventAhead _ spells.text_is)
returns-else-eq-18-clause-only c none (reply.UnknownBoard b) spells = absurd (none.head head.UnknownBoard _ spells.text_is)
returns-else-eq-18-clause-only c none (reply.BadChain b) spells = absurd (none.head head.BadChain _ spells.text_is)
returns-else-eq-18-clause-only c none (reply.ReportPast t) spells = absurd (none.head head.ReportPast _ spells.text_is)
returns-else-eq-18-clause-only c none (reply.Closed s) spells = absurd (none.head head.Closed _ spells.text_is)
returns-else-eq-18-clause-only c none (reply.OfferOpen p) spells = absurd (none.head head.OfferOpen _ spells.text_is)
returns-else-eq-18-clause-only c none (reply.Lapsed t) spells = absurd (none.head head.Lapsed _ spells.text_is)
returns-else-eq-18-clause-only c none (reply.EarlyNoAnswer t) spells = absurd (none.head head.Early _ spells.text_is)
returns-else-eq-18-clause-only c none (reply.Event f) spells = absurd (none.fault f (record { valid = spells.valid; text_is = spells.text_is }))
returns-else-eq-18-clause-only c none other spells = search rules
