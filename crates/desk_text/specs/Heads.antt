-- The words with which texts of replies and of bars begin.
use Rattle.std.specs.Prelude.{ℕ, List, codes}
use Rattle.desk_text.specs.declared.reply_head.ReplyHead.{ReplyHead}
use Rattle.desk_text.specs.declared.reply_head.ReplyHead.TheVariants as head
use Rattle.desk_text.specs.declared.bar_head.BarHead.{BarHead}
use Rattle.desk_text.specs.declared.bar_head.BarHead.TheVariants as bar_head

-- the words before what a reply keeps, but for an event's fault
abbrev pub reply_head_text : ReplyHead → List ℕ
reply_head_text head.Offered = codes "offered "
reply_head_text head.Unfilled = codes "unfilled "
reply_head_text head.Hours = codes "hours "
reply_head_text head.Seen = codes "seen "
reply_head_text head.NoOne = codes "no one "
reply_head_text head.State = codes "state "
reply_head_text head.RunAround = codes "run around "
reply_head_text head.Denied = codes "denied "
reply_head_text head.Clear = codes "clear "
reply_head_text head.Frozen = codes "frozen "
reply_head_text head.EventAhead = codes "event ahead "
reply_head_text head.UnknownBoard = codes "unknown board "
reply_head_text head.BadChain = codes "bad chain "
reply_head_text head.ReportPast = codes "report past "
reply_head_text head.Closed = codes "closed "
reply_head_text head.OfferOpen = codes "offer open "
reply_head_text head.Lapsed = codes "lapsed "
reply_head_text head.Early = codes "early "

-- the words before what a bar keeps
abbrev pub bar_head_text : BarHead → List ℕ
bar_head_text bar_head.Assigned = codes "B2 assigned "
bar_head_text bar_head.OnOffer = codes "B3 "
bar_head_text bar_head.Elsewhere = codes "B4 "
bar_head_text bar_head.OtherCraft = codes "B5 "
bar_head_text bar_head.Lacks = codes "B6 "
bar_head_text bar_head.Held = codes "B8 "
bar_head_text bar_head.Rest = codes "21103(a)(3) "
bar_head_text bar_head.MoreRest = codes "21103(c)(4) "
bar_head_text bar_head.Undisturbed = codes "21103(e) "
bar_head_text bar_head.SixDays = codes "21103(a)(4)(A) "
bar_head_text bar_head.SevenDays = codes "21103(a)(4)(A)(ii) "
bar_head_text bar_head.MonthHours = codes "21103(a)(1) "
bar_head_text bar_head.LimboHours = codes "21103(c)(1) "
