use Rattle.desk_text.proofs.ReplyApartLemmas.{reply_text-one}
use Rattle.desk_text.proofs.laws.different_replies_have_different_texts.Goals as goal

pub returns : goal.returns
returns c = reply_text-one
