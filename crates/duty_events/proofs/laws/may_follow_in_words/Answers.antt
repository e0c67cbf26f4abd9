use Rattle.duty_events.proofs.FollowLemmas.{may_follow-decides}
use Rattle.duty_events.proofs.laws.may_follow_in_words.Goals as goal

pub returns : goal.returns
returns c = may_follow-decides
