use Rattle.rest_rules.proofs.OffFromLemmas.{off_from-is}
use Rattle.rest_rules.proofs.RestLemmas.{rest_ok-decides}
use Rattle.rest_rules.proofs.laws.rest_in_words.Goals as goal

pub returns : goal.returns
returns c = record { rest = λ es at more lawful. rest_ok-decides es lawful at more; off = off_from-is }
