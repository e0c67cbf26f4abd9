use Rattle.desk_model.proofs.RankLemmas.{order-by_rank, order-only, order-once}
use Rattle.desk_model.proofs.laws.entries.order_is_by_rank.Goals as goal

pub returns-clause-by_rank : goal.returns-clause-by_rank
returns-clause-by_rank c h b = order-by_rank h b

pub returns-clause-only : goal.returns-clause-only
returns-clause-only c h b ps by_rank = order-only h b ps by_rank

pub returns-clause-once : goal.returns-clause-once
returns-clause-once c h b = order-once h b
