use Rattle.desk_model.proofs.ReadyLemmas.{tour-barred, rest-barred}
use Rattle.desk_model.proofs.laws.calls.who_is_not_ready_is_barred.Goals as goal

pub returns-clause-tour : goal.returns-clause-tour
returns-clause-tour c = tour-barred

pub returns-clause-rest : goal.returns-clause-rest
returns-clause-rest c = rest-barred c.no_bar_where_the_law_is_kept.ensures
