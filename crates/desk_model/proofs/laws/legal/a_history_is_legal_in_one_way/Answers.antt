use Rattle.desk_model.proofs.OneWayLemmas.{IsLegal-IsProp}
use Rattle.desk_model.proofs.laws.legal.a_history_is_legal_in_one_way.Goals as goal

pub returns : goal.returns
returns c = IsLegal-IsProp
