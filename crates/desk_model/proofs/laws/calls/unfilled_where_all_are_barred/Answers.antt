use Rattle.desk_model.proofs.DenialLemmas.{unfilled-barred, barred-unfilled, first-offered}
use Rattle.desk_model.proofs.laws.calls.unfilled_where_all_are_barred.Goals as goal

pub returns-clause-unfilled : goal.returns-clause-unfilled
returns-clause-unfilled c h legal m v job is_open = (unfilled-barred h m v job legal is_open, barred-unfilled h m v job is_open)

pub returns-clause-first : goal.returns-clause-first
returns-clause-first c h legal m v job link is_open first = first-offered h m v job link is_open first
