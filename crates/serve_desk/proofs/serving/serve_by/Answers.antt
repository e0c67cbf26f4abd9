use Rattle.day_replay.proofs.EndsLemmas.{EndsDay-taken, EndsDay-untaken}
use Rattle.serve_desk.specs.ServeBy.{ServesDayBy, served_by}
use Rattle.serve_desk.proofs.ServeLemmas.{ServesDay-taken}
use Rattle.serve_desk.proofs.serving.serve_by.Goals as goal

pub returns-in-Ok-clause-ends : goal.returns-in-Ok-clause-ends
returns-in-Ok-clause-ends g c =
    let took = c.in-Ok.ensures in
    EndsDay-taken _ c.in-Ok.day _ _ (ServesDayBy c.args.sessions _ _ _ _) _ _ _ _ _ _ _ _ _ _ took.no_fault took.not_too_long took.silent took.silent_count took.by_the_day
    (λ Writes WritesAll as_well served. ServesDay-taken (served_by c.args.sessions) _ _ _ _ _ _ Writes WritesAll as_well took.opening took.day served)
    c.serve_day.ensures.ends

pub returns-in-Err-clause-ends : goal.returns-in-Err-clause-ends
returns-in-Err-clause-ends g c =
    let failed = c.in-Err.ensures in
    EndsDay-untaken _ c.in-Err.status _ _ _ _ _ _ _ _ _ failed.only failed.read_fault failed.no_fault failed.too_long failed.not_too_long failed.no_opening failed.unreadable failed.silent failed.silent_count
    failed.source_faults_grow failed.sink_faults_grow failed.by_the_day
