use Rattle.std.proofs.Common.{◌∙◌, subst}
use Rattle.line_writer.specs.Tally.{tally_text}
use Rattle.day_replay.specs.Replay.{Replays}
use Rattle.day_replay.proofs.HistoryLemmas.{IsReplay-day}
use Rattle.day_replay.proofs.EndsLemmas.{EndsDay-taken, EndsDay-untaken}
use Rattle.day_replay.proofs.ReplayLemmas.{Replays-made}
use Rattle.day_replay.proofs.replay.replay_tally.Goals as goal

pub returns-in-Ok-clause-ends : goal.returns-in-Ok-clause-ends
returns-in-Ok-clause-ends g c =
    let law = c.one_history_is_legal.ensures in
    let took = c.in-Ok.ensures in
    EndsDay-taken _ c.in-Ok.day _ _ (Replays _ _ tally_text) _ _ _ _ _ _ _ _ _ _ took.no_fault took.not_too_long took.silent took.silent_count took.by_the_day
    (λ Writes WritesAll as_well written.
    Replays-made _ _ _ WritesAll _ took.made (IsReplay-day law.opening law.legal law.given _ _ took.made.valid took.made.stated) (as_well _ (subst Writes (c.as_slice.ensures.value ∙ c.write.ensures _ took.made.is) written)))
    c.put_text.ensures

pub returns-clause-ends : goal.returns-clause-ends
returns-clause-ends g c =
    let failed = c.in-Err.ensures in
    EndsDay-untaken _ c.in-Err.status _ _ _ _ _ _ _ _ _ failed.only failed.read_fault failed.no_fault failed.too_long failed.not_too_long failed.no_opening failed.unreadable failed.silent failed.silent_count
    failed.source_faults_grow failed.sink_faults_grow failed.by_the_day
