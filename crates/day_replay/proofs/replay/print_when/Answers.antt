use Rattle.std.proofs.Common.{◌∙◌, sym, subst}
use Rattle.desk_model.specs.histories.History.{opened}
use Rattle.day_replay.specs.Replay.{day_history}
use Rattle.day_replay.proofs.EndsLemmas.{EndsWriting-done}
use Rattle.day_replay.proofs.ForecastLemmas.{when_text-told}
use Rattle.day_replay.proofs.replay.print_when.Goals as goal

pub returns : goal.returns
returns g c =
    let told = rw (c.deref.ensures.value) at (c.when_after-told.ensures (opened c.args.day.now.opening) c.in-Ok.ensures.stands) in
    let text = c.as_slice.ensures.value ∙ c.write_earliest.ensures ∙ sym (when_text-told _ _ (day_history c.args.day.now.opening c.args.day.now.commands.items) _ told) in
    EndsWriting-done _ _ _ _ _ _ _ (λ Writes put. subst Writes text put) c.put_text.ensures
