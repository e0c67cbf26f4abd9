use Rattle.day_replay.specs.Replay.{goes_on}
use Rattle.day_replay.proofs.day_when.when_after.Goals as goal

pub returns : goal.returns
returns c = λ h stands.
    (c.the_earliest_minute_is_one.ensures (goes_on h c.args.commands.now) c.args.vac c.args.person c.when.result).0 (c.when.ensures _ (c.step_each.ensures h stands))
