use Rattle.std.proofs.Common.{refl}
use Rattle.std.proofs.lemmas.Result.{IfOk-weaker}
use Rattle.day_replay.proofs.from_day.DayFileFromDay.from_day.Goals as goal

pub returns-clause-made : goal.returns-clause-made
returns-clause-made c = IfOk-weaker c.read_day.result _ _ (λ day is. record { opening = day.opening; commands = day.commands.items; day = is; is = (refl, refl) }) c.read_day.ensures.day
