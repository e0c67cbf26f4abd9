use Rattle.std.proofs.Common.{refl}
use Rattle.kept_desk.proofs.ahead.is_command.Goals as goal

pub returns-in-Ok-clause-some : goal.returns-in-Ok-clause-some
returns-in-Ok-clause-some c = (c.in-Ok._stated.minute, record { stated = _; command = c.in-Ok.ensures.some; at = refl })
