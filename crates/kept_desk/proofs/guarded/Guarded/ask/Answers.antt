use Rattle.std.proofs.Common.{◌∙◌, ap, arith, sym}
use Rattle.kept_desk.proofs.AheadLemmas.{in-time}
use Rattle.kept_desk.proofs.guarded.Guarded.ask.Goals as goal

pub returns-in-Ok-false-clause-in_time : goal.returns-in-Ok-false-clause-in_time
returns-in-Ok-false-clause-in_time g c = λ is.
    in-time _ c.in-Some.now _ _ _ c.as_slice.result.now (sym c.now.ensures.told ∙ c.in-Some.is) (omega (arith, c.number.ensures.value, c.from.ensures, ap (λ watched. watched.ahead) c.self.view_is)) c.as_slice.ensures.value
    (rw (c.in-Ok-false.field-0-test) at c.in-Ok-false.ensures.within)
