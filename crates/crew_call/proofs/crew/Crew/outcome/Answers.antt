use Rattle.std.proofs.Common.{sym, ◌∙◌}
use Rattle.crew_call.proofs.CourseLemmas.{call-of, told-of}
use Rattle.crew_call.proofs.crew.Crew.outcome.Goals as goal

pub returns : goal.returns
returns c told =
    let call = c.args.self.now in (
      (λ over. c.result.ensures.value ∙ told-of call.minute call.first call.second call.heard told over),
      (λ is. call-of call.minute call.first call.second call.heard told c.result.ensures.front (sym c.result.ensures.value ∙ is)),
    )
