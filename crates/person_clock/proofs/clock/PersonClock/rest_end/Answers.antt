use Rattle.std.proofs.Common.{◌≡◌, List, sym, subst}
use Rattle.duty_events.specs.declared.event.Event.{Event}
use Rattle.rest_rules.specs.Rest.{rest_end, EndsRest}
use Rattle.rest_rules.proofs.RestLemmas.{rest_end-law}
use Rattle.person_clock.specs.Clock.{Stands}
use Rattle.person_clock.proofs.clock.PersonClock.rest_end.Goals as goal

pub returns : goal.returns
returns c =
    let value : (es : List Event) → Stands c.args.self.now es → c.end.result ≡ rest_end es =
    λ es stands. let kept = subst (λ v. Stands v es) (sym c.self.view_is) stands in c.end.ensures es kept.totals.lawful kept.rested in
    record { value = value; law = λ es stands off. subst (EndsRest es) (sym (value es stands)) (rest_end-law es stands.totals.lawful off) }
