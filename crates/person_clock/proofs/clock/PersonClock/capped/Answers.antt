use Rattle.std.proofs.Common.{◌≡◌, ◌≤◌, List, sym, ap, subst, ◌∙◌, arith}
use Rattle.desk_base.specs.Month.{minutes_of}
use Rattle.duty_events.specs.declared.event.Event.{Event}
use Rattle.month_hours.specs.Capped.{capped}
use Rattle.person_clock.specs.Clock.{Stands}
use Rattle.person_clock.proofs.ClockLemmas.{capped-at, capped-so_far}
use Rattle.person_clock.proofs.clock.PersonClock.capped.Goals as goal

pub returns : goal.returns
returns c =
    let first = ap (λ v. v.window.first) c.self.view_is in
    let many = ap (λ v. v.window.months) c.self.view_is in
    let value : (es : List Event) → Stands c.args.self.now es → c.of.result ≡ capped es c.args.month = λ es stands.
    c.of.ensures ∙ capped-at _ es (subst (λ v. Stands v es) (sym c.self.view_is) stands) c.args.month (omega (arith, first, c.requires.from)) (omega (arith, first, many, c.requires.to)) in
    record { value = value; most = λ es stands. subst (λ n. n ≤ minutes_of c.args.month) (sym (value es stands)) ((capped-so_far _ es stands).most c.args.month) }
