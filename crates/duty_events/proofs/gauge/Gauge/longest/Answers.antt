use Rattle.std.proofs.Common.{◌≡◌, nat_le, ap, ◌∙◌}
use Rattle.duty_events.proofs.GaugeLemmas.{longest-stretch}
use Rattle.duty_events.proofs.gauge.Gauge.longest.Goals as goal

pub returns-clause-stretch : goal.returns-clause-stretch
returns-clause-stretch c asked from many tells some =
    let same : c.self.inside.longest ≡ c.args.self.longest = ap (λ g. g.longest) c.self.view_is in
    ap (nat_le many) same ∙ longest-stretch asked from many c.args.self tells some
