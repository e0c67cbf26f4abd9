use Rattle.std.proofs.Common.{◌≡◌, refl, ◌∙◌}
use Rattle.consecutive_days.specs.Days.{days_ok, TellsOffAtHome}
use Rattle.consecutive_days.proofs.DaysLemmas.{days_ok-decides}
use Rattle.consecutive_days.proofs.days.days_ok.Goals as goal

pub returns : goal.returns
returns c =
    let es = c.args.events.now in
    let home = c.args.home in
    let report = c.args.report in
    let tells : TellsOffAtHome es home report c.longest_at_home-longest.result =
    λ many some. c.longest_at_home-longest.ensures many some ∙ rw (c.end_of.ensures, c.last_tour-tour.ensures.value) refl in
    let value : c.are_days_ok.result ≡ days_ok es home report =
    c.are_days_ok.ensures.events es home (record { days = c.last_run-run.ensures.days; last = c.last_run-run.ensures.last }) (rw (c.is_away.ensures, c.last_tour-tour.ensures.value) refl) tells in
    record { value = value; cases = rw value (days_ok-decides es home report) }
