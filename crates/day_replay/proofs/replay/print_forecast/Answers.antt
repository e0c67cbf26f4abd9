use Rattle.day_replay.proofs.EndsLemmas.{EndsWriting-whole, EndsWriting-front}
use Rattle.day_replay.proofs.ForecastLemmas.{forecast_text-parted}
use Rattle.day_replay.proofs.replay.print_forecast.Goals as goal

pub returns-then-write_forecast : goal.returns-then-write_forecast
returns-then-write_forecast g c =
    let parted = rw (c.deref.ensures.value) at (c.in-Ok-forecast_day.ensures c.args.day.now.opening c.in-Ok.ensures.stands) in
    let put = rw (c.deref-2.ensures.value, c.deref-3.ensures.value) at c.if-write_forecast.ensures.all in
    rw (forecast_text-parted _ _ _ _ _ parted) (EndsWriting-whole _ _ _ _ _ put c.if-write_forecast.ensures.no_fault)

pub returns : goal.returns
returns g c =
    let parted = rw (c.deref.ensures.value) at (c.in-Ok-forecast_day.ensures c.args.day.now.opening c.in-Ok.ensures.stands) in
    let put = rw (c.deref-2.ensures.value, c.deref-3.ensures.value) at c.if-write_forecast.ensures.front in
    rw (forecast_text-parted _ _ _ _ _ parted) (EndsWriting-front _ _ _ _ _ put c.if-write_forecast.ensures.cause c.if-write_forecast.ensures.faults_grow)
