use Rattle.desk_model.specs.histories.History.{opened}
use Rattle.day_replay.proofs.ForecastLemmas.{IsParted-day}
use Rattle.day_replay.proofs.day_forecast.forecast_day.Goals as goal

pub returns-in-Ok : goal.returns-in-Ok
returns-in-Ok c = λ o stands.
    IsParted-day c.a_history_goes_on_as_supposed.ensures o c.args.commands.now c.args.asked c.saturating_sub-first.result
    c.answer_each.new.entries.items c.in-Ok.supposed.items c.saturating_sub-first.ensures
    (c.answer_each.ensures.entries (opened o) stands) (c.in-Ok.ensures.entries _ (c.answer_each.ensures.stands (opened o) stands))
