use Rattle.std.proofs.Common.{◌∙◌, length, subst}
use Rattle.std.proofs.lemmas.Bool.{OnFalse_at, OnFalse_from}
use Rattle.desk_io.specs.Giving.{AddsFront}
use Rattle.desk_model.specs.texts.Journal.{entry_lines}
use Rattle.day_replay.specs.Forecast.{forecast_lines}
use Rattle.day_replay.proofs.ForecastLemmas.{Gathers-supposed, AddsFront-answered}
use Rattle.day_replay.proofs.JournalLemmas.{Gathers-more, AddsFront-gathered, AddsFront-more}
use Rattle.day_replay.proofs.day_forecast.write_forecast.Goals as goal

pub returns-then-not-gather-clause-front : goal.returns-then-not-gather-clause-front
returns-then-not-gather-clause-front g c =
    AddsFront-answered _ _ c.args.opening.now c.args.answered.now c.args.supposed.now
    (AddsFront-gathered _ _ _ _ _ c.if-not-gather_history.ensures.all c.if-not-gather.ensures.front)

pub returns-then-gather_lines-clause-front : goal.returns-then-gather_lines-clause-front
returns-then-gather_lines-clause-front g c =
    let line = c.as_slice.ensures.value ∙ c.write_supposed.ensures in
    let first = Gathers-supposed _ _ _ _ (length c.args.supposed.now) _ _ _ line c.if-not-gather_history.ensures.all c.if-not-gather.ensures.all in
    OnFalse_from c.put_all.result (AddsFront (g.K.Sink.held c.args.sink.now) (g.K.Sink.held c.put_all.new.sink) (forecast_lines c.args.opening.now c.args.answered.now c.args.supposed.now)) (λ failed.
    AddsFront-gathered _ _ _ _ _ (Gathers-more _ _ _ _ _ (entry_lines c.args.supposed.now) _ first c.if-gather_lines.ensures.all)
    (subst (AddsFront _ _) c.deref.ensures.value (OnFalse_at failed c.put_all.ensures.front)))

pub returns-else-gather_lines-clause-front : goal.returns-else-gather_lines-clause-front
returns-else-gather_lines-clause-front g c =
    let line = c.as_slice.ensures.value ∙ c.write_supposed.ensures in
    let first = Gathers-supposed _ _ _ _ (length c.args.supposed.now) _ _ _ line c.if-not-gather_history.ensures.all c.if-not-gather.ensures.all in
    OnFalse_from c.gather_lines.result (AddsFront (g.K.Sink.held c.args.sink.now) (g.K.Sink.held c.gather_lines.new.sink) (forecast_lines c.args.opening.now c.args.answered.now c.args.supposed.now)) (λ failed.
    AddsFront-more _ _ _ _ _ (entry_lines c.args.supposed.now) first (OnFalse_at failed c.gather_lines.ensures.front))
