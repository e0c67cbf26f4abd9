use Rattle.std.proofs.Common.{◌-◌, [], ◌∷◌, ◌++◌, ap, ◌∙◌}
use Rattle.std.specs.Option.{option_or}
use Rattle.duty_events.specs.declared.limits.TheConstants.{DUTY_LIMIT}
use Rattle.duty_events.specs.EndedTours.{last_tour}
use Rattle.rest_rules.proofs.ExcessLemmas.{excess-stays, excess-is}
use Rattle.rest_rules.proofs.laws.excess_when_an_event_comes.Goals as goal

pub returns : goal.returns
returns c = record {
  stay = λ es e lawful next none.
      excess-stays es e (c.tours_when_an_event_comes.ensures.ended es e ∙ ap (λ o. option_or o (last_tour es)) none)
      (λ tour is. c.the_last_tour_ends_by_the_latest_minute.ensures es tour lawful is)
      (λ t early. c.kinds_when_an_event_comes.ensures.stay es e lawful next t early);
  ended = λ es e lawful next tour is.
      excess-is (es ++ e ∷ []) tour (c.tours_when_an_event_comes.ensures.ended es e ∙ ap (λ o. option_or o (last_tour es)) is)
      ∙ ap (λ n. n - DUTY_LIMIT) (c.sums_when_an_event_comes.ensures.ended es e lawful next tour is);
}
