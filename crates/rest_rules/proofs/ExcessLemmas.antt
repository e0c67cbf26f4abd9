-- The excess, one event more, and its range.
use Rattle.std.proofs.Common.{refl, ◌≡◌, ℕ, ◌-◌, ◌<◌, ◌≤◌, Option, None, Some, IfSome, List, [], ◌∷◌, ◌++◌, ap, ◌∙◌, arith}
use Rattle.desk_base.specs.declared.minute.TheConstants.{YEARS_END}
use Rattle.duty_events.specs.declared.event.Event.{Event}
use Rattle.duty_events.specs.declared.limits.TheConstants.{DUTY_LIMIT}
use Rattle.duty_events.specs.declared.tour.Tour.{Tour}
use Rattle.duty_events.specs.EndedTours.{last_tour}
use Rattle.duty_events.specs.Lists.{IsLawful, last_event, reached}
use Rattle.duty_events.specs.MinuteKind.{kind_of}
use Rattle.duty_events.specs.Tours.{is_in_tour}
use Rattle.duty_events.proofs.CountLemmas.{minutes_where-same, minutes_where-most}
use Rattle.duty_events.proofs.EventLemmas.{reached-years}
use Rattle.duty_events.proofs.LastTourLemmas.{last_tour-ends}
use Rattle.rest_rules.specs.Excess.{tour_sum, over_limit, excess}

-- of a tour whose minutes stay as they were
pub excess-stays : (es : List Event) (e : Event) → last_tour (es ++ e ∷ []) ≡ last_tour es → ((tour : Tour) → last_tour es ≡ Some tour → tour.end ≤ reached (last_event es))
    → ((t : ℕ) → t < reached (last_event es) → kind_of (es ++ e ∷ []) t ≡ kind_of es t) → excess (es ++ e ∷ []) ≡ excess es
unfolding excess
excess-stays es e same by stays = ap (over_limit (es ++ e ∷ [])) same ∙ go (last_tour es) by
  where
    go : (o : Option Tour) → ((tour : Tour) → o ≡ Some tour → tour.end ≤ reached (last_event es)) → over_limit (es ++ e ∷ []) o ≡ over_limit es o
    go None by = refl
    go (Some tour) by =
        let ends = by tour refl in
        ap (λ n. n - DUTY_LIMIT)
        (minutes_where-same (λ t. is_in_tour (kind_of (es ++ e ∷ []) t)) (λ t. is_in_tour (kind_of es t)) tour.start (tour.end - tour.start)
        (λ t low high. ap is_in_tour (stays t (omega (arith, ends, low, high)))))

pub excess-is : (es : List Event) (tour : Tour) → last_tour es ≡ Some tour → excess es ≡ tour_sum es tour - DUTY_LIMIT
unfolding excess
excess-is es tour is = ap (over_limit es) is

-- a tour has no more minutes than come before the end of the years
pub excess-range : (es : List Event) → IsLawful es → excess es < YEARS_END
unfolding excess
excess-range es lawful = go (last_tour es) (last_tour-ends es (last_tour es) lawful refl)
  where
    go : (o : Option Tour) → IfSome o (λ tour. tour.end ≤ reached (last_event es)) → over_limit es o < YEARS_END
    go None by = omega arith
    go (Some tour) by = omega (arith, minutes_where-most (λ t. is_in_tour (kind_of es t)) tour.start (tour.end - tour.start), by, reached-years es lawful)
