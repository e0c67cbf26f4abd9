-- Where somebody is stays so from their latest minute on.
use Rattle.std.proofs.Common.{◌≡◌, ℕ, ◌≤◌, Option, None, Some, unwrap_or, List, [], ◌∷◌, ◌++◌, sym, ap, ◌∙◌, arith, refl}
use Rattle.std.specs.Option.{option_map}
use Rattle.duty_events.specs.declared.event.Event.{Event}
use Rattle.duty_events.specs.Allowed.{last_minute}
use Rattle.duty_events.specs.Lists.{IsNext, IsLawful, stage_of, last_event, latest, reached}
use Rattle.duty_events.specs.Places as places
use Rattle.duty_events.specs.Places.{place_behind}
use Rattle.duty_events.proofs.EventLemmas.{follows-reached}
use Rattle.duty_events.proofs.ListLemmas.{last_event-push, lawful-induction}
use Rattle.duty_events.proofs.PlaceLemmas.{place_of-nil, place_of-behind}
use Rattle.desk_model.specs.declared.person.Person.{Person}
use Rattle.desk_model.specs.histories.History.{History}
use Rattle.desk_model.specs.histories.Duty.{events, place_at}
use Rattle.desk_model.proofs.EventLemmas.{lawful-events}

abbrev Settled : List Event → Type 0
Settled es = (home : List ℕ) (from to : ℕ) → reached (last_event es) ≤ from → from ≤ to → places.place_of es home to ≡ places.place_of es home from

settled-more : (es : List Event) (e : Event) → IsLawful es → IsNext es e → Settled es → Settled (es ++ e ∷ [])
settled-more es e lawful next was home from to late order =
    let last : reached (last_event (es ++ e ∷ [])) ≡ last_minute e = ap reached (last_event-push es e) in
    let before = follows-reached (last_event es) (stage_of es) e next in
    place_of-behind es e lawful next home to (omega (arith, last, late, order))
    ∙ ap (place_behind e) (was home from to (omega (arith, before, next.whole, last, late)) order)
    ∙ sym (place_of-behind es e lawful next home from (omega (arith, last, late)))

settled : (es : List Event) → IsLawful es → Settled es
settled es lawful = lawful-induction Settled (λ home from to late order. place_of-nil home to ∙ sym (place_of-nil home from)) settled-more es lawful

reached-latest : (o : Option Event) → reached o ≡ unwrap_or (option_map last_minute o) 0
reached-latest None = refl
reached-latest (Some e) = refl

pub place-stays : (h : History) (p : ℕ) (person : Person) (from to : ℕ) → unwrap_or (latest (events h p)) 0 ≤ from → from ≤ to → place_at h to p person ≡ place_at h from p person
place-stays h p person from to late order =
    settled (events h p) (lawful-events h p) person.home from to (omega (arith, reached-latest (last_event (events h p)), late)) order
