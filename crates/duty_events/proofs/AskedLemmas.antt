-- The minutes that are asked about, one event more.
use Rattle.std.proofs.Common.{◌≡◌, ℕ, ◌+◌, ◌≤◌, List, [], ◌∷◌, ◌++◌, refl, arith}
use Rattle.duty_events.specs.declared.asked.Asked.{Asked}
use Rattle.duty_events.specs.declared.asked.Asked.TheVariants as asked
use Rattle.duty_events.specs.declared.event.Event.{Event}
use Rattle.duty_events.specs.Asked.{passes, asked_minutes, asked_between, asked_own}
use Rattle.duty_events.specs.Lists.{IsNext, IsLawful, last_event}
use Rattle.duty_events.specs.MinuteKind.{kind_of}
use Rattle.duty_events.proofs.CountLemmas.{minutes_where-most, minutes_where-never}
use Rattle.duty_events.proofs.PointLemmas.{IsOfWork, count-push}

of_work : (a : Asked) → IsOfWork (passes a)
of_work asked.Worked = (refl, refl)
of_work asked.InTour = (refl, refl)

pub asked_minutes-push : (a : Asked) (es : List Event) (e : Event) → IsLawful es → IsNext es e → (x n : ℕ)
    → asked_minutes a (es ++ e ∷ []) x n ≡ asked_minutes a es x n + (asked_between a (last_event es) e x n + asked_own a e x n)
asked_minutes-push a es e lawful next x n = omega (arith, count-push (passes a) (of_work a) es e lawful next x n)

pub asked_minutes-nil : (a : Asked) (x n : ℕ) → asked_minutes a [] x n ≡ 0
unfolding kind_of
asked_minutes-nil asked.Worked x n = minutes_where-never x n
asked_minutes-nil asked.InTour x n = minutes_where-never x n

pub asked_minutes-most : (a : Asked) (es : List Event) (x n : ℕ) → asked_minutes a es x n ≤ n
asked_minutes-most a es x n = minutes_where-most (λ t. passes a (kind_of es t)) x n
