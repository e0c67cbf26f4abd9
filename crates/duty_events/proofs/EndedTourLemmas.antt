-- The tours that have ended, one event more.
use Rattle.std.proofs.Common.{◌≡◌, ℕ, Option, None, Some, List, [], ◌∷◌, ◌++◌, fold, refl, ap, ◌∙◌}
use Rattle.std.specs.Option.{option_or}
use Rattle.std.specs.List.{cons_option}
use Rattle.std.proofs.lemmas.List.{append-nil}
use Rattle.std.proofs.lemmas.List.Sums.{fold_push}
use Rattle.duty_events.specs.declared.event.Event.{Event}
use Rattle.duty_events.specs.declared.stage.Stage.{Stage}
use Rattle.duty_events.specs.declared.stage.Stage.TheVariants as stage
use Rattle.duty_events.specs.declared.tour.Tour.{Tour}
use Rattle.duty_events.specs.Lists.{stage_after, stage_of}
use Rattle.duty_events.specs.EndedTours.{begun, ended, tours_from, tours, last_of, last_tour, begun_from, last_begun}

begun_from-push : (s : Stage) (start : Option ℕ) (es : List Event) (e : Event) → begun_from s start (es ++ e ∷ []) ≡ begun (fold stage_after s es) (begun_from s start es) e
begun_from-push s start [] e = refl
begun_from-push s start (x ∷ es) e = begun_from-push (stage_after s x) (begun s start x) es e

cons_option-append : (o : Option Tour) (xs ys : List Tour) → cons_option o (xs ++ ys) ≡ cons_option o xs ++ ys
cons_option-append None xs ys = refl
cons_option-append (Some x) xs ys = refl

tours_from-push : (s : Stage) (start : Option ℕ) (es : List Event) (e : Event)
    → tours_from s start (es ++ e ∷ []) ≡ tours_from s start es ++ cons_option (ended (fold stage_after s es) (begun_from s start es) e) []
tours_from-push s start [] e = refl
tours_from-push s start (x ∷ es) e =
    ap (cons_option (ended s start x)) (tours_from-push (stage_after s x) (begun s start x) es e)
    ∙ cons_option-append (ended s start x) (tours_from (stage_after s x) (begun s start x) es) (cons_option (ended (fold stage_after (stage_after s x) es) (begun_from (stage_after s x) (begun s start x) es) e) [])

last_of-push : (ts : List Tour) (o : Option Tour) → last_of (ts ++ cons_option o []) ≡ option_or o (last_of ts)
last_of-push ts None = ap last_of (append-nil ts)
last_of-push ts (Some t) = fold_push (λ o u. Some u) None ts t

pub last_tour-push : (es : List Event) (e : Event) → last_tour (es ++ e ∷ []) ≡ option_or (ended (stage_of es) (last_begun es) e) (last_tour es)
unfolding last_tour
last_tour-push es e = ap last_of (tours_from-push stage.Off None es e) ∙ last_of-push (tours es) (ended (stage_of es) (last_begun es) e)

pub last_begun-push : (es : List Event) (e : Event) → last_begun (es ++ e ∷ []) ≡ begun (stage_of es) (last_begun es) e
last_begun-push es e = begun_from-push stage.Off None es e

pub last_tour-nil : last_tour [] ≡ None
unfolding last_tour
last_tour-nil = refl
