-- Tours that have ended, where one deed more comes.
use Rattle.std.proofs.Common.{◌≡◌, ℕ, Option, None, Some, List, [], ◌∷◌, ◌++◌, fold, refl, sym, ap, ◌∙◌, append_assoc, append-nil}
use Rattle.std.specs.List.{cons_option}
use Rattle.std.proofs.lemmas.List.{map-append}
use Rattle.duty_events.specs.declared.stage.Stage.{Stage}
use Rattle.duty_events.specs.declared.stage.Stage.TheVariants as stage
use Rattle.duty_events.specs.Lists.{stage_of, stage_after}
use Rattle.duty_record.specs.Deeds.{Deed, events_in}
use Rattle.duty_record.specs.EndedTours.{begun_for, vacancy_from, last_vacancy, ended_by, ended_from, ended_tours}

pub events_in-push : (ds : List Deed) (d : Deed) → events_in (ds ++ d ∷ []) ≡ events_in ds ++ d.event ∷ []
events_in-push ds d = map-append (λ (x : Deed). x.event) ds (d ∷ [])

vacancy_from-push : (s : Stage) (v : Option ℕ) (ds : List Deed) (d : Deed) → vacancy_from s v (ds ++ d ∷ []) ≡ begun_for (fold stage_after s (events_in ds)) (vacancy_from s v ds) d
vacancy_from-push s v [] d = refl
vacancy_from-push s v (x ∷ ds) d = vacancy_from-push (stage_after s x.event) (begun_for s v x) ds d

pub last_vacancy-push : (ds : List Deed) (d : Deed) → last_vacancy (ds ++ d ∷ []) ≡ begun_for (stage_of (events_in ds)) (last_vacancy ds) d
last_vacancy-push ds d = vacancy_from-push stage.Off None ds d

cons_option-append : {X : Type 0} (o : Option X) (xs ys : List X) → cons_option o (xs ++ ys) ≡ cons_option o xs ++ ys
cons_option-append None xs ys = refl
cons_option-append (Some x) xs ys = refl

ended_from-push : (before ds : List Deed) (d : Deed) → ended_from before (ds ++ d ∷ []) ≡ ended_from before ds ++ cons_option (ended_by (before ++ ds) d) []
ended_from-push before [] d = ap (λ b. cons_option (ended_by b d) []) (sym (append-nil before))
ended_from-push before (x ∷ ds) d =
    ap (cons_option (ended_by before x)) (ended_from-push (before ++ x ∷ []) ds d ∙ ap (λ b. ended_from (before ++ x ∷ []) ds ++ cons_option (ended_by b d) []) (append_assoc before (x ∷ []) ds))
    ∙ cons_option-append (ended_by before x) (ended_from (before ++ x ∷ []) ds) (cons_option (ended_by (before ++ x ∷ ds) d) [])

pub ended_tours-push : (ds : List Deed) (d : Deed) → ended_tours (ds ++ d ∷ []) ≡ ended_tours ds ++ cons_option (ended_by ds d) []
unfolding ended_tours
ended_tours-push ds d = ended_from-push [] ds d

pub ended_tours-none : ended_tours [] ≡ []
unfolding ended_tours
ended_tours-none = refl
