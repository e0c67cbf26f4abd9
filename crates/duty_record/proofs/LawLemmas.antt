-- What a person did are their events, and each tour that these end has one record.
use Rattle.std.proofs.Common.{◌≡◌, ℕ, Bool, true, false, cond, nat_eq, Option, None, Some, List, [], ◌∷◌, ◌++◌, fold, map, refl, sym, ap, ap₂, ◌∙◌}
use Rattle.std.specs.Option.{option_map}
use Rattle.std.specs.List.{cons_option, filter_map}
use Rattle.std.proofs.lemmas.List.{map-append}
use Rattle.duty_events.specs.declared.event.Event.{Event}
use Rattle.duty_events.specs.declared.tour.Tour.{Tour}
use Rattle.duty_events.specs.EndedTours as duty
use Rattle.duty_events.specs.Lists.{stage_of, stage_after}
use Rattle.desk_model.specs.declared.command.Cmd.{Cmd}
use Rattle.desk_model.specs.declared.command.Cmd.TheVariants as cmd
use Rattle.desk_model.specs.histories.History.{History, Step, entry_no, steps, is_done}
use Rattle.desk_model.specs.histories.Duty as told
use Rattle.desk_model.specs.histories.Duty.{tells, may_come}
use Rattle.desk_model.specs.offers.Assigned.{assigned}
use Rattle.duty_events.proofs.ListLemmas.{stage_of-push}
use Rattle.duty_events.proofs.EndedTourLemmas.{last_begun-push}
use Rattle.duty_record.specs.declared.tour_record.TourRecord.{TourRecord}
use Rattle.duty_record.specs.declared.ended_tour.EndedTour.{EndedTour}
use Rattle.duty_record.specs.Deeds.{Deed, deed_of, deed_told, deed_by, events_in, keep, deeds}
use Rattle.duty_record.specs.EndedTours.{ended_with, ended_from, ended_tours}
use Rattle.duty_record.specs.Tours.{is_relief, record_of, tour_of, tours}
use Rattle.duty_record.proofs.TourLemmas.{events_in-push}

-- ---- events

-- the deed that a step tells is the event that it tells, if any
abbrev Same : Option Deed → Option told.Told → Type 0
Same None None = Unit
Same (Some d) (Some t) = d.event ≡ t.event
Same None (Some t) = ⊥
Same (Some d) None = ⊥

same-told : (i : ℕ) (e : Event) (v : Option ℕ) (here : Bool) → Same (cond here (Some (deed_of e v)) None) (option_map (told.told_at i) (cond here (Some e) None))
same-told i e v true = refl
same-told i e v false = tt

same-said : (p i : ℕ) (h : History) (done : Bool) (c : Cmd) → Same (cond done (deed_told p h c) None) (option_map (told.told_at i) (cond done (tells p c) None))
same-said p i h false c = tt
same-said p i h true (cmd.Past q e) = same-told i e None (nat_eq q p)
same-said p i h true (cmd.Happened q e) = same-told i e (assigned h p) (nat_eq q p)
same-said p i h true other = tt

same-by : (p : ℕ) (s : Step) → Same (deed_by p s) (told.told_by p s)
same-by p s = same-said p (entry_no s) s.before (is_done s.entry.reply) s.entry.stated.cmd

told-push : (ts : List told.Told) (t : told.Told) → told.events_in (ts ++ t ∷ []) ≡ told.events_in ts ++ t.event ∷ []
told-push ts t = map-append (λ (x : told.Told). x.event) ts (t ∷ [])

same-kept : (ds : List Deed) (ts : List told.Told) (d : Deed) (t : told.Told) → events_in ds ≡ told.events_in ts → d.event ≡ t.event → events_in (keep ds d) ≡ told.events_in (told.keep ts t)
same-kept ds ts d t are is = ap₂ (λ es e. events_in (cond (may_come es e) (ds ++ d ∷ []) ds)) are is ∙ go (may_come (told.events_in ts) t.event)
  where
    go : (may : Bool) → events_in (cond may (ds ++ d ∷ []) ds) ≡ told.events_in (cond may (ts ++ t ∷ []) ts)
    go true = events_in-push ds d ∙ ap₂ (λ es e. es ++ e ∷ []) are is ∙ sym (told-push ts t)
    go false = are

same-from : (o : Option Deed) (q : Option told.Told) (ds : List Deed) (ts : List told.Told) (more : List Deed) (later : List told.Told) → Same o q → events_in ds ≡ told.events_in ts
    → ((xs : List Deed) (ys : List told.Told) → events_in xs ≡ told.events_in ys → events_in (fold keep xs more) ≡ told.events_in (fold told.keep ys later))
    → events_in (fold keep ds (cons_option o more)) ≡ told.events_in (fold told.keep ts (cons_option q later))
same-from None None ds ts more later same are then = then ds ts are
same-from (Some d) (Some t) ds ts more later same are then = then (keep ds d) (told.keep ts t) (same-kept ds ts d t are same)
same-from None (Some t) ds ts more later same are then = elim same [ ]
same-from (Some d) None ds ts more later same are then = elim same [ ]

same-folds : (p : ℕ) (ss : List Step) (ds : List Deed) (ts : List told.Told) → events_in ds ≡ told.events_in ts
    → events_in (fold keep ds (filter_map (deed_by p) ss)) ≡ told.events_in (fold told.keep ts (filter_map (told.told_by p) ss))
same-folds p [] ds ts are = are
same-folds p (s ∷ ss) ds ts are =
    same-from (deed_by p s) (told.told_by p s) ds ts (filter_map (deed_by p) ss) (filter_map (told.told_by p) ss) (same-by p s) are (λ xs ys same. same-folds p ss xs ys same)

pub events-told : (h : History) (p : ℕ) → events_in (deeds h p) ≡ told.events h p
unfolding deeds told.events told.told
events-told h p = same-folds p (steps h) [] [] refl

-- ---- tours

where-ended : (ds : List Deed) (o : Option Tour) (later : List EndedTour) (tours : List Tour) → map (λ t. t.tour) later ≡ tours
    → map (λ t. t.tour) (cons_option (option_map (ended_with ds) o) later) ≡ cons_option o tours
where-ended ds None later tours are = are
where-ended ds (Some t) later tours are = ap (λ ts. t ∷ ts) are

where-from : (before later : List Deed) → map (λ t. t.tour) (ended_from before later) ≡ duty.tours_from (stage_of (events_in before)) (duty.last_begun (events_in before)) (events_in later)
where-from before [] = refl
where-from before (d ∷ later) =
    let front = events_in before in
    let stage : stage_of (events_in (before ++ d ∷ [])) ≡ stage_after (stage_of front) d.event = ap stage_of (events_in-push before d) ∙ stage_of-push front d.event in
    let begun : duty.last_begun (events_in (before ++ d ∷ [])) ≡ duty.begun (stage_of front) (duty.last_begun front) d.event = ap duty.last_begun (events_in-push before d) ∙ last_begun-push front d.event in
    where-ended (before ++ d ∷ []) (duty.ended (stage_of front) (duty.last_begun front) d.event) (ended_from (before ++ d ∷ []) later) _
    (where-from (before ++ d ∷ []) later ∙ ap₂ (λ s b. duty.tours_from s b (events_in later)) stage begun)

tours-in : (ds : List Deed) → map (λ t. t.tour) (ended_tours ds) ≡ duty.tours (events_in ds)
unfolding ended_tours
tours-in ds = where-from [] ds

of-records : (f : EndedTour → TourRecord) → ((t : EndedTour) → tour_of (f t) ≡ t.tour) → (ts : List EndedTour) → map tour_of (map f ts) ≡ map (λ t. t.tour) ts
of-records f is [] = refl
of-records f is (t ∷ ts) = ap₂ (λ x xs. x ∷ xs) (is t) (of-records f is ts)

pub tours-recorded : (h : History) (p : ℕ) → map tour_of (tours h p) ≡ duty.tours (told.events h p)
unfolding tours
tours-recorded h p =
    of-records (λ t. record_of p (is_relief h t.vacancy) t) (λ t. refl) (ended_tours (deeds h p)) ∙ tours-in (deeds h p) ∙ ap duty.tours (events-told h p)
