-- What is kept of a person, where they did something more.
use Rattle.std.proofs.Common.{◌≡◌, ℕ, ◌+◌, ◌<◌, ◌^◌, true, false, Option, None, Some, List, [], ◌∷◌, ◌++◌, length, get_or, map, take, ◌&&◌, refl, sym, ap, ◌∙◌, subst, arith}
use Rattle.std.specs.Option.{option_map}
use Rattle.std.specs.List.{cons_option, All}
use Rattle.std.proofs.lemmas.List.{map-append, take_more}
use Rattle.std.proofs.lemmas.List.Elements.{All-nil, All-cons, All-get_or}
use Rattle.duty_events.specs.MinuteKind.{kind_of}
use Rattle.duty_events.proofs.CountLemmas.{minutes_where-most}
use Rattle.month_hours.specs.Capped.{is_limbo}
use Rattle.tour_build.specs.LastTour.{is_on_duty, is_in, tour_count}
use Rattle.duty_record.specs.declared.tour_record.TourRecord.{TourRecord}
use Rattle.duty_events.specs.declared.event.Event.{Event}
use Rattle.duty_events.specs.declared.tour.Tour.{Tour}
use Rattle.duty_events.specs.EndedTours.{ended, last_begun}
use Rattle.duty_events.specs.Lists.{stage_of, latest, may_follow}
use Rattle.tour_build.specs.Runs.{TotalsValue, AreTotals}
use Rattle.duty_record.specs.declared.ended_tour.EndedTour.{EndedTour}
use Rattle.duty_record.specs.declared.person_tours.PersonTours.{PersonTours}
use Rattle.duty_record.specs.Deeds.{Deed, deed_of, events_in, keep}
use Rattle.duty_record.specs.EndedTours.{begun_for, last_vacancy, ended_with, ended_by, ended_from, ended_tours}
use Rattle.duty_record.specs.Kept.{with_sums, IsOf}
use Rattle.duty_record.proofs.TourLemmas.{events_in-push, last_vacancy-push, ended_tours-push}

-- the test of what is kept is that of the deeds
may-come : (k : PersonTours) (ds : List Deed) (e : Event) → IsOf k ds → may_follow k.totals.stage k.totals.last e ≡ may_follow (stage_of (events_in ds)) (latest (events_in ds)) e
may-come k ds e is = rw (is.totals.at, is.totals.came) refl

pub keep-yes : (k : PersonTours) (ds : List Deed) (e : Event) (v : Option ℕ) → IsOf k ds → may_follow k.totals.stage k.totals.last e ≡ true → keep ds (deed_of e v) ≡ ds ++ deed_of e v ∷ []
keep-yes k ds e v is may = rw (sym (may-come k ds e is) ∙ may) refl

-- a tour that ends has the sums that are kept behind it
ended_with-is : (ds : List Deed) (d : Deed) (later : TotalsValue) (v : Option ℕ) (tour : Option Tour) → AreTotals later (events_in (ds ++ d ∷ [])) → v ≡ last_vacancy (ds ++ d ∷ [])
    → option_map (with_sums v later) tour ≡ option_map (ended_with (ds ++ d ∷ [])) tour
ended_with-is ds d later v None are for = refl
ended_with-is ds d later v (Some t) are for = rw (for, are.worked, are.waited, are.over) refl

pub is-pushed : (k later : PersonTours) (e : Event) (v : Option ℕ) (tour : Option Tour) (ds : List Deed) → IsOf k ds
    → ((es : List Event) → AreTotals k.totals es → AreTotals later.totals (es ++ e ∷ []))
    → later.vacancy ≡ begun_for k.totals.stage k.vacancy (deed_of e v)
    → tour ≡ ended k.totals.stage k.totals.begun e
    → later.ended.items ≡ k.ended.items ++ cons_option (option_map (with_sums later.vacancy later.totals) tour) []
    → IsOf later (ds ++ deed_of e v ∷ [])
is-pushed k later e v tour ds is applied begun closes adds =
    let d = deed_of e v in
    let totals : AreTotals later.totals (events_in (ds ++ d ∷ [])) = subst (AreTotals later.totals) (sym (events_in-push ds d)) (applied (events_in ds) is.totals) in
    let vacancy : later.vacancy ≡ last_vacancy (ds ++ d ∷ []) = begun ∙ ap (λ s. begun_for s k.vacancy d) is.totals.at ∙ ap (λ w. begun_for (stage_of (events_in ds)) w d) is.vacancy ∙ sym (last_vacancy-push ds d) in
    let ends : tour ≡ ended (stage_of (events_in ds)) (last_begun (events_in ds)) e = closes ∙ ap (λ s. ended s k.totals.begun e) is.totals.at ∙ ap (λ b. ended (stage_of (events_in ds)) b e) is.totals.start in
    record {
      totals = totals;
      vacancy = vacancy;
      ended = adds ∙ ap (λ o. k.ended.items ++ cons_option o []) (ended_with-is ds d later.totals later.vacancy tour totals vacancy ∙ ap (option_map (ended_with (ds ++ d ∷ []))) ends)
          ∙ ap (λ xs. xs ++ cons_option (ended_by ds d) []) is.ended ∙ sym (ended_tours-push ds d);
    }

-- ---- the sums of a tour that has ended fit

pub record IsSmall (t : EndedTour) : Type 0 where
  pub fits : t.on_duty + t.limbo < 2 ^ 32

small-ended : (ds : List Deed) (t : Tour) → IsSmall (ended_with ds t)
unfolding tour_count
small-ended ds t =
    let es = events_in ds in
    let on_duty = minutes_where-most (λ u. is_in es u && is_on_duty (kind_of es u)) 0 (2 ^ 28) in
    let limbo = minutes_where-most (λ u. is_in es u && is_limbo (kind_of es u)) 0 (2 ^ 28) in
    record { fits = omega (arith, on_duty, limbo) }

small-option : (ds : List Deed) (o : Option Tour) (later : List EndedTour) → All IsSmall later → All IsSmall (cons_option (option_map (ended_with ds) o) later)
small-option ds None later all = all
small-option ds (Some t) later all = All-cons IsSmall _ _ (small-ended ds t) all

small-from : (before later : List Deed) → All IsSmall (ended_from before later)
small-from before [] = All-nil IsSmall
small-from before (d ∷ later) = small-option (before ++ d ∷ []) (ended (stage_of (events_in before)) (last_begun (events_in before)) d.event) _ (small-from (before ++ d ∷ []) later)

pub small : (ds : List Deed) → All IsSmall (ended_tours ds)
unfolding ended_tours
small ds = small-from [] ds

-- ---- the records of the first tours, and of one more

pub records-more : (f : EndedTour → TourRecord) (ts : List EndedTour) (list : List TourRecord) (i : ℕ) (t : EndedTour) (x : TourRecord) → All IsSmall ts
    → list ≡ map f (take i ts) → i < length ts → t ≡ get_or ts i t → (t.on_duty + t.limbo < 2 ^ 32 → x ≡ f t) → list ++ x ∷ [] ≡ map f (take (i + 1) ts)
records-more f ts list i t x all so_far within at is =
    let fits : IsSmall t = subst IsSmall (sym at) (All-get_or IsSmall ts i t within all) in
    ap (λ l. l ++ x ∷ []) so_far ∙ ap (λ y. map f (take i ts) ++ y ∷ []) (is fits.fits) ∙ sym (map-append f (take i ts) (t ∷ []))
    ∙ ap (map f) (ap (λ y. take i ts ++ y ∷ []) at ∙ sym (take_more ts i t within))
