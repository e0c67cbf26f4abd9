-- The excess of the last record is that by which rest is longer.
use Rattle.std.proofs.Common.{◌≡◌, ℕ, ◌+◌, ◌-◌, Bool, true, false, cond, Option, None, Some, List, [], ◌∷◌, ◌++◌, fold, map, refl, sym, ap, ◌∙◌, subst, append-nil, arith}
use Rattle.std.specs.Option.{option_map, option_or}
use Rattle.std.specs.List.{cons_option, filter_map}
use Rattle.std.proofs.lemmas.List.Sums.{fold_push}
use Rattle.std.proofs.lemmas.Option.{slice_get_within}
use Rattle.duty_events.specs.declared.limits.TheConstants.{DUTY_LIMIT}
use Rattle.duty_events.specs.declared.tour.Tour.{Tour}
use Rattle.duty_events.specs.EndedTours.{ended, last_begun, last_tour}
use Rattle.duty_events.specs.Lists.{stage_of, latest, IsLawful, IsNext}
use Rattle.duty_events.specs.Tours.{sum_so_far}
use Rattle.duty_events.proofs.FollowLemmas.{may_follow-decides}
use Rattle.duty_events.proofs.ListLemmas.{lawful-push}
use Rattle.duty_events.proofs.EndedTourLemmas.{last_tour-push}
use Rattle.duty_events.proofs.EventLemmas.{kind_of-stays}
use Rattle.duty_events.proofs.LastTourLemmas.{ended-sum, owns-whole}
use Rattle.rest_rules.specs.Excess.{excess}
use Rattle.rest_rules.proofs.ExcessLemmas.{excess-stays, excess-is}
use Rattle.tour_build.proofs.CountLemmas.{sum-is}
use Rattle.desk_model.specs.histories.Duty as told
use Rattle.desk_model.specs.histories.Duty.{may_come}
use Rattle.desk_model.specs.histories.History.{History, steps}
use Rattle.duty_record.specs.declared.ended_tour.EndedTour.{EndedTour}
use Rattle.duty_record.specs.declared.tour_record.TourRecord.{TourRecord}
use Rattle.duty_record.specs.Deeds.{Deed, deed_by, events_in, keep, deeds}
use Rattle.duty_record.specs.EndedTours.{ended_with, ended_tours}
use Rattle.duty_record.specs.Tours.{is_relief, record_of, tours, last_excess}
use Rattle.duty_record.proofs.TourLemmas.{events_in-push, ended_tours-push}
use Rattle.duty_record.proofs.LawLemmas.{events-told}

abbrev over : EndedTour → ℕ
over t = (t.on_duty + t.limbo) - DUTY_LIMIT

-- what the last of these tours has over twelve hours
abbrev last_over : List EndedTour → ℕ
last_over ts = fold (λ n t. over t) 0 ts

record Agrees (ds : List Deed) : Type 0 where
  lawful : IsLawful (events_in ds)
  is : last_over (ended_tours ds) ≡ excess (events_in ds)

-- ---- one deed more

ended-over : (ds : List Deed) (d : Deed) → IsLawful (events_in ds) → IsNext (events_in ds) d.event → (tour : Tour) → ended (stage_of (events_in ds)) (last_begun (events_in ds)) d.event ≡ Some tour
    → over (ended_with (ds ++ d ∷ []) tour) ≡ excess (events_in ds ++ d.event ∷ [])
ended-over ds d lawful next tour is =
    let es = events_in ds in
    let later = es ++ d.event ∷ [] in
    let sum : (ended_with (ds ++ d ∷ []) tour).on_duty + (ended_with (ds ++ d ∷ []) tour).limbo ≡ sum_so_far later =
    sum-is (events_in (ds ++ d ∷ [])) (subst IsLawful (sym (events_in-push ds d)) (lawful-push es d.event lawful next)) ∙ ap sum_so_far (events_in-push ds d) in
    let last : last_tour later ≡ Some tour = last_tour-push es d.event ∙ ap (λ o. option_or o (last_tour es)) is in
    ap (λ n. n - DUTY_LIMIT) (sum ∙ sym (ended-sum es d.event lawful next tour is)) ∙ sym (excess-is later tour last)

stays-over : (ds : List Deed) (d : Deed) → IsLawful (events_in ds) → IsNext (events_in ds) d.event → ended (stage_of (events_in ds)) (last_begun (events_in ds)) d.event ≡ None
    → excess (events_in ds ++ d.event ∷ []) ≡ excess (events_in ds)
stays-over ds d lawful next is =
    let es = events_in ds in
    excess-stays es d.event (last_tour-push es d.event ∙ ap (λ o. option_or o (last_tour es)) is) (λ tour of. (owns-whole es tour lawful of).0) (kind_of-stays es d.event lawful next)

over-push : (ds : List Deed) (d : Deed) → Agrees ds → IsNext (events_in ds) d.event → (o : Option Tour) → ended (stage_of (events_in ds)) (last_begun (events_in ds)) d.event ≡ o
    → last_over (ended_tours ds ++ cons_option (option_map (ended_with (ds ++ d ∷ [])) o) []) ≡ excess (events_in ds ++ d.event ∷ [])
over-push ds d agrees next None is = ap last_over (append-nil (ended_tours ds)) ∙ agrees.is ∙ sym (stays-over ds d agrees.lawful next is)
over-push ds d agrees next (Some tour) is = fold_push (λ n t. over t) 0 (ended_tours ds) (ended_with (ds ++ d ∷ []) tour) ∙ ended-over ds d agrees.lawful next tour is

agrees-push : (ds : List Deed) (d : Deed) → Agrees ds → IsNext (events_in ds) d.event → Agrees (ds ++ d ∷ [])
agrees-push ds d agrees next = record {
  lawful = subst IsLawful (sym (events_in-push ds d)) (lawful-push (events_in ds) d.event agrees.lawful next);
  is = ap last_over (ended_tours-push ds d) ∙ over-push ds d agrees next (ended (stage_of (events_in ds)) (last_begun (events_in ds)) d.event) refl ∙ ap excess (sym (events_in-push ds d));
}

agrees-keep : (ds : List Deed) (d : Deed) → Agrees ds → Agrees (keep ds d)
agrees-keep ds d agrees = go (may_come (events_in ds) d.event) refl
  where
    go : (may : Bool) → may_come (events_in ds) d.event ≡ may → Agrees (cond may (ds ++ d ∷ []) ds)
    go true may = agrees-push ds d agrees ((may_follow-decides (stage_of (events_in ds)) (latest (events_in ds)) d.event).0 may)
    go false may = agrees

agrees-fold : (ds more : List Deed) → Agrees ds → Agrees (fold keep ds more)
agrees-fold ds [] agrees = agrees
agrees-fold ds (d ∷ more) agrees = agrees-fold (keep ds d) more (agrees-keep ds d agrees)

-- ---- of all

agrees-none : Agrees []
unfolding excess last_tour ended_tours
agrees-none = record { lawful = record { each = λ place e found. absurd (omega (arith, slice_get_within [] place e found)) }; is = refl }

agrees : (h : History) (p : ℕ) → Agrees (deeds h p)
unfolding deeds
agrees h p = agrees-fold [] (filter_map (deed_by p) (steps h)) agrees-none

last-records : (f : EndedTour → TourRecord) → ((t : EndedTour) → (f t).excess ≡ over t) → (n : ℕ) (ts : List EndedTour) → fold (λ k t. t.excess) n (map f ts) ≡ fold (λ k t. over t) n ts
last-records f is n [] = refl
last-records f is n (t ∷ ts) = ap (λ k. fold (λ j x. x.excess) k (map f ts)) (is t) ∙ last-records f is (over t) ts

pub last_excess-is : (h : History) (p : ℕ) → last_excess (tours h p) ≡ excess (told.events h p)
unfolding tours
last_excess-is h p = last-records (λ t. record_of p (is_relief h t.vacancy) t) (λ t. refl) 0 (ended_tours (deeds h p)) ∙ (agrees h p).is ∙ ap excess (events-told h p)
