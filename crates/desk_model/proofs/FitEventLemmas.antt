-- The events of a person in a legal history have their forms, and so what is told of them.
use Rattle.std.proofs.Common.{◌≡◌, ℕ, ◌-◌, Bool, true, false, cond, ◌&&◌, nat_eq, nat_le, nat_lt, Option, None, Some, IfSome, Ok, Err, List, [], ◌∷◌, reverse, fold, refl, sym, subst, arith}
use Rattle.std.specs.Option.{option_map, option_to_list}
use Rattle.std.specs.Str.{bytes_eq}
use Rattle.std.specs.List.{All}
use Rattle.std.proofs.lemmas.List.Elements.{All-nil, All-head, All-tail, All-append}
use Rattle.desk_base.specs.Code.{IsCode}
use Rattle.desk_base.specs.Minute.{IsInYears}
use Rattle.duty_events.specs.declared.limits.TheConstants.{INTERIM_LIMIT}
use Rattle.duty_events.specs.declared.event.Event.{Event}
use Rattle.duty_events.specs.declared.event.Event.TheVariants as event
use Rattle.duty_events.specs.declared.stage.Stage.{Stage}
use Rattle.duty_events.specs.declared.stage.Stage.TheVariants as stage
use Rattle.duty_events.specs.declared.event_fault.EventFault.{EventFault}
use Rattle.duty_events.specs.declared.event_fault.EventFault.TheVariants as fault
use Rattle.duty_events.specs.Allowed.{row, first_minute, last_minute, is_limited, behind, interim_fault, refuse, follow, allow}
use Rattle.duty_events.specs.Lists.{stage_after, stage_of, last_event, latest}
use Rattle.duty_events.specs.Places.{end_by, ends_from, last_end, place_of}
use Rattle.desk_model.specs.declared.command.Cmd.{Cmd}
use Rattle.desk_model.specs.declared.command.Cmd.TheVariants as cmd
use Rattle.desk_model.specs.statements.Fits.{IsEvent, IsCommand, Fits, FitsStage, FitsFault}
use Rattle.desk_model.specs.histories.History.{History, said}
use Rattle.desk_model.specs.histories.Duty.{tells, events}
use Rattle.desk_model.specs.histories.Legal.{IsLegal}
use Rattle.desk_model.proofs.FoundLemmas.{All-filter_map, IfSome-find, All-option_to_list, unwrap_or-passes, All-reverse, said-fits}
use Rattle.desk_model.proofs.EventLemmas.{event-years, events-all}

tells-fits : (p : ℕ) (c : Cmd) (e : Event) → IsCommand c → tells p c ≡ Some e → IsEvent e
tells-fits p (cmd.Past q t) e is told = go (nat_eq q p) told
  where
    go : (mine : Bool) → cond mine (Some t) None ≡ Some e → IsEvent e
    go true told = let same : t ≡ e = cc in subst IsEvent same is.1
    go false told = cc
tells-fits p (cmd.Happened q t) e is told = go (nat_eq q p) told
  where
    go : (mine : Bool) → cond mine (Some t) None ≡ Some e → IsEvent e
    go true told = let same : t ≡ e = cc in subst IsEvent same is.1
    go false told = cc
tells-fits p other e is told = cc

pub events-fit : (h : History) (p : ℕ) → IsLegal h → All Fits h.entries → All IsEvent (events h p)
events-fit h p legal all =
    subst (All IsEvent) (sym (events-all h p legal)) (All-filter_map (said (tells p)) IsEvent h.entries (said-fits (tells p) IsEvent (tells-fits p) h.entries all))

-- ---- the stage and the latest minute

after-fits : (s : Stage) (e : Event) → IsEvent e → FitsStage s → FitsStage (stage_after s e)
after-fits stage.Duty (event.Interim t k place) is has = is
after-fits s (event.Interim t k place) is has = has
after-fits (stage.Interim k since at) (event.Resume t) is has = tt
after-fits s (event.Resume t) is has = has
after-fits (stage.Interim k since at) (event.Final t place) is has = tt
after-fits s (event.Final t place) is has = has
after-fits stage.Off (event.Ride t) is has = tt
after-fits s (event.Ride t) is has = has
after-fits stage.Off (event.Duty t) is has = tt
after-fits s (event.Duty t) is has = has
after-fits stage.Duty (event.Relieve t) is has = tt
after-fits s (event.Relieve t) is has = has
after-fits stage.Duty (event.RideHome t) is has = tt
after-fits s (event.RideHome t) is has = has
after-fits stage.Off (event.Other span place) is has = tt
after-fits s (event.Other span place) is has = has

stages-fit : (s : Stage) (es : List Event) → FitsStage s → All IsEvent es → FitsStage (fold stage_after s es)
stages-fit s [] has all = has
stages-fit s (e ∷ es) has all = stages-fit (stage_after s e) es (after-fits s e (All-head IsEvent e es all) has) (All-tail IsEvent e es all)

last-fits : (o : Option Event) (es : List Event) → IfSome o IsEvent → All IsEvent es → IfSome (fold (λ o e. Some e) o es) IsEvent
last-fits o [] has all = has
last-fits o (e ∷ es) has all = last-fits (Some e) es (All-head IsEvent e es all) (All-tail IsEvent e es all)

latest-fits : (es : List Event) → All IsEvent es → IfSome (latest es) IsInYears
latest-fits es all = go (last_event es) (last-fits None es tt all)
  where
    go : (o : Option Event) → IfSome o IsEvent → IfSome (option_map last_minute o) IsInYears
    go None has = tt
    go (Some e) has = (event-years e has).1.0

-- ---- why an event is not allowed

interim-fits : (s : Stage) (e : Event) (f : EventFault) → FitsStage s → IsEvent e → interim_fault s e ≡ Some f → FitsFault f
interim-fits (stage.Interim k since at) (event.Resume t) f has in_years is = go (is_limited k && nat_le INTERIM_LIMIT (t - since)) is
  where
    go : (long : Bool) → cond long (Some (fault.InterimTooLong (t - since))) None ≡ Some f → FitsFault f
    go true is = let same : fault.InterimTooLong (t - since) ≡ f = cc in subst FitsFault same (omega (arith, in_years.1))
    go false is = cc
interim-fits (stage.Interim k since at) (event.Final t named) f has in_years is = go (bytes_eq at named) is
  where
    go : (same : Bool) → cond same None (Some (fault.OtherPlace at)) ≡ Some f → FitsFault f
    go true is = cc
    go false is = let same : fault.OtherPlace at ≡ f = cc in subst FitsFault same has.1
interim-fits s e f has in_years is = cc

pub fault-fits : (es : List Event) (e : Event) (f : EventFault) → All IsEvent es → IsEvent e → allow (stage_of es) e (latest es) ≡ Err f → FitsFault f
fault-fits es e f all in_years is = go (row (stage_of es) e) (stage_of es) (latest es) (stages-fit stage.Off es tt all) (latest-fits es all) is
  where
    interim : (s next : Stage) (found : Option EventFault) → FitsStage s → interim_fault s e ≡ found → refuse found (Ok next) ≡ Err f → FitsFault f
    interim s next None has found is = cc
    interim s next (Some g) has found is = let same : g ≡ f = cc in subst FitsFault same (interim-fits s e g has in_years found)

    late : (s next : Stage) (last : Option ℕ) → FitsStage s → IfSome last IsInYears → refuse (behind (first_minute e) last) (refuse (interim_fault s e) (Ok next)) ≡ Err f → FitsFault f
    late s next None has last_in is = interim s next (interim_fault s e) has refl is
    late s next (Some last) has last_in is = by_order (nat_lt (first_minute e) last) is
      where
        by_order : (before : Bool) → refuse (cond before (Some (fault.Behind last)) None) (refuse (interim_fault s e) (Ok next)) ≡ Err f → FitsFault f
        by_order true is = let same : fault.Behind last ≡ f = cc in subst FitsFault same last_in
        by_order false is = interim s next (interim_fault s e) has refl is

    go : (to : Option Stage) (s : Stage) (last : Option ℕ) → FitsStage s → IfSome last IsInYears → follow to s e last ≡ Err f → FitsFault f
    go None s last has last_in is = let same : fault.WrongStage s ≡ f = cc in subst FitsFault same has
    go (Some next) s last has last_in is = late s next last has last_in is

-- ---- where someone is

end-fits : (s : Stage) (e : Event) → IsEvent e → IfSome (end_by s e) (λ x. IsCode x.place)
end-fits s (event.Final t place) is = is.1
end-fits s (event.Other span place) is = is.3
end-fits s other is = tt

ends-fit : (s : Stage) (es : List Event) → All IsEvent es → All (λ x. IsCode x.place) (ends_from s es)
ends-fit s [] all = All-nil (λ x. IsCode x.place)
ends-fit s (e ∷ es) all =
    All-append (λ x. IsCode x.place) (option_to_list (end_by s e)) (ends_from (stage_after s e) es)
    (All-option_to_list (λ x. IsCode x.place) (end_by s e) (end-fits s e (All-head IsEvent e es all))) (ends-fit (stage_after s e) es (All-tail IsEvent e es all))

pub place-fits : (es : List Event) (home : List ℕ) (t : ℕ) → IsCode home → All IsEvent es → IsCode (place_of es home t)
unfolding place_of
place-fits es home t home_is all =
    unwrap_or-passes (λ x. x.place) IsCode (last_end es t) home home_is
    (IfSome-find (λ x. nat_le x.at t) (λ x. IsCode x.place) (reverse (ends_from stage.Off es)) (All-reverse (λ x. IsCode x.place) (ends_from stage.Off es) (ends-fit stage.Off es all)))
