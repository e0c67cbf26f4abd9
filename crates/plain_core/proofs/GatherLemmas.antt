-- A person's events, an entry at a time.
use Rattle.std.proofs.Common.{◌≡◌, ℕ, ◌+◌, ◌<◌, Bool, cond, Option, None, Some, List, [], ◌∷◌, ◌++◌, length, take, get_or, refl, sym, ap, ◌∙◌}
use Rattle.duty_events.specs.declared.event.Event.{Event}
use Rattle.duty_events.specs.declared.stage.Stage.{Stage}
use Rattle.duty_events.specs.Lists.{stage_of, latest, may_follow}
use Rattle.desk_model.specs.statements.Opening.{OpeningValue}
use Rattle.desk_model.specs.statements.Entry.{EntryValue}
use Rattle.desk_model.specs.histories.History.{history_of, opened, steps, said}
use Rattle.desk_model.specs.histories.Duty.{tells, told, events}
use Rattle.desk_model.specs.laws.Comes.{kept}
use Rattle.desk_model.proofs.EventLemmas.{events-snoc}
use Rattle.plain_core.proofs.PrefixLemmas.{one_more}

-- the events up to the next position
events-next : (o : OpeningValue) (es : List EntryValue) (i : ℕ) (e : EntryValue) (p : ℕ) → i < length es → e ≡ get_or es i e
    → events (history_of o (take (i + 1) es)) p ≡ kept (events (history_of o (take i es)) p) (said (tells p) e)
events-next o es i e p within is = ap (λ h. events h p) (sym (one_more o es i e within is)) ∙ events-snoc (history_of o (take i es)) e p

pub events-opened : (o : OpeningValue) (p : ℕ) → events (opened o) p ≡ []
unfolding events told steps
events-opened o p = refl

-- where nothing is told of the person
pub gathered-none : (o : OpeningValue) (es : List EntryValue) (i : ℕ) (e : EntryValue) (p : ℕ) (was : List Event) → i < length es → e ≡ get_or es i e
    → said (tells p) e ≡ None → was ≡ events (history_of o (take i es)) p → was ≡ events (history_of o (take (i + 1) es)) p
gathered-none o es i e p was within is none before =
    before ∙ sym (events-next o es i e p within is ∙ ap (kept (events (history_of o (take i es)) p)) none)

-- where an event is told, by whether it may come
pub gathered : (o : OpeningValue) (es : List EntryValue) (i : ℕ) (e : EntryValue) (p : ℕ) (was : List Event) (s : Stage) (last : Option ℕ) (t : Event) (may : Bool)
    → i < length es → e ≡ get_or es i e → said (tells p) e ≡ Some t → s ≡ stage_of was → last ≡ latest was → may_follow s last t ≡ may
    → was ≡ events (history_of o (take i es)) p → cond may (was ++ t ∷ []) was ≡ events (history_of o (take (i + 1) es)) p
gathered o es i e p was s last t may within is told stage latest-is test before =
    let now = events (history_of o (take i es)) p in
    let same : may_follow (stage_of was) (latest was) t ≡ may = ap (λ x. may_follow x (latest was) t) (sym stage) ∙ ap (λ x. may_follow s x t) (sym latest-is) ∙ test in
    ap (λ b. cond b (was ++ t ∷ []) was) (sym same)
    ∙ ap (λ xs. kept xs (Some t)) before
    ∙ sym (events-next o es i e p within is ∙ ap (kept now) told)
