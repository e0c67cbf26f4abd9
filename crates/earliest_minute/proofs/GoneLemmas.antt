-- From the last moment on a bar that is gone stays gone.
use Rattle.std.proofs.Common.{◌≡◌, inl, inr, ℕ, ◌≤◌, Bool, true, false, cond, nat_lt, Option, None, Some, List, [], refl, ap, ◌∙◌, arith, unwrap_or}
use Rattle.std.specs.Option.{option_map}
use Rattle.std.proofs.lemmas.Bool.{false≢true}
use Rattle.std.proofs.lemmas.Bool.Decides.{nat_tests}
use Rattle.std.specs.Str.{bytes_eq}
use Rattle.duty_events.specs.declared.event.Event.{Event}
use Rattle.duty_events.specs.Lists.{latest, IsLawful}
use Rattle.rest_rules.specs.Rest.{RestOk}
use Rattle.law_bars.specs.Law.{law_bar, LawInWords}
use Rattle.denial_rules.specs.declared.bar.Bar.TheVariants as bar
use Rattle.denial_rules.specs.declared.facts.Facts.{Facts}
use Rattle.denial_rules.specs.Table.{marked_off_row, busy_row, on_offer_row, place_row, craft_row, quals_row, answered_row, held_row, law_row}
use Rattle.denial_rules.proofs.TableLemmas.{both-none}
use Rattle.desk_model.specs.declared.edition.Edition.{Edition}
use Rattle.desk_model.specs.declared.edition.Edition.TheVariants as edition
use Rattle.desk_model.specs.declared.person.Person.{Person}
use Rattle.desk_model.specs.histories.History.{History}
use Rattle.desk_model.specs.statements.Job.{JobValue}
use Rattle.desk_model.specs.histories.Duty.{events, in_tour, place_at}
use Rattle.desk_model.specs.offers.Held.{held_in, hold_end, held}
use Rattle.desk_model.specs.offers.Bars.{law_of, facts_of}
use Rattle.desk_model.specs.histories.Legal.{last_moment, IsLegal}
use Rattle.desk_model.proofs.EventLemmas.{lawful-events}
use Rattle.earliest_minute.specs.Least.{StaysGone}

-- who has rested at a minute has so at a later one
rested-after : (es : List Event) (m later more : ℕ) → m ≤ later → RestOk es m more → RestOk es later more
rested-after es m later more order (inl idle) = inl idle
rested-after es m later more order (inr has) = inr (record {
  ten_hours = omega (arith, has.ten_hours, order);
  stretch = record { first = has.stretch.first; begins = has.stretch.begins; ends = omega (arith, has.stretch.ends, order); each = has.stretch.each };
})

-- so whom no section bars at a minute, none bars at a later one
law-after : (words : LawInWords) (es : List Event) (home : List ℕ) (m later report duty limbo : ℕ) → IsLawful es → m ≤ later
    → law_bar es home m report duty limbo ≡ None → law_bar es home later report duty limbo ≡ None
law-after words es home m later report duty limbo lawful order none =
    let keeps = (words es home m report duty limbo lawful).0 none in
    (words es home later report duty limbo lawful).1 (record {
      rest = keeps.rest;
      more_rest = keeps.more_rest;
      undisturbed = rested-after es m later _ order keeps.undisturbed;
      days = keeps.days;
      month = keeps.month;
      waiting = keeps.waiting;
    })

law_of-after : LawInWords → (h : History) (job : JobValue) (p : ℕ) (person : Person) (m later : ℕ) → m ≤ later → law_of h m job p person ≡ None → law_of h later job p person ≡ None
law_of-after words h job p person m later order none = go (in_tour h p) none
  where
    go : (tour : Bool) → cond tour None (law_bar (events h p) person.home m job.report job.duty job.limbo) ≡ None → cond tour None (law_bar (events h p) person.home later job.report job.duty job.limbo) ≡ None
    go true told = refl
    go false told = law-after words (events h p) person.home m later job.report job.duty job.limbo (lawful-events h p) order told

-- a hold that is over stays over
held-after : (e : Edition) (until m later : ℕ) → m ≤ later → held_in e m until ≡ None → held_in e later until ≡ None
held-after edition.One until m later order over = refl
held-after edition.Two until m later order over = go (nat_lt m until) refl (nat_lt later until) refl over
  where
    go : (now : Bool) → nat_lt m until ≡ now → (then : Bool) → nat_lt later until ≡ then → cond now (Some until) None ≡ None → cond then (Some until) None ≡ None
    go true is then after none = cc
    go false is false after none = refl
    go false is true after none = absurd (false≢true (grind (arith, nat_tests, is, after, order)))

held_row-none : (facts : Facts) → held_row facts ≡ None → facts.held ≡ None
held_row-none facts none = go facts.held none
  where
    go : (until : Option ℕ) → option_map (λ u. bar.Held u) until ≡ None → until ≡ None
    go None told = refl
    go (Some u) told = cc

-- only the place, the hold and the law ask for the minute
pub stays-gone : LawInWords
    → ((h : History) → IsLegal h → (p : ℕ) → unwrap_or (latest (events h p)) 0 ≤ last_moment h)
    → ((h : History) (p : ℕ) (person : Person) (from to : ℕ) → unwrap_or (latest (events h p)) 0 ≤ from → from ≤ to → place_at h to p person ≡ place_at h from p person)
    → StaysGone
stays-gone words ahead stays h job p person m later legal last order none =
    let f = facts_of h m job p person in
    let marked = both-none (marked_off_row f) _ none in
    let busy = both-none (busy_row f) _ marked.1 in
    let offer = both-none (on_offer_row f) _ busy.1 in
    let place = both-none (place_row f) _ offer.1 in
    let craft = both-none (craft_row f) _ place.1 in
    let quals = both-none (quals_row f) _ craft.1 in
    let answered = both-none (answered_row f) _ quals.1 in
    let hold = both-none (held_row f) _ answered.1 in
    let law = both-none (law_row f) [] hold.1 in
    let reached = ahead h legal p in
    let same : place_at h later p person ≡ place_at h m p person = stays h p person m later (omega (arith, reached, last)) order in
    let there : cond (bytes_eq (place_at h later p person) job.place) None (Some (bar.Elsewhere (place_at h later p person))) ≡ None =
    ap (λ at. cond (bytes_eq at job.place) None (Some (bar.Elsewhere at))) same ∙ place.0 in
    let over : held h later job.chain p ≡ None = held-after h.opening.edition (hold_end h job.chain p) m later order (held_row-none f hold.0) in
    let kept : law_of h later job p person ≡ None = law_of-after words h job p person m later order law.0 in
    rw (marked.0, busy.0, offer.0, there, craft.0, quals.0, answered.0, over, kept) refl
