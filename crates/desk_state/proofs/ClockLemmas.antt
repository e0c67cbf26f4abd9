-- The clocks keep on what a history says.
use Rattle.std.proofs.Common.{is_none, get_or, zero, suc, ◌≡◌, ◌≢◌, ◌<◌, ◌+◌, ℕ, Bool, true, false, cond, nat_eq, List, [], ◌∷◌, ◌++◌, length, slice_set, Option, None, Some, is_some, unwrap_or, refl, sym, ap, ◌∙◌, subst, inl, inr, arith, append-nil, length-append}
use Rattle.std.proofs.lemmas.Bool.{false≢true}
use Rattle.std.proofs.lemmas.Bool.Decides.{nat_tests}
use Rattle.std.proofs.lemmas.List.{get_or-set_same, get_or-set_other, length-set}
use Rattle.std.proofs.lemmas.Option.{slice_get-get_or, slice_get_within, get_or_from_slice_get}
use Rattle.std.specs.Prelude.{if◌then◌else◌}
use Rattle.std.specs.Bool.{Decides}
use Rattle.std.specs.Option.{option_map, option_or}
use Rattle.std.specs.List.{slice_get, cons_option}
use Rattle.desk_base.specs.Window.{WindowValue, Holds}
use Rattle.duty_events.specs.declared.event.Event.{Event}
use Rattle.duty_events.specs.declared.stage.Stage.{Stage}
use Rattle.duty_events.specs.Allowed.{first_minute, last_minute}
use Rattle.duty_events.specs.Lists.{stage_of, latest, Follows, may_follow}
use Rattle.person_clock.specs.Clock.{ClockValue, Stands, MayTake}
use Rattle.desk_model.specs.declared.person.Person.{Person}
use Rattle.desk_model.specs.declared.limits.TheConstants.{PERSON_LIMIT}
use Rattle.desk_model.specs.statements.Opening.{OpeningValue}
use Rattle.desk_model.specs.statements.Entry.{EntryValue}
use Rattle.desk_model.specs.histories.History.{History, opened, with_entry, steps, said, is_done}
use Rattle.desk_model.specs.histories.Register.{enrols, enrols_any, person_of, persons}
use Rattle.desk_model.specs.histories.Duty.{tells, told, may_come, events}
use Rattle.desk_model.specs.laws.Comes.{Comes, kept}
use Rattle.desk_model.specs.laws.RestsOn.{RestsOn}
use Rattle.desk_register.specs.Among.{index_among}
use Rattle.desk_register.proofs.PersonLemmas.{same, same_number, option_or-none}
use Rattle.desk_register.proofs.IndexAmongLemmas.{index-is, indexes-apart, index-grown}
use Rattle.desk_state.specs.DutyTold.{teller, home_of, told_event}
use Rattle.desk_state.specs.Clocks.{IsClock, AreClocks, HasTaken, Tells, Enrols}
use Rattle.desk_state.proofs.DutyIndexLemmas.{teller-indexed}
use Rattle.desk_state.proofs.HeardLemmas.{EnrolsOne, TellsOne, TellsNothing, heard}

-- ---- lists of clocks

get-set_same : {X : Type 0} (xs : List X) (i : ℕ) (x : X) → i < length xs → slice_get (slice_set xs i x) i ≡ Some x
get-set_same xs i x within = slice_get-get_or (slice_set xs i x) i x (subst (λ n. i < n) (sym (length-set xs i x)) within) ∙ ap Some (get_or-set_same xs i x x within)

get-set_other : {X : Type 0} (xs : List X) (i j : ℕ) (x y : X) → j ≢ i → slice_get xs j ≡ Some y → slice_get (slice_set xs i x) j ≡ Some y
get-set_other xs i j x y apart at =
    slice_get-get_or (slice_set xs i x) j y (subst (λ n. j < n) (sym (length-set xs i x)) (slice_get_within xs j y at))
    ∙ ap Some (get_or-set_other xs i j x y apart ∙ get_or_from_slice_get xs j y y at)

get-push : {X : Type 0} (xs : List X) (j : ℕ) (x y : X) → slice_get xs j ≡ Some y → slice_get (xs ++ x ∷ []) j ≡ Some y
get-push [] j x y at = absurd (false≢true (ap is_some at))
get-push (z ∷ xs) zero x y at = at
get-push (z ∷ xs) (suc j) x y at = get-push xs j x y at

get-last : {X : Type 0} (xs : List X) (x : X) → slice_get (xs ++ x ∷ []) (length xs) ≡ Some x
get-last [] x = refl
get-last (z ∷ xs) x = get-last xs x

-- ---- a person's clock, and what is said of them

clock-stays : (h : History) (e : EntryValue) (p : ℕ) (c : ClockValue) → Comes h e → events (with_entry h e) p ≡ events h p
    → option_map (λ x. x.home) (person_of (with_entry h e) p) ≡ option_map (λ x. x.home) (person_of h p) → IsClock c h p → IsClock c (with_entry h e) p
clock-stays h e p c comes same_events same_home is = record {
  stands = subst (Stands c) (sym same_events) is.stands;
  window = is.window;
  home = same_home ∙ is.home;
}

silent-events : (h : History) (e : EntryValue) (p : ℕ) → Comes h e → said (tells p) e ≡ None → events (with_entry h e) p ≡ events h p
silent-events h e p comes none = comes.events p ∙ ap (kept (events h p)) none

silent-home : (h : History) (e : EntryValue) (p : ℕ) → Comes h e → said (enrols p) e ≡ None
    → option_map (λ x. x.home) (person_of (with_entry h e) p) ≡ option_map (λ x. x.home) (person_of h p)
silent-home h e p comes none = ap (option_map (λ x. x.home)) (comes.person p ∙ ap (option_or (person_of h p)) none ∙ sym (option_or-none (person_of h p)))

no-more : (h : History) (e : EntryValue) → Comes h e → said enrols_any e ≡ None → persons (with_entry h e) ≡ persons h
no-more h e comes none = comes.persons ∙ ap (λ o. persons h ++ cons_option o []) none ∙ append-nil (persons h)

-- ---- what each kind of entry leaves

idle-keeps : (h : History) (e : EntryValue) (clocks : List ClockValue) → Comes h e → TellsNothing e → AreClocks clocks h → AreClocks clocks (with_entry h e)
idle-keeps h e clocks comes says are =
    let indexes : (q : ℕ) → index_among (persons (with_entry h e)) q ≡ index_among (persons h) q = λ q. ap (λ ns. index_among ns q) (no-more h e comes says.any) in
    record {
      each = λ q i at. let was = are.each q i (sym (indexes q) ∙ at) in
          (was.0, (was.1.0, clock-stays h e q was.0 comes (silent-events h e q comes (says.tells_none q)) (silent-home h e q comes (says.who q)) was.1.1));
      none = λ q at. silent-events h e q comes (says.tells_none q) ∙ are.none q (sym (indexes q) ∙ at);
      many = are.many ∙ ap length (sym (no-more h e comes says.any));
    }

-- the clock may take in what is told and accepted
may-take : (h : History) (e : EntryValue) (p : ℕ) (t : Event) (c : ClockValue) → ((s : Stage) (last : Option ℕ) (x : Event) → Decides (may_follow s last x) (Follows s last x))
    → may_come (events h p) t ≡ true → Holds h.opening.window (first_minute t) → Holds h.opening.window (last_minute t) → IsClock c h p → MayTake c t
may-take h e p t c decides comes first end is = record {
  follows = subst (λ s. Follows s c.tour.last t) (sym is.stands.totals.at) (subst (λ m. Follows (stage_of (events h p)) m t) (sym is.stands.totals.came)
      ((decides (stage_of (events h p)) (latest (events h p)) t).0 comes));
  lies = subst (λ w. Holds w (first_minute t) × Holds w (last_minute t)) (sym is.window) (first, end);
}

told-clock : (h : History) (e : EntryValue) (p : ℕ) (t : Event) (c later : ClockValue) → Comes h e → said (tells p) e ≡ Some t → said (enrols p) e ≡ None
    → may_come (events h p) t ≡ true → IsClock c h p → HasTaken c later t → IsClock later (with_entry h e) p
told-clock h e p t c later comes told nobody may is taken = record {
  stands = subst (Stands later) (sym (comes.events p ∙ ap (kept (events h p)) told ∙ rw may refl)) (taken.stands (events h p) is.stands);
  window = taken.window ∙ is.window;
  home = silent-home h e p comes nobody ∙ is.home ∙ ap Some (sym taken.home);
}

told-keeps : (h : History) (e : EntryValue) (i : ℕ) (clocks later : List ClockValue) → Comes h e → (says : TellsOne e)
    → ((s : Stage) (last : Option ℕ) (x : Event) → Decides (may_follow s last x) (Follows s last x))
    → may_come (events h says.person) says.event ≡ true → Holds h.opening.window (first_minute says.event) → Holds h.opening.window (last_minute says.event)
    → index_among (persons h) says.person ≡ Some i → Tells i says.event clocks later → AreClocks clocks h → AreClocks later (with_entry h e)
told-keeps h e i clocks later comes says decides may first end at_i tells_it are =
    let p = says.person in
    let was = are.each p i at_i in
    let done = tells_it was.0 was.1.0 (may-take h e p says.event was.0 decides may first end was.1.1) in
    let same_persons = no-more h e comes says.any in
    record {
      each = λ q j at. each q j (ap (λ ns. index_among ns q) (sym same_persons) ∙ at) was done (nat_eq i j) refl;
      none = λ q at. none q (ap (λ ns. index_among ns q) (sym same_persons) ∙ at) (nat_eq p q) refl;
      many = ap length done.1.0 ∙ length-set clocks i done.0 ∙ are.many ∙ ap length (sym same_persons);
    }
  where
    told_p : said (tells says.person) e ≡ Some says.event
    told_p = says.tells_is says.person ∙ rw (same says.person) refl

    each : (q j : ℕ) → index_among (persons h) q ≡ Some j → (was : (c : ClockValue) × ((slice_get clocks i ≡ Some c) × IsClock c h says.person))
        → (done : (x : ClockValue) × ((later ≡ slice_set clocks i x) × HasTaken was.0 x says.event)) → (here : Bool) → nat_eq i j ≡ here
        → (c : ClockValue) × ((slice_get later j ≡ Some c) × IsClock c (with_entry h e) q)
    each q j at was done true here =
        let whose : says.person ≡ q = index-is (persons h) says.person i at_i ∙ ap (λ k. get_or (persons h) k 0) (same_number i j here) ∙ sym (index-is (persons h) q j at) in
        let stored : slice_get later j ≡ Some done.0 = ap (λ cs. slice_get cs j) done.1.0 ∙ subst (λ k. slice_get (slice_set clocks i done.0) k ≡ Some done.0) (same_number i j here)
        (get-set_same clocks i done.0 (slice_get_within clocks i was.0 was.1.0)) in
        (done.0, (stored, subst (IsClock done.0 (with_entry h e)) whose (told-clock h e says.person says.event was.0 done.0 comes told_p (says.who says.person) may was.1.1 done.1.1)))
    each q j at was done false here =
        let other = are.each q j at in
        let apart : j ≢ i = grind (arith, nat_tests, here) in
        let stored : slice_get later j ≡ Some other.0 = ap (λ cs. slice_get cs j) done.1.0 ∙ get-set_other clocks i j done.0 other.0 apart other.1.0 in
        let not_them : nat_eq says.person q ≡ false = sym (indexes-apart (persons h) says.person q i j at_i at) ∙ here in
        (other.0, (stored, clock-stays h e q other.0 comes (silent-events h e q comes (says.tells_is q ∙ rw not_them refl)) (silent-home h e q comes (says.who q)) other.1.1))

    none : (q : ℕ) → index_among (persons h) q ≡ None → (them : Bool) → nat_eq says.person q ≡ them → events (with_entry h e) q ≡ []
    none q at true them = absurd (false≢true (ap is_some (sym at ∙ ap (index_among (persons h)) (sym (same_number says.person q them)) ∙ at_i)))
    none q at false them = silent-events h e q comes (says.tells_is q ∙ rw them refl) ∙ are.none q at

enrolled-keeps : (h : History) (e : EntryValue) (clocks later : List ClockValue) → Comes h e → (says : EnrolsOne e) → person_of h says.person ≡ None
    → Enrols h.opening.window says.home clocks later → AreClocks clocks h → AreClocks later (with_entry h e)
enrolled-keeps h e clocks later comes says unknown enrols_it are =
    let p = says.person in
    let grows : persons (with_entry h e) ≡ persons h ++ p ∷ [] = comes.persons ∙ ap (λ o. persons h ++ cons_option o []) says.any in
    let indexes : (q : ℕ) → index_among (persons (with_entry h e)) q ≡ option_or (index_among (persons h) q) (cond (nat_eq q p) (Some (length (persons h))) None)
    = λ q. ap (λ ns. index_among ns q) grows ∙ index-grown (persons h) p q in
    record {
      each = λ q j at. each q j (index_among (persons h) q) refl (sym (indexes q) ∙ at);
      none = λ q at. none q (index_among (persons h) q) refl (sym (indexes q) ∙ at);
      many = ap length enrols_it.1.0 ∙ length-append clocks (enrols_it.0 ∷ []) ∙ ap (λ n. n + 1) are.many ∙ sym (ap length grows ∙ length-append (persons h) (p ∷ []));
    }
  where
    quiet : (q : ℕ) → events (with_entry h e) q ≡ events h q
    quiet q = silent-events h e q comes (says.tells_none q)

    person-now : (q : ℕ) → person_of (with_entry h e) q ≡ option_or (person_of h q) (if nat_eq says.person q then Some (record { craft = says.craft; home = says.home }) else None)
    person-now q = comes.person q ∙ ap (option_or (person_of h q)) (says.who q)

    mine : option_or {T = Person} None (if nat_eq says.person says.person then Some (record { craft = says.craft; home = says.home }) else None) ≡ Some (record { craft = says.craft; home = says.home })
    mine = rw (same says.person) refl

    person_is : person_of (with_entry h e) says.person ≡ Some (record { craft = says.craft; home = says.home })
    person_is = person-now says.person ∙ ap (λ o. option_or o (if nat_eq says.person says.person then Some (record { craft = says.craft; home = says.home }) else None)) unknown ∙ mine

    keeps-home : (o : Option Person) (more : Option Person) (home : List ℕ) → option_map (λ x. x.home) o ≡ Some home → option_map (λ x. x.home) (option_or o more) ≡ Some home
    keeps-home None more home is = absurd (false≢true (ap is_some is))
    keeps-home (Some x) more home is = is

    each : (q j : ℕ) (was : Option ℕ) → index_among (persons h) q ≡ was → option_or was (cond (nat_eq q says.person) (Some (length (persons h))) None) ≡ Some j
        → (c : ClockValue) × ((slice_get later j ≡ Some c) × IsClock c (with_entry h e) q)
    each q j (Some k) had at =
        let other = are.each q j (had ∙ at) in (
          other.0,
          (
            ap (λ cs. slice_get cs j) enrols_it.1.0 ∙ get-push clocks j enrols_it.0 other.0 other.1.0,
            record {
              stands = subst (Stands other.0) (sym (quiet q)) other.1.1.stands;
              window = other.1.1.window;
              home = ap (option_map (λ x. x.home)) (person-now q) ∙ keeps-home (person_of h q) _ other.0.home other.1.1.home;
            },
          ),
        )
    each q j None had at = go (nat_eq q says.person) refl at
      where
        go : (them : Bool) → nat_eq q says.person ≡ them → cond them (Some (length (persons h))) None ≡ Some j → (c : ClockValue) × ((slice_get later j ≡ Some c) × IsClock c (with_entry h e) q)
        go false them at = absurd (false≢true (ap is_some at))
        go true them at =
            let who : q ≡ says.person = same_number q says.person them in
            let index : length clocks ≡ j = are.many ∙ ap (λ o. unwrap_or o 0) at in (
              enrols_it.0,
              (
                ap (λ cs. slice_get cs j) enrols_it.1.0 ∙ subst (λ k. slice_get (clocks ++ enrols_it.0 ∷ []) k ≡ Some enrols_it.0) index (get-last clocks enrols_it.0),
                record {
                  stands = subst (Stands enrols_it.0) (sym (quiet q ∙ are.none q had)) enrols_it.1.1.stands;
                  window = enrols_it.1.1.window_is;
                  home = ap (λ x. option_map (λ y. y.home) (person_of (with_entry h e) x)) who ∙ ap (option_map (λ x. x.home)) person_is ∙ ap Some (sym enrols_it.1.1.home_is);
                },
              ),
            )

    none : (q : ℕ) (was : Option ℕ) → index_among (persons h) q ≡ was → option_or was (cond (nat_eq q says.person) (Some (length (persons h))) None) ≡ None → events (with_entry h e) q ≡ []
    none q (Some k) had at = absurd (false≢true (sym (ap is_some at)))
    none q None had at = quiet q ∙ are.none q had

pub clocks-none : (o : OpeningValue) (clocks : List ClockValue) → clocks ≡ [] → AreClocks clocks (opened o)
unfolding events told steps
clocks-none o clocks empty = record {
  each = λ p i at. absurd (false≢true (ap is_some at));
  none = λ p at. refl;
  many = ap length empty;
}

-- ---- after an entry the clocks keep what the longer history says

other-home : (e : EntryValue) (home : List ℕ) → said home_of e ≡ None → said home_of e ≡ Some home → ⊥
other-home e home none is = false≢true (ap is_some (sym none ∙ is))

other-event : (e : EntryValue) (t : Event) → said told_event e ≡ None → said told_event e ≡ Some t → ⊥
other-event e t none is = false≢true (ap is_some (sym none ∙ is))

pub home-keeps : (h : History) (e : EntryValue) (window : WindowValue) (home : List ℕ) (clocks later : List ClockValue) → Comes h e → window ≡ h.opening.window
    → ((p : ℕ) → said enrols_any e ≡ Some p → person_of h p ≡ None) → ((p : ℕ) → said enrols_any e ≡ Some p → length (persons h) < PERSON_LIMIT)
    → said home_of e ≡ Some home → (length clocks < PERSON_LIMIT → Enrols window home clocks later) → AreClocks clocks h → AreClocks later (with_entry h e)
home-keeps h e window home clocks later comes window_is new few home_is enrols_it are = elim (heard e) [
  | inl says ↦ enrolled-keeps h e clocks later comes says (new says.person says.any)
      (subst (λ w. Enrols w says.home clocks later) window_is (subst (λ x. Enrols window x clocks later) (ap (λ o. unwrap_or o []) (sym home_is ∙ says.home_is))
      (enrols_it (subst (λ n. n < PERSON_LIMIT) (sym are.many) (few says.person says.any))))) are
  | inr (inl says) ↦ absurd (other-home e home says.home_none home_is)
  | inr (inr says) ↦ absurd (other-home e home says.home_none home_is)
]

pub none-keeps : (h : History) (e : EntryValue) (clocks : List ClockValue) → Comes h e → said home_of e ≡ None → said told_event e ≡ None → AreClocks clocks h → AreClocks clocks (with_entry h e)
none-keeps h e clocks comes home_none event_none are = elim (heard e) [
  | inl says ↦ absurd (other-home e says.home home_none says.home_is)
  | inr (inl says) ↦ absurd (other-event e says.event event_none says.event_is)
  | inr (inr says) ↦ idle-keeps h e clocks comes says are
]

event-is : (a b : Event) → Some a ≡ Some b → a ≡ b
event-is a b is = cc

pub event-keeps : (h : History) (e : EntryValue) (i : ℕ) (t : Event) (clocks later : List ClockValue) → Comes h e
    → ((s : Stage) (last : Option ℕ) (x : Event) → Decides (may_follow s last x) (Follows s last x))
    → ((p : ℕ) (x : Event) → said (tells p) e ≡ Some x → may_come (events h p) x ≡ true) → ((p : ℕ) (x : Event) → said (tells p) e ≡ Some x → Holds h.opening.window (first_minute x))
    → ((p : ℕ) (x : Event) → said (tells p) e ≡ Some x → Holds h.opening.window (last_minute x)) → said told_event e ≡ Some t → ((p : ℕ) → said teller e ≡ Some p → Some i ≡ index_among (persons h) p)
    → Tells i t clocks later → AreClocks clocks h → AreClocks later (with_entry h e)
event-keeps h e i t clocks later comes decides may first end event_is index_is tells_it are = elim (heard e) [
  | inl says ↦ absurd (other-event e t says.event event_is)
  | inr (inl says) ↦
      let told : said (tells says.person) e ≡ Some says.event = says.tells_is says.person ∙ rw (same says.person) refl in
      told-keeps h e i clocks later comes says decides (may says.person says.event told) (first says.person says.event told) (end says.person says.event told)
      (sym (index_is says.person says.teller_is))
      (subst (λ x. Tells i x clocks later) (event-is t says.event (sym event_is ∙ says.event_is)) tells_it) are
  | inr (inr says) ↦ absurd (other-event e t says.event event_is)
]

-- who is told of has an index
pub indexed : (h : History) (e : EntryValue) (t : Event) → (is_done e.reply ≡ true → RestsOn h e.stated.cmd)
    → ((q : ℕ) → is_some (index_among (persons h) q) ≡ is_some (person_of h q)) → said told_event e ≡ Some t → ((p : ℕ) → said teller e ≡ Some p → None ≡ index_among (persons h) p) → ⊥
indexed h e t rests indexes event_is index_is = elim (heard e) [
  | inl says ↦ other-event e t says.event event_is
  | inr (inl says) ↦ false≢true (sym (teller-indexed h e says.person rests indexes says.teller_is) ∙ sym (ap is_none (index_is says.person says.teller_is)))
  | inr (inr says) ↦ other-event e t says.event event_is
]
