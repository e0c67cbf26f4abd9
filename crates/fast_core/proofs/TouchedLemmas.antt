-- An entry changes what bears on one person alone.
use Rattle.std.proofs.Common.{◌≡◌, ℕ, Bool, true, false, cond, ◌||◌, ◌&&◌, nat_eq, max, Option, None, Some, is_none, is_some, unwrap_or, List, refl, sym, ap, subst, ◌∙◌, arith}
use Rattle.std.specs.Option.{option_or}
use Rattle.std.specs.Str.{bytes_eq}
use Rattle.std.proofs.lemmas.Bool.{false≢true}
use Rattle.std.proofs.lemmas.Bool.Decides.{nat_tests}
use Rattle.std.proofs.lemmas.Option.{same_Some}
use Rattle.desk_model.specs.declared.command.Cmd.{Cmd}
use Rattle.desk_model.specs.declared.command.Cmd.TheVariants as cmd
use Rattle.desk_model.specs.declared.offer.Offer.{Offer}
use Rattle.desk_model.specs.declared.person.Person.{Person}
use Rattle.desk_model.specs.declared.reply.Reply.{Reply}
use Rattle.desk_model.specs.declared.reply.Reply.TheVariants as reply
use Rattle.desk_model.specs.statements.Job.{JobValue}
use Rattle.desk_model.specs.statements.Entry.{EntryValue}
use Rattle.desk_model.specs.histories.History.{History, with_entry, is_done, said}
use Rattle.desk_model.specs.histories.Register.{enrols, gives, makes, person_of, quals_of, vacancy_of, vacancies}
use Rattle.desk_model.specs.histories.Duty.{tells, events}
use Rattle.desk_model.specs.boards.Boards.{puts, is_on}
use Rattle.desk_model.specs.boards.Marks.{marks, is_marked_off}
use Rattle.desk_model.specs.offers.Offers.{offer_in, is_to, settles, asks_for, open_offer, on_offer, offered_to}
use Rattle.desk_model.specs.offers.Assigned.{assigned}
use Rattle.desk_model.specs.offers.TurnedDown.{turns_down, has_turned_down}
use Rattle.desk_model.specs.offers.Held.{hold_told, hold_end}
use Rattle.desk_model.specs.offers.Bars.{bar_of, may_have, is_free}
use Rattle.desk_model.specs.laws.Comes.{Comes, kept, assigned_by, left_open, on_offer_after}
use Rattle.desk_model.specs.laws.RestsOn.{RestsOn, MaySettle}
use Rattle.desk_model.proofs.OfferedLemmas.{find-passes}
use Rattle.fast_core.specs.Touched.{named, touched_by, touched, IsSameBut}

-- ---- who is not the one who is named

apart : (person p q : ℕ) → Some person ≡ Some p → nat_eq q p ≡ false → nat_eq person q ≡ false
apart person p q is other = let one = same_Some person p is in grind (arith, nat_tests, one, other)

neither : {X : Type 0} (b : Bool) → cond {A = Option X} b None None ≡ None
neither true = refl
neither false = refl

and-false : (b : Bool) → (b && false) ≡ false
and-false true = refl
and-false false = refl

or-false : (b : Bool) → (b || false) ≡ b
or-false true = refl
or-false false = refl

or-none : {X : Type 0} (known : Option X) → option_or known None ≡ known
or-none None = refl
or-none (Some x) = refl

-- a command that names a person makes no vacancy
makes-none : (p v : ℕ) (c : Cmd) → named c ≡ Some p → makes v c ≡ None
makes-none p v (cmd.Vacancy job) is = cc
makes-none p v c is = refl

unsettled : (was : Option ℕ) → left_open None was ≡ was
unsettled None = refl
unsettled (Some w) = refl

-- and says nothing of another
module _ (p q : ℕ) (other : nat_eq q p ≡ false) where
  enrols-none : (c : Cmd) → named c ≡ Some p → enrols q c ≡ None
  enrols-none (cmd.Enrol person craft home quals) is = rw (apart person p q is other) refl
  enrols-none c is = refl

  gives-none : (c : Cmd) → named c ≡ Some p → gives q c ≡ None
  gives-none (cmd.Enrol person craft home quals) is = rw (apart person p q is other) refl
  gives-none (cmd.Qualify person quals) is = rw (apart person p q is other) refl
  gives-none c is = refl

  tells-none : (c : Cmd) → named c ≡ Some p → tells q c ≡ None
  tells-none (cmd.Past person event) is = rw (apart person p q is other) refl
  tells-none (cmd.Happened person event) is = rw (apart person p q is other) refl
  tells-none c is = refl

  puts-none : (b : List ℕ) (c : Cmd) → named c ≡ Some p → puts b q c ≡ None
  puts-none b (cmd.List person board) is = rw (apart person p q is other) (neither (bytes_eq board b))
  puts-none b (cmd.Unlist person board) is = rw (apart person p q is other) (neither (bytes_eq board b))
  puts-none b c is = refl

  marks-none : (c : Cmd) → named c ≡ Some p → marks q c ≡ None
  marks-none (cmd.Enrol person craft home quals) is = rw (apart person p q is other) refl
  marks-none (cmd.MarkOn person) is = rw (apart person p q is other) refl
  marks-none (cmd.MarkOff person) is = rw (apart person p q is other) refl
  marks-none (cmd.NoAnswer vac person) is = rw (apart person p q is other) refl
  marks-none (cmd.Drop person) is = rw (apart person p q is other) refl
  marks-none c is = refl

  turns-none : (v : ℕ) (h : History) (c : Cmd) → named c ≡ Some p → turns_down v q h c ≡ None
  turns-none v h (cmd.Decline vac person) is = rw (apart person p q is other, and-false (nat_eq vac v)) refl
  turns-none v h (cmd.NoAnswer vac person) is = rw (apart person p q is other, and-false (nat_eq vac v)) refl
  turns-none v h (cmd.Drop person) is = rw (apart person p q is other) refl
  turns-none v h c is = refl

  hold-none : (codes : List (List ℕ)) (h : History) (m : ℕ) (c : Cmd) → named c ≡ Some p → hold_told codes q h m c ≡ None
  hold-none codes h m (cmd.Decline vac person) is = rw (apart person p q is other) refl
  hold-none codes h m c is = refl

  assigned-same : (c : Cmd) (was : Option ℕ) → named c ≡ Some p → assigned_by q c was ≡ was
  assigned-same (cmd.Accept vac person) was is = rw (apart person p q is other) refl
  assigned-same (cmd.Drop person) was is = rw (apart person p q is other) refl
  assigned-same (cmd.Happened person event) was is = rw (apart person p q is other) refl
  assigned-same (cmd.Annul vac) was is = cc
  assigned-same c was is = refl

  -- what is on offer to another isn't settled by it
  to-one : (person : ℕ) (offer : Option Offer) → nat_eq person q ≡ false → is_to person offer ≡ true → is_to q offer ≡ true → ⊥
  to-one person None differ to too = false≢true to
  to-one person (Some offer) differ to too = let same : nat_eq person q ≡ true = grind (arith, nat_tests, to, too) in false≢true (sym differ ∙ same)

  settled-other : (h : History) (vac person : ℕ) (was : Option ℕ) → MaySettle h vac person → nat_eq person q ≡ false → on_offer h q ≡ was
      → left_open (Some vac) was ≡ was
  settled-other h vac person None may differ is = refl
  settled-other h vac person (Some w) may differ is = go (nat_eq vac w) refl
    where
      go : (here : Bool) → nat_eq vac w ≡ here → cond here None (Some w) ≡ Some w
      go true here =
          let same : vac ≡ w = grind (arith, nat_tests, here) in
          absurd (to-one person (open_offer h w) differ (subst (λ v. is_to person (open_offer h v) ≡ true) same may.to)
          (find-passes (λ v. is_to q (open_offer h v)) (vacancies h) w is))
      go false here = refl

  left-same : (h : History) (c : Cmd) → named c ≡ Some p → RestsOn h c → left_open (settles c) (on_offer h q) ≡ on_offer h q
  left-same h (cmd.Accept vac person) is rests = settled-other h vac person (on_offer h q) rests (apart person p q is other) refl
  left-same h (cmd.Decline vac person) is rests = settled-other h vac person (on_offer h q) rests (apart person p q is other) refl
  left-same h (cmd.NoAnswer vac person) is rests = settled-other h vac person (on_offer h q) rests (apart person p q is other) refl
  left-same h (cmd.Withdraw vac person) is rests = settled-other h vac person (on_offer h q) rests (apart person p q is other) refl
  left-same h (cmd.Annul vac) is rests = cc
  left-same h c is rests = unsettled (on_offer h q)

-- ---- an entry

said-none : {X : Type 0} (f : Cmd → Option X) (e : EntryValue) (p : ℕ) → touched e ≡ Some p → (named e.stated.cmd ≡ Some p → f e.stated.cmd ≡ None) → said f e ≡ None
said-none f e p is none = go e.reply is
  where
    go : (r : Reply) → touched_by r (named e.stated.cmd) ≡ Some p → cond (is_done r) (f e.stated.cmd) None ≡ None
    go reply.Done is = none is
    go r is = refl

-- it touches one person, and of all others what bears on them stays
module _ (h : History) (e : EntryValue) (p : ℕ) (comes : Comes h e) (offers : (q : ℕ) → on_offer (with_entry h e) q ≡ on_offer_after q e (on_offer h q))
    (rests : is_done e.reply ≡ true → RestsOn h e.stated.cmd) (touches : touched e ≡ Some p) where
  module _ (q : ℕ) (other : nat_eq q p ≡ false) where
    person-same : person_of (with_entry h e) q ≡ person_of h q
    person-same = comes.person q ∙ ap (option_or (person_of h q)) (said-none (enrols q) e p touches (enrols-none p q other e.stated.cmd)) ∙ or-none (person_of h q)

    quals-same : quals_of (with_entry h e) q ≡ quals_of h q
    quals-same = comes.quals q ∙ ap (λ o. unwrap_or o (quals_of h q)) (said-none (gives q) e p touches (gives-none p q other e.stated.cmd))

    events-same : events (with_entry h e) q ≡ events h q
    events-same = comes.events q ∙ ap (kept (events h q)) (said-none (tells q) e p touches (tells-none p q other e.stated.cmd))

    marks-same : is_marked_off (with_entry h e) q ≡ is_marked_off h q
    marks-same = comes.marked q ∙ ap (λ o. unwrap_or o (is_marked_off h q)) (said-none (marks q) e p touches (marks-none p q other e.stated.cmd))

    turned-same : (v : ℕ) → has_turned_down (with_entry h e) v q ≡ has_turned_down h v q
    turned-same v =
        comes.turned_down v q ∙ ap (λ o. has_turned_down h v q || is_some o) (said-none (turns_down v q h) e p touches (turns-none p q other v h e.stated.cmd))
        ∙ or-false (has_turned_down h v q)

    hold-same : (codes : List (List ℕ)) → hold_end (with_entry h e) codes q ≡ hold_end h codes q
    hold-same codes =
        let none : max (hold_end h codes q) 0 ≡ hold_end h codes q = omega arith in
        comes.hold_end codes q ∙ ap (λ o. max (hold_end h codes q) (unwrap_or o 0)) (said-none (hold_told codes q h e.moment) e p touches (hold-none p q other codes h e.moment e.stated.cmd)) ∙ none

    has-same : assigned (with_entry h e) q ≡ assigned h q
    has-same = comes.assigned q ∙ go e.reply touches
      where
        go : (r : Reply) → touched_by r (named e.stated.cmd) ≡ Some p → cond (is_done r) (assigned_by q e.stated.cmd (assigned h q)) (assigned h q) ≡ assigned h q
        go reply.Done is = assigned-same p q other e.stated.cmd (assigned h q) is
        go r is = refl

    offers-none : offered_to q e ≡ None
    offers-none = go e.reply touches
      where
        go : (r : Reply) → touched_by r (named e.stated.cmd) ≡ Some p → cond (is_to q (offer_in e.moment r)) (asks_for e.stated.cmd) None ≡ None
        go (reply.Offered person board position) is = rw (apart person p q is other) refl
        go r is = refl

    left : left_open (said settles e) (on_offer h q) ≡ on_offer h q
    left = go e.reply touches rests
      where
        go : (r : Reply) → touched_by r (named e.stated.cmd) ≡ Some p → (is_done r ≡ true → RestsOn h e.stated.cmd)
            → left_open (cond (is_done r) (settles e.stated.cmd) None) (on_offer h q) ≡ on_offer h q
        go reply.Done is rests = left-same p q other h e.stated.cmd is (rests refl)
        go r is rests = unsettled (on_offer h q)

    offer-same : on_offer (with_entry h e) q ≡ on_offer h q
    offer-same = offers q ∙ ap (λ o. option_or o (left_open (said settles e) (on_offer h q))) offers-none ∙ left

    bars-same : (m : ℕ) (job : JobValue) (person : Person) → bar_of (with_entry h e) m job q person ≡ bar_of h m job q person
    bars-same m job person = rw (offer-same, events-same) (rw has-same (rw marks-same (rw quals-same (rw (turned-same job.vac) (rw (hold-same job.chain) refl)))))

    free-same : (m : ℕ) (job : JobValue) → is_free (with_entry h e) m job q ≡ is_free h m job q
    free-same m job = ap (may_have (with_entry h e) m job q) person-same ∙ go (person_of h q)
      where
        go : (known : Option Person) → may_have (with_entry h e) m job q known ≡ may_have h m job q known
        go None = refl
        go (Some person) = ap is_none (bars-same m job person)

    on-same : (b : List ℕ) → is_on (with_entry h e) q b ≡ is_on h q b
    on-same b = comes.on q b ∙ ap (λ o. unwrap_or o (is_on h q b)) (said-none (puts b q) e p touches (puts-none p q other b e.stated.cmd))

  pub others-stay : IsSameBut p h (with_entry h e)
  others-stay = record {
    vacancy = λ v. comes.vacancy v ∙ ap (option_or (vacancy_of h v)) (said-none (makes v) e p touches (makes-none p v e.stated.cmd)) ∙ or-none (vacancy_of h v);
    on = λ q b other. on-same q other b;
    free = λ m job q other. free-same q other m job;
  }
