-- An entry that refuses or tells changes nothing.
use Rattle.std.proofs.Common.{◌≡◌, ℕ, Bool, true, false, cond, ◌||◌, Option, None, Some, is_some, is_none, unwrap_or, max, fold, List, [], ◌∷◌, length, refl, sym, ap, ◌∙◌}
use Rattle.std.specs.Option.{option_map}
use Rattle.std.specs.List.{find, filter_map}
use Rattle.std.proofs.lemmas.Bool.{false≢true}
use Rattle.desk_model.specs.declared.command.Cmd.{Cmd}
use Rattle.desk_model.specs.declared.reply.Reply.{Reply}
use Rattle.desk_model.specs.declared.reply.Reply.TheVariants as reply
use Rattle.desk_model.specs.declared.person.Person.{Person}
use Rattle.desk_model.specs.declared.link.Link.{Link}
use Rattle.desk_model.specs.statements.Entry.{EntryValue}
use Rattle.desk_model.specs.statements.Job.{JobValue}
use Rattle.desk_model.specs.histories.History.{History, with_entry, step_of, steps, is_done, said, first_of, last_of}
use Rattle.desk_model.specs.histories.Register.{enrols, enrols_any, gives, sets_up, sets_up_any, makes, makes_any, person_of, quals_of, vacancies}
use Rattle.desk_model.specs.boards.Boards.{puts, is_on, sends, order, chain}
use Rattle.desk_model.specs.offers.Offers.{offer_in, is_of, settles, offer_said, open_offer, is_to, on_offer}
use Rattle.desk_model.specs.boards.Marks.{marks, is_marked_off}
use Rattle.desk_model.specs.offers.Assigned.{assigns, is_assigned, accepted_by, only_if, assigned, holder, begins, begun_by, begun, annuls}
use Rattle.desk_model.specs.offers.States.{state_of}
use Rattle.desk_model.specs.offers.TurnedDown.{turns_down, turned_by, has_turned_down}
use Rattle.desk_model.specs.offers.Held.{hold_told, hold_end}
use Rattle.desk_model.specs.histories.Duty.{tells, told_at, told_by, events_in, keep, told, events, closes}
use Rattle.desk_model.specs.offers.Bars.{bar_of, may_have, is_free}
use Rattle.desk_model.specs.laws.Comes.{assigned_by}
use Rattle.desk_model.specs.boards.Rank.{is_number, sends_at, rank}
use Rattle.desk_model.specs.laws.Refusal.{changes, IsSameDesk}
use Rattle.desk_model.proofs.SaidLemmas.{first_of-silent, last_of-silent, filter_map-silent, steps-snoc}
use Rattle.desk_model.proofs.OrderLemmas.{order-silent}
use Rattle.desk_model.proofs.AssignedLemmas.{only_if-agree, has-comes, assigned-comes}
use Rattle.desk_model.proofs.OpensLemmas.{said-ends}
use Rattle.desk_model.proofs.HeldLemmas.{hold_end-comes, max-none}

no_change-done : (r : Reply) → changes r ≡ false → is_done r ≡ false
no_change-done r same = go (is_done r) same
  where
    go : (done : Bool) → (done || is_some (offer_in 0 r)) ≡ false → done ≡ false
    go true same = same
    go false same = refl

no_change-offer : (moment : ℕ) (r : Reply) → changes r ≡ false → offer_in moment r ≡ None
no_change-offer moment (reply.Offered person board position) same = absurd (false≢true (sym same))
no_change-offer moment other same = refl

-- it says nothing of what only an accepted command says
said-refused : {X : Type 0} (f : Cmd → Option X) (e : EntryValue) → changes e.reply ≡ false → said f e ≡ None
said-refused f e same = rw (no_change-done e.reply same) refl

offer_said-refused : (v : ℕ) (e : EntryValue) → changes e.reply ≡ false → offer_said v e ≡ None
offer_said-refused v e same = said-ends v e (no_change-offer e.moment e.reply same) ∙ ap (λ vac. cond (is_of v vac) (Some None) None) (said-refused settles e same)

-- searches with tests that agree
find_agree : {X : Type 0} (f g : X → Bool) → ((x : X) → f x ≡ g x) → (xs : List X) → find f xs ≡ find g xs
find_agree f g agree [] = refl
find_agree f g agree (x ∷ xs) = rw (agree x, find_agree f g agree xs) refl

chain_agree : (h later : History) → ((b : List ℕ) → order later b ≡ order h b) → (codes : List (List ℕ)) → chain later codes ≡ chain h codes
chain_agree h later same [] = refl
chain_agree h later same (b ∷ codes) = rw (same b, chain_agree h later same codes) refl

events-silent : (h : History) (e : EntryValue) (p : ℕ) → said (tells p) e ≡ None → events (with_entry h e) p ≡ events h p
unfolding events told
events-silent h e p none =
    ap (λ xs. events_in (fold keep [] xs))
    (ap (filter_map (told_by p)) (steps-snoc h e) ∙ filter_map-silent (told_by p) (steps h) (step_of h e) (ap (option_map (told_at (length h.entries))) none))

-- an entry that sends nobody changes no rank
rank-silent : (h : History) (e : EntryValue) (b : List ℕ) (p : ℕ) → said (sends b h) e ≡ None → rank (with_entry h e) b p ≡ rank h b p
rank-silent h e b p none =
    ap (last_of (sends_at b p)) (steps-snoc h e)
    ∙ last_of-silent (sends_at b p) (steps h) (step_of h e) (ap (λ who. cond (is_number p who) (Some (length h.entries)) None) none)

pub refused : (h : History) (e : EntryValue) → changes e.reply ≡ false → IsSameDesk h (with_entry h e)
refused h e same = record {
  person = λ p. first_of-silent (said (enrols p)) h.entries e (said-refused (enrols p) e same);
  quals = able;
  marked = marked;
  board = λ b. first_of-silent (said (sets_up b)) h.entries e (said-refused (sets_up b) e same);
  vacancy = λ v. first_of-silent (said (makes v)) h.entries e (said-refused (makes v) e same);
  persons = filter_map-silent (said enrols_any) h.entries e (said-refused enrols_any e same);
  boards = filter_map-silent (said sets_up_any) h.entries e (said-refused sets_up_any e same);
  vacancies = filter_map-silent (said makes_any) h.entries e (said-refused makes_any e same);
  events = told;
  closed = λ p. ap is_some (first_of-silent (said (closes p)) h.entries e (said-refused (closes p) e same));
  on = on;
  rank = λ b p. rank-silent h e b p (said-refused (sends b h) e same);
  order = orders;
  chain = chain_agree h (with_entry h e) orders;
  offer = offers;
  on_offer = on_offers;
  has = mine;
  assigned = taken;
  begun = started;
  turned_down = turned;
  hold_end = waits;
  state = states;
  bar = bars;
  first = λ m job.
      ap (find (λ link. is_free (with_entry h e) m job link.person)) (chain_agree h (with_entry h e) orders job.chain)
      ∙ find_agree (λ (link : Link). is_free (with_entry h e) m job link.person) (λ link. is_free h m job link.person) (λ link. free m job link.person) (chain h job.chain);
}
  where
    told : (p : ℕ) → events (with_entry h e) p ≡ events h p
    told p = events-silent h e p (said-refused (tells p) e same)

    on : (p : ℕ) (b : List ℕ) → is_on (with_entry h e) p b ≡ is_on h p b
    on p b = ap (λ o. unwrap_or o false) (last_of-silent (said (puts b p)) h.entries e (said-refused (puts b p) e same))

    orders : (b : List ℕ) → order (with_entry h e) b ≡ order h b
    orders b = order-silent h e b (said-refused (sends b h) e same) (λ p. said-refused (puts b p) e same)

    offers : (v : ℕ) → open_offer (with_entry h e) v ≡ open_offer h v
    offers v = ap (λ o. unwrap_or o None) (last_of-silent (offer_said v) h.entries e (offer_said-refused v e same))

    on_offers : (p : ℕ) → on_offer (with_entry h e) p ≡ on_offer h p
    on_offers p =
        ap (find (λ v. is_to p (open_offer (with_entry h e) v))) (filter_map-silent (said makes_any) h.entries e (said-refused makes_any e same))
        ∙ find_agree (λ v. is_to p (open_offer (with_entry h e) v)) (λ v. is_to p (open_offer h v)) (λ v. ap (is_to p) (offers v)) (vacancies h)

    able : (p : ℕ) → quals_of (with_entry h e) p ≡ quals_of h p
    able p = ap (λ o. unwrap_or o 0) (last_of-silent (said (gives p)) h.entries e (said-refused (gives p) e same))

    marked : (p : ℕ) → is_marked_off (with_entry h e) p ≡ is_marked_off h p
    marked p = ap (λ o. unwrap_or o false) (last_of-silent (said (marks p)) h.entries e (said-refused (marks p) e same))

    mine : (p v : ℕ) → is_assigned (with_entry h e) p v ≡ is_assigned h p v
    mine p v = has-comes h e p v ∙ ap (λ o. unwrap_or o (is_assigned h p v)) (said-refused (assigns p v) e same)

    taken : (p : ℕ) → assigned (with_entry h e) p ≡ assigned h p
    taken p = assigned-comes h e p ∙ ap (λ done. cond done (assigned_by p e.stated.cmd (assigned h p)) (assigned h p)) (no_change-done e.reply same)

    started : (v : ℕ) → begun (with_entry h e) v ≡ begun h v
    started v = ap (first_of (begun_by v)) (steps-snoc h e) ∙ first_of-silent (begun_by v) (steps h) (step_of h e) (said-refused (begins v h) e same)

    turned : (v p : ℕ) → has_turned_down (with_entry h e) v p ≡ has_turned_down h v p
    turned v p = ap is_some (ap (first_of (turned_by v p)) (steps-snoc h e) ∙ first_of-silent (turned_by v p) (steps h) (step_of h e) (said-refused (turns_down v p h) e same))

    waits : (codes : List (List ℕ)) (p : ℕ) → hold_end (with_entry h e) codes p ≡ hold_end h codes p
    waits codes p =
        hold_end-comes h e codes p ∙ ap (λ o. max (hold_end h codes p) (unwrap_or o 0)) (said-refused (hold_told codes p h e.moment) e same)
        ∙ max-none (hold_end h codes p)

    held : (v : ℕ) → holder (with_entry h e) v ≡ holder h v
    held v =
        ap (only_if (λ p. is_assigned (with_entry h e) p v)) (last_of-silent (said (accepted_by v)) h.entries e (said-refused (accepted_by v) e same))
        ∙ only_if-agree (λ p. is_assigned (with_entry h e) p v) (λ p. is_assigned h p v) (λ p. mine p v) (last_of (said (accepted_by v)) h.entries)

    states : (v : ℕ) → state_of (with_entry h e) v ≡ state_of h v
    states v =
        rw (first_of-silent (said (annuls v)) h.entries e (said-refused (annuls v) e same), started v, held v, offers v) refl

    bars : (m : ℕ) (job : JobValue) (p : ℕ) (person : Person) → bar_of (with_entry h e) m job p person ≡ bar_of h m job p person
    bars m job p person = rw (on_offers p, told p) (rw (taken p) (rw (marked p) (rw (able p) (rw (turned job.vac p) (rw (waits job.chain p) refl)))))

    free : (m : ℕ) (job : JobValue) (p : ℕ) → is_free (with_entry h e) m job p ≡ is_free h m job p
    free m job p = ap (may_have (with_entry h e) m job p) (first_of-silent (said (enrols p)) h.entries e (said-refused (enrols p) e same)) ∙ go (person_of h p)
      where
        go : (known : Option Person) → may_have (with_entry h e) m job p known ≡ may_have h m job p known
        go None = refl
        go (Some person) = ap is_none (bars m job p person)
