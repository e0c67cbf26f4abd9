-- The end of the latest hold: what one entry more makes of it, and that it is the end of one.
use Rattle.std.proofs.Common.{◌≡◌, ◌≤◌, ◌<◌, ◌⊎◌, inl, inr, ℕ, suc, ◌+◌, ◌^◌, Bool, true, false, cond, ◌&&◌, ◌||◌, nat_eq, nat_lt, max, Option, None, Some, unwrap_or, List, [], ◌∷◌, ◌++◌, get_or, refl, sym, ap, subst, ◌∙◌, arith}
use Rattle.std.specs.List.{All, Contains, list_any, cons_option, filter_map}
use Rattle.std.specs.Str.{bytes_eq}
use Rattle.std.proofs.lemmas.Bool.{false≢true}
use Rattle.std.proofs.lemmas.Bool.Decides.{nat_tests}
use Rattle.std.proofs.lemmas.List.Elements.{All-nil, All-cons, All-head, All-tail}
use Rattle.desk_base.specs.declared.minute.TheConstants.{YEARS_BEGIN}
use Rattle.desk_model.specs.declared.limits.TheConstants.{HOLD}
use Rattle.desk_model.specs.declared.offer.Offer.{Offer}
use Rattle.desk_model.specs.declared.command.Cmd.{Cmd}
use Rattle.desk_model.specs.declared.command.Cmd.TheVariants as cmd
use Rattle.desk_model.specs.declared.reply.Reply.{Reply}
use Rattle.desk_model.specs.declared.reply.Reply.TheVariants as reply
use Rattle.desk_model.specs.statements.Entry.{EntryValue}
use Rattle.desk_model.specs.histories.History.{History, opened, with_entry, Step, step_of, steps_from, steps, is_done, said}
use Rattle.desk_model.specs.offers.Offers.{open_offer}
use Rattle.desk_model.specs.offers.Held.{is_from, hold_told, held_by, greatest, hold_end, HasDeclined}
use Rattle.desk_model.specs.statements.Fits.{Fits}
use Rattle.desk_model.proofs.FoundLemmas.{Tells, All-filter_map}
use Rattle.desk_model.proofs.SaidLemmas.{steps-snoc, filter_map-snoc, said-some}
use Rattle.desk_model.proofs.OrderLemmas.{same_number, nat_eq-same}

pub max-none : (n : ℕ) → max n 0 ≡ n
max-none n = omega arith

greatest-append : (ms ns : List ℕ) → greatest (ms ++ ns) ≡ max (greatest ms) (greatest ns)
greatest-append [] ns = omega arith
greatest-append (m ∷ ms) ns = omega (arith, greatest-append ms ns)

-- one entry more
pub hold_end-comes : (h : History) (e : EntryValue) (codes : List (List ℕ)) (p : ℕ)
    → hold_end (with_entry h e) codes p ≡ max (hold_end h codes p) (unwrap_or (said (hold_told codes p h e.moment) e) 0)
unfolding hold_end
hold_end-comes h e codes p =
    ap (λ all. greatest (filter_map (held_by codes p) all)) (steps-snoc h e)
    ∙ ap greatest (filter_map-snoc (held_by codes p) (steps h) (step_of h e))
    ∙ greatest-append (filter_map (held_by codes p) (steps h)) (cons_option (said (hold_told codes p h e.moment) e) [])
    ∙ ap (max (greatest (filter_map (held_by codes p) (steps h)))) (only (said (hold_told codes p h e.moment) e))
  where
    only : (o : Option ℕ) → greatest (cons_option o []) ≡ unwrap_or o 0
    only None = refl
    only (Some m) = max-none m

-- by each board alone: what a command holds by a chain it holds by its first board or by the others
hold_told-more : (b : List ℕ) (codes : List (List ℕ)) (p : ℕ) (h : History) (m : ℕ) (c : Cmd)
    → unwrap_or (hold_told (b ∷ codes) p h m c) 0 ≡ max (unwrap_or (hold_told (b ∷ []) p h m c) 0) (unwrap_or (hold_told codes p h m c) 0)
hold_told-more b codes p h m (cmd.Decline vac person) = go (nat_eq person p) (open_offer h vac)
  where
    go : (mine : Bool) (offer : Option Offer) → unwrap_or (cond (mine && is_from (b ∷ codes) offer) (Some (m + HOLD)) None) 0
        ≡ max (unwrap_or (cond (mine && is_from (b ∷ []) offer) (Some (m + HOLD)) None) 0) (unwrap_or (cond (mine && is_from codes offer) (Some (m + HOLD)) None) 0)
    go false offer = omega arith
    go true None = omega arith
    go true (Some offer) = by_board (bytes_eq offer.board b) (list_any (bytes_eq offer.board) codes)
      where
        by_board : (first behind : Bool) → unwrap_or (cond (first || behind) (Some (m + HOLD)) None) 0
            ≡ max (unwrap_or (cond (first || false) (Some (m + HOLD)) None) 0) (unwrap_or (cond behind (Some (m + HOLD)) None) 0)
        by_board true true = omega arith
        by_board true false = omega arith
        by_board false true = omega arith
        by_board false false = omega arith
hold_told-more b codes p h m other = omega arith

held_by-more : (b : List ℕ) (codes : List (List ℕ)) (p : ℕ) (s : Step)
    → unwrap_or (held_by (b ∷ codes) p s) 0 ≡ max (unwrap_or (held_by (b ∷ []) p s) 0) (unwrap_or (held_by codes p s) 0)
held_by-more b codes p s = go (is_done s.entry.reply)
  where
    go : (done : Bool) → unwrap_or (cond done (hold_told (b ∷ codes) p s.before s.entry.moment s.entry.stated.cmd) None) 0
        ≡ max (unwrap_or (cond done (hold_told (b ∷ []) p s.before s.entry.moment s.entry.stated.cmd) None) 0)
        (unwrap_or (cond done (hold_told codes p s.before s.entry.moment s.entry.stated.cmd) None) 0)
    go true = hold_told-more b codes p s.before s.entry.moment s.entry.stated.cmd
    go false = omega arith

greatest-more : (o : Option ℕ) (ms : List ℕ) → greatest (cons_option o ms) ≡ max (unwrap_or o 0) (greatest ms)
greatest-more None ms = omega arith
greatest-more (Some m) ms = refl

greatest-by_board : (b : List ℕ) (codes : List (List ℕ)) (p : ℕ) (ss : List Step) → greatest (filter_map (held_by (b ∷ codes) p) ss)
    ≡ max (greatest (filter_map (held_by (b ∷ []) p) ss)) (greatest (filter_map (held_by codes p) ss))
greatest-by_board b codes p [] = omega arith
greatest-by_board b codes p (s ∷ ss) =
    omega (
      arith,
      greatest-by_board b codes p ss,
      held_by-more b codes p s,
      greatest-more (held_by (b ∷ codes) p s) (filter_map (held_by (b ∷ codes) p) ss),
      greatest-more (held_by (b ∷ []) p s) (filter_map (held_by (b ∷ []) p) ss),
      greatest-more (held_by codes p s) (filter_map (held_by codes p) ss),
    )

pub hold_end-more : (h : History) (p : ℕ) (b : List ℕ) (codes : List (List ℕ)) → hold_end h (b ∷ codes) p ≡ max (hold_end h (b ∷ []) p) (hold_end h codes p)
unfolding hold_end
hold_end-more h p b codes = greatest-by_board b codes p (steps h)

-- a chain of no boards holds nobody
held_by-none : (p : ℕ) (s : Step) → held_by [] p s ≡ None
held_by-none p s = go (is_done s.entry.reply) s.entry.stated.cmd
  where
    from_none : (offer : Option Offer) → is_from [] offer ≡ false
    from_none None = refl
    from_none (Some offer) = refl

    go : (done : Bool) (c : Cmd) → cond done (hold_told [] p s.before s.entry.moment c) None ≡ None
    go false c = refl
    go true (cmd.Decline vac person) = rw (from_none (open_offer s.before vac)) (both (nat_eq person p))
      where
        both : (mine : Bool) → cond (mine && false) (Some (s.entry.moment + HOLD)) None ≡ None
        both true = refl
        both false = refl
    go true other = refl

pub hold_end-none : (h : History) (p : ℕ) → hold_end h [] p ≡ 0
unfolding hold_end
hold_end-none h p = go (steps h)
  where
    go : (ss : List Step) → greatest (filter_map (held_by [] p) ss) ≡ 0
    go [] = refl
    go (s ∷ ss) = rw (held_by-none p s) (go ss)

max-either : (m n : ℕ) → (max m n ≡ m) ⊎ (max m n ≡ n)
max-either m n = go (nat_lt m n) refl
  where
    go : (below : Bool) → nat_lt m n ≡ below → (max m n ≡ m) ⊎ (max m n ≡ n)
    go true is = let lt : m < n = grind (arith, nat_tests, is) in inr (omega (arith, lt))
    go false is = let le : n ≤ m = grind (arith, nat_tests, is) in inl (omega (arith, le))

-- where each minute of a list has P, the greatest is 0 or has it
pub greatest-has : (P : ℕ → Type 0) (ms : List ℕ) → All P ms → (greatest ms ≡ 0) ⊎ P (greatest ms)
greatest-has P [] all = inl refl
greatest-has P (m ∷ ms) all = go (greatest-has P ms (All-tail P m ms all)) (max-either m (greatest ms))
  where
    first : P m
    first = All-head P m ms all

    go : (greatest ms ≡ 0) ⊎ P (greatest ms) → (max m (greatest ms) ≡ m) ⊎ (max m (greatest ms) ≡ greatest ms)
        → (max m (greatest ms) ≡ 0) ⊎ P (max m (greatest ms))
    go rest (inl is) = inr (subst P (sym is) first)
    go (inl none) (inr is) = inl (is ∙ none)
    go (inr has) (inr is) = inr (subst P (sym is) has)

-- a step tells the greatest of what steps tell, where that is above some minute
greatest-told : (f : Step → Option ℕ) (ss : List Step) (m : ℕ) → m < greatest (filter_map f ss)
    → (s : Step) × (Contains ss s × (f s ≡ Some (greatest (filter_map f ss))))
greatest-told f [] m above = absurd (omega (arith, above))
greatest-told f (s ∷ ss) m above = go (f s) refl above (greatest-told f ss m)
  where
    go : (told : Option ℕ) → f s ≡ told → m < greatest (cons_option told (filter_map f ss))
        → (m < greatest (filter_map f ss) → (t : Step) × (Contains ss t × (f t ≡ Some (greatest (filter_map f ss)))))
        → (t : Step) × (Contains (s ∷ ss) t × (f t ≡ Some (greatest (cons_option told (filter_map f ss)))))
    go None is above rest =
        let found = rest above in (found.0, (behind found.0 found.1.0, found.1.1))
      where
        behind : (t : Step) → Contains ss t → Contains (s ∷ ss) t
        behind t (k, within, at) = (suc k, omega (arith, within), at)
    go (Some n) is above rest = by_size (max-either n (greatest (filter_map f ss)))
      where
        behind : (t : Step) → Contains ss t → Contains (s ∷ ss) t
        behind t (k, within, at) = (suc k, omega (arith, within), at)

        by_size : (max n (greatest (filter_map f ss)) ≡ n) ⊎ (max n (greatest (filter_map f ss)) ≡ greatest (filter_map f ss))
            → (t : Step) × (Contains (s ∷ ss) t × (f t ≡ Some (max n (greatest (filter_map f ss)))))
        by_size (inl size) = (s, ((0, omega arith, refl), is ∙ ap Some (sym size)))
        by_size (inr size) = let found = rest (omega (arith, above, size)) in (found.0, (behind found.0 found.1.0, found.1.1 ∙ ap Some (sym size)))

-- and it is at least what each tells
greatest-most : (f : Step → Option ℕ) (ss : List Step) → All (λ s. (m : ℕ) → f s ≡ Some m → m ≤ greatest (filter_map f ss)) ss
greatest-most f [] = All-nil (λ s. (m : ℕ) → f s ≡ Some m → m ≤ 0)
greatest-most f (s ∷ ss) = go (f s) refl (greatest-most f ss)
  where
    go : (told : Option ℕ) → f s ≡ told → All (λ t. (m : ℕ) → f t ≡ Some m → m ≤ greatest (filter_map f ss)) ss
        → All (λ t. (m : ℕ) → f t ≡ Some m → m ≤ greatest (cons_option told (filter_map f ss))) (s ∷ ss)
    go None is rest = All-cons (λ t. (m : ℕ) → f t ≡ Some m → m ≤ greatest (filter_map f ss)) s ss (λ m told. cc) rest
    go (Some n) is rest =
        All-cons (λ t. (m : ℕ) → f t ≡ Some m → m ≤ max n (greatest (filter_map f ss))) s ss
        (λ m told. let same : n ≡ m = cc in omega (arith, same))
        (λ k d within m told. omega (arith, rest k d within m told))

-- ---- declines

-- what a command holds, it holds by a decline
hold_told-declined : (codes : List (List ℕ)) (p : ℕ) (h : History) (m : ℕ) (c : Cmd) (until : ℕ) → hold_told codes p h m c ≡ Some until
    → (until ≡ m + HOLD) × ((vac : ℕ) × ((offer : Offer) × ((c ≡ cmd.Decline vac p) × (open_offer h vac ≡ Some offer) × (list_any (bytes_eq offer.board) codes ≡ true))))
hold_told-declined codes p h m (cmd.Decline vac person) until told = mine (nat_eq person p) refl told
  where
    from : person ≡ p → (offer : Option Offer) → open_offer h vac ≡ offer → (here : Bool) → is_from codes offer ≡ here → cond here (Some (m + HOLD)) None ≡ Some until
        → (until ≡ m + HOLD)
        × ((v : ℕ) × ((o : Offer) × ((cmd.Decline vac person ≡ cmd.Decline v p) × (open_offer h v ≡ Some o) × (list_any (bytes_eq o.board) codes ≡ true))))
    from same offer was false is told = cc
    from same None was true is told = absurd (false≢true is)
    from same (Some offer) was true is told = let size : m + HOLD ≡ until = cc in (sym size, (vac, (offer, (ap (cmd.Decline vac) same, was, is))))

    mine : (theirs : Bool) → nat_eq person p ≡ theirs → cond (theirs && is_from codes (open_offer h vac)) (Some (m + HOLD)) None ≡ Some until
        → (until ≡ m + HOLD)
        × ((v : ℕ) × ((o : Offer) × ((cmd.Decline vac person ≡ cmd.Decline v p) × (open_offer h v ≡ Some o) × (list_any (bytes_eq o.board) codes ≡ true))))
    mine true is told = from (same_number person p is) (open_offer h vac) refl (is_from codes (open_offer h vac)) refl told
    mine false is told = cc
hold_told-declined codes p h m other until told = cc

done-reply : (r : Reply) → is_done r ≡ true → r ≡ reply.Done
done-reply reply.Done done = refl
done-reply other done = absurd (false≢true done)

held_by-declined : (codes : List (List ℕ)) (p : ℕ) (s : Step) (until : ℕ) → held_by codes p s ≡ Some until → HasDeclined codes p s × (until ≡ s.entry.moment + HOLD)
held_by-declined codes p s until told =
    let parts = said-some (hold_told codes p s.before s.entry.moment) s.entry until told in
    let by = hold_told-declined codes p s.before s.entry.moment s.entry.stated.cmd until parts.1 in (
      record {
        vac = by.1.0;
        offer = by.1.1.0;
        done = done-reply s.entry.reply parts.0;
        told = by.1.1.1.0;
        was_open = by.1.1.1.1;
        from = by.1.1.1.2;
      },
      by.0,
    )

declined-held_by : (codes : List (List ℕ)) (p : ℕ) (s : Step) → HasDeclined codes p s → held_by codes p s ≡ Some (s.entry.moment + HOLD)
declined-held_by codes p s has = rw (has.done, has.told, nat_eq-same p, has.was_open, has.from) refl

-- the latest hold ends 480 minutes after a decline
pub hold_end-declined : (h : History) (codes : List (List ℕ)) (p m : ℕ) → m < hold_end h codes p
    → (s : Step) × (Contains (steps h) s × (HasDeclined codes p s × (hold_end h codes p ≡ s.entry.moment + HOLD)))
unfolding hold_end
hold_end-declined h codes p m above =
    let found = greatest-told (held_by codes p) (steps h) m above in
    (found.0, (found.1.0, held_by-declined codes p found.0 (greatest (filter_map (held_by codes p) (steps h))) found.1.1))

-- and not before that of any other
pub declined-hold_end : (h : History) (codes : List (List ℕ)) (p : ℕ) → All (λ s. HasDeclined codes p s → s.entry.moment + HOLD ≤ hold_end h codes p) (steps h)
unfolding hold_end
declined-hold_end h codes p k d within has =
    greatest-most (held_by codes p) (steps h) k d within _ (declined-held_by codes p (get_or (steps h) k d) has)

-- ---- the minutes of holds

-- what holds of each entry holds of each step's
steps-all : (P : EntryValue → Type 0) (h : History) (es : List EntryValue) → All P es → All (λ s. P s.entry) (steps_from h es)
steps-all P h [] all = All-nil (λ (s : Step). P s.entry)
steps-all P h (e ∷ es) all =
    All-cons (λ s. P s.entry) (step_of h e) (steps_from (with_entry h e) es) (All-head P e es all) (steps-all P (with_entry h e) es (All-tail P e es all))

-- the latest hold ends in the years from 2000 on, if there is one
pub hold_end-fits : (h : History) (codes : List (List ℕ)) (p : ℕ) → All Fits h.entries
    → (hold_end h codes p ≡ 0) ⊎ ((YEARS_BEGIN ≤ hold_end h codes p) × (hold_end h codes p < 2 ^ 28))
unfolding hold_end steps
hold_end-fits h codes p all =
    greatest-has (λ m. (YEARS_BEGIN ≤ m) × (m < 2 ^ 28)) (filter_map (held_by codes p) (steps h))
    (All-filter_map (held_by codes p) (λ m. (YEARS_BEGIN ≤ m) × (m < 2 ^ 28)) (steps h) told)
  where
    told : All (Tells (held_by codes p) (λ m. (YEARS_BEGIN ≤ m) × (m < 2 ^ 28))) (steps h)
    told k d within m is =
        let moment = (steps-all Fits (opened h.opening) h.entries all k d within).moment in
        let size = (held_by-declined codes p (get_or (steps h) k d) m is).1 in (omega (arith, moment.0, size), omega (arith, moment.1, size))
