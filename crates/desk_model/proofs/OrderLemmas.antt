-- The order of a board where one entry more has come, and who is on it.
use Rattle.std.proofs.Common.{◌≡◌, ℕ, suc, ◌≤◌, Bool, true, false, not, cond, ◌||◌, nat_eq, None, Some, unwrap_or, List, [], ◌∷◌, ◌++◌, length, filter, refl, sym, ap, ◌∙◌, arith, append-nil, length-append}
use Rattle.std.specs.List.{list_any, cons_option, filter_map}
use Rattle.std.proofs.lemmas.List.Elements.{filter-append, filter_agree}
use Rattle.std.proofs.lemmas.List.Folds.{list_any-append}
use Rattle.std.proofs.lemmas.Bool.Decides.{nat_tests}
use Rattle.desk_model.specs.statements.Entry.{EntryValue}
use Rattle.desk_model.specs.histories.History.{History, with_entry, step_of, steps, said}
use Rattle.desk_model.specs.boards.Boards.{puts, is_on, sends, sent, sent_to, keep_last, order}
use Rattle.desk_model.specs.laws.Comes.{without}
use Rattle.desk_model.proofs.SaidLemmas.{last_of-silent, last_of-tells, filter_map-snoc, steps-snoc}

pub same_number : (p q : ℕ) → nat_eq p q ≡ true → p ≡ q
same_number p q is = grind (arith, nat_tests, is)

pub nat_eq-same : (p : ℕ) → nat_eq p p ≡ true
nat_eq-same p = grind (arith, nat_tests)

pub nat_eq-swap : (p q : ℕ) → nat_eq p q ≡ nat_eq q p
nat_eq-swap p q = grind (arith, nat_tests)

or_false : (b : Bool) → (b || false) ≡ b
or_false true = refl
or_false false = refl

any-snoc : (p : ℕ) (ps : List ℕ) (q : ℕ) → list_any (nat_eq p) (ps ++ q ∷ []) ≡ (list_any (nat_eq p) ps || nat_eq p q)
any-snoc p ps q = list_any-append (nat_eq p) ps (q ∷ []) ∙ ap (λ b. list_any (nat_eq p) ps || b) (or_false (nat_eq p q))

-- ---- who was sent, with one entry more

pub sent_to-snoc : (h : History) (e : EntryValue) (b : List ℕ) → sent_to (with_entry h e) b ≡ sent_to h b ++ cons_option (said (sends b h) e) []
sent_to-snoc h e b = ap (filter_map (sent b)) (steps-snoc h e) ∙ filter_map-snoc (sent b) (steps h) (step_of h e)

pub keep_last-snoc : (ps : List ℕ) (p : ℕ) → keep_last (ps ++ p ∷ []) ≡ without p (keep_last ps) ++ p ∷ []
keep_last-snoc [] p = refl
keep_last-snoc (q ∷ ps) p = go (list_any (nat_eq q) ps) (nat_eq q p) refl refl (keep_last-snoc ps p)
  where
    go : (again same : Bool) → list_any (nat_eq q) ps ≡ again → nat_eq q p ≡ same → keep_last (ps ++ p ∷ []) ≡ without p (keep_last ps) ++ p ∷ []
        → cond (list_any (nat_eq q) (ps ++ p ∷ [])) (keep_last (ps ++ p ∷ [])) (q ∷ keep_last (ps ++ p ∷ []))
        ≡ without p (cond (list_any (nat_eq q) ps) (keep_last ps) (q ∷ keep_last ps)) ++ p ∷ []
    go true same any is rest = rw (any-snoc q ps p, any) rest
    go false true any is rest = rw (any-snoc q ps p, any, nat_eq-swap p q, is) rest
    go false false any is rest = rw (any-snoc q ps p, any, nat_eq-swap p q, is) (ap (λ all. q ∷ all) rest)

-- ---- filters

-- tests that agree but at p keep the same but for p
filter-without : (f g : ℕ → Bool) (p : ℕ) → ((q : ℕ) → nat_eq p q ≡ false → f q ≡ g q) → (ps : List ℕ) → filter f (without p ps) ≡ without p (filter g ps)
filter-without f g p agree [] = refl
filter-without f g p agree (q ∷ ps) = go (nat_eq p q) (g q) refl refl (filter-without f g p agree ps)
  where
    go : (same kept : Bool) → nat_eq p q ≡ same → g q ≡ kept → filter f (without p ps) ≡ without p (filter g ps)
        → filter f (cond (not (nat_eq p q)) (q ∷ without p ps) (without p ps)) ≡ without p (cond (g q) (q ∷ filter g ps) (filter g ps))
    go true true is keeps rest = rw (is, keeps, is) rest
    go true false is keeps rest = rw (is, keeps) rest
    go false true is keeps rest = rw (is, keeps, is, agree q is, keeps) (ap (λ all. q ∷ all) rest)
    go false false is keeps rest = rw (is, keeps, agree q is, keeps) rest

-- tests that agree but at p, which fails one of them
filter-taken : (f g : ℕ → Bool) (p : ℕ) → f p ≡ false → ((q : ℕ) → nat_eq p q ≡ false → f q ≡ g q) → (ps : List ℕ) → filter f ps ≡ without p (filter g ps)
filter-taken f g p fails agree [] = refl
filter-taken f g p fails agree (q ∷ ps) = go (nat_eq p q) (g q) refl refl (filter-taken f g p fails agree ps)
  where
    go : (same kept : Bool) → nat_eq p q ≡ same → g q ≡ kept → filter f ps ≡ without p (filter g ps)
        → cond (f q) (q ∷ filter f ps) (filter f ps) ≡ without p (cond kept (q ∷ filter g ps) (filter g ps))
    go true true is keeps rest = rw (ap f (sym (same_number p q is)) ∙ fails, is) rest
    go true false is keeps rest = rw (ap f (sym (same_number p q is)) ∙ fails) rest
    go false true is keeps rest = rw (agree q is ∙ keeps, is) (ap (λ all. q ∷ all) rest)
    go false false is keeps rest = rw (agree q is ∙ keeps) rest

pub length-without : (p : ℕ) (ps : List ℕ) → length (without p ps) ≤ length ps
length-without p [] = omega arith
length-without p (q ∷ ps) = go (nat_eq p q) (length-without p ps)
  where
    go : (same : Bool) → length (without p ps) ≤ length ps → length (cond (not same) (q ∷ without p ps) (without p ps)) ≤ suc (length ps)
    go true le = omega (arith, le)
    go false le = omega (arith, le)

-- ---- the order

-- an entry that says nothing of the board
pub order-silent : (h : History) (e : EntryValue) (b : List ℕ) → said (sends b h) e ≡ None → ((p : ℕ) → said (puts b p) e ≡ None)
    → order (with_entry h e) b ≡ order h b
order-silent h e b unsent unput =
    ap (λ ps. filter (λ p. is_on (with_entry h e) p b) (keep_last ps))
    (sent_to-snoc h e b ∙ ap (λ who. sent_to h b ++ cons_option who []) unsent ∙ append-nil (sent_to h b))
    ∙ filter_agree (λ p. is_on (with_entry h e) p b) (λ p. is_on h p b) (λ p. ap (λ o. unwrap_or o false) (last_of-silent (said (puts b p)) h.entries e (unput p))) (keep_last (sent_to h b))

-- an entry that puts a person on the board, at its bottom
pub order-sent : (h : History) (e : EntryValue) (b : List ℕ) (p : ℕ) → said (sends b h) e ≡ Some p → said (puts b p) e ≡ Some true
    → ((q : ℕ) → nat_eq p q ≡ false → said (puts b q) e ≡ None) → order (with_entry h e) b ≡ without p (order h b) ++ p ∷ []
order-sent h e b p sent put others =
    let on : ℕ → Bool = λ q. is_on (with_entry h e) q b in
    ap (λ ps. filter on (keep_last ps)) (sent_to-snoc h e b ∙ ap (λ who. sent_to h b ++ cons_option who []) sent)
    ∙ ap (filter on) (keep_last-snoc (sent_to h b) p)
    ∙ filter-append on (without p (keep_last (sent_to h b))) (p ∷ [])
    ∙ ap (λ last. filter on (without p (keep_last (sent_to h b))) ++ last) (ap (λ t. cond t (p ∷ []) []) (ap (λ o. unwrap_or o false) (last_of-tells (said (puts b p)) h.entries e true put)))
    ∙ ap (λ front. front ++ p ∷ []) (filter-without on (λ q. is_on h q b) p (λ q other. ap (λ o. unwrap_or o false) (last_of-silent (said (puts b q)) h.entries e (others q other))) (keep_last (sent_to h b)))

-- it makes the order longer by one at most
pub length-order-sent : (h : History) (e : EntryValue) (b : List ℕ) (p : ℕ) → order (with_entry h e) b ≡ without p (order h b) ++ p ∷ []
    → length (order (with_entry h e) b) ≤ suc (length (order h b))
length-order-sent h e b p is =
    rw is (omega (arith, length-append (without p (order h b)) (p ∷ []), length-without p (order h b)))

-- an entry that sends a person there and puts nobody on it
pub order-moved : (h : History) (e : EntryValue) (b : List ℕ) (p : ℕ) → said (sends b h) e ≡ Some p → ((q : ℕ) → said (puts b q) e ≡ None)
    → order (with_entry h e) b ≡ without p (order h b) ++ cond (is_on h p b) (p ∷ []) []
order-moved h e b p sent unput =
    let on : ℕ → Bool = λ q. is_on (with_entry h e) q b in
    let same : (q : ℕ) → on q ≡ is_on h q b = λ q. ap (λ o. unwrap_or o false) (last_of-silent (said (puts b q)) h.entries e (unput q)) in
    ap (λ ps. filter on (keep_last ps)) (sent_to-snoc h e b ∙ ap (λ who. sent_to h b ++ cons_option who []) sent)
    ∙ ap (filter on) (keep_last-snoc (sent_to h b) p)
    ∙ filter-append on (without p (keep_last (sent_to h b))) (p ∷ [])
    ∙ ap (λ t. filter on (without p (keep_last (sent_to h b))) ++ cond t (p ∷ []) []) (same p)
    ∙ ap (λ front. front ++ cond (is_on h p b) (p ∷ []) []) (filter-without on (λ q. is_on h q b) p (λ q other. same q) (keep_last (sent_to h b)))

-- an entry that takes a person off the board
pub order-taken : (h : History) (e : EntryValue) (b : List ℕ) (p : ℕ) → said (sends b h) e ≡ None → said (puts b p) e ≡ Some false
    → ((q : ℕ) → nat_eq p q ≡ false → said (puts b q) e ≡ None) → order (with_entry h e) b ≡ without p (order h b)
order-taken h e b p unsent put others =
    let on : ℕ → Bool = λ q. is_on (with_entry h e) q b in
    ap (λ ps. filter on (keep_last ps)) (sent_to-snoc h e b ∙ ap (λ who. sent_to h b ++ cons_option who []) unsent ∙ append-nil (sent_to h b))
    ∙ filter-taken on (λ q. is_on h q b) p (ap (λ o. unwrap_or o false) (last_of-tells (said (puts b p)) h.entries e false put))
    (λ q other. ap (λ o. unwrap_or o false) (last_of-silent (said (puts b q)) h.entries e (others q other))) (keep_last (sent_to h b))
