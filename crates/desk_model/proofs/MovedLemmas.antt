-- What an entry does to the order of a board.
use Rattle.std.proofs.Common.{◌≡◌, ℕ, Bool, true, false, not, cond, ◌||◌, nat_eq, Option, None, Some, unwrap_or, List, [], ◌∷◌, ◌++◌, refl, sym, ap, ◌∙◌, append-nil}
use Rattle.std.specs.Str.{bytes_eq}
use Rattle.std.specs.List.{list_any}
use Rattle.std.proofs.lemmas.Bool.{false≢true}
use Rattle.desk_model.specs.declared.command.Cmd.{Cmd}
use Rattle.desk_model.specs.declared.command.Cmd.TheVariants as cmd
use Rattle.desk_model.specs.statements.Entry.{EntryValue}
use Rattle.desk_model.specs.histories.History.{History, with_entry, is_done, said}
use Rattle.desk_model.specs.boards.Boards.{puts, is_on, sends, order}
use Rattle.desk_model.specs.laws.Comes.{takes_off, without, sent_last, order_by, order_after}
use Rattle.desk_model.proofs.SaidLemmas.{said-some}
use Rattle.desk_model.proofs.OrderLemmas.{same_number, nat_eq-same, order-silent, order-sent, order-moved, order-taken}
use Rattle.desk_model.proofs.OnBoardLemmas.{any-order}

-- ---- what a command says of a board

-- whom it sends there and says anything of, it puts there
sent-put : (h : History) (b : List ℕ) (p : ℕ) (c : Cmd) (on : Bool) → sends b h c ≡ Some p → puts b p c ≡ Some on → on ≡ true
sent-put h b p (cmd.List person board) on sent put = go (bytes_eq board b) (nat_eq person p) put
  where
    go : (here mine : Bool) → cond here (cond mine (Some true) None) None ≡ Some on → on ≡ true
    go true true put = cc
    go true false put = cc
    go false mine put = cc
sent-put h b p other on sent put = cc

-- it says nothing of anybody else
put-one : (b : List ℕ) (p q : ℕ) (on : Bool) (c : Cmd) → puts b p c ≡ Some on → nat_eq p q ≡ false → puts b q c ≡ None
put-one b p q on (cmd.List person board) put other = go (bytes_eq board b) (nat_eq person p) refl put
  where
    go : (here mine : Bool) → nat_eq person p ≡ mine → cond here (cond mine (Some true) None) None ≡ Some on → cond here (cond (nat_eq person q) (Some true) None) None ≡ None
    go true true is put = rw (same_number person p is, other) refl
    go true false is put = cc
    go false mine is put = refl
put-one b p q on (cmd.Unlist person board) put other = go (bytes_eq board b) (nat_eq person p) refl put
  where
    go : (here mine : Bool) → nat_eq person p ≡ mine → cond here (cond mine (Some false) None) None ≡ Some on → cond here (cond (nat_eq person q) (Some false) None) None ≡ None
    go true true is put = rw (same_number person p is, other) refl
    go true false is put = cc
    go false mine is put = refl
put-one b p q on other-command put other = cc

-- whom it sends there and doesn't put there: it puts nobody there
sent-unput : (h : History) (b : List ℕ) (p q : ℕ) (c : Cmd) → sends b h c ≡ Some p → puts b p c ≡ None → puts b q c ≡ None
sent-unput h b p q (cmd.List person board) sent unput = go (bytes_eq board b) refl sent unput
  where
    go : (here : Bool) → bytes_eq board b ≡ here → cond here (Some person) None ≡ Some p → cond here (cond (nat_eq person p) (Some true) None) None ≡ None
        → cond here (cond (nat_eq person q) (Some true) None) None ≡ None
    go true is sent unput =
        let same : person ≡ p = cc in
        let put : cond (nat_eq person p) (Some true) None ≡ Some true = rw (same, nat_eq-same p) refl in cc
    go false is sent unput = refl
sent-unput h b p q (cmd.Unlist person board) sent unput = cc
sent-unput h b p q other sent unput = refl

-- where it sends nobody there and takes nobody off it says nothing of who is on it
unput : (h : History) (b : List ℕ) (c : Cmd) → sends b h c ≡ None → takes_off b c ≡ None → (q : ℕ) → puts b q c ≡ None
unput h b (cmd.List person board) unsent untaken q = go (bytes_eq board b) unsent
  where
    go : (here : Bool) → cond here (Some person) None ≡ None → cond here (cond (nat_eq person q) (Some true) None) None ≡ None
    go true unsent = cc
    go false unsent = refl
unput h b (cmd.Unlist person board) unsent untaken q = go (bytes_eq board b) untaken
  where
    go : (here : Bool) → cond here (Some person) None ≡ None → cond here (cond (nat_eq person q) (Some false) None) None ≡ None
    go true untaken = cc
    go false untaken = refl
unput h b other unsent untaken q = refl

-- whom it takes off is no more on it
taken-put : (b : List ℕ) (p : ℕ) (c : Cmd) → takes_off b c ≡ Some p → puts b p c ≡ Some false
taken-put b p (cmd.Unlist person board) taken = go (bytes_eq board b) taken
  where
    go : (here : Bool) → cond here (Some person) None ≡ Some p → cond here (cond (nat_eq person p) (Some false) None) None ≡ Some false
    go true taken = let same : person ≡ p = cc in rw (same, nat_eq-same p) refl
    go false taken = cc
taken-put b p other taken = cc

-- ---- what an entry does to the order

-- what an accepted command says
of-done : {X : Type 0} (f : Cmd → Option X) (e : EntryValue) → is_done e.reply ≡ true → said f e ≡ f e.stated.cmd
of-done f e done = ap (λ d. cond d (f e.stated.cmd) None) done

order-untouched : (h : History) (e : EntryValue) (b : List ℕ) → said (sends b h) e ≡ None → said (takes_off b) e ≡ None → order (with_entry h e) b ≡ order h b
order-untouched h e b unsent untaken = order-silent h e b unsent (λ q. go q (is_done e.reply) refl)
  where
    go : (q : ℕ) (done : Bool) → is_done e.reply ≡ done → said (puts b q) e ≡ None
    go q true is = of-done (puts b q) e is ∙ unput h b e.stated.cmd (sym (of-done (sends b h) e is) ∙ unsent) (sym (of-done (takes_off b) e is) ∙ untaken) q
    go q false is = rw is refl

order-off : (h : History) (e : EntryValue) (b : List ℕ) (p : ℕ) → said (sends b h) e ≡ None → said (takes_off b) e ≡ Some p → order (with_entry h e) b ≡ without p (order h b)
order-off h e b p unsent taken =
    let parts = said-some (takes_off b) e p taken in
    let put = taken-put b p e.stated.cmd parts.1 in
    order-taken h e b p unsent (of-done (puts b p) e parts.0 ∙ put) (λ q other. of-done (puts b q) e parts.0 ∙ put-one b p q false e.stated.cmd put other)

without-nobody : (p : ℕ) (ps : List ℕ) → list_any (nat_eq p) ps ≡ false → without p ps ≡ ps
without-nobody p [] none = refl
without-nobody p (q ∷ ps) none = go (nat_eq p q) none (without-nobody p ps)
  where
    go : (same : Bool) → (same || list_any (nat_eq p) ps) ≡ false → (list_any (nat_eq p) ps ≡ false → without p ps ≡ ps) → cond (not same) (q ∷ without p ps) (without p ps) ≡ q ∷ ps
    go true none rest = absurd (false≢true (sym none))
    go false none rest = ap (λ all. q ∷ all) (rest none)

-- one that sends a person there and puts nobody on it sets them last, if they are on it
order-released : (h : History) (e : EntryValue) (b : List ℕ) (p : ℕ) → said (sends b h) e ≡ Some p → ((q : ℕ) → said (puts b q) e ≡ None)
    → order (with_entry h e) b ≡ sent_last false p (order h b)
order-released h e b p sent unput =
    order-moved h e b p sent unput ∙ go (is_on h p b) (any-order h b p)
  where
    go : (on : Bool) → list_any (nat_eq p) (order h b) ≡ on
        → without p (order h b) ++ cond on (p ∷ []) [] ≡ cond (list_any (nat_eq p) (order h b)) (without p (order h b) ++ p ∷ []) (order h b)
    go true any = rw any refl
    go false any = rw any (append-nil (without p (order h b)) ∙ without-nobody p (order h b) any)

-- one that sends a person there sets them last, if it puts them there or they are on the board
order-sends : (h : History) (e : EntryValue) (b : List ℕ) (p : ℕ) → said (sends b h) e ≡ Some p
    → order (with_entry h e) b ≡ sent_last (unwrap_or (said (puts b p) e) false) p (order h b)
order-sends h e b p sent = go (said (puts b p) e) refl
  where
    parts : (is_done e.reply ≡ true) × (sends b h e.stated.cmd ≡ Some p)
    parts = said-some (sends b h) e p sent

    none : said (puts b p) e ≡ None → (q : ℕ) → said (puts b q) e ≡ None
    none no_put q = of-done (puts b q) e parts.0 ∙ sent-unput h b p q e.stated.cmd parts.1 (sym (of-done (puts b p) e parts.0) ∙ no_put)

    go : (put : Option Bool) → said (puts b p) e ≡ put → order (with_entry h e) b ≡ sent_last (unwrap_or put false) p (order h b)
    go None no_put = order-released h e b p sent (none no_put)
    go (Some on) put =
        let here = said-some (puts b p) e on put in
        let is : on ≡ true = sent-put h b p e.stated.cmd on parts.1 here.1 in
        rw is (order-sent h e b p sent (put ∙ ap Some is) (λ q other. of-done (puts b q) e parts.0 ∙ put-one b p q on e.stated.cmd here.1 other))

pub order-comes : (h : History) (e : EntryValue) (b : List ℕ) → order (with_entry h e) b ≡ order_after h e b
order-comes h e b = go (said (sends b h) e) (said (takes_off b) e) refl refl
  where
    go : (sent taken : Option ℕ) → said (sends b h) e ≡ sent → said (takes_off b) e ≡ taken → order (with_entry h e) b ≡ order_by e b sent (order h b)
    go (Some p) taken is off = order-sends h e b p is
    go None (Some p) is off = order-off h e b p is off ∙ rw off refl
    go None None is off = order-untouched h e b is off ∙ rw off refl
