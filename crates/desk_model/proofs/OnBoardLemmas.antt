-- The order of a board has just those who are on it.
use Rattle.std.proofs.Common.{◌≡◌, ℕ, suc, not, length, length-append, ◌≤◌, Bool, true, false, cond, ◌&&◌, ◌||◌, nat_eq, Option, None, Some, unwrap_or, List, [], ◌∷◌, ◌++◌, filter, refl, sym, ap, ◌∙◌, arith}
use Rattle.std.specs.Str.{bytes_eq}
use Rattle.std.specs.Option.{option_or}
use Rattle.std.specs.List.{list_any, cons_option, filter_map}
use Rattle.std.proofs.lemmas.Bool.{false≢true}
use Rattle.std.proofs.lemmas.Bool.Decides.{nat_tests}
use Rattle.desk_model.specs.declared.command.Cmd.{Cmd}
use Rattle.desk_model.specs.declared.command.Cmd.TheVariants as cmd
use Rattle.desk_model.specs.statements.Entry.{EntryValue}
use Rattle.desk_model.specs.histories.History.{History, opened, with_entry, steps_from, steps, said, last_of}
use Rattle.desk_model.specs.boards.Boards.{puts, is_on, sends, sent, sent_to, keep_last, order}
use Rattle.desk_model.proofs.SaidLemmas.{said-some}
use Rattle.desk_model.specs.laws.Comes.{without}
use Rattle.desk_model.proofs.OrderLemmas.{length-without, order-moved, same_number, nat_eq-same}

and_false : (b : Bool) → (b && false) ≡ false
and_false true = refl
and_false false = refl

pub any-filter : (f : ℕ → Bool) (p : ℕ) (ps : List ℕ) → list_any (nat_eq p) (filter f ps) ≡ (f p && list_any (nat_eq p) ps)
any-filter f p [] = sym (and_false (f p))
any-filter f p (q ∷ ps) = go (f q) (nat_eq p q) refl refl (any-filter f p ps)
  where
    go : (kept same : Bool) → f q ≡ kept → nat_eq p q ≡ same → list_any (nat_eq p) (filter f ps) ≡ (f p && list_any (nat_eq p) ps)
        → list_any (nat_eq p) (cond (f q) (q ∷ filter f ps) (filter f ps)) ≡ (f p && (nat_eq p q || list_any (nat_eq p) ps))
    go true true keeps is rest = rw (keeps, is, ap f (same_number p q is), keeps) refl
    go false true keeps is rest = rw (keeps, is, rest, ap f (same_number p q is), keeps) refl
    go true false keeps is rest = rw (keeps, is) rest
    go false false keeps is rest = rw (keeps, is) rest

pub any-keep_last : (p : ℕ) (ps : List ℕ) → list_any (nat_eq p) (keep_last ps) ≡ list_any (nat_eq p) ps
any-keep_last p [] = refl
any-keep_last p (q ∷ ps) = go (list_any (nat_eq q) ps) (nat_eq p q) refl refl (any-keep_last p ps)
  where
    go : (again same : Bool) → list_any (nat_eq q) ps ≡ again → nat_eq p q ≡ same → list_any (nat_eq p) (keep_last ps) ≡ list_any (nat_eq p) ps
        → list_any (nat_eq p) (cond (list_any (nat_eq q) ps) (keep_last ps) (q ∷ keep_last ps)) ≡ (nat_eq p q || list_any (nat_eq p) ps)
    go true true any is rest = rw (any, rest, is, same_number p q is, any) refl
    go true false any is rest = rw (any, is) rest
    go false true any is rest = rw (any, is) refl
    go false false any is rest = rw (any, is) rest

-- ---- who is on a board was sent there

puts-sends : (b : List ℕ) (p : ℕ) (h : History) (c : Cmd) → puts b p c ≡ Some true → sends b h c ≡ Some p
puts-sends b p h (cmd.List person board) put = go (bytes_eq board b) (nat_eq person p) refl put
  where
    go : (here same : Bool) → nat_eq person p ≡ same → cond here (cond same (Some true) None) None ≡ Some true → cond here (Some person) None ≡ Some p
    go true true is put = ap Some (same_number person p is)
    go true false is put = cc
    go false same is put = cc
puts-sends b p h (cmd.Unlist person board) put = go (bytes_eq board b) (nat_eq person p) put
  where
    go : (here same : Bool) → cond here (cond same (Some false) None) None ≡ Some true → None ≡ Some p
    go true true put = cc
    go true false put = cc
    go false same put = cc
puts-sends b p h other put = cc

pub said-puts-sends : (b : List ℕ) (p : ℕ) (h : History) (e : EntryValue) → said (puts b p) e ≡ Some true → said (sends b h) e ≡ Some p
said-puts-sends b p h e put =
    let parts = said-some (puts b p) e true put in
    ap (λ done. cond done (sends b h e.stated.cmd) None) parts.0 ∙ puts-sends b p h e.stated.cmd parts.1

-- whom entries that come after a history sent
abbrev pub sent_from : List ℕ → History → List EntryValue → List ℕ
sent_from b h es = filter_map (sent b) (steps_from h es)

was_sent : (b : List ℕ) (p : ℕ) (h : History) (es : List EntryValue) → last_of (said (puts b p)) es ≡ Some true → list_any (nat_eq p) (sent_from b h es) ≡ true
was_sent b p h [] put = cc
was_sent b p h (e ∷ later) put =
    go (last_of (said (puts b p)) later) (said (puts b p) e) (said (sends b h) e) put (was_sent b p (with_entry h e) later) (said-puts-sends b p h e)
  where
    rest : List ℕ
    rest = sent_from b (with_entry h e) later

    front : (who : Option ℕ) → list_any (nat_eq p) rest ≡ true → list_any (nat_eq p) (cons_option who rest) ≡ true
    front None any = any
    front (Some q) any = rw any (grind (arith, nat_tests))

    go : (last this : Option Bool) (who : Option ℕ) → option_or last this ≡ Some true → (last ≡ Some true → list_any (nat_eq p) rest ≡ true)
        → (this ≡ Some true → who ≡ Some p) → list_any (nat_eq p) (cons_option who rest) ≡ true
    go (Some on) this who put known here = front who (known put)
    go None this who put known here = rw (here put, nat_eq-same p) refl

on_board : (b : List ℕ) (p : ℕ) (h : History) → is_on h p b ≡ true → list_any (nat_eq p) (sent_to h b) ≡ true
unfolding steps
on_board b p h on = was_sent b p (opened h.opening) h.entries (go (last_of (said (puts b p)) h.entries) on)
  where
    go : (o : Option Bool) → unwrap_or o false ≡ true → o ≡ Some true
    go None on = absurd (false≢true on)
    go (Some x) on = ap Some on

pub any-order : (h : History) (b : List ℕ) (p : ℕ) → list_any (nat_eq p) (order h b) ≡ is_on h p b
any-order h b p =
    any-filter (λ q. is_on h q b) p (keep_last (sent_to h b))
    ∙ ap (λ any. is_on h p b && any) (any-keep_last p (sent_to h b))
    ∙ go (is_on h p b) (list_any (nat_eq p) (sent_to h b)) (on_board b p h)
  where
    go : (on any : Bool) → (on ≡ true → any ≡ true) → (on && any) ≡ on
    go true any known = known refl
    go false any known = refl

-- who stands there is one at least
length-without-in : (p : ℕ) (ps : List ℕ) → list_any (nat_eq p) ps ≡ true → suc (length (without p ps)) ≤ length ps
length-without-in p [] any = absurd (false≢true any)
length-without-in p (q ∷ ps) any = go (nat_eq p q) any (length-without-in p ps)
  where
    go : (same : Bool) → (same || list_any (nat_eq p) ps) ≡ true → (list_any (nat_eq p) ps ≡ true → suc (length (without p ps)) ≤ length ps)
        → suc (length (cond (not same) (q ∷ without p ps) (without p ps))) ≤ suc (length ps)
    go true any rest = omega (arith, length-without p ps)
    go false any rest = omega (arith, rest any)

-- who is sent to the bottom of a board makes it no longer
pub length-order-moved : (h : History) (e : EntryValue) (b : List ℕ) (p : ℕ) → said (sends b h) e ≡ Some p → ((q : ℕ) → said (puts b q) e ≡ None)
    → length (order (with_entry h e) b) ≤ length (order h b)
length-order-moved h e b p sent unput = rw (order-moved h e b p sent unput) (go (is_on h p b) (any-order h b p))
  where
    go : (on : Bool) → list_any (nat_eq p) (order h b) ≡ on → length (without p (order h b) ++ cond on (p ∷ []) []) ≤ length (order h b)
    go true any = omega (arith, length-append (without p (order h b)) (p ∷ []), length-without-in p (order h b) any)
    go false any = omega (arith, length-append (without p (order h b)) [], length-without p (order h b))
