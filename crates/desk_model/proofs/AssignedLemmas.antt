-- The vacancy that is assigned to a person, where one entry more has come, and the person to whom one is.
use Rattle.std.proofs.Common.{◌≡◌, ℕ, inl, inr, Bool, true, false, cond, ◌&&◌, nat_eq, Option, None, Some, unwrap_or, List, [], ◌∷◌, refl, sym, ap, ◌∙◌}
use Rattle.std.specs.Option.{option_or}
use Rattle.std.proofs.lemmas.Bool.{cases_Bool, false≢true}
use Rattle.desk_model.specs.declared.command.Cmd.{Cmd}
use Rattle.desk_model.specs.declared.command.Cmd.TheVariants as cmd
use Rattle.desk_model.specs.statements.Entry.{EntryValue}
use Rattle.desk_model.specs.histories.History.{History, with_entry, is_done, said, last_of}
use Rattle.desk_model.specs.offers.Offers.{is_of}
use Rattle.desk_model.specs.offers.Assigned.{reports, assigns, is_assigned, accepts, only_if, assigned}
use Rattle.desk_model.specs.laws.Comes.{assigned_by, assigned_after}
use Rattle.desk_model.proofs.SaidLemmas.{last_of-snoc, last_of-or}
use Rattle.desk_model.proofs.OrderLemmas.{same_number, nat_eq-same, nat_eq-swap}

-- tests that agree pass the same
pub only_if-agree : (f g : ℕ → Bool) → ((n : ℕ) → f n ≡ g n) → (o : Option ℕ) → only_if f o ≡ only_if g o
only_if-agree f g agree None = refl
only_if-agree f g agree (Some n) = ap (λ t. cond t (Some n) None) (agree n)

only_if-no : (o : Option ℕ) → only_if (λ n. false) o ≡ None
only_if-no None = refl
only_if-no (Some n) = refl

-- whether a vacancy is a person's, with one entry more
pub has-comes : (h : History) (e : EntryValue) (p v : ℕ) → is_assigned (with_entry h e) p v ≡ unwrap_or (said (assigns p v) e) (is_assigned h p v)
has-comes h e p v = last_of-or (said (assigns p v)) h.entries e false

-- and which one is, by a command
command-assigns : (has : ℕ → Bool) (p : ℕ) (c : Cmd) (last : Option ℕ)
    → only_if (λ v. unwrap_or (assigns p v c) (has v)) (option_or (accepts p c) last) ≡ assigned_by p c (only_if has last)
command-assigns has p (cmd.Accept vac person) last = go (nat_eq person p)
  where
    go : (mine : Bool) → only_if (λ v. unwrap_or (cond mine (Some (nat_eq vac v)) None) (has v)) (option_or (cond mine (Some vac) None) last) ≡ cond mine (Some vac) (only_if has last)
    go true = rw (nat_eq-same vac) refl
    go false = refl
command-assigns has p (cmd.Drop person) last = go (nat_eq person p)
  where
    go : (mine : Bool) → only_if (λ v. unwrap_or (cond mine (Some false) None) (has v)) last ≡ cond mine None (only_if has last)
    go true = only_if-no last
    go false = refl
command-assigns has p (cmd.Happened person event) last = go (nat_eq person p && reports event)
  where
    go : (ends : Bool) → only_if (λ v. unwrap_or (cond ends (Some false) None) (has v)) last ≡ cond ends None (only_if has last)
    go true = only_if-no last
    go false = refl
command-assigns has p (cmd.Annul vac) None = refl
command-assigns has p (cmd.Annul vac) (Some v) = go (nat_eq vac v) (has v) (nat_eq-swap v vac)
  where
    go : (same mine : Bool) → nat_eq v vac ≡ same → cond (unwrap_or (cond same (Some false) None) mine) (Some v) None
        ≡ cond (is_of vac (cond mine (Some v) None)) None (cond mine (Some v) None)
    go true true is = rw is refl
    go true false is = refl
    go false true is = rw is refl
    go false false is = refl
command-assigns has p other last = refl

pub assigned-comes : (h : History) (e : EntryValue) (p : ℕ) → assigned (with_entry h e) p ≡ assigned_after p e (assigned h p)
assigned-comes h e p =
    only_if-agree (is_assigned (with_entry h e) p) (λ v. unwrap_or (said (assigns p v) e) (is_assigned h p v)) (has-comes h e p) (last_of (said (accepts p)) (with_entry h e).entries)
    ∙ ap (only_if (λ v. unwrap_or (said (assigns p v) e) (is_assigned h p v))) (last_of-snoc (said (accepts p)) h.entries e)
    ∙ go (is_done e.reply)
  where
    last : Option ℕ
    last = last_of (said (accepts p)) h.entries

    go : (done : Bool) → only_if (λ v. unwrap_or (cond done (assigns p v e.stated.cmd) None) (is_assigned h p v)) (option_or (cond done (accepts p e.stated.cmd) None) last)
        ≡ cond done (assigned_by p e.stated.cmd (only_if (is_assigned h p) last)) (only_if (is_assigned h p) last)
    go true = command-assigns (is_assigned h p) p e.stated.cmd last
    go false = refl

-- ---- a vacancy that is a person's is the one that they accepted last

-- where whatever speaks by g speaks by f, the last that speaks by f for it is the last that speaks by g
last-follows : (f : EntryValue → Option Bool) (g : EntryValue → Option ℕ) (v : ℕ) → ((e : EntryValue) → f e ≡ None → g e ≡ None)
    → ((e : EntryValue) → f e ≡ Some true → g e ≡ Some v) → (es : List EntryValue)
    → (last_of f es ≡ None → last_of g es ≡ None) × (last_of f es ≡ Some true → last_of g es ≡ Some v)
last-follows f g v silent speaks [] = (λ is. refl, λ is. cc)
last-follows f g v silent speaks (e ∷ later) = go (last_of f later) (f e) refl refl (last-follows f g v silent speaks later)
  where
    go : (rest this : Option Bool) → last_of f later ≡ rest → f e ≡ this → (rest ≡ None → last_of g later ≡ None) × (rest ≡ Some true → last_of g later ≡ Some v)
        → (option_or rest this ≡ None → option_or (last_of g later) (g e) ≡ None) × (option_or rest this ≡ Some true → option_or (last_of g later) (g e) ≡ Some v)
    go None this rest-is this-is known =
        (λ is. rw (known.0 refl) (silent e (this-is ∙ is)), λ is. rw (known.0 refl) (speaks e (this-is ∙ is)))
    go (Some b) this rest-is this-is known = (λ is. cc, λ is. rw (known.1 is) refl)

assigns-silent : (p v : ℕ) (c : Cmd) → assigns p v c ≡ None → accepts p c ≡ None
assigns-silent p v (cmd.Accept vac person) none = go (nat_eq person p) none
  where
    go : (mine : Bool) → cond mine (Some (nat_eq vac v)) None ≡ None → cond mine (Some vac) None ≡ None
    go true none = cc
    go false none = refl
assigns-silent p v other none = refl

assigns-speaks : (p v : ℕ) (c : Cmd) → assigns p v c ≡ Some true → accepts p c ≡ Some v
assigns-speaks p v (cmd.Accept vac person) speaks = go (nat_eq person p) speaks
  where
    go : (mine : Bool) → cond mine (Some (nat_eq vac v)) None ≡ Some true → cond mine (Some vac) None ≡ Some v
    go true speaks = let same : nat_eq vac v ≡ true = cc in ap Some (same_number vac v same)
    go false speaks = cc
assigns-speaks p v (cmd.Drop person) speaks = go (nat_eq person p) speaks
  where
    go : (mine : Bool) → cond mine (Some false) None ≡ Some true → None ≡ Some v
    go true speaks = cc
    go false speaks = cc
assigns-speaks p v (cmd.Happened person event) speaks = go (nat_eq person p && reports event) speaks
  where
    go : (ends : Bool) → cond ends (Some false) None ≡ Some true → None ≡ Some v
    go true speaks = cc
    go false speaks = cc
assigns-speaks p v (cmd.Annul vac) speaks = go (nat_eq vac v) speaks
  where
    go : (same : Bool) → cond same (Some false) None ≡ Some true → None ≡ Some v
    go true speaks = cc
    go false speaks = cc
assigns-speaks p v other speaks = cc

accepted-last : (h : History) (p v : ℕ) → is_assigned h p v ≡ true → last_of (said (accepts p)) h.entries ≡ Some v
accepted-last h p v mine = (last-follows (said (assigns p v)) (said (accepts p)) v silent speaks h.entries).1 (by_last (last_of (said (assigns p v)) h.entries) mine)
  where
    by_last : (o : Option Bool) → unwrap_or o false ≡ true → o ≡ Some true
    by_last None mine = absurd (false≢true mine)
    by_last (Some b) mine = ap Some mine

    silent : (e : EntryValue) → said (assigns p v) e ≡ None → said (accepts p) e ≡ None
    silent e = go (is_done e.reply)
      where
        go : (done : Bool) → cond done (assigns p v e.stated.cmd) None ≡ None → cond done (accepts p e.stated.cmd) None ≡ None
        go true none = assigns-silent p v e.stated.cmd none
        go false none = refl

    speaks : (e : EntryValue) → said (assigns p v) e ≡ Some true → said (accepts p) e ≡ Some v
    speaks e = go (is_done e.reply)
      where
        go : (done : Bool) → cond done (assigns p v e.stated.cmd) None ≡ Some true → cond done (accepts p e.stated.cmd) None ≡ Some v
        go true told = assigns-speaks p v e.stated.cmd told
        go false told = cc

-- it is the one that is assigned to them
pub assigned-has : (h : History) (p v : ℕ) → is_of v (assigned h p) ≡ is_assigned h p v
assigned-has h p v = elim (cases_Bool (is_assigned h p v)) [
  | inl mine ↦ rw (accepted-last h p v mine, mine, nat_eq-same v) refl
  | inr other ↦ go (last_of (said (accepts p)) h.entries) other ∙ sym other
]
  where
    go : (last : Option ℕ) → is_assigned h p v ≡ false → is_of v (only_if (is_assigned h p) last) ≡ false
    go None other = refl
    go (Some w) other = by_test (is_assigned h p w) (nat_eq w v) refl refl
      where
        by_test : (mine same : Bool) → is_assigned h p w ≡ mine → nat_eq w v ≡ same → is_of v (cond mine (Some w) None) ≡ false
        by_test false same is eq = refl
        by_test true false is eq = eq
        by_test true true is eq = absurd (false≢true (sym other ∙ ap (is_assigned h p) (sym (same_number w v eq)) ∙ is))
