-- What is so of each entry that the rules give after a legal history, and what an entry says of a command that was done.
use Rattle.std.proofs.Common.{◌≡◌, ℕ, Bool, true, false, cond, List, Option, None, Some, is_some, unwrap_or, refl, sym, ap, ◌∙◌, subst}
use Rattle.std.proofs.lemmas.Bool.{false≢true}
use Rattle.desk_model.specs.declared.command.Cmd.{Cmd}
use Rattle.desk_model.specs.declared.command.Cmd.TheVariants as cmd
use Rattle.desk_model.specs.statements.Entry.{EntryValue}
use Rattle.desk_model.specs.histories.History.{History, with_entry, is_done, said}
use Rattle.desk_model.specs.histories.Register.{enrols_any, sets_up_any, person_of, board_of}
use Rattle.desk_model.specs.boards.Boards.{is_on, puts, sends, order}
use Rattle.desk_model.specs.histories.Duty.{tells, events}
use Rattle.desk_model.specs.laws.Comes.{Comes, kept, takes_off, left_by, sent_last, order_by}
use Rattle.desk_model.specs.laws.RestsOn.{RestsOn, MayEnrol, MaySetUp}
use Rattle.desk_model.proofs.SaidLemmas.{said-some}
use Rattle.desk_register.specs.Done.{IsDone}
use Rattle.desk_state.specs.Laws.{Laws}
use Rattle.desk_state.specs.Lists.{ready_minute}

-- ---- a command that was done

pub said-done : {X : Type 0} (f : Cmd → Option X) (e : EntryValue) (c : Cmd) → IsDone e c → said f e ≡ f c
said-done f e c is = rw (is.done, is.of) refl

-- the order of a board after it
abbrev pub ordered_by : Cmd → List ℕ → Option ℕ → List ℕ → List ℕ
ordered_by c b None ps = left_by (takes_off b c) ps
ordered_by c b (Some p) ps = sent_last (unwrap_or (puts b p c) false) p ps

abbrev pub ordered : History → Cmd → List ℕ → List ℕ → List ℕ
ordered h c b ps = ordered_by c b (sends b h c) ps

pub order-done : (h : History) (e : EntryValue) (c : Cmd) (b : List ℕ) → Comes h e → IsDone e c → order (with_entry h e) b ≡ ordered h c b (order h b)
order-done h e c b comes is = comes.order b ∙ ap (λ o. order_by e b o (order h b)) (said-done (sends b h) e c is) ∙ go (sends b h c) (order h b)
  where
    go : (sent : Option ℕ) (ps : List ℕ) → order_by e b sent ps ≡ ordered_by c b sent ps
    go None ps = ap (λ o. left_by o ps) (said-done (takes_off b) e c is)
    go (Some p) ps = ap (λ o. sent_last (unwrap_or o false) p ps) (said-done (puts b p) e c is)

pub on-done : (h : History) (e : EntryValue) (c : Cmd) (p : ℕ) (b : List ℕ) → Comes h e → IsDone e c → is_on (with_entry h e) p b ≡ unwrap_or (puts b p c) (is_on h p b)
on-done h e c p b comes is = comes.on p b ∙ ap (λ o. unwrap_or o (is_on h p b)) (said-done (puts b p) e c is)

-- of whom nothing is told, is ready as before
pub ready-same : (h : History) (e : EntryValue) (p : ℕ) → Comes h e → said (tells p) e ≡ None → ready_minute (with_entry h e) p ≡ ready_minute h p
ready-same h e p comes none = let same : events (with_entry h e) p ≡ events h p = comes.events p ∙ ap (kept (events h p)) none in rw same refl

-- ---- what an entry says that enrols somebody, or sets up a board

some-is : {X : Type 0} (x y : X) → Some x ≡ Some y → x ≡ y
some-is x y is = cc

quiet : {X : Type 0} (f : Cmd → Option X) (e : EntryValue) → f e.stated.cmd ≡ None → said f e ≡ None
quiet f e none = go (is_done e.reply)
  where
    go : (done : Bool) → cond done (f e.stated.cmd) None ≡ None
    go true = none
    go false = refl

enrols-may : (h : History) (c : Cmd) (p : ℕ) → enrols_any c ≡ Some p → RestsOn h c → MayEnrol h p
enrols-may h (cmd.Enrol q craft home quals) p is rests = subst (MayEnrol h) (some-is q p is) rests
enrols-may h other p is rests = cc

enrols-puts : (c : Cmd) (p q : ℕ) (b : List ℕ) → enrols_any c ≡ Some p → puts b q c ≡ None
enrols-puts (cmd.Enrol r craft home quals) p q b is = refl
enrols-puts other p q b is = cc

sets_up-may : (h : History) (c : Cmd) (b : List ℕ) → sets_up_any c ≡ Some b → RestsOn h c → MaySetUp h b
sets_up-may h (cmd.Board a extra place) b is rests = subst (MaySetUp h) (some-is a b is) rests
sets_up-may h other b is rests = cc

sets_up-puts : (c : Cmd) (a : List ℕ) (q : ℕ) (b : List ℕ) → sets_up_any c ≡ Some a → puts b q c ≡ None
sets_up-puts (cmd.Board r extra place) a q b is = refl
sets_up-puts other a q b is = cc

sets_up-ordered : (h : History) (c : Cmd) (a b : List ℕ) (ps : List ℕ) → sets_up_any c ≡ Some a → ordered h c b ps ≡ ps
sets_up-ordered h (cmd.Board r extra place) a b ps is = refl
sets_up-ordered h other a b ps is = cc

pub may-enrol : (h : History) (e : EntryValue) (p : ℕ) → Laws h e → said enrols_any e ≡ Some p → MayEnrol h p
may-enrol h e p laws is = let parts = said-some enrols_any e p is in enrols-may h e.stated.cmd p parts.1 (laws.rests parts.0)

pub enrols-on : (h : History) (e : EntryValue) (p q : ℕ) (b : List ℕ) → Laws h e → said enrols_any e ≡ Some p → is_on (with_entry h e) q b ≡ is_on h q b
enrols-on h e p q b laws is =
    let parts = said-some enrols_any e p is in
    laws.comes.on q b ∙ ap (λ o. unwrap_or o (is_on h q b)) (quiet (puts b q) e (enrols-puts e.stated.cmd p q b parts.1))

pub may-set_up : (h : History) (e : EntryValue) (b : List ℕ) → Laws h e → said sets_up_any e ≡ Some b → MaySetUp h b
may-set_up h e b laws is = let parts = said-some sets_up_any e b is in sets_up-may h e.stated.cmd b parts.1 (laws.rests parts.0)

pub set_up-on : (h : History) (e : EntryValue) (a : List ℕ) (q : ℕ) (b : List ℕ) → Laws h e → said sets_up_any e ≡ Some a → is_on (with_entry h e) q b ≡ is_on h q b
set_up-on h e a q b laws is =
    let parts = said-some sets_up_any e a is in
    laws.comes.on q b ∙ ap (λ o. unwrap_or o (is_on h q b)) (quiet (puts b q) e (sets_up-puts e.stated.cmd a q b parts.1))

pub set_up-order : (h : History) (e : EntryValue) (a b : List ℕ) → Laws h e → said sets_up_any e ≡ Some a → order (with_entry h e) b ≡ order h b
set_up-order h e a b laws is =
    let parts = said-some sets_up_any e a is in
    order-done h e e.stated.cmd b laws.comes (record { done = parts.0; of = refl }) ∙ sets_up-ordered h e.stated.cmd a b (order h b) parts.1

-- nobody is on a board before they are enrolled, or before it is set up
pub nobody-on : (h : History) (e : EntryValue) (p : ℕ) (b : List ℕ) → Laws h e → person_of h p ≡ None → is_on h p b ≡ false
nobody-on h e p b laws none = go (is_on h p b) refl
  where
    go : (on : Bool) → is_on h p b ≡ on → on ≡ false
    go true on = absurd (false≢true (sym (ap is_some none) ∙ (laws.listed p b on).enrolled))
    go false on = refl

pub nowhere-on : (h : History) (e : EntryValue) (p : ℕ) (b : List ℕ) → Laws h e → board_of h b ≡ None → is_on h p b ≡ false
nowhere-on h e p b laws none = go (is_on h p b) refl
  where
    go : (on : Bool) → is_on h p b ≡ on → on ≡ false
    go true on = absurd (false≢true (sym (ap is_some none) ∙ (laws.listed p b on).board))
    go false on = refl
