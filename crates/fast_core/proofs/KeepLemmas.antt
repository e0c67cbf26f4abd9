-- Of whom an entry tells an event, and who declines by it, it names.
use Rattle.std.proofs.Common.{◌≡◌, ℕ, ◌<◌, length, Bool, true, false, cond, ◌++◌, [], append-nil, List, Option, None, Some, refl, ap, ◌∙◌}
use Rattle.std.specs.List.{cons_option}
use Rattle.desk_model.specs.declared.command.Cmd.{Cmd}
use Rattle.desk_model.specs.declared.command.Cmd.TheVariants as cmd
use Rattle.desk_model.specs.statements.Entry.{EntryValue}
use Rattle.desk_model.specs.histories.History.{History, is_done, said, with_entry}
use Rattle.desk_model.specs.histories.Register.{enrols_any, persons, sets_up_any, boards}
use Rattle.desk_model.specs.declared.limits.TheConstants.{BOARD_LIMIT}
use Rattle.desk_model.specs.laws.Comes.{Comes}
use Rattle.desk_model.specs.laws.RestsOn.{RestsOn}
use Rattle.desk_state.specs.OfferTold.{decliner}
use Rattle.desk_state.specs.Lists.{mover}

-- what an entry says by one reading it says by a wider one
said-wider : (f g : Cmd → Option ℕ) → ((c : Cmd) (p : ℕ) → f c ≡ Some p → g c ≡ Some p) → (e : EntryValue) (p : ℕ) → said f e ≡ Some p → said g e ≡ Some p
said-wider f g wider e p told = go (is_done e.reply) told
  where
    go : (done : Bool) → cond done (f e.stated.cmd) None ≡ Some p → cond done (g e.stated.cmd) None ≡ Some p
    go true told = wider e.stated.cmd p told
    go false told = cc

decliner-moves : (c : Cmd) (p : ℕ) → decliner c ≡ Some p → mover c ≡ Some p
decliner-moves (cmd.Decline vac person) p told = told
decliner-moves other p told = cc

pub decliner-mover : (e : EntryValue) (p : ℕ) → said decliner e ≡ Some p → said mover e ≡ Some p
decliner-mover = said-wider decliner mover decliner-moves

-- and where it names such a person nobody is enrolled
mover-enrols-none : (c : Cmd) (p : ℕ) → mover c ≡ Some p → enrols_any c ≡ None
mover-enrols-none (cmd.List person board) p named = refl
mover-enrols-none (cmd.Unlist person board) p named = refl
mover-enrols-none (cmd.MarkOn person) p named = refl
mover-enrols-none (cmd.Decline vac person) p named = refl
mover-enrols-none (cmd.Past person event) p named = refl
mover-enrols-none (cmd.Happened person event) p named = refl
mover-enrols-none other p named = cc

pub persons-moved : (h : History) (e : EntryValue) (p : ℕ) → Comes h e → said mover e ≡ Some p → persons (with_entry h e) ≡ persons h
persons-moved h e p comes named = comes.persons ∙ ap (λ who. persons h ++ cons_option who []) (go (is_done e.reply) named) ∙ append-nil (persons h)
  where
    go : (done : Bool) → cond done (mover e.stated.cmd) None ≡ Some p → cond done (enrols_any e.stated.cmd) None ≡ None
    go true named = mover-enrols-none e.stated.cmd p named
    go false named = cc

-- where a board is set up there was room for it
room : (h : History) (c : Cmd) (b : List ℕ) → sets_up_any c ≡ Some b → RestsOn h c → length (boards h) < BOARD_LIMIT
room h (cmd.Board x extra index) b is rests = rests.1
room h other b is rests = cc

pub set_up-few : (h : History) (e : EntryValue) (b : List ℕ) → (is_done e.reply ≡ true → RestsOn h e.stated.cmd) → said sets_up_any e ≡ Some b
    → length (boards h) < BOARD_LIMIT
set_up-few h e b rests told = go (is_done e.reply) refl told
  where
    go : (done : Bool) → is_done e.reply ≡ done → cond done (sets_up_any e.stated.cmd) None ≡ Some b → length (boards h) < BOARD_LIMIT
    go true is named = room h e.stated.cmd b named (rests is)
    go false is named = cc
