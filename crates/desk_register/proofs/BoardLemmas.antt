-- The register of boards keeps on what a history says.
use Rattle.std.proofs.Common.{◌≡◌, ◌<◌, ℕ, Bool, true, false, cond, nat_le, List, [], ◌++◌, length, Option, None, Some, is_some, refl, sym, ap, ◌∙◌, arith}
use Rattle.std.proofs.lemmas.Bool.{false≢true}
use Rattle.std.proofs.lemmas.Bool.Decides.{nat_tests}
use Rattle.std.proofs.lemmas.Slice.Eq.{bytes_eq-Decides}
use Rattle.std.specs.Prelude.{if◌then◌else◌}
use Rattle.std.specs.Option.{option_or}
use Rattle.std.specs.List.{cons_option}
use Rattle.std.specs.Str.{bytes_eq}
use Rattle.desk_model.specs.declared.limits.TheConstants.{BOARD_LIMIT}
use Rattle.desk_model.specs.declared.command.Cmd.{Cmd}
use Rattle.desk_model.specs.declared.command.Cmd.TheVariants as cmd
use Rattle.desk_model.specs.declared.reply.Reply.TheVariants as reply
use Rattle.desk_model.specs.declared.board_setup.BoardSetup.{BoardSetup}
use Rattle.desk_model.specs.statements.Entry.{EntryValue}
use Rattle.desk_model.specs.histories.History.{History, with_entry, is_done}
use Rattle.desk_model.specs.histories.Register.{sets_up, sets_up_any, board_of, boards}
use Rattle.desk_model.specs.laws.Comes.{Comes}
use Rattle.desk_model.specs.histories.Legal.{answer_to, IsNext}
use Rattle.desk_register.specs.Done.{IsDone}
use Rattle.desk_register.specs.Boards.{AreBoards, CanSetUp, put_board}
use Rattle.desk_register.proofs.PersonLemmas.{option_or-none}
use Rattle.desk_register.proofs.AgreeLemmas.{said-done}
use Rattle.desk_register.proofs.AnswerLemmas.{done-answer}

-- a board that is set up by a command that is done is new, and there is room
can-set_up : (h : History) (m : ℕ) (c : Cmd) (under : List ℕ → Option BoardSetup) (codes : List (List ℕ)) → AreBoards under codes h
    → is_done (answer_to h m c) ≡ true → CanSetUp (sets_up_any c) under codes
can-set_up h m (cmd.Board b extra place) under codes are done = go (board_of h b) (nat_le BOARD_LIMIT (length (boards h))) refl refl done
  where
    go : (known : Option BoardSetup) (full : Bool) → board_of h b ≡ known → nat_le BOARD_LIMIT (length (boards h)) ≡ full
        → is_done (if is_some known then reply.Used else if full then reply.BoardsFull else reply.Done) ≡ true → (under b ≡ None) × (length codes < BOARD_LIMIT)
    go (Some setup) full x y done = absurd (false≢true done)
    go None true x y done = absurd (false≢true done)
    go None false x y done = (are.each b ∙ x, rw are.order grind (arith, nat_tests, y))
can-set_up h m other under codes are done = tt

-- what is kept goes on by a command as what is said does
board-follows : (c : Cmd) (under : List ℕ → Option BoardSetup) (codes : List (List ℕ)) (b : List ℕ) → CanSetUp (sets_up_any c) under codes
    → put_board c under b ≡ option_or (under b) (sets_up b c)
board-follows (cmd.Board x extra place) under codes b can = go (bytes_eq x b) refl
  where
    go : (here : Bool) → bytes_eq x b ≡ here → cond here (Some (record { extra = extra; place = place })) (under b)
        ≡ option_or (under b) (cond here (Some (record { extra = extra; place = place })) None)
    go true here = rw (sym (ap under ((bytes_eq-Decides x b).0 here)) ∙ can.0) refl
    go false here = option_or-none (under b)
board-follows other under codes code can = option_or-none (under code)

-- after a command that was done the register keeps what the longer history says
pub boards-keep : (h : History) (e : EntryValue) (c : Cmd) (under later : List ℕ → Option BoardSetup) (codes after : List (List ℕ)) → Comes h e → IsNext h e → IsDone e c
    → AreBoards under codes h → (CanSetUp (sets_up_any c) under codes → (b : List ℕ) → later b ≡ put_board c under b)
    → (CanSetUp (sets_up_any c) under codes → after ≡ codes ++ cons_option (sets_up_any c) []) → AreBoards later after (with_entry h e)
boards-keep h e c under later codes after comes next is are later_is after_is =
    let can = can-set_up h e.moment c under codes are (done-answer h e c next is) in
    record {
      each = λ b. later_is can b ∙ board-follows c under codes b can ∙ ap (λ x. option_or x (sets_up b c)) (are.each b)
          ∙ ap (option_or (board_of h b)) (sym (said-done (sets_up b) e c is)) ∙ sym (comes.board b);
      order = after_is can ∙ ap (λ bs. bs ++ cons_option (sets_up_any c) []) are.order
          ∙ ap (λ o. boards h ++ cons_option o []) (sym (said-done sets_up_any e c is)) ∙ sym comes.boards;
    }
