-- The boards that are shown are those of the longer history, after an entry.
use Rattle.std.proofs.Common.{◌≡◌, ℕ, zero, suc, ◌+◌, ◌≤◌, Bool, true, false, cond, nat_lt, Option, None, Some, List, [], ◌∷◌, ◌++◌, length, map, refl, sym, ap, ◌∙◌, subst, arith, append-nil, length-append}
use Rattle.std.proofs.lemmas.Bool.Decides.{nat_tests}
use Rattle.std.proofs.lemmas.List.{length-map}
use Rattle.std.proofs.lemmas.Option.{slice_get-map}
use Rattle.std.proofs.lemmas.Slice.Eq.{bytes_eq-Decides}
use Rattle.std.specs.List.{slice_get, cons_option}
use Rattle.std.specs.Option.{option_map, option_or}
use Rattle.desk_model.specs.declared.board_setup.BoardSetup.{BoardSetup}
use Rattle.desk_model.specs.declared.command.Cmd.{Cmd}
use Rattle.desk_model.specs.declared.command.Cmd.TheVariants as cmd
use Rattle.desk_model.specs.declared.limits.TheConstants.{BOARD_LIMIT, MEMBER_LIMIT}
use Rattle.desk_model.specs.boards.Boards.{sends, order}
use Rattle.desk_model.specs.laws.Comes.{Comes, takes_off}
use Rattle.desk_model.specs.statements.Entry.{EntryValue}
use Rattle.desk_model.specs.histories.History.{History, with_entry, is_done, said}
use Rattle.desk_model.specs.histories.Register.{sets_up, sets_up_any, board_of, boards}
use Rattle.desk_model.specs.laws.RestsOn.{RestsOn}
use Rattle.board_window.specs.declared.shown_board.ShownBoard.{ShownBoard}
use Rattle.board_window.specs.Becomes.{bottom_of, is_put, moved, becomes, set_up, boards_by, boards_after, declines_from}
use Rattle.board_window.specs.Shows.{IsShown, AreBoards}
use Rattle.board_window.proofs.SaidLemmas.{said-done, said-refused}
use Rattle.board_window.proofs.MovedLemmas.{order_by_cmd, order-done, order-refused, moved-order}

-- ---- one board

-- a board that was set up stays at its place
place-stays : (known more : Option BoardSetup) (place : List ℕ) → option_map (λ s. s.place) known ≡ Some place → option_map (λ s. s.place) (option_or known more) ≡ Some place
place-stays None more place at = cc
place-stays (Some setup) more place at = at

shown-done : (h : History) (e : EntryValue) (b : List ℕ) (x : ShownBoard) → Comes h e → is_done e.reply ≡ true → length (order (with_entry h e) b) ≤ MEMBER_LIMIT
    → IsShown h b x → IsShown (with_entry h e) b (becomes (declines_from h e.stated.cmd) e.stated.cmd x)
shown-done h e b x comes done few is =
    let c = e.stated.cmd in
    let from = declines_from h c in
    let ordered = order-done h e b comes done in
    record {
      code = is.code;
      place = ap (option_map (λ s. s.place)) (comes.board b) ∙ place-stays (board_of h b) (said (sets_up b) e) x.place is.place;
      members = ap (λ code. moved (is_put code c) (takes_off code c) (bottom_of from c code x.place) x.members) is.code
          ∙ ap (moved (is_put b c) (takes_off b c) (bottom_of from c b x.place)) is.members
          ∙ moved-order h b x.place c (order h b) is.place (subst (λ ps. length ps ≤ MEMBER_LIMIT) ordered few)
          ∙ sym ordered;
    }

shown-refused : (h : History) (e : EntryValue) (b : List ℕ) (x : ShownBoard) → Comes h e → is_done e.reply ≡ false → IsShown h b x → IsShown (with_entry h e) b x
shown-refused h e b x comes refused is = record {
  code = is.code;
  place = ap (option_map (λ s. s.place)) (comes.board b) ∙ place-stays (board_of h b) (said (sets_up b) e) x.place is.place;
  members = is.members ∙ sym (order-refused h e b comes refused);
}

-- the board that an entry sets up
shown-new : (h : History) (e : EntryValue) (b : List ℕ) (extra : Bool) (place : List ℕ) → Comes h e → is_done e.reply ≡ true → e.stated.cmd ≡ cmd.Board b extra place
    → board_of h b ≡ None → order h b ≡ [] → IsShown (with_entry h e) b (record { code = b; place = place; members = [] })
shown-new h e b extra place comes done of new empty =
    let c = cmd.Board b extra place in
    record {
      code = refl;
      place = ap (option_map (λ s. s.place))
          (comes.board b ∙ ap (λ was. option_or was (said (sets_up b) e)) new ∙ said-done (sets_up b) e c done of
          ∙ ap (λ same. cond same (Some (record { extra = extra; place = place })) None) ((bytes_eq-Decides b b).1 refl));
      members = sym (order-done h e b comes done ∙ ap (λ d. order_by_cmd true b d (sends b h d) (order h b)) of ∙ empty);
    }

-- ---- all boards

abbrev Each : List ShownBoard → List (List ℕ) → History → Type 0
Each xs codes h = (j : ℕ) (b : List ℕ) → slice_get codes j ≡ Some b → (x : ShownBoard) × ((slice_get xs j ≡ Some x) × IsShown h b x)

each-map : (h later : History) (f : ShownBoard → ShownBoard) (xs : List ShownBoard) (codes : List (List ℕ)) → ((b : List ℕ) (x : ShownBoard) → IsShown h b x → IsShown later b (f x))
    → Each xs codes h → Each (map f xs) codes later
each-map h later f xs codes keeps each j b at =
    let was = each j b at in
    (f was.0, (slice_get-map f xs j ∙ ap (option_map f) was.1.0, keeps b was.0 was.1.1))

each-more : (h : History) (xs : List ShownBoard) (codes : List (List ℕ)) (x : ShownBoard) (b : List ℕ) → length xs ≡ length codes → IsShown h b x
    → Each xs codes h → Each (xs ++ x ∷ []) (codes ++ b ∷ []) h
each-more h [] [] x b many is each zero d at = let same : b ≡ d = cc in (x, (refl, subst (λ code. IsShown h code x) same is))
each-more h [] [] x b many is each (suc j) d at = cc
each-more h [] (code ∷ codes) x b many is each j d at = absurd (omega arith)
each-more h (y ∷ xs) [] x b many is each j d at = absurd (omega arith)
each-more h (y ∷ xs) (code ∷ codes) x b many is each zero d at = each zero d at
each-more h (y ∷ xs) (code ∷ codes) x b many is each (suc j) d at = each-more h xs codes x b (omega arith) is (λ k. each (suc k)) j d at

same-boards : (h : History) (e : EntryValue) (xs : List ShownBoard) → Comes h e → said sets_up_any e ≡ None → length xs ≡ length (boards h)
    → Each xs (boards h) (with_entry h e) → AreBoards xs (with_entry h e)
same-boards h e xs comes none many each =
    let same : boards (with_entry h e) ≡ boards h = comes.boards ∙ ap (λ o. boards h ++ cons_option o []) none ∙ append-nil (boards h) in
    record {
      many = many ∙ sym (ap length same);
      each = subst (λ codes. Each xs codes (with_entry h e)) (sym same) each;
    }

-- with the board that the command sets up
set_up-boards : (h : History) (e : EntryValue) (c : Cmd) (xs : List ShownBoard) → Comes h e → is_done e.reply ≡ true → e.stated.cmd ≡ c → RestsOn h c
    → ((b : List ℕ) → board_of h b ≡ None → order h b ≡ []) → length xs ≡ length (boards h) → Each xs (boards h) (with_entry h e) → AreBoards (set_up c xs) (with_entry h e)
set_up-boards h e (cmd.Board b extra place) xs comes done of rests empty many each =
    let one = cmd.Board b extra place in
    let x : ShownBoard = record { code = b; place = place; members = [] } in
    let more : boards (with_entry h e) ≡ boards h ++ b ∷ [] = comes.boards ∙ ap (λ o. boards h ++ cons_option o []) (said-done sets_up_any e one done of) in
    let room : nat_lt (length xs) BOARD_LIMIT ≡ true = grind (arith, nat_tests, many, rests.1) in
    let is = shown-new h e b extra place comes done of rests.0 (empty b rests.0) in
    subst (λ t. AreBoards (cond t (xs ++ x ∷ []) xs) (with_entry h e)) (sym room) (record {
      many = length-append xs (x ∷ []) ∙ ap (λ n. n + 1) many ∙ sym (ap length more ∙ length-append (boards h) (b ∷ []));
      each = subst (λ codes. Each (xs ++ x ∷ []) codes (with_entry h e)) (sym more) (each-more (with_entry h e) xs (boards h) x b many is each);
    })
set_up-boards h e other xs comes done of rests empty many each = same-boards h e xs comes (said-done sets_up_any e other done of) many each

pub boards-after : (h : History) (e : EntryValue) (xs : List ShownBoard) → Comes h e → (is_done e.reply ≡ true → RestsOn h e.stated.cmd)
    → ((b : List ℕ) → board_of h b ≡ None → order h b ≡ []) → ((b : List ℕ) → length (order (with_entry h e) b) ≤ MEMBER_LIMIT)
    → AreBoards xs h → AreBoards (boards_after (said (declines_from h) e) e xs) (with_entry h e)
boards-after h e xs comes rests empty few are = go (is_done e.reply) refl
  where
    go : (done : Bool) → is_done e.reply ≡ done → AreBoards (cond done (boards_by (cond done (declines_from h e.stated.cmd) None) e.stated.cmd xs) xs) (with_entry h e)
    go true done =
        let f = becomes (declines_from h e.stated.cmd) e.stated.cmd in
        set_up-boards h e e.stated.cmd (map f xs) comes done refl (rests done) empty (length-map xs f ∙ are.many)
        (each-map h (with_entry h e) f xs (boards h) (λ b x. shown-done h e b x comes done (few b)) are.each)
    go false refused =
        same-boards h e xs comes (said-refused sets_up_any e refused) are.many
        (λ j b at. let was = are.each j b at in (was.0, (was.1.0, shown-refused h e b was.0 comes refused was.1.1)))
