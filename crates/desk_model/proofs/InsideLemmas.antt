-- How a chain is kept: a board more.
use Rattle.std.proofs.Common.{◌≡◌, ℕ, ◌+◌, ◌-◌, ◌<◌, ◌≤◌, List, [], ◌∷◌, ◌++◌, length, take, drop, set, replicate, refl, sym, ap, ◌∙◌, arith, length-take, length-set}
use Rattle.std.specs.List.{Contains}
use Rattle.std.proofs.lemmas.List.{drop-drop, drop-replicate, drop-set-lt, take_more_set}
use Rattle.desk_base.specs.Code.{IsCode}
use Rattle.desk_model.specs.statements.ChainInside.{chain_boards, first_board, KeepsChain, inside_of}
use Rattle.desk_model.specs.declared.chain.Chain.TheInside.{Inside}
use Rattle.desk_model.proofs.ChainLemmas.{IsChain-push}

first_board-append : (boards more : List (List ℕ)) → 1 ≤ length boards → first_board (boards ++ more) ≡ first_board boards
first_board-append [] more some = absurd (omega (arith, some))
first_board-append (board ∷ boards) more some = refl

pub KeepsChain-push : (a : Inside) (board : List ℕ) → KeepsChain a → ¬ (a.len ≡ 4) → IsCode board → ¬ Contains (chain_boards a) board
    → KeepsChain (inside_of (set a.boards a.len board) (a.len + 1))
KeepsChain-push a board keeps not_full code new =
    let room : a.len < 4 = omega (arith, keeps.len, not_full) in
    let len : length (chain_boards a) ≡ a.len = length-take a.len a.boards ∙ omega (arith, keeps.len, keeps.boards) in
    let boards : take (a.len + 1) (set a.boards a.len board) ≡ chain_boards a ++ board ∷ [] = take_more_set a.boards a.len board (omega (arith, keeps.boards)) in
    record {
      boards = length-set a.boards a.len board ∙ keeps.boards;
      len = omega (arith, room);
      rest = drop-set-lt (a.len + 1) a.boards a.len board (omega arith) ∙ sym (drop-drop 1 a.len a.boards) ∙ ap (drop 1) keeps.rest
          ∙ drop-replicate 1 (4 - a.len) (first_board (chain_boards a)) ∙ ap (λ n. replicate n (first_board (chain_boards a))) (omega arith)
          ∙ ap (replicate (4 - (a.len + 1))) (sym (ap first_board boards ∙ first_board-append (chain_boards a) (board ∷ []) keeps.chain.some));
      chain = rw boards (IsChain-push (chain_boards a) board keeps.chain (omega (arith, len)) code new);
    }
