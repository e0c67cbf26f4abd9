-- How a chain is kept: four codes, of which the first are its boards and the others are the first again.
use Rattle.std.specs.Prelude.{◌≡◌, ℕ, ◌-◌, ◌≤◌, List, [], ◌∷◌, ◌++◌, length, take, drop, replicate}
use Rattle.std.proofs.Common.{sym, ap, ◌∙◌, arith, length-take, take-append-drop}
use Rattle.desk_model.specs.statements.Chain.{IsChain}
use Rattle.desk_model.specs.declared.chain.Chain.TheInside.{Inside}

-- the boards of what is kept
abbrev pub chain_boards : Inside → List (List ℕ)
chain_boards a = take a.len a.boards

-- the board that is called first
abbrev pub first_board : List (List ℕ) → List ℕ
first_board [] = []
first_board (board ∷ boards) = board

-- what fills the four up behind this many boards
abbrev pub filling : List (List ℕ) → ℕ → List (List ℕ)
filling boards len = replicate (4 - len) (first_board boards)

-- the boards are a chain, and the rest is filled up
pub record KeepsChain (a : Inside) : Type 0 where
  pub boards : length a.boards ≡ 4
  pub len : a.len ≤ 4
  pub rest : drop a.len a.boards ≡ filling (take a.len a.boards) a.len
  pub chain : IsChain (take a.len a.boards)

abbrev pub inside_of : List (List ℕ) → ℕ → Inside
inside_of boards len = record { boards = boards; len = len }

-- how a chain of these boards is kept
abbrev pub chain_inside : List (List ℕ) → Inside
chain_inside boards = inside_of (boards ++ filling boards (length boards)) (length boards)

-- the boards give back what is kept
pub chain_inside-chain_boards : (a : Inside) → KeepsChain a → chain_inside (chain_boards a) ≡ a
chain_inside-chain_boards a k =
    let len : length (take a.len a.boards) ≡ a.len = length-take a.len a.boards ∙ omega (arith, k.len, k.boards) in
    let boards : take a.len a.boards ++ filling (take a.len a.boards) (length (take a.len a.boards)) ≡ a.boards =
    ap (λ n. take a.len a.boards ++ filling (take a.len a.boards) n) len ∙ ap (λ rest. take a.len a.boards ++ rest) (sym k.rest) ∙ take-append-drop a.len a.boards in
    ap (λ b. inside_of b (length (take a.len a.boards))) boards ∙ ap (inside_of a.boards) len
