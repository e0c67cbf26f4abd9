use Rattle.std.proofs.Common.{◌≡◌, ◌<◌, ◌++◌, ◌∷◌, [], sym, ap, ◌∙◌, length, take, arith, length-take}
use Rattle.std.specs.List.{Contains}
use Rattle.std.proofs.lemmas.Bool.{false≢true}
use Rattle.std.proofs.lemmas.List.{take_more_set}
use Rattle.desk_model.proofs.ChainLemmas.{IsChain-full, IsChain-twice, IsChain-push}
use Rattle.desk_model.proofs.InsideLemmas.{KeepsChain-push}
use Rattle.desk_model.proofs.chain.Chain.with.Goals as goal
use Rattle.desk_model.proofs.chain.Chain.with.Goals.{After-index-boards-self, then-self-eq4-via-then-self-eq4, then-self-eq4-via-else-self-eq4+then-has}

pub returns-then-self-eq4 : goal.returns-then-self-eq4
returns-then-self-eq4 c = elim c.then-self-eq4.branch [
  | then-self-eq4-via-then-self-eq4 w ↦
      let boards : take c.self.inside.len c.self.inside.boards ≡ c.args.self = c.self.view_is in
      IsChain-full c.args.self c.args.board
      (omega (arith, ap length boards, length-take c.self.inside.len c.self.inside.boards, c.self.invariant.boards, w.if-self-eq4.true))
  | then-self-eq4-via-else-self-eq4+then-has w ↦ IsChain-twice c.args.self c.args.board (w.has.ensures.0 w.if-has.true)
]

-- the chain has not this board
has_not : (c : After-index-boards-self) → ¬ Contains c.args.self c.args.board
has_not c has = false≢true (sym c.if-has.false ∙ c.has.ensures.1 has)

pub invariant_of-result : goal.invariant_of-result
invariant_of-result c =
    KeepsChain-push c.self.inside c.args.board c.self.invariant c.if-self-eq4.false c.requires (rw c.self.view_is (has_not c))

pub returns : goal.returns
returns c =
    let boards : take c.self.inside.len c.self.inside.boards ≡ c.args.self = c.self.view_is in
    let len = length-take c.self.inside.len c.self.inside.boards in
    let short : length c.args.self < 4 = omega (arith, ap length boards, len, c.self.invariant.len, c.if-self-eq4.false) in (
      IsChain-push c.args.self c.args.board (rw boards at c.self.invariant.chain) short c.requires (has_not c),
      take_more_set c.self.inside.boards c.self.inside.len c.args.board (omega (arith, c.self.invariant.len, c.self.invariant.boards, c.if-self-eq4.false))
          ∙ ap (λ b. b ++ c.args.board ∷ []) boards,
    )
