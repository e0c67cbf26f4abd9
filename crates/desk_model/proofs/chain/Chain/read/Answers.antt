use Rattle.std.proofs.Common.{◌≡◌, ℕ, List, [], ◌++◌, ◌∷◌, Some, sym, ap, ◌∙◌, append-nil}
use Rattle.std.specs.Option.{option_copied}
use Rattle.std.proofs.lemmas.List.Splits.{join_with_byte-slice_split}
use Rattle.desk_base.specs.Parts.{parts_by, parts_after}
use Rattle.desk_model.specs.statements.Chain.{IsChain, chain_text}
use Rattle.desk_model.proofs.ChainLemmas.{boards_are, next_code, next_chain}
use Rattle.desk_model.proofs.chain.Chain.read.Goals as goal
use Rattle.desk_model.proofs.chain.Chain.read.Goals.{After-split_once-in-Some, In_default}

-- the part that is split off is the next board
next : (c : After-split_once-in-Some) (boards : List (List ℕ)) → IsChain boards → c.args.text.now ≡ chain_text boards
    → IsChain (c.loop-rest.chain ++ c.split_once-in-Some.result.0.now ∷ parts_after 43 (option_copied c.split_once-in-Some.result.1))
next c boards chain e =
    rw (boards_are boards c.args.text.now _ chain e (c.loop-rest.invariant.parts
    ∙ ap (λ rest. c.loop-rest.chain ++ parts_after 43 (option_copied rest)) c.in-Some.is
    ∙ ap (λ parts. c.loop-rest.chain ++ parts) c.split_once-in-Some.ensures.parts)) at chain

-- and where no part is left, the boards are the chain
last : (c : In_default) → parts_by 43 c.args.text.now ≡ c.loop-rest.chain
last c =
    c.loop-rest.invariant.parts ∙ ap (λ rest. c.loop-rest.chain ++ parts_after 43 (option_copied rest)) c.in_default.is ∙ append-nil c.loop-rest.chain

pub returns-in_err-read-clause-only : goal.returns-in_err-read-clause-only
returns-in_err-read-clause-only c boards chain e =
    absurd (c.in_err-read.ensures (next_code [] _ _ (rw (boards_are boards c.args.text.now _ chain e c.split_once.ensures.parts) at chain)))

pub returns-in_err-read-2-clause-only : goal.returns-in_err-read-2-clause-only
returns-in_err-read-2-clause-only c boards chain e =
    absurd (c.in_err-read-2.ensures (next_code _ _ _ (next (goal.at.returns-in_err-read-2-clause-only c).After-split_once-in-Some boards chain e)))

pub returns-in_err-chain-clause-only : goal.returns-in_err-chain-clause-only
returns-in_err-chain-clause-only c boards chain e =
    let up_to = next_chain _ _ _ (next (goal.at.returns-in_err-chain-clause-only c).After-split_once-in-Some boards chain e) in
    absurd (c.in_err-chain.ensures (rw (← c.in_ok-read-2.ensures.1) at up_to))

pub returns-clause-some : goal.returns-clause-some
returns-clause-some c =
    (c.loop-rest.invariant.chain, sym (join_with_byte-slice_split 43 c.args.text.now) ∙ ap chain_text (last c))

pub returns-clause-only : goal.returns-clause-only
returns-clause-only c boards chain e = ap Some (sym (boards_are boards c.args.text.now c.loop-rest.chain chain e (last c)))
