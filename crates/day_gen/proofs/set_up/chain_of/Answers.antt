use Rattle.std.proofs.Common.{◌≡◌, ◌++◌, ◌∷◌, [], ℕ, List, Option, None, Some, refl, ap, subst, ◌∙◌, arith}
use Rattle.std.specs.Option.{SomeIff}
use Rattle.qualifications.specs.declared.craft.Craft.{Craft}
use Rattle.desk_model.specs.statements.Chain.{IsChain}
use Rattle.day_gen.specs.SetUp.{pool_of, extra_of}
use Rattle.day_gen.specs.Rules.{chain_of}
use Rattle.day_gen.proofs.OpeningLemmas.{chain_valid}
use Rattle.day_gen.proofs.set_up.chain_of.Goals as goal

made-is : (made : Option (List (List ℕ))) (codes : List (List ℕ)) → IsChain codes → SomeIff made (IsChain codes) codes → made ≡ Some codes
made-is None codes is none = absurd (none is)
made-is (Some x) codes is some = ap Some some.1

-- the pool and the extra board of a craft are a chain
chain-made : (this : Craft) (one : List (List ℕ)) (more : List ℕ) (made : Option (List (List ℕ))) → one ≡ pool_of this ∷ [] → more ≡ extra_of this
    → SomeIff made (IsChain (one ++ more ∷ [])) (one ++ more ∷ []) → made ≡ Some (chain_of this)
chain-made this one more made first last is =
    let codes : one ++ more ∷ [] ≡ chain_of this = rw (first, last) refl in
    made-is made (chain_of this) (chain_valid this) (subst (λ cs. SomeIff made (IsChain cs) cs) codes is)

pub unwrap-requires : goal.unwrap-requires
unwrap-requires c =
    let made = chain-made c.args.craft c.of.result c.extra_of.result c.with.result (c.of.ensures ∙ ap (λ x. x ∷ []) c.pool_of.ensures) c.extra_of.ensures c.with.ensures in
    rw made refl

pub returns : goal.returns
returns c =
    let made = chain-made c.args.craft c.of.result c.extra_of.result c.with.result (c.of.ensures ∙ ap (λ x. x ∷ []) c.pool_of.ensures) c.extra_of.ensures c.with.ensures in
    grind (arith, made, c.unwrap.ensures)
