use Rattle.std.proofs.Common.{length, [], ◌∷◌, ◌++◌, sym, ap, ◌∙◌}
use Rattle.std.proofs.lemmas.Bool.{eqb-true, eqb-false}
use Rattle.desk_model.proofs.ChainLemmas.{chain_text-first, chain_text-later}
use Rattle.desk_model.proofs.chain.put_code.Goals as goal
use Rattle.desk_model.proofs.chain.put_code.Goals.{then-not-is_empty, else-not-is_empty}

pub returns : goal.returns
returns c boards codes e =
    let extended = rw (c.unwrap.ensures, c.text.ensures.value) at c.try_extend_from_slice.ensures.ok in
    elim c.if-not-is_empty.branch [
      | then-not-is_empty w ↦ extended ∙ ap (λ t. t.items ++ c.args.code.now) w.text-is ∙ ap (λ t. t ++ c.args.code.now) w.push.ensures.items
          ∙ ap (λ t. (t ++ 43 ∷ []) ++ c.args.code.now) e ∙ chain_text-later boards c.args.code.now
          (λ none. eqb-false _ _ (sym c.is_empty.ensures ∙ w.if-not-is_empty.true) (ap length e ∙ none))
      | else-not-is_empty w ↦ extended ∙ ap (λ t. t.items ++ c.args.code.now) w.text-is ∙ ap (λ t. t ++ c.args.code.now) e
          ∙ chain_text-first boards c.args.code.now codes
          (sym (ap length e) ∙ eqb-true _ _ (sym c.is_empty.ensures ∙ w.if-not-is_empty.false))
    ]
