use Rattle.std.proofs.Common.{◌≡◌, ◌∙◌, ℕ, List, refl, sym, ap, arith, length, [], ◌∷◌, ◌++◌}
use Rattle.std.proofs.lemmas.Bool.{eqb-true, eqb-false}
use Rattle.qualifications.specs.Quals.{joined, numbers_below, with_number}
use Rattle.qualifications.proofs.NumbersLemmas.{joined-zero, joined-had, numbers_below-none, quals_text-none, quals_text-some}
use Rattle.qualifications.proofs.quals.Quals.write.Goals as goal
use Rattle.qualifications.proofs.quals.Quals.write.Goals.{In_default}

pub loop-number-init : goal.loop-number-init
loop-number-init c = record {
  text_is = c.new-text.ensures ∙ sym (joined-zero c.args.self);
  room = omega (arith, ap length c.new-text.ensures);
  most = omega arith;
}

pub first_from-requires : goal.first_from-requires
first_from-requires c = c.loop-number.invariant.most

pub put_number-requires-clause-room : goal.put_number-requires-clause-room
put_number-requires-clause-room c = omega (arith, c.loop-number.invariant.room, c.in-Some.ensures.some)

pub loop-number-smaller : goal.loop-number-smaller
loop-number-smaller c = omega (arith, c.in-Some.ensures.some)

pub loop-number-preserved : goal.loop-number-preserved
loop-number-preserved c =
    let found = c.in-Some.ensures.some in
    record {
      text_is = c.put_number.ensures.text ∙ ap (λ t. with_number t c.in-Some.number) (c.loop-number.invariant.text_is ∙ ap joined (numbers_below-none c.args.self c.loop-number.from c.in-Some.number found.0 found.3))
          ∙ joined-had c.args.self c.in-Some.number (omega (arith, found.1)) found.2;
      room = omega (arith, c.put_number.ensures.len, c.loop-number.invariant.room, found.0);
      most = omega (arith, found.1);
    }

-- the text of the loop's end
written : (c : In_default) → c.loop-number.text.items ≡ joined (numbers_below c.args.self 64)
written c = c.loop-number.invariant.text_is ∙ ap joined (numbers_below-none c.args.self c.loop-number.from 64 c.loop-number.invariant.most c.in_default.ensures.none)

pub returns-then-is_empty : goal.returns-then-is_empty
returns-then-is_empty c =
    let text = written (goal.at.returns-then-is_empty c).In_default in
    let none : length c.loop-number.text.items ≡ 0 = eqb-true _ _ (sym c.is_empty.ensures ∙ c.if-is_empty.true) in
    c.push.ensures.items ∙ ap (λ t. t ++ 45 ∷ []) (no_bytes c.loop-number.text.items none) ∙ sym (quals_text-none c.args.self (sym (ap length text) ∙ none))
  where
    no_bytes : (t : List ℕ) → length t ≡ 0 → t ≡ []
    no_bytes [] e = refl
    no_bytes (b ∷ t) e = absurd (omega arith)

pub returns-else-is_empty : goal.returns-else-is_empty
returns-else-is_empty c =
    let text = written (goal.at.returns-else-is_empty c).In_default in
    let some = eqb-false _ _ (sym c.is_empty.ensures ∙ c.if-is_empty.false) in
    text ∙ sym (quals_text-some c.args.self (λ e. some (ap length text ∙ e)))
