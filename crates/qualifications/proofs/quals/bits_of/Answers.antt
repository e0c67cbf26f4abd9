use Rattle.std.proofs.Common.{◌≡◌, ◌<◌, ◌*◌, ◌%◌, ◌^◌, ◌∷◌, ◌++◌, [], ℕ, ◌∙◌, sym, ap, arith, Some, map, decimal, append_assoc, append-nil}
use Rattle.std.specs.Option.{option_copied}
use Rattle.std.proofs.lemmas.Slice.Eq.{slice_eq-Decides}
use Rattle.std.proofs.lemmas.Bool.{false≢true}
use Rattle.std.proofs.lemmas.Bool.Decides.{Decides-eqb}
use Rattle.std.proofs.lemmas.List.{map-append}
use Rattle.std.proofs.Math.Nat.{mod-eq_of_lt}
use Rattle.std.proofs.Math.Pow.{pow-lt}
use Rattle.desk_base.specs.Parts.{parts_by, parts_after}
use Rattle.qualifications.specs.Quals.{quals_text, numbers_below}
use Rattle.qualifications.proofs.NumbersLemmas.{IsLeft-all, IsLeft-next, IsLeft-none, IsNextOf, numbers-next, text-of_parts, quals_text-dash, quals_text-zero, numbers-zero}
use Rattle.qualifications.proofs.quals.bits_of.Goals as goal
use Rattle.qualifications.proofs.quals.bits_of.Goals.{After-split_once}

pub returns-then-eq-clause-some : goal.returns-then-eq-clause-some
returns-then-eq-clause-some c = (slice_eq-Decides Decides-eqb _ _ _ c.eq.ensures).0 c.if-eq.true ∙ c.as_slice.ensures ∙ sym quals_text-zero

pub returns-then-eq-clause-only : goal.returns-then-eq-clause-only
returns-then-eq-clause-only c quals small e =
    ap Some (quals_text-dash quals small (sym c.as_slice.ensures ∙ sym ((slice_eq-Decides Decides-eqb _ _ _ c.eq.ensures).0 c.if-eq.true) ∙ e))

pub loop-rest-init : goal.loop-rest-init
loop-rest-init c = record {
  parts = ap (λ ns. map decimal ns ++ parts_by 43 c.args.text.now) (sym numbers-zero);
  lacked = λ quals small e. IsLeft-all quals c.args.text.now e
      (λ dash. false≢true (sym c.if-eq.false ∙ (slice_eq-Decides Decides-eqb _ _ _ c.eq.ensures).1 (dash ∙ sym c.as_slice.ensures)));
}

-- the part that is split off is the next number of the set
next : (c : After-split_once) (quals : ℕ) → quals < 2 ^ 64 → c.args.text.now ≡ quals_text quals
    → IsNextOf quals c.loop-rest.bits c.split_once.result.0.now (parts_after 43 (option_copied c.split_once.result.1))
next c quals small e =
    IsLeft-next quals c.loop-rest.bits _ _ _ (ap (λ rest. parts_after 43 (option_copied rest)) c.in-Some.is ∙ c.split_once.ensures.parts) (c.loop-rest.invariant.lacked quals small e)

low_bit : (n : ℕ) → n < 64 → (1 * 2 ^ n) % 2 ^ 64 ≡ 1 * 2 ^ n
low_bit n h = mod-eq_of_lt (omega (arith, pow-lt h))

pub loop-rest-preserved : goal.loop-rest-preserved
loop-rest-preserved c =
    let bit = low_bit c.in_ok-number.number (omega arith) in
    let split = c.loop-rest.invariant.parts ∙ ap (λ rest. map decimal (numbers_below c.loop-rest.bits 64) ++ parts_after 43 (option_copied rest)) c.in-Some.is
    ∙ ap (λ parts. map decimal (numbers_below c.loop-rest.bits 64) ++ parts) c.split_once.ensures.parts in
    let part = ap (λ part. map decimal (numbers_below c.loop-rest.bits 64) ++ (part ∷ parts_after 43 (option_copied c.split_once.result.1))) (c.in_ok-number.ensures.some) in
    let grown = numbers-next c.loop-rest.bits c.in_ok-number.number (omega arith) c.if-bits-number-ne0.false in
    record {
      parts = rw (bit, grown, map-append decimal (numbers_below c.loop-rest.bits 64) (c.in_ok-number.number ∷ []), append_assoc (map decimal (numbers_below c.loop-rest.bits 64)) (decimal c.in_ok-number.number ∷ []) (parts_after 43 (option_copied c.split_once.result.1)))
          (split ∙ part);
      lacked = λ quals small e.
          let next = next (goal.at.loop-rest-preserved c).After-split_once quals small e in
          let read = c.read_decimal.ensures.only next.number (omega (arith, next.most)) next.part_is in
          let found = c.in_ok-number.was in
          let number_is : next.number ≡ c.in_ok-number.number = cc in
          rw (bit, ← number_is) next.left;
    }

pub returns-in_err-number-clause-only : goal.returns-in_err-number-clause-only
returns-in_err-number-clause-only c quals small e =
    let next = next (goal.at.returns-in_err-number-clause-only c).After-split_once quals small e in
    let read = c.read_decimal.ensures.only next.number (omega (arith, next.most)) next.part_is in
    let failed = c.in_err-number.was in cc

pub returns-then-number-gt63-clause-only : goal.returns-then-number-gt63-clause-only
returns-then-number-gt63-clause-only c quals small e =
    let next = next (goal.at.returns-then-number-gt63-clause-only c).After-split_once quals small e in
    let read = c.read_decimal.ensures.only next.number (omega (arith, next.most)) next.part_is in
    let found = c.in_ok-number.was in
    let number_is : next.number ≡ c.in_ok-number.number = cc in
    absurd (omega (arith, next.most, number_is, c.if-number-gt63.true))

pub returns-then-bits-number-ne0-clause-only : goal.returns-then-bits-number-ne0-clause-only
returns-then-bits-number-ne0-clause-only c quals small e =
    let next = next (goal.at.returns-then-bits-number-ne0-clause-only c).After-split_once quals small e in
    let read = c.read_decimal.ensures.only next.number (omega (arith, next.most)) next.part_is in
    let found = c.in_ok-number.was in
    let number_is : next.number ≡ c.in_ok-number.number = cc in
    absurd (c.if-bits-number-ne0.true (rw number_is at next.above))

pub returns-clause-some : goal.returns-clause-some
returns-clause-some c =
    text-of_parts c.args.text.now c.loop-rest.bits (c.loop-rest.invariant.parts ∙ ap (λ rest. map decimal (numbers_below c.loop-rest.bits 64) ++ parts_after 43 (option_copied rest)) c.in_default.is ∙ append-nil (map decimal (numbers_below c.loop-rest.bits 64)))

pub returns-clause-only : goal.returns-clause-only
returns-clause-only c quals small e = ap Some (IsLeft-none quals c.loop-rest.bits small (rw c.in_default.is at (c.loop-rest.invariant.lacked quals small e)))
