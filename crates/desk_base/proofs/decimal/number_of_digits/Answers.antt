use Rattle.std.proofs.Common.{◌≡◌, ◌∙◌, ◌+◌, ◌*◌, ◌^◌, true, get_or, take, sym, ap, arith, add-one}
use Rattle.std.proofs.Math.Nat.{pow-suc}
use Rattle.std.proofs.lemmas.List.{take_all, take_more}
use Rattle.std.specs.Char.{is_ascii_digit}
use Rattle.std.specs.Str.{all_ascii_digits}
use Rattle.desk_base.proofs.DecimalLemmas.{number_on, number_on-more, all_ascii_digits-more, all_ascii_digits-at, decimal_digits, converted-some, converted-only}
use Rattle.desk_base.proofs.decimal.number_of_digits.Goals as goal

pub returns-then-not-is_ascii_digit-clause-only : goal.returns-then-not-is_ascii_digit-clause-only
returns-then-not-is_ascii_digit-clause-only c = λ number small e.
    let digits : all_ascii_digits c.args.text.now ≡ true = rw e (decimal_digits number small).0 in
    let here : is_ascii_digit (get_or c.args.text.now c.loop-byte.byte-index 0) ≡ true = all_ascii_digits-at c.args.text.now c.loop-byte.byte-index 0 digits c.loop-byte-test.true in
    cc (c.is_ascii_digit.ensures.value, c.if-not-is_ascii_digit.true)

pub loop-byte-preserved : goal.loop-byte-preserved
loop-byte-preserved c =
    let text = c.args.text.now in
    let i = c.loop-byte.byte-index in
    let digit = get_or text i 0 in
    let more = take_more text i 0 c.loop-byte-test.true in
    let is_digit : is_ascii_digit digit ≡ true = sym c.is_ascii_digit.ensures.value ∙ c.if-not-is_ascii_digit.false in
    let powers : 10 ^ (i + 1) ≡ 10 ^ i * 10 = rw add-one (pow-suc 10 i) in
    record {
      digits = rw more (all_ascii_digits-more (take i text) digit c.loop-byte.invariant.digits is_digit);
      is = rw (more, number_on-more 0 (take i text) digit) (omega (arith, c.loop-byte.invariant.is, c.from.ensures));
      small = rw powers (omega (arith, c.loop-byte.invariant.small, c.from.ensures, c.if-not-is_ascii_digit.ensures.cases));
    }

pub returns-clause-some : goal.returns-clause-some
returns-clause-some c =
    let text = c.args.text.now in
    let all = take_all c.loop-byte.byte-index text c.loop-byte-test.false in
    rw c.ok.ensures.value (converted-some text c.try_from.result c.loop-byte.number c.try_from.ensures (c.loop-byte.invariant.is ∙ ap (number_on 0) all) (sym (ap all_ascii_digits all) ∙ c.loop-byte.invariant.digits))

pub returns-clause-only : goal.returns-clause-only
returns-clause-only c = λ number small e.
    let text = c.args.text.now in
    let all = take_all c.loop-byte.byte-index text c.loop-byte-test.false in
    c.ok.ensures.value ∙ converted-only text c.try_from.result c.loop-byte.number number c.try_from.ensures (c.loop-byte.invariant.is ∙ ap (number_on 0) all) small e
