use Rattle.std.proofs.Common.{◌≡◌, ◌+◌, false, true, nat_eq, nat_le, refl, sym, ◌∙◌, arith}
use Rattle.std.proofs.lemmas.Bool.Decides.{nat_tests, Decides-at}
use Rattle.rest_rules.specs.declared.rest.TheConstants.{REST}
use Rattle.rest_rules.specs.OffFrom.{off_from}
use Rattle.rest_rules.specs.Rest.{rest_ok}
use Rattle.rest_rules.proofs.RestLemmas.{rest_ok-decides}
use Rattle.rest_rules.proofs.rest.rest_ok.Goals as goal

pub returns-then-are_ten_hours-clause-cases : goal.returns-then-are_ten_hours-clause-cases
returns-then-are_ten_hours-clause-cases c =
    let es = c.args.events.now in
    let value : c.number-off_from.result ≡ off_from es = c.number-off_from.ensures.value ∙ c.off_from.ensures.value in
    let some : nat_eq (off_from es) 0 ≡ false = grind (arith, nat_tests, c.if-off_from-eq0.false, value) in
    let ten : nat_le (off_from es + REST) c.args.at ≡ true = rw (value, c.number.ensures.value, c.if-are_ten_hours.true) at (sym c.are_ten_hours.ensures) in
    let same : c.was_off.result ≡ rest_ok es c.args.at c.args.more = c.was_off.ensures ∙ rw (c.from.ensures, some, ten) refl in
    Decides-at c.was_off.result (rest_ok es c.args.at c.args.more) same (rest_ok-decides es c.requires c.args.at c.args.more)
