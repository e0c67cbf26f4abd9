use Rattle.std.proofs.Common.{◌≡◌, ◌+◌, ◌<◌, sym, subst, ◌∙◌, arith}
use Rattle.std.proofs.lemmas.Bool.Decides.{nat_tests}
use Rattle.rest_rules.specs.declared.rest.TheConstants.{REST}
use Rattle.rest_rules.specs.OffFrom.{off_from}
use Rattle.rest_rules.specs.Excess.{excess}
use Rattle.rest_rules.specs.Rest.{rest_end, EndsRest}
use Rattle.rest_rules.proofs.RestLemmas.{end-taken, end-owed, rest_end-law}
use Rattle.rest_rules.proofs.rest.rest_end.Goals as goal

pub after-requires-else-was_off : goal.after-requires-else-was_off
after-requires-else-was_off c =
    grind (arith, c.off_from-off_from.ensures.range, c.from-excess.ensures, c.excess.ensures.range)

pub returns-then-was_off-clause-law : goal.returns-then-was_off-clause-law
returns-then-was_off-clause-law c =
    let es = c.args.events.now in
    let value = c.off_from-off_from.ensures.value in
    let some : 0 < off_from es = grind (arith, nat_tests, c.if-eq.false, c.eq.ensures, value) in
    let taken = rw (c.from-excess.ensures, c.excess.ensures.value, value, c.if-was_off.true) at c.was_off.ensures in
    let end : c.after.result ≡ rest_end es = rw (c.after.ensures, value) (sym (end-taken es some (sym taken))) in
    subst (EndsRest es) (sym end) (rest_end-law es c.requires.lawful c.requires.off)

pub returns-else-was_off-clause-law : goal.returns-else-was_off-clause-law
returns-else-was_off-clause-law c =
    let es = c.args.events.now in
    let value = c.off_from-off_from.ensures.value in
    let some : 0 < off_from es = grind (arith, nat_tests, c.if-eq.false, c.eq.ensures, value) in
    let owed = rw (c.from-excess.ensures, c.excess.ensures.value, value, c.if-was_off.false) at c.was_off.ensures in
    let sum : off_from es + (REST + excess es) ≡ off_from es + REST + excess es = omega arith in
    let end : c.after-else-was_off.result ≡ rest_end es = rw (c.after-else-was_off.ensures, c.from-excess.ensures, c.excess.ensures.value, value) (sum ∙ sym (end-owed es some (sym owed))) in
    subst (EndsRest es) (sym end) (rest_end-law es c.requires.lawful c.requires.off)
