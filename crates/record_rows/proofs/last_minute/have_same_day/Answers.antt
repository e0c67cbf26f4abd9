use Rattle.std.proofs.Common.{◌≡◌, sym, ◌∙◌, get_or, arith}
use Rattle.std.proofs.lemmas.Bool.Decides.{nat_tests}
use Rattle.record_rows.proofs.MinuteLemmas.{same-front, same-eleven}
use Rattle.record_rows.proofs.last_minute.have_same_day.Goals as goal

pub returns : goal.returns
returns c = λ same.
    let one = c.args.one.now in
    let other = c.args.other.now in
    let last : get_or one 10 0 ≡ get_or other 10 0 = grind (arith, nat_tests, same) in
    let front = same-front one other c.told-one c.told-other c.fits-one c.fits-other (sym c.front.ensures ∙ c.if-front.false ∙ c.front-2.ensures) in
    same-eleven one other c.told-one c.told-other front c.if-one-other.false c.if-one-other-2.false last
