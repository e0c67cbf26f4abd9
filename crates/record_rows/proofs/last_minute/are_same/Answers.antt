use Rattle.std.proofs.Common.{◌≡◌, ap, sym, ◌∙◌, ◌++◌, take, drop, arith}
use Rattle.std.proofs.lemmas.List.{take-append-drop}
use Rattle.std.proofs.lemmas.Bool.Decides.{nat_tests}
use Rattle.record_rows.proofs.MinuteLemmas.{same-front, same-back}
use Rattle.record_rows.proofs.last_minute.are_same.Goals as goal

pub returns : goal.returns
returns c = λ same.
    let one = c.args.one.now in
    let other = c.args.other.now in
    let number : c.back.result ≡ c.back-2.result = grind (arith, nat_tests, same) in
    let front = same-front one other c.told-one c.told-other c.fits-one c.fits-other (sym c.front.ensures ∙ c.if-front.false ∙ c.front-2.ensures) in
    let back = same-back one other c.told-one c.told-other c.fits-one c.fits-other (sym c.back.ensures ∙ number ∙ c.back-2.ensures) in
    sym (take-append-drop 8 one) ∙ ap (λ xs. xs ++ drop 8 one) front ∙ ap (λ xs. take 8 other ++ xs) back ∙ take-append-drop 8 other
