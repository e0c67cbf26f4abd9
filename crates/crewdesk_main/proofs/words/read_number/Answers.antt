use Rattle.std.proofs.Common.{◌≡◌, ◌∙◌, decimal, sym, ap, refl, arith}
use Rattle.std.specs.Result.{result_ok}
use Rattle.std.proofs.lemmas.Bool.{false≢true}
use Rattle.std.proofs.lemmas.Bool.Decides.{Decides-eqb}
use Rattle.std.proofs.lemmas.Slice.Eq.{slice_eq-Decides}
use Rattle.std.proofs.lemmas.Fmt.{parse-decimal}
use Rattle.crewdesk_main.proofs.NumberLemmas.{number_in-decimal, number_in-none}
use Rattle.crewdesk_main.proofs.words.read_number.Goals as goal

pub returns-in_err-number : goal.returns-in_err-number
returns-in_err-number c = c.from_residual.ensures ∙ sym (number_in-none c.args.word.now (λ n small e.
    let parsed = c.ok.ensures.value ∙ ap result_ok (parse-decimal 64 n c.args.word.now c.parse.result small small e c.parse.ensures.value.0) in
    let none = c.in_err-number.was in
    cc))

pub returns-then-eq : goal.returns-then-eq
returns-then-eq c =
    let same = (slice_eq-Decides Decides-eqb _ _ _ refl).0 (sym c.eq.ensures ∙ c.if-eq.true) in
    sym (number_in-decimal c.args.word.now c.in_ok-number.number (omega arith) (sym same ∙ c.format.ensures.text))

pub returns-else-eq : goal.returns-else-eq
returns-else-eq c = sym (number_in-none c.args.word.now (λ n small e.
    let parsed = c.ok.ensures.value ∙ ap result_ok (parse-decimal 64 n c.args.word.now c.parse.result small small e c.parse.ensures.value.0) in
    let number : c.in_ok-number.number ≡ n = let some = c.in_ok-number.was in cc in
    let same = c.format.ensures.text ∙ ap decimal number ∙ sym e in
    false≢true (sym (sym c.eq.ensures ∙ c.if-eq.false) ∙ (slice_eq-Decides Decides-eqb _ _ _ refl).1 same)))
