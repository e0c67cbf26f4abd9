use Rattle.std.proofs.Common.{◌∷◌, ◌∙◌, drop, refl, sym, ap}
use Rattle.desk_text.proofs.PartLemmas.{behind_16, with_mark, no_shorter}
use Rattle.desk_text.proofs.cut.cut_minute.Goals as goal

pub returns-in_err-minute-clause-only : goal.returns-in_err-minute-clause-only
returns-in_err-minute-clause-only c = λ minute back e. absurd (no_shorter minute _ (c.args.mark ∷ back) e c.in_err-minute.ensures.cases)

pub returns-in_err-behind-clause-only : goal.returns-in_err-behind-clause-only
returns-in_err-behind-clause-only c = λ minute back e.
    let both = behind_16 minute _ _ _ (c.args.mark ∷ back) c.in_ok-minute.ensures.cases e in
    absurd (c.in_err-behind.ensures.none back both.1)

pub returns-clause-some : goal.returns-clause-some
returns-clause-some c = with_mark c.args.mark _ _ _ _ _ c.in_ok-minute.ensures.cases refl c.in_ok-behind.ensures.some

pub returns-clause-only : goal.returns-clause-only
returns-clause-only c = λ minute back e.
    let both = behind_16 minute _ _ _ (c.args.mark ∷ back) c.in_ok-minute.ensures.cases e in
    (both.0, ap (drop 1) (sym c.in_ok-behind.ensures.some ∙ both.1))
