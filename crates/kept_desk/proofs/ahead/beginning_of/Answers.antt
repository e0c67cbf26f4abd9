use Rattle.std.proofs.Common.{◌≡◌, ℕ, map}
use Rattle.kept_desk.specs.Beginning.{BeginsAt}
use Rattle.kept_desk.proofs.AheadLemmas.{begins, first-is}
use Rattle.kept_desk.proofs.ahead.beginning_of.Goals as goal

pub returns : goal.returns
returns c =
    let first = λ (m : ℕ) (at : BeginsAt (map (λ field. field.now) c.args.fields.now) m).
    let read = c.in_ok-read.ensures.only m at.in_years (first-is c.args.fields.now _ _ _ at.fields_are) in
    let same : c.in_ok-read.field-0 ≡ m = cc in
    same
    in
    begins _ _ c.crew_minute.result _ first c.crew_minute.ensures.some c.crew_minute.ensures.none c.is_some.ensures
