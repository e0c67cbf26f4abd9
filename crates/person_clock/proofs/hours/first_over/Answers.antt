use Rattle.std.proofs.Common.{◌≡◌, ℕ, ◌+◌, ◌-◌, ◌<◌, ◌≤◌, ◌^◌, Option, List, refl, sym, ap, ◌∙◌, arith}
use Rattle.desk_base.specs.Minute.{month_of}
use Rattle.desk_base.specs.Window.{WindowValue, IsWindow, end_of as window_end}
use Rattle.duty_events.specs.declared.event.Event.{Event}
use Rattle.month_hours.specs.declared.limit.Limit.{Limit}
use Rattle.month_hours.specs.declared.month_share.MonthShare.{MonthShare}
use Rattle.month_hours.specs.declared.over.Over.{Over}
use Rattle.month_hours.specs.declared.plan.Plan.{Plan}
use Rattle.month_hours.specs.Over.{so_far}
use Rattle.month_hours.specs.Plan.{end_of}
use Rattle.month_hours.specs.Shares.{added_by, over_share}
use Rattle.month_hours.proofs.OverLemmas.{here, first_over-until, first_until-here, first_until-later, first_until-none}
use Rattle.month_hours.proofs.ShareLemmas.{IsShareAt, over_share-with, added-few, shares_of-at, shares_of-length}
use Rattle.person_clock.specs.Hours.{AreSoFar}
use Rattle.person_clock.proofs.HoursLemmas.{month-in}
use Rattle.person_clock.proofs.hours.first_over.Goals as goal

-- what is found of the month at a place is what the scan finds
here-is : (l : Limit) (es : List Event) (p : Plan) (w : WindowValue) (sums : List ℕ) (i had : ℕ) (s : MonthShare) (found : Option Over)
    → IsWindow w → end_of p ≤ window_end w → AreSoFar l w sums es → IsShareAt p i s → (s.month < w.first + w.months → had ≡ so_far l es s.month)
    → (had + added_by l s < 2 ^ 32 → found ≡ over_share l had s) → found ≡ here l es p (month_of p.report + i)
here-is l es p w sums i had s found is ends are at so_far_is found_is =
    let m = month_of p.report + i in
    let month : s.month ≡ m = ap (λ x. x.month) at.is in
    let sum : had ≡ so_far l es m = so_far_is (omega (arith, month, month-in p w i is ends at.by)) ∙ ap (so_far l es) month in
    let few : had + added_by l s < 2 ^ 32 = rw (sum, at.is) (added-few l (so_far l es m) p m (are.most m)) in
    found_is few ∙ rw (sum, at.is) (over_share-with l (so_far l es m) p m)

pub loop-share-init : goal.loop-share-init
loop-share-init c es are =
    first_over-until c.args.limit.now es c.args.plan.now (month_of c.args.plan.now.report + 0) (month_of (end_of c.args.plan.now - 1) + 1) (omega arith) refl

pub returns-in-Some : goal.returns-in-Some
returns-in-Some c es are =
    let p = c.args.plan.now in
    let at = shares_of-at p c.shares-share-items.result.now c.loop-share.share-index c.share-item.result c.shares-share-items.ensures c.loop-share-test.true c.share-item.is in
    let gives = here-is c.args.limit.now es p c.args.window.now c.args.sums.now c.loop-share.share-index c.so_far-so_far.result c.share-item.result c.over_share.result c.months.ensures.range c.requires are at
    (c.so_far-so_far.ensures c.args.limit.now es are) c.over_share.ensures in
    sym (first_until-here c.args.limit.now es p _ _ _ at.by (sym c.in-Some.is ∙ gives)) ∙ c.loop-share.invariant es are

pub loop-share-preserved : goal.loop-share-preserved
loop-share-preserved c es are =
    let p = c.args.plan.now in
    let at = shares_of-at p c.shares-share-items.result.now c.loop-share.share-index c.share-item.result c.shares-share-items.ensures c.loop-share-test.true c.share-item.is in
    let gives = here-is c.args.limit.now es p c.args.window.now c.args.sums.now c.loop-share.share-index c.so_far-so_far.result c.share-item.result c.over_share.result c.months.ensures.range c.requires are at
    (c.so_far-so_far.ensures c.args.limit.now es are) c.over_share.ensures in
    let next : month_of p.report + (c.loop-share.share-index + 1) ≡ month_of p.report + c.loop-share.share-index + 1 = omega arith in
    rw next (sym (first_until-later c.args.limit.now es p _ _ at.by (sym c.in_default.is ∙ gives)) ∙ c.loop-share.invariant es are)

pub returns : goal.returns
returns c es are =
    let p = c.args.plan.now in
    sym (first_until-none c.args.limit.now es p _ _ (omega (arith, shares_of-length p c.shares-share-items.result.now c.shares-share-items.ensures, c.loop-share-test.false))) ∙ c.loop-share.invariant es are
