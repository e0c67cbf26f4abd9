use Rattle.std.proofs.Common.{◌≡◌, ◌+◌, ◌-◌, None, Some, sym, ap, ◌∙◌}
use Rattle.desk_base.specs.Minute.{month_of}
use Rattle.month_hours.specs.Over.{over_with}
use Rattle.month_hours.specs.Plan.{end_of}
use Rattle.month_hours.proofs.OverLemmas.{here, first_over-until, first_until-here, first_until-later, first_until-none}
use Rattle.month_hours.proofs.limit.Limit.first_over.Goals as goal

pub loop-number-init : goal.loop-number-init
loop-number-init c =
    let last : c.in_ok-last_minute.last_minute ≡ end_of c.args.plan.now - 1 = c.in_ok-last_minute.ensures.1 ∙ c.saturating_sub.ensures ∙ ap (λ n. n - 1) c.end.ensures in
    let end : c.number-end.result ≡ month_of (end_of c.args.plan.now - 1) = c.number-end.ensures.value ∙ c.of-2.ensures.value ∙ ap month_of last in
    first_over-until c.args.self.now c.args.events.now c.args.plan.now _ _ (c.number-first.ensures.value ∙ c.of.ensures.value) (ap (λ n. n + 1) end)

pub loop-number-preserved : goal.loop-number-preserved
loop-number-preserved c =
    let same : c.in_ok-month.month ≡ c.loop-number.number = c.in_ok-month.ensures.1 in
    let gives : None ≡ here c.args.self.now c.args.events.now c.args.plan.now c.loop-number.number = rw (sym same) (sym c.in_default.is ∙ c.over_with.ensures ∙ ap (λ n. over_with c.args.self.now n c.args.plan.now c.in_ok-month.month) c.so_far-so_far.ensures.value) in
    sym (first_until-later c.args.self.now c.args.events.now c.args.plan.now _ _ c.loop-number-test.true gives) ∙ c.loop-number.invariant

pub returns-in-Some : goal.returns-in-Some
returns-in-Some c =
    let same : c.in_ok-month.month ≡ c.loop-number.number = c.in_ok-month.ensures.1 in
    let gives : Some c.in-Some.over ≡ here c.args.self.now c.args.events.now c.args.plan.now c.loop-number.number = rw (sym same) (sym c.in-Some.is ∙ c.over_with.ensures ∙ ap (λ n. over_with c.args.self.now n c.args.plan.now c.in_ok-month.month) c.so_far-so_far.ensures.value) in
    sym (first_until-here c.args.self.now c.args.events.now c.args.plan.now _ _ _ c.loop-number-test.true gives) ∙ c.loop-number.invariant

pub returns : goal.returns
returns c = sym (first_until-none c.args.self.now c.args.events.now c.args.plan.now _ _ c.loop-number-test.false) ∙ c.loop-number.invariant
