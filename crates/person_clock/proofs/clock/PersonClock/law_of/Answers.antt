use Rattle.std.proofs.Common.{◌≡◌, ◌≤◌, [], ◌∷◌, refl, sym, ap, subst, ◌∙◌, arith}
use Rattle.duty_events.specs.declared.stage.Stage.TheVariants as stage
use Rattle.duty_events.specs.Lists.{stage_of, last_event, reached}
use Rattle.denial_rules.specs.Table.{first_some}
use Rattle.law_bars.specs.Law.{month_row, limbo_row, law_bar}
use Rattle.law_bars.proofs.LawLemmas.{law_bar-parts}
use Rattle.person_clock.specs.Clock.{minute_of, Stands}
use Rattle.person_clock.proofs.ClockLemmas.{used-so_far, capped-so_far}
use Rattle.person_clock.proofs.RestLemmas.{minute_of-latest}
use Rattle.person_clock.proofs.clock.PersonClock.law_of.Goals as goal

pub returns-in-Some : goal.returns-in-Some
returns-in-Some c es stands =
    let kept = subst (λ v. Stands v es) (sym c.self.view_is) stands in
    let off : stage_of es ≡ stage.Off = sym stands.totals.at ∙ c.requires.off in
    let late : reached (last_event es) ≤ c.args.moment = omega (arith, c.requires.moment, ap minute_of stands.totals.came, minute_of-latest (last_event es)) in
    let rest = rw c.plan-report.ensures at (c.rest_bar.ensures es kept.totals.lawful off late kept.rested) in
    let parts = law_bar-parts es c.self.inside.home c.args.moment c.args.plan.now.report c.args.plan.now.duty c.args.plan.now.limbo c.rest_bar.result _ _ rest refl refl in
    sym (rw c.in-Some.is at parts) ∙ ap (λ v. law_bar es v.home c.args.moment c.args.plan.now.report c.args.plan.now.duty c.args.plan.now.limbo) c.self.view_is

pub returns-in-Some-days_bar : goal.returns-in-Some-days_bar
returns-in-Some-days_bar c es stands =
    let kept = subst (λ v. Stands v es) (sym c.self.view_is) stands in
    let off : stage_of es ≡ stage.Off = sym stands.totals.at ∙ c.requires.off in
    let late : reached (last_event es) ≤ c.args.moment = omega (arith, c.requires.moment, ap minute_of stands.totals.came, minute_of-latest (last_event es)) in
    let later : reached (last_event es) ≤ c.plan-report.result.report = omega (arith, late, c.requires.report, ap (λ p. p.report) c.plan-report.ensures) in
    let rest = rw c.plan-report.ensures at (c.rest_bar.ensures es kept.totals.lawful off late kept.rested) in
    let days = rw c.plan-report.ensures at (c.days_bar.ensures es kept.totals.lawful off later kept.stayed) in
    let parts = law_bar-parts es c.self.inside.home c.args.moment c.args.plan.now.report c.args.plan.now.duty c.args.plan.now.limbo c.rest_bar.result c.days_bar.result _ rest days refl in
    sym (rw (c.in_default.is, c.in-Some-days_bar.is) at parts) ∙ ap (λ v. law_bar es v.home c.args.moment c.args.plan.now.report c.args.plan.now.duty c.args.plan.now.limbo) c.self.view_is

pub returns : goal.returns
returns c es stands =
    let kept = subst (λ v. Stands v es) (sym c.self.view_is) stands in
    let off : stage_of es ≡ stage.Off = sym stands.totals.at ∙ c.requires.off in
    let late : reached (last_event es) ≤ c.args.moment = omega (arith, c.requires.moment, ap minute_of stands.totals.came, minute_of-latest (last_event es)) in
    let later : reached (last_event es) ≤ c.plan-report.result.report = omega (arith, late, c.requires.report, ap (λ p. p.report) c.plan-report.ensures) in
    let rest = rw c.plan-report.ensures at (c.rest_bar.ensures es kept.totals.lawful off late kept.rested) in
    let days = rw c.plan-report.ensures at (c.days_bar.ensures es kept.totals.lawful off later kept.stayed) in
    let hours : c.hours_bar.result ≡ first_some (month_row es c.args.plan.now.report c.args.plan.now.duty c.args.plan.now.limbo ∷ limbo_row es c.args.plan.now.report c.args.plan.now.duty c.args.plan.now.limbo ∷ []) =
    c.hours_bar.ensures es (used-so_far _ es kept) (capped-so_far _ es kept) in
    let parts = law_bar-parts es c.self.inside.home c.args.moment c.args.plan.now.report c.args.plan.now.duty c.args.plan.now.limbo c.rest_bar.result c.days_bar.result c.hours_bar.result rest days hours in
    sym (rw (c.in_default.is, c.in_default-days_bar.is) at parts) ∙ ap (λ v. law_bar es v.home c.args.moment c.args.plan.now.report c.args.plan.now.duty c.args.plan.now.limbo) c.self.view_is
