use Rattle.std.proofs.Common.{Some, refl, sym}
use Rattle.law_bars.proofs.LawLemmas.{law_bar-parts, free-of}
use Rattle.law_bars.proofs.section.law_bar.Goals as goal

pub returns-in-Some-clause-value : goal.returns-in-Some-clause-value
returns-in-Some-clause-value c =
    let parts = law_bar-parts c.args.events.now c.args.home c.args.moment c.args.report c.args.duty c.args.limbo c.rest_bar.result _ _ c.rest_bar.ensures refl refl in
    sym (rw c.in-Some.is at parts)

pub returns-in-Some-clause-free : goal.returns-in-Some-clause-free
returns-in-Some-clause-free c =
    let parts = law_bar-parts c.args.events.now c.args.home c.args.moment c.args.report c.args.duty c.args.limbo c.rest_bar.result _ _ c.rest_bar.ensures refl refl in
    free-of c.no_bar_where_the_law_is_kept.ensures (Some c.in-Some.bar) c.args.events.now c.args.home c.args.moment c.args.report c.args.duty c.args.limbo c.requires.lawful (sym (rw c.in-Some.is at parts))

pub returns-in-Some-days_bar-clause-value : goal.returns-in-Some-days_bar-clause-value
returns-in-Some-days_bar-clause-value c =
    let parts = law_bar-parts c.args.events.now c.args.home c.args.moment c.args.report c.args.duty c.args.limbo c.rest_bar.result c.days_bar.result _ c.rest_bar.ensures c.days_bar.ensures refl in
    sym (rw (c.in_default.is, c.in-Some-days_bar.is) at parts)

pub returns-in-Some-days_bar-clause-free : goal.returns-in-Some-days_bar-clause-free
returns-in-Some-days_bar-clause-free c =
    let parts = law_bar-parts c.args.events.now c.args.home c.args.moment c.args.report c.args.duty c.args.limbo c.rest_bar.result c.days_bar.result _ c.rest_bar.ensures c.days_bar.ensures refl in
    free-of c.no_bar_where_the_law_is_kept.ensures (Some c.in-Some-days_bar.bar) c.args.events.now c.args.home c.args.moment c.args.report c.args.duty c.args.limbo c.requires.lawful (sym (rw (c.in_default.is, c.in-Some-days_bar.is) at parts))

pub returns-clause-value : goal.returns-clause-value
returns-clause-value c =
    let parts = law_bar-parts c.args.events.now c.args.home c.args.moment c.args.report c.args.duty c.args.limbo c.rest_bar.result c.days_bar.result c.hours_bar.result c.rest_bar.ensures c.days_bar.ensures c.hours_bar.ensures in
    sym (rw (c.in_default.is, c.in_default-days_bar.is) at parts)

pub returns-clause-free : goal.returns-clause-free
returns-clause-free c =
    let parts = law_bar-parts c.args.events.now c.args.home c.args.moment c.args.report c.args.duty c.args.limbo c.rest_bar.result c.days_bar.result c.hours_bar.result c.rest_bar.ensures c.days_bar.ensures c.hours_bar.ensures in
    free-of c.no_bar_where_the_law_is_kept.ensures c.hours_bar.result c.args.events.now c.args.home c.args.moment c.args.report c.args.duty c.args.limbo c.requires.lawful (sym (rw (c.in_default.is, c.in_default-days_bar.is) at parts))
