use Rattle.std.proofs.Common.{◌≡◌, Option, sym, ap, ◌∙◌}
use Rattle.std.specs.Option.{option_or}
use Rattle.denial_rules.specs.declared.bar.Bar.{Bar}
use Rattle.denial_rules.specs.declared.facts.Facts.{Facts}
use Rattle.denial_rules.specs.Table.{first_bar, without_law}
use Rattle.desk_model.specs.offers.Held.{held}
use Rattle.desk_model.specs.offers.Bars.{facts_of}
use Rattle.fast_core.proofs.kept_desk.KeptDesk.bar_by_facts.Goals as goal

-- what is found by the facts that are known but for the law is found before the law's bar
first_bar-known : (facts known : Facts) (found : Option Bar) → first_bar facts ≡ option_or (first_bar (without_law facts)) facts.law
    → known ≡ without_law facts → found ≡ first_bar known → first_bar facts ≡ option_or found facts.law
first_bar-known facts known found last own is = last ∙ ap (λ o. option_or o facts.law) (ap first_bar (sym own) ∙ sym is)

pub returns-in-Some : goal.returns-in-Some
returns-in-Some c h p who tells asked is known =
    let a = c.args.asked.now in
    let facts = facts_of h a.moment a.job.now p who in
    let until = c.held-until.ensures h p tells is.index ∙ ap (λ chain. held h a.moment chain p) c.chain.ensures in
    sym (first_bar-known facts c.facts.result _ (c.the_law_comes_last.ensures facts) (c.facts.ensures h p who tells.legal is asked known until) (sym c.in-Some.is ∙ c.first_bar.ensures.first))

pub returns-in-None : goal.returns-in-None
returns-in-None c h p who tells asked is known =
    let a = c.args.asked.now in
    let facts = facts_of h a.moment a.job.now p who in
    let until = c.held-until.ensures h p tells is.index ∙ ap (λ chain. held h a.moment chain p) c.chain.ensures in
    c.law.ensures h p who tells.legal is asked known
    ∙ sym (first_bar-known facts c.facts.result _ (c.the_law_comes_last.ensures facts) (c.facts.ensures h p who tells.legal is asked known until) (sym c.in-None.is ∙ c.first_bar.ensures.first))
