use Rattle.std.proofs.Common.{◌≡◌, sym, ap, subst, ◌∙◌}
use Rattle.duty_events.specs.Lists.{IsLawful}
use Rattle.desk_model.specs.histories.History.{history_of}
use Rattle.desk_model.specs.histories.Duty.{events}
use Rattle.desk_model.proofs.EventLemmas.{lawful-events}
use Rattle.plain_core.proofs.kept.Kept.fill_events.Goals as goal
use Rattle.plain_core.proofs.kept.Kept.fill_events.Goals.{After-gather}

filled : (c : After-gather) → c.gather.new.list.items ≡ events (history_of c.args.self.now.opening c.args.self.now.entries.items) c.args.person
filled c = c.gather.ensures.events c.args.self.now.opening ∙ ap (λ es. events (history_of c.args.self.now.opening es) c.args.person) c.deref.ensures.value

pub returns-clause-events : goal.returns-clause-events
returns-clause-events c h kept = filled (goal.at.returns-clause-events c).After-gather ∙ ap (λ past. events past c.args.person) (sym kept.is)

pub returns-clause-lawful : goal.returns-clause-lawful
returns-clause-lawful c =
    subst IsLawful (sym (filled (goal.at.returns-clause-lawful c).After-gather)) (lawful-events (history_of c.args.self.now.opening c.args.self.now.entries.items) c.args.person)
