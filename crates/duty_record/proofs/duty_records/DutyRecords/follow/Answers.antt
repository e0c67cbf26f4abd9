use Rattle.std.proofs.Common.{◌∙◌, sym}
use Rattle.std.proofs.lemmas.Result.{MatchResult-weaker}
use Rattle.desk_model.specs.declared.command.Cmd.TheVariants as cmd
use Rattle.desk_model.specs.offers.Assigned.{assigned}
use Rattle.duty_record.specs.Deeds.{deeds}
use Rattle.desk_model.specs.histories.Register.{vacancy_of}
use Rattle.duty_record.proofs.ReadLemmas.{keeps-done, follows-past, follows-report, follows-event, follows-accept, follows-drop, follows-annul, follows-made, follows-other}
use Rattle.duty_record.proofs.duty_records.DutyRecords.follow.Goals as goal

pub returns-in_default : goal.returns-in_default
returns-in_default c h e done is comes keeps =
    let r = c.args.self.now in let o = c.in_default in
    keeps-done r h e c.args.cmd.now done is comes (follows-other r h c.args.cmd.now keeps o.not-Past o.not-Happened o.not-Vacancy o.not-Accept o.not-Annul o.not-Drop)

pub returns-in-Drop : goal.returns-in-Drop
returns-in-Drop c h e done is comes keeps =
    keeps-done _ h e (cmd.Drop c.in-Drop.person) done (is ∙ c.in-Drop.is) comes
    (follows-drop c.args.self.now h c.in-Drop.person c.free-in-Drop.new.self keeps (c.free-in-Drop.ensures (assigned h) keeps.assigned))

pub returns-then-is_report : goal.returns-then-is_report
returns-then-is_report c h e done is comes keeps =
    let t = c.in-Happened in
    keeps-done _ h e (cmd.Happened t.person t.event) done (is ∙ t.is) comes
    (follows-report c.args.self.now h t.person t.event c.of-vacancy.result c.tell-in-Happened.new.self c.free.new.self (sym c.is_report.ensures ∙ c.if-is_report.true)
    (c.of-vacancy.ensures (assigned h) keeps.assigned) keeps (c.in_ok-tell-in-Happened.ensures (deeds h) keeps.tours) (c.free.ensures (assigned h) keeps.assigned))

pub returns-else-is_report : goal.returns-else-is_report
returns-else-is_report c h e done is comes keeps =
    let t = c.in-Happened in
    keeps-done _ h e (cmd.Happened t.person t.event) done (is ∙ t.is) comes
    (follows-event c.args.self.now h t.person t.event c.of-vacancy.result c.tell-in-Happened.new.self (sym c.is_report.ensures ∙ c.if-is_report.false)
    (c.of-vacancy.ensures (assigned h) keeps.assigned) keeps (c.in_ok-tell-in-Happened.ensures (deeds h) keeps.tours))

pub returns-in-Past : goal.returns-in-Past
returns-in-Past c h e done is comes keeps =
    let t = c.in-Past in
    MatchResult-weaker c.tell.result (c.tell.ensures (deeds h) keeps.tours)
    (λ x are. keeps-done _ h e (cmd.Past t.person t.event) done (is ∙ t.is) comes (follows-past c.args.self.now h t.person t.event c.tell.new.self keeps are))
    (λ x are. record { tours = are; assigned = keeps.assigned; relief = keeps.relief })

pub returns-in-Accept : goal.returns-in-Accept
returns-in-Accept c h e done is comes keeps =
    let t = c.in-Accept in
    MatchResult-weaker c.accept.result (c.accept.ensures (assigned h) keeps.assigned)
    (λ x held. keeps-done _ h e (cmd.Accept t.vac t.person) done (is ∙ t.is) comes (follows-accept c.args.self.now h t.vac t.person c.accept.new.self keeps held))
    (λ x held. record { tours = keeps.tours; assigned = held; relief = keeps.relief })

pub returns-in-Annul : goal.returns-in-Annul
returns-in-Annul c h e done is comes keeps =
    let t = c.in-Annul in
    MatchResult-weaker c.annul.result (c.annul.ensures (assigned h) keeps.assigned)
    (λ x held. keeps-done _ h e (cmd.Annul t.vac) done (is ∙ t.is) comes (follows-annul c.args.self.now h t.vac c.annul.new.self keeps held))
    (λ x held. record { tours = keeps.tours; assigned = held; relief = keeps.relief })

pub returns-in-Vacancy : goal.returns-in-Vacancy
returns-in-Vacancy c h e done is comes keeps =
    let t = c.in-Vacancy in
    MatchResult-weaker c.make.result (c.make.ensures (vacancy_of h) keeps.relief)
    (λ x are. keeps-done _ h e (cmd.Vacancy t.job) done (is ∙ t.is) comes (follows-made c.args.self.now h t.job c.make.new.self keeps are))
    (λ x are. record { tours = keeps.tours; assigned = keeps.assigned; relief = are })
