use Rattle.std.proofs.Common.{rules}
use Rattle.crewdesk_main.proofs.LinesEndLemmas.{EndsByTheLines-causes}
use Rattle.crewdesk_main.proofs.run.run_form.Goals as goal

pub returns-in-Day-clause-ends : goal.returns-in-Day-clause-ends
returns-in-Day-clause-ends g c = λ runs. rw (c.in-Day.is) c.replay_day.ensures.ends

pub returns-in-Audit-clause-ends : goal.returns-in-Audit-clause-ends
returns-in-Audit-clause-ends g c = λ runs. rw (c.in-Audit.is) (search rules)

pub returns-in-Continue-clause-ends : goal.returns-in-Continue-clause-ends
returns-in-Continue-clause-ends g c = λ runs. rw (c.in-Continue.is) (search rules)

pub returns-in-Gen-clause-ends : goal.returns-in-Gen-clause-ends
returns-in-Gen-clause-ends g c = λ runs. rw (c.in-Gen.is) (search rules)

pub returns-in-Tours-clause-ends : goal.returns-in-Tours-clause-ends
returns-in-Tours-clause-ends g c = λ runs.
    let told = c.tell_tours.ensures in
    rw (c.in-Tours.is) (record {
      fine = told.fine;
      write_fault = told.write_fault;
      write_cause = told.write_cause;
      read_cause = told.read_cause;
      too_long = told.too_long;
      not_too_long = told.not_too_long;
      no_opening = told.no_opening;
      unreadable = told.unreadable;
      not_wrong = told.legal;
      by_the_lines = EndsByTheLines-causes c.tell_tours.result _ _ _ _ _ _ told.fine told.write_fault told.too_long told.no_opening told.unreadable told.form told.legal;
    })
