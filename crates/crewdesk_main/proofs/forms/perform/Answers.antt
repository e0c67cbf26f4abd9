use Rattle.crewdesk_main.proofs.forms.perform.Goals as goal

pub returns-in-Help-clause-ends : goal.returns-in-Help-clause-ends
returns-in-Help-clause-ends g c = λ other. rw (c.in-Help.is) (rw c.as_bytes.ensures.value at c.write_text.ensures.prints)

pub returns-in-Version-clause-ends : goal.returns-in-Version-clause-ends
returns-in-Version-clause-ends g c = λ other. rw (c.in-Version.is) (rw c.as_bytes-in-Version.ensures.value at c.write_text-in-Version.ensures.prints)
