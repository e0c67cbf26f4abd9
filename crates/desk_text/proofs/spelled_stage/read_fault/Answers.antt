use Rattle.duty_events.specs.declared.event_fault.EventFault.TheVariants as fault
use Rattle.desk_text.proofs.spelled_stage.read_fault.Goals as goal

pub returns-in_default-behind-3-clause-only : goal.returns-in_default-behind-3-clause-only
returns-in_default-behind-3-clause-only c (fault.WrongStage s) spells = absurd (c.in_default.ensures.none _ spells.text_is)
returns-in_default-behind-3-clause-only c (fault.Behind last) spells = absurd (c.in_default-behind.ensures.none _ spells.text_is)
returns-in_default-behind-3-clause-only c (fault.InterimTooLong minutes) spells = absurd (c.in_default-behind-2.ensures.none _ spells.text_is)
returns-in_default-behind-3-clause-only c (fault.OtherPlace place) spells = absurd (c.in_default-behind-3.ensures.none _ spells.text_is)
