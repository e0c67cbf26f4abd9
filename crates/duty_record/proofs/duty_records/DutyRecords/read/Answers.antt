use Rattle.duty_record.proofs.ReadLemmas.{keeps-refused}
use Rattle.duty_record.proofs.duty_records.DutyRecords.read.Goals as goal

pub returns-in-None : goal.returns-in-None
returns-in-None c h keeps = keeps-refused c.args.self.now h c.args.entry.now c.in-None.ensures.refused (c.what_an_entry_makes_of_the_desk.ensures.comes h c.args.entry.now) keeps
