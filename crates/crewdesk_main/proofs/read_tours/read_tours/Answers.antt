use Rattle.crewdesk_main.proofs.TourLemmas.{KeepsJournal-opened}
use Rattle.crewdesk_main.proofs.read_tours.read_tours.Goals as goal

pub returns-in-Some-clause-read : goal.returns-in-Some-clause-read
returns-in-Some-clause-read c =
    let line = rw (c.in-Some.is) at c.read_opening.ensures.some in
    KeepsJournal-opened c.read_entries.result c.in-Some.field-0 _ c.first_line.result.0.now c.first_line.result.1.now line.valid c.first_line.ensures.parts line.line_is c.read_entries.ensures.read
