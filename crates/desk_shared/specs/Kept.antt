-- Entries that are kept, wherever a desk keeps its journal.
use Rattle.std.specs.Prelude.{◌≡◌, ℕ, ◌≤◌, ⊤, List, length, take, None, Some}
use Rattle.std.specs.declared.option.Option.{Option}
use Rattle.desk_model.specs.histories.History.{history_of}
use Rattle.desk_model.specs.statements.Entry.{EntryValue}
use Rattle.desk_model.specs.statements.Opening.{OpeningValue}
use Rattle.desk_model.specs.texts.Journal.{journal}
use Rattle.turn_gate.specs.Seats.{SeatValue}

-- these are the first entries that are kept: where it is told what is found of the journal whenever the run stops from now on, that begins with
-- the journal of a desk that was opened so and has these entries
abbrev pub AreKept : Option (List ℕ) → OpeningValue → List EntryValue → Type 0
AreKept None o es = ⊤
AreKept (Some found) o es = journal (history_of o es) ≡ take (length (journal (history_of o es))) found

-- the seat knows no entry that isn't sure
abbrev pub KnowsOnlySure : SeatValue → Type 0
KnowsOnlySure seat = length seat.known ≤ seat.sure
