use Rattle.std.proofs.Common.{◌≡◌, List, length}
use Rattle.std.specs.List.{All}
use Rattle.desk_model.specs.statements.Entry.{EntryValue}
use Rattle.desk_model.specs.statements.Fits.{Fits}
use Rattle.desk_model.specs.texts.Journal.{entry_lines}
use Rattle.kept_desk.specs.Walls.{HasAll}
use Rattle.kept_desk.proofs.ThroughLemmas.{Through}
use Rattle.kept_desk.proofs.journal_book.step_through.Given as goal

-- the first entries' statements are answered, and the lines of the others are left
abbrev pub invariant-loop-statement : goal.invariant-loop-statement
invariant-loop-statement g l = record {
  through : (entries : List EntryValue) → All Fits entries → l.text ≡ entry_lines entries → Through (g.B.Booked.history l.fn.book) (g.B.Booked.history l.book) entries l.left;
  wall : HasAll l.wall (g.B.Booked.history l.book);
  room : g.B.Booked.room l.book ≡ g.B.Booked.room l.fn.book;
}

abbrev pub decreases-loop-statement : goal.decreases-loop-statement
decreases-loop-statement g l = length l.left
