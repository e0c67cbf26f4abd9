-- Which wall of windows shows a book's entries: the one of this logbook, or none.
use Rattle.std.specs.Prelude.{Option, None, Some}
use Rattle.logbook.specs.Pages.{Book}

abbrev pub Mark : Type 0
Mark = Option Book

abbrev pub no_wall : Mark
no_wall = None

abbrev pub wall_of : Book → Mark
wall_of book = Some book
