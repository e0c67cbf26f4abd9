-- What serving lines behind a day file makes of them, by sessions without looks or with them.
use Rattle.std.specs.Prelude.{ℕ, Option, List, length}
use Rattle.desk_model.specs.histories.History.{History}
use Rattle.desk_model.specs.statements.Opening.{OpeningValue}
use Rattle.desk_model.specs.statements.Statement.{StatedValue}
use Rattle.serve_desk.specs.declared.sessions.Sessions.{Sessions}
use Rattle.serve_desk.specs.declared.sessions.Sessions.TheVariants as sessions
use Rattle.serve_desk.specs.Serve.{OneOfAll, ServesAllBehind, ServesAllOf, ServesAllOfDay, served}
use Rattle.serve_desk.specs.Told.{LineValue}
use Rattle.serve_desk.specs.WatchLines.{watched}

-- each line by such a session
abbrev pub served_by : Sessions → OpeningValue → ℕ → OneOfAll
served_by sessions.WithoutLooks = served
served_by sessions.WithLooks = watched

-- lines were served so behind a history, behind an opening's commands, and behind a day file
abbrev pub ServesBehindBy : Sessions → History → List LineValue → List LineValue → (List ℕ → Type 0) → Type 0
ServesBehindBy how before lines later Writes = ServesAllBehind (served_by how before.opening (length before.entries)) before lines later Writes

abbrev pub ServesHistoryBy : Sessions → OpeningValue → List StatedValue → List LineValue → List LineValue → (List ℕ → Type 0) → Type 0
ServesHistoryBy how o commands lines later Writes = ServesAllOf (served_by how o (length commands)) o commands lines later Writes

abbrev pub ServesDayBy : Sessions → Option (List ℕ) → Option (List ℕ) → List LineValue → List LineValue → (List ℕ → Type 0) → Type 0
ServesDayBy how before after lines later Writes = ServesAllOfDay (served_by how) before after lines later Writes
