-- What serving the callers of names makes of the source and the sink.
use Rattle.std.specs.Prelude.{◌≡◌, ℕ, Option, List, length}
use Rattle.serve_desk.specs.declared.sessions.Sessions.{Sessions}
use Rattle.serve_desk.specs.ServeBy.{ServesDayBy}
use Rattle.serve_desk.specs.Told.{LineValue}

-- so many lines were served, one for each name; what they tell of themselves is theirs, and lines over files tell nothing
pub record ServesNames (how : Sessions) (many : ℕ) (before after : Option (List ℕ)) (Writes : List ℕ → Type 0) : Type 0 where
  pub lines : List LineValue
  pub later : List LineValue
  pub count : length lines ≡ many
  pub serves : ServesDayBy how before after lines later Writes
