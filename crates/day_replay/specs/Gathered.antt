-- Text that is gathered before it is put into a sink.
use Rattle.std.specs.Prelude.{◌≡◌, ℕ, List, ◌++◌}
use Rattle.std.specs.declared.option.Option.{Option}
use Rattle.std.specs.Io.KnownBytes.{Appends}

-- of a text the front was put into the sink, and the rest waits
pub record Gathers (held held' : Option (List ℕ)) (text waiting : List ℕ) : Type 0 where
  pub put : List ℕ
  pub added : Appends held held' put
  pub parts : text ≡ put ++ waiting
