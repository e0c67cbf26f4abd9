-- What the working lists have room for.
use Rattle.std.specs.Prelude.{ℕ, ◌≤◌, vec_capacity}
use Rattle.plain_core.specs.declared.lists.Lists.{Lists}

-- so many events, and so many members
pub record HasRoom (many : ℕ) (lists : Lists) : Type 0 where
  pub events : many ≤ vec_capacity lists.events
  pub members : many ≤ vec_capacity lists.members
