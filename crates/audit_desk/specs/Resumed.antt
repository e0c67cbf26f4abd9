-- A desk that goes on behind a journal.
use Rattle.std.specs.Prelude.{◌≡◌, ℕ, List, [], length}
use Rattle.desk_model.specs.histories.History.{History}
use Rattle.audit_desk.specs.Found.{Begins}

-- the text is the journal of a legal history with so many entries, for which the desk stands
pub record Resumes (Stands : History → Type 0) (text : List ℕ) (count : ℕ) : Type 0 where
  pub history : History
  pub begins : Begins text history []
  pub count_is : count ≡ length history.entries
  pub stands : Stands history
