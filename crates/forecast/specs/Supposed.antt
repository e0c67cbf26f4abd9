-- What would be answered, if these commands came.
use Rattle.std.specs.Prelude.{◌≡◌, ℕ, List, ◌++◌, map}
use Rattle.desk_model.specs.statements.Statement.{StatedValue}
use Rattle.desk_model.specs.statements.Entry.{EntryValue}
use Rattle.desk_model.specs.histories.History.{History, history_of}
use Rattle.desk_model.specs.histories.Legal.{IsLegal, given, history_from}

-- stated by nobody's line: by caller 0
abbrev pub by_nobody : StatedValue → ℕ × StatedValue
by_nobody s = (0, s)

-- a history with these entries behind its own
abbrev pub with_entries : History → List EntryValue → History
with_entries h es = history_of h.opening (h.entries ++ es)

-- with these entries the history is a legal one still, and they have these commands in order, each once, with caller 0
pub record IsSupposed (h : History) (commands : List StatedValue) (es : List EntryValue) : Type 0 where
  pub legal : IsLegal (with_entries h es)
  pub stated : map given es ≡ map by_nobody commands

-- the entries that are supposed are those with which the history goes on by the rules, and no others
abbrev pub OnlyThese : Type 0
OnlyThese = (h : History) (commands : List StatedValue) (es : List EntryValue) → IsLegal h → IsSupposed h commands es
    → with_entries h es ≡ history_from h (map by_nobody commands)
