-- What a session of a line is.
use Rattle.std.specs.Prelude.{ℕ, ◌-◌, List, [], ◌∷◌, ◌++◌, length, map, count_by, None, Some}
use Rattle.desk_model.specs.statements.Entry.{EntryValue}
use Rattle.caller_lines.specs.Given.{Given}
use Rattle.caller_lines.specs.LineCalls.{LineCall, Asked, PutText, given_in}
use Rattle.serve_desk.specs.declared.why.Why.{Why}
use Rattle.serve_desk.specs.Follows.{is_line, Follows}

-- how many lines of its caller it gave
abbrev pub lines_in : List LineCall → ℕ
lines_in calls = count_by is_line (given_in calls)

-- the line was asked, and then these texts were put, before it is asked again
abbrev pub asked_then_put : Given → List (List ℕ) → List LineCall
asked_then_put gave texts = Asked gave ∷ map PutText texts

-- a session that has not ended: the calls of the line, in their order, and the entries that came of them, at a seat that had so many
-- calls left
pub data GoesOn (left : ℕ) : List LineCall → List EntryValue → Type 0 where
  it_begins : GoesOn left [] []
  it_goes_on : (calls : List LineCall) (entries : List EntryValue) (gave : Given) (more : List EntryValue) (texts : List (List ℕ)) → GoesOn left calls entries
      → Follows (lines_in calls) (left - length entries) gave more texts None → GoesOn left (calls ++ asked_then_put gave texts) (entries ++ more)

-- a session that has ended, and why: the last that the line gave ends it, and none before
pub data Session (left : ℕ) : List LineCall → List EntryValue → Why → Type 0 where
  it_ends : (calls : List LineCall) (entries : List EntryValue) (gave : Given) (more : List EntryValue) (texts : List (List ℕ)) (why : Why) → GoesOn left calls entries
      → Follows (lines_in calls) (left - length entries) gave more texts (Some why) → Session left (calls ++ asked_then_put gave texts) (entries ++ more) why
