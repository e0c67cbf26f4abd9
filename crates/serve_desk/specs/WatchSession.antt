-- What a session of a line is where looks are heard.
use Rattle.std.specs.Prelude.{ℕ, ◌-◌, List, [], ◌++◌, length, None, Some}
use Rattle.caller_lines.specs.Given.{Given}
use Rattle.caller_lines.specs.LineCalls.{LineCall}
use Rattle.desk_model.specs.statements.Entry.{EntryValue}
use Rattle.serve_desk.specs.declared.why.Why.{Why}
use Rattle.serve_desk.specs.declared.why.Why.TheVariants as why
use Rattle.serve_desk.specs.Session.{lines_in, asked_then_put}
use Rattle.serve_desk.specs.WatchFollows.{Act, FollowsWatched}

-- a session that has not ended: the calls of the line, in their order, the entries that came of them, and what each came to, at a
-- seat that had so many calls left
pub data GoesOnWatched (left : ℕ) : List LineCall → List EntryValue → List Act → Type 0 where
  it_begins : GoesOnWatched left [] [] []
  it_goes_on : (calls : List LineCall) (entries : List EntryValue) (acts : List Act) (gave : Given) (more : List EntryValue) (texts : List (List ℕ)) (further : List Act)
      → GoesOnWatched left calls entries acts → FollowsWatched (lines_in calls) (left - length entries) gave more texts further None
      → GoesOnWatched left (calls ++ asked_then_put gave texts) (entries ++ more) (acts ++ further)

-- the entries of which lines may have been put: all, but where the journal had a fault those of the last answer
abbrev pub put_of : Why → List EntryValue → List EntryValue → List EntryValue
put_of why.JournalFault before last = before
put_of other before last = before ++ last

-- a session that has ended, and why: the last that the line gave ends it, and none before. Beside it the entries of which lines may have been put
pub data SessionWatched (left : ℕ) : List LineCall → List EntryValue → List Act → Why → List EntryValue → Type 0 where
  it_ends : (calls : List LineCall) (entries : List EntryValue) (acts : List Act) (gave : Given) (more : List EntryValue) (texts : List (List ℕ)) (further : List Act) (why : Why)
      → GoesOnWatched left calls entries acts → FollowsWatched (lines_in calls) (left - length entries) gave more texts further (Some why)
      → SessionWatched left (calls ++ asked_then_put gave texts) (entries ++ more) (acts ++ further) why (put_of why entries more)
