-- The tally of a desk: how many commands it was given, how many of each sort of answer it gave, and its last moment.
use Rattle.std.specs.Prelude.{◌≡◌, ℕ, Bool, true, false, not, ◌||◌, List, [], ◌∷◌, ◌++◌, codes, decimal, length, filter}
use Rattle.desk_base.specs.Minute.{minute_text}
use Rattle.desk_model.specs.declared.reply.Reply.{Reply}
use Rattle.desk_model.specs.declared.reply.Reply.TheVariants as reply
use Rattle.desk_model.specs.statements.Entry.{EntryValue}
use Rattle.line_writer.specs.declared.reply_sort.ReplySort.{ReplySort}
use Rattle.line_writer.specs.declared.tally.Tally.{Tally}
use Rattle.line_writer.specs.declared.reply_sort.ReplySort.TheVariants as sort
use Rattle.desk_model.specs.histories.History.{History, is_done}
use Rattle.desk_model.specs.histories.Legal.{last_moment}

-- a vacancy was offered
abbrev pub is_offered : Reply → Bool
is_offered (reply.Offered person board position) = true
is_offered other = false

-- nobody could be offered it
abbrev pub is_unfilled : Reply → Bool
is_unfilled (reply.Unfilled listed) = true
is_unfilled other = false

-- the person was denied it, or someone before them would have been run around, whatever was asked
abbrev pub is_denied : Reply → Bool
is_denied (reply.Denied bar) = true
is_denied (reply.RunAround person) = true
is_denied other = false

-- it told what was asked
abbrev pub is_told : Reply → Bool
is_told (reply.Seen person) = true
is_told (reply.NoOne count) = true
is_told (reply.Hours used capped) = true
is_told (reply.Clear board position) = true
is_told (reply.State how) = true
is_told other = false

-- the answer is of the sort; it is refused where it is of no other
abbrev pub is_of : ReplySort → Reply → Bool
is_of sort.Done r = is_done r
is_of sort.Offered r = is_offered r
is_of sort.Unfilled r = is_unfilled r
is_of sort.Denied r = is_denied r
is_of sort.Told r = is_told r
is_of sort.Refused r = not (is_done r || is_offered r || is_unfilled r || is_denied r || is_told r)

-- how many entries have answers of the sort
abbrev pub count : ReplySort → List EntryValue → ℕ
count sort entries = length (filter (λ e. is_of sort e.reply) entries)

-- a word and a number, on a line
abbrev pub count_line : List ℕ → ℕ → List ℕ
count_line word number = word ++ 32 ∷ decimal number ++ 10 ∷ []

-- the eight lines of a tally
unfoldable pub tally_text : History → List ℕ
tally_text h =
    count_line (codes "commands") (length h.entries)
    ++ count_line (codes "done") (count sort.Done h.entries)
    ++ count_line (codes "offered") (count sort.Offered h.entries)
    ++ count_line (codes "unfilled") (count sort.Unfilled h.entries)
    ++ count_line (codes "denied") (count sort.Denied h.entries)
    ++ count_line (codes "read") (count sort.Told h.entries)
    ++ count_line (codes "refused") (count sort.Refused h.entries)
    ++ codes "moment " ++ minute_text (last_moment h) ++ 10 ∷ []

-- what is counted is what the tally of the history says
pub record Counts (t : Tally) (h : History) : Type 0 where
  pub commands : t.commands ≡ length h.entries
  pub done : t.done ≡ count sort.Done h.entries
  pub offered : t.offered ≡ count sort.Offered h.entries
  pub unfilled : t.unfilled ≡ count sort.Unfilled h.entries
  pub denied : t.denied ≡ count sort.Denied h.entries
  pub told : t.told ≡ count sort.Told h.entries
  pub refused : t.refused ≡ count sort.Refused h.entries
  pub moment : t.moment ≡ last_moment h
