-- What the looks of a session see: `seen`, a history of the desk, of which each look saw the first entries; it agrees with what the
-- caller knows, `known`, up to the last entry that was shown before a look.
use Rattle.std.specs.Prelude.{◌≡◌, ℕ, ◌-◌, ◌<◌, ◌≤◌, true, false, List, [], ◌∷◌, ◌++◌, length, take}
use mathlib.Core.List.{IsPrefix}
use Rattle.board_window.specs.Shows.{spot_of}
use Rattle.desk_model.specs.statements.Entry.{EntryValue}
use Rattle.desk_model.specs.histories.History.{history_of}
use Rattle.desk_model.specs.histories.Legal.{IsLegal}
use Rattle.desk_model.specs.statements.Opening.{OpeningValue}
use Rattle.turn_gate.specs.Told.{own}
use Rattle.serve_desk.specs.WatchFollows.{Act, Looked, Called}

-- of these entries, the first `upto` end with the last of the caller's first ones, `mine`
pub record EndsAt (entries : List EntryValue) (number : ℕ) (mine : List EntryValue) (upto : ℕ) : Type 0 where
  pub within : upto ≤ length entries
  pub has : own (take upto entries) number ≡ mine
  pub last : length (own (take (upto - 1) entries) number) < length mine

-- the acts of a session, one after another, of a caller whose entries were `mine` before it, at windows that were made with so many entries.
-- Beside them: the caller's entries now; how many entries the last look saw; up to where the last entry that was shown is; and up to
-- where the last is that was shown before a look. Each of the three is what the windows were made with where there is none
pub data AreSeen (o : OpeningValue) (seen known : List EntryValue) (number : ℕ) (mine : List EntryValue) (made_with : ℕ) : List Act → List EntryValue → ℕ → ℕ → ℕ → Type 0 where
  no_act_yet : AreSeen o seen known number mine made_with [] mine made_with made_with made_with
  -- a look sees no fewer entries than the look before it, and each entry that was shown; and who stands where by them
  a_look : (acts : List Act) (now : List EntryValue) (before upto agreed n : ℕ) (board : List ℕ) (position : ℕ) → AreSeen o seen known number mine made_with acts now before upto agreed
      → before ≤ n → upto ≤ n → n ≤ length seen
      → AreSeen o seen known number mine made_with (acts ++ Looked n board position (spot_of (history_of o (take n seen)) board position) ∷ []) now n upto upto
  a_call_that_is_shown : (acts : List Act) (now : List EntryValue) (before upto agreed later : ℕ) (e : EntryValue) → AreSeen o seen known number mine made_with acts now before upto agreed
      → EndsAt known number (now ++ e ∷ []) later → AreSeen o seen known number mine made_with (acts ++ Called e true ∷ []) (now ++ e ∷ []) before later agreed
  a_call_that_is_not_shown : (acts : List Act) (now : List EntryValue) (before upto agreed : ℕ) (e : EntryValue) → AreSeen o seen known number mine made_with acts now before upto agreed
      → AreSeen o seen known number mine made_with (acts ++ Called e false ∷ []) (now ++ e ∷ []) before upto agreed

-- the looks of a session are right: by `seen`, a legal history of the desk, which begins with what was seen before the session, and
-- agrees with what the caller knows up to the last entry that was shown before a look
pub record Sees (o : OpeningValue) (made_with : ℕ) (begun seen known : List EntryValue) (number : ℕ) (mine : List EntryValue) (acts : List Act) : Type 0 where
  pub legal : IsLegal (history_of o seen)
  pub begins : IsPrefix begun seen
  pub now : List EntryValue
  pub before : ℕ
  pub upto : ℕ
  pub agreed : ℕ
  pub are : AreSeen o seen known number mine made_with acts now before upto agreed
  pub agrees : take agreed seen ≡ take agreed known
