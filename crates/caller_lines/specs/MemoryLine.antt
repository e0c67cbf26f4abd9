use Rattle.std.specs.Prelude.{ℕ, ◌+◌, ◌-◌, ◌==◌, Bool, false, nat_lt, List, [], ◌∷◌, ◌++◌, length, drop, if◌then◌else◌}
use Rattle.std.specs.List.{list_any}
use Rattle.desk_io.specs.Faults.{one_more}
use Rattle.caller_lines.specs.Given.{Given, GaveLine, GaveTooLong, GaveEnd, GaveFailed}
use Rattle.caller_lines.specs.LineCalls.{LineCall, Asked, PutText, texts_in}

-- what a line in memory has to give, how many calls and faults it had so far, what the calls were, and how many bytes were put
pub record Talk : Type 0 where
  pub left : List (List ℕ)
  pub failing : List ℕ
  pub room : ℕ
  pub calls : ℕ
  pub faults : ℕ
  pub told : List LineCall
  pub used : ℕ

-- a line that was not called yet
abbrev pub new_talk : List (List ℕ) → List ℕ → ℕ → Talk
new_talk lines failing room = record {
  left = lines;
  failing = failing;
  room = room;
  calls = 0;
  faults = 0;
  told = [];
  used = 0;
}

-- it fails at the listed calls
abbrev pub fails : Talk → Bool
fails talk = list_any (λ number. number == one_more talk.calls) talk.failing

-- what is given of these lines: the first, if it has 512 bytes at most, and the end where there is none
abbrev pub first_given : List (List ℕ) → Given
first_given [] = GaveEnd
first_given (line ∷ lines) = if nat_lt 512 (length line) then GaveTooLong else GaveLine line

-- what it gives next
abbrev pub next_given : Talk → Given
next_given talk = if fails talk then GaveFailed else first_given talk.left

-- what it has and has counted after it gave that; where it failed it took no line
abbrev pub after_take : Talk → Talk
after_take talk = record talk {
  left = if fails talk then talk.left else drop 1 talk.left;
  calls = one_more talk.calls;
  faults = if fails talk then one_more talk.faults else talk.faults;
}

-- what it is after it gave that
abbrev pub after_next : Talk → Talk
after_next talk = record (after_take talk) { told = talk.told ++ Asked (next_given talk) ∷ [] }

-- it takes a put of so many bytes at a call that isn't listed, where there is room for these and for one more put
abbrev pub takes_put : Talk → ℕ → Bool
takes_put talk len =
    if fails talk then false
    else if nat_lt (talk.room - talk.used) len then false
    else nat_lt (length (texts_in talk.told)) talk.room

-- what it is with one text more
abbrev pub kept : Talk → List ℕ → Talk
kept talk text = record talk { told = talk.told ++ PutText text ∷ []; used = talk.used + length text }

-- what it is after a put
abbrev pub after_put : Talk → List ℕ → Talk
after_put talk text = record (if takes_put talk (length text) then kept talk text else talk) {
  calls = one_more talk.calls;
  faults = if takes_put talk (length text) then talk.faults else one_more talk.faults;
}
