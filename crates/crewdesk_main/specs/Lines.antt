-- The lines of a text.
use Rattle.std.specs.Prelude.{ℕ, ◌+◌, ◌<◌, ◌≤◌, ◌==◌, Bool, true, if◌then◌else◌, List, [], ◌∷◌}
use Rattle.crewdesk_main.specs.declared.limits.TheConstants.{JOURNAL_LINES}

-- how many lines begin in a text, where one begins at its first byte or doesn't; one begins behind each line feed
unfoldable pub lines_from : Bool → List ℕ → ℕ
lines_from begins [] = 0
lines_from begins (b ∷ later) = (if begins then 1 else 0) + lines_from (b == 10) later

-- how many lines a text has; what is behind its last line feed is one where anything is
abbrev pub line_count : List ℕ → ℕ
line_count text = lines_from true text

-- more than a journal may have
abbrev pub HasTooManyLines : List ℕ → Type 0
HasTooManyLines text = JOURNAL_LINES < line_count text

-- and no more than that
abbrev pub HasFewLines : List ℕ → Type 0
HasFewLines text = line_count text ≤ JOURNAL_LINES
