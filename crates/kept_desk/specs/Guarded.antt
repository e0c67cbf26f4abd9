-- A line whose caller is kept from stating minutes far ahead.
use Rattle.std.specs.Prelude.{◌≡◌, ◌⊎◌, ℕ, ◌+◌, Some, List}
use Rattle.std.specs.declared.option.Option.{Option}
use Rattle.caller_lines.specs.Given.{Given, GaveLine}
use Rattle.caller_lines.specs.LineCalls.{LineCall, Asked, PutText}
use Rattle.caller_lines.specs.Told.{with_last}
use Rattle.serve_desk.specs.Texts.{no_memory}
use Rattle.kept_desk.specs.Ahead.{IsAhead, ahead_text}

-- a line, the clock that it is held against, and how many minutes ahead of it the caller may state
pub record Watched (L C : Type 0) : Type 0 where
  pub line : L
  pub clock : C
  pub ahead : ℕ

-- the line states a minute too far ahead of the one that the clock told, which the text names
pub record AnswersAhead (told : Option ℕ) (ahead : ℕ) (line text : List ℕ) : Type 0 where
  pub now : ℕ
  pub told_is : told ≡ Some now
  pub far : IsAhead (now + ahead) line
  pub text_is : text ≡ ahead_text now

-- a line was asked, and what it gave was answered: that it is too far ahead, or that memory was wanting for its reading
pub record PassesOne (told : Option ℕ) (ahead : ℕ) (before after : Option (List LineCall)) : Type 0 where
  pub line : List ℕ
  pub text : List ℕ
  pub answers : AnswersAhead told ahead line text ⊎ (text ≡ no_memory)
  pub calls : after ≡ with_last (with_last before (Asked (GaveLine line))) (PutText text)

-- so it was with some of its lines, one after another, by whatever the clock told then
pub data PassesOver (ahead : ℕ) (before : Option (List LineCall)) : Option (List LineCall) → Type 0 where
  NoLine : PassesOver ahead before before
  OneMore : (between after : Option (List LineCall)) (told : Option ℕ) → PassesOver ahead before between → PassesOne told ahead between after
      → PassesOver ahead before after

-- and then it was asked, and gave this
pub record GivesOn (ahead : ℕ) (before after : Option (List LineCall)) (gave : Given) : Type 0 where
  pub between : Option (List LineCall)
  pub over : PassesOver ahead before between
  pub asked : after ≡ with_last between (Asked gave)
