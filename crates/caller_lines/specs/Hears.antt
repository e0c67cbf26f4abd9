use Rattle.std.specs.Prelude.{◌≡◌, ℕ, List, ⊤}
use Rattle.std.specs.declared.option.Option.{Option}
use Rattle.command_parser.specs.CommandLine.{IsCommandLine, IsMalformed}
use Rattle.caller_lines.specs.Given.{Given, GaveLine, GaveTooLong, GaveEnd, GaveFailed}
use Rattle.caller_lines.specs.LineCalls.{LineCall, Asked}
use Rattle.caller_lines.specs.Told.{with_last}
use Rattle.caller_lines.specs.declared.said.Said.{Said}
use Rattle.caller_lines.specs.declared.said.Said.TheVariants.{Command, Malformed, TooLong, End, LineFault, NoMemory}

-- how a line of these bytes is said; memory may be wanting for its reading
abbrev pub ReadsLine : List ℕ → Said → Type 0
ReadsLine bytes (Command s) = IsCommandLine bytes s
ReadsLine bytes (Malformed field) = IsMalformed bytes field
ReadsLine bytes NoMemory = ⊤
ReadsLine bytes TooLong = ⊥
ReadsLine bytes End = ⊥
ReadsLine bytes LineFault = ⊥

-- how what a line gave is said
abbrev pub ReadsAs : Given → Said → Type 0
ReadsAs (GaveLine bytes) said = ReadsLine bytes said
ReadsAs GaveTooLong said = said ≡ TooLong
ReadsAs GaveEnd said = said ≡ End
ReadsAs GaveFailed said = said ≡ LineFault

-- a line was asked once, and what it gave is what was said
pub record Hears (before now : Option (List LineCall)) (said : Said) : Type 0 where
  pub gave : Given
  pub once : now ≡ with_last before (Asked gave)
  pub reads : ReadsAs gave said
