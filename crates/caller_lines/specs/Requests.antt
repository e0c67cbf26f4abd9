-- How a line is said where looks and crew calls are heard.
use Rattle.std.specs.Prelude.{◌≡◌, ℕ, List, ⊤}
use Rattle.std.specs.declared.option.Option.{Option}
use Rattle.caller_lines.specs.CrewLines.{IsCrewLine, IsNoCrew}
use Rattle.caller_lines.specs.Given.{Given, GaveLine, GaveTooLong, GaveEnd, GaveFailed}
use Rattle.caller_lines.specs.Hears.{ReadsLine}
use Rattle.caller_lines.specs.LineCalls.{LineCall, Asked}
use Rattle.caller_lines.specs.Looks.{IsLookLine, IsNoLook}
use Rattle.caller_lines.specs.Told.{with_last}
use Rattle.caller_lines.specs.declared.said.Said.TheVariants.{TooLong, End, LineFault, NoMemory}
use Rattle.caller_lines.specs.declared.request.Request.{Request}
use Rattle.caller_lines.specs.declared.request.Request.TheVariants.{Look, Crew, Said}

-- the line asks for neither
abbrev pub IsNoRequest : List ℕ → Type 0
IsNoRequest line = IsNoLook line × IsNoCrew line

-- how a line of these bytes is said; memory may be wanting for its reading
abbrev pub ReadsLineAsRequest : List ℕ → Request → Type 0
ReadsLineAsRequest bytes (Look board position) = IsLookLine bytes board position
ReadsLineAsRequest bytes (Crew minute first second) = IsCrewLine bytes minute first second
ReadsLineAsRequest bytes (Said NoMemory) = ⊤
ReadsLineAsRequest bytes (Said said) = IsNoRequest bytes × ReadsLine bytes said

-- how what a line gave is said
abbrev pub ReadsRequest : Given → Request → Type 0
ReadsRequest (GaveLine bytes) said = ReadsLineAsRequest bytes said
ReadsRequest GaveTooLong said = said ≡ Said TooLong
ReadsRequest GaveEnd said = said ≡ Said End
ReadsRequest GaveFailed said = said ≡ Said LineFault

-- a line was asked once, and what it gave is what was said
pub record HearsRequest (before now : Option (List LineCall)) (said : Request) : Type 0 where
  pub gave : Given
  pub once : now ≡ with_last before (Asked gave)
  pub reads : ReadsRequest gave said
