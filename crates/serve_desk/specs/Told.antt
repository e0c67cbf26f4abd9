-- What is told of a line.
use Rattle.std.specs.Prelude.{ℕ, List, ◌++◌, map, None, Some}
use Rattle.std.specs.declared.option.Option.{Option}
use Rattle.std.specs.declared.dyn_box.DynBox.{DynBox}
use Rattle.std.specs.Global.{Global}
use Rattle.caller_lines.specs.declared.caller_line.CallerLine.{Ghosts}
use Rattle.caller_lines.specs.LineCalls.{LineCall}

-- a list with these behind it, where it is told
abbrev pub with_all : {A : Type 0} → Option (List A) → List A → Option (List A)
with_all None more = None
with_all (Some xs) more = Some (xs ++ more)

-- how many faults a line has had; and where it tells them, its calls: what it gave and the texts that were put on it, in their order
pub record LineValue : Type 0 where
  pub faults : ℕ
  pub calls : Option (List LineCall)

abbrev pub line_of : ℕ → Option (List LineCall) → LineValue
line_of faults calls = record { faults = faults; calls = calls }

-- so of each of the lines in boxes, by what a box keeps of its line
abbrev pub lines_of : {Kind : Type 0} {Of : Kind → Type 0} → ((kind : Kind) → Ghosts (Of kind)) → List (DynBox Kind Global Of) → List LineValue
lines_of told lines = map (λ line. line_of ((told line.vtable).faults line.value) ((told line.vtable).calls line.value)) lines
