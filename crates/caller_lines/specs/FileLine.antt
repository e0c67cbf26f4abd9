use Rattle.std.specs.Prelude.{◌≡◌, ℕ, ◌<◌, ◌≤◌, ◌⊎◌, List, ◌++◌, ⊤, None, Some, IsNone}
use Rattle.std.specs.declared.option.Option.{Option}
use Rattle.std.specs.Io.KnownBytes.{Appends}
use Rattle.caller_lines.specs.declared.file_line.Gathered.{Gathered}
use Rattle.caller_lines.specs.declared.file_line.Gathered.TheVariants.{Fed, Part, End, Failed}

-- a reader and a writer, the bytes that were read and not given yet, those that were put and not written yet, and how many faults there
-- were and errors of these two
pub record Ends (R W : Type 0) : Type 0 where
  pub reader : Option R
  pub writer : Option W
  pub held : List ℕ
  pub waiting : List ℕ
  pub faults : ℕ
  pub errors : ℕ

-- one of the files could not be opened
abbrev pub HasNoFile : {R W : Type 0} → Ends R W → Type 0
HasNoFile ends = IsNone ends.reader ⊎ IsNone ends.writer

-- a part of a line that goes on has some bytes, and fits a piece
abbrev pub IsSomeBytes : Gathered → Type 0
IsSomeBytes (Fed count) = count ≤ 4096
IsSomeBytes (Part count) = (0 < count) × (count ≤ 4096)
IsSomeBytes End = ⊤
IsSomeBytes Failed = ⊤

-- a writer took the whole of a text behind what it had, where it tells that
abbrev pub Wrote : {W : Type 0} → (W → Option (List ℕ)) → Option W → Option W → List ℕ → Type 0
Wrote contents None now text = ⊥
Wrote contents (Some before) None text = ⊥
Wrote contents (Some before) (Some now) text = Appends (contents before) (contents now) text

-- a text was put behind what waited to be written: the front of both was written, and the rest waits
pub record GaveOn {W : Type 0} (contents : W → Option (List ℕ)) (old now : Option W) (waited waits text : List ℕ) : Type 0 where
  pub written : List ℕ
  pub wrote : Wrote contents old now written
  pub parts : waited ++ text ≡ written ++ waits
