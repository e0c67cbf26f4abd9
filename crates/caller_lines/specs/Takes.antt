-- What a line over files takes of its reader's bytes.
use Rattle.std.specs.Prelude.{◌≡◌, ◌≢◌, ◌⊎◌, ℕ, ◌+◌, ◌<◌, ◌≤◌, List, [], ◌∷◌, ◌++◌, length, All, ⊤, None, Some}
use Rattle.std.specs.declared.option.Option.{Option}
use Rattle.std.specs.Fmt.{option_append}
use Rattle.std.specs.Io.KnownBytes.{Consumes, IsAtEnd}
use Rattle.caller_lines.specs.Given.{Given, GaveLine, GaveTooLong, GaveEnd, GaveFailed}
use Rattle.caller_lines.specs.FileLine.{Ends}
use Rattle.caller_lines.specs.declared.file_line.Gathered.{Gathered}
use Rattle.caller_lines.specs.declared.file_line.Gathered.TheVariants.{Fed, Part, End, Failed}

-- the bytes of a reader, where there is one that tells them
abbrev pub reader_left : {R : Type 0} → (R → Option (List ℕ)) → Option R → Option (List ℕ)
reader_left remaining None = None
reader_left remaining (Some reader) = remaining reader

-- the bytes still to come, where the reader tells its own: those that are held, and then those
abbrev pub left_of : {R W : Type 0} → (R → Option (List ℕ)) → Ends R W → Option (List ℕ)
left_of remaining ends = option_append (Some ends.held) (reader_left remaining ends.reader)

-- these bytes have no line feed
abbrev pub IsUnfed : List ℕ → Type 0
IsUnfed bytes = All (λ byte. byte ≢ 10) bytes

-- a line was taken with the line feed behind it, or, at the end, some bytes without one
pub record TookLine (old new : Option (List ℕ)) (line : List ℕ) : Type 0 where
  pub text : List ℕ
  pub taken : Consumes old new text
  pub unfed : IsUnfed line
  pub ended : (text ≡ line ++ 10 ∷ []) ⊎ ((text ≡ line) × (0 < length line) × IsAtEnd new)

-- a line of more than 512 bytes was taken, and of no more than may be skipped
pub record TookLonger (old new : Option (List ℕ)) : Type 0 where
  pub line : List ℕ
  pub longer : 512 < length line
  pub most : length line ≤ 16777216
  pub took : TookLine old new line

-- more bytes without a line feed were taken than may be skipped
pub record TookUnfed (old new : Option (List ℕ)) : Type 0 where
  pub bytes : List ℕ
  pub behind : List ℕ
  pub taken : Consumes old new (bytes ++ behind)
  pub unfed : IsUnfed bytes
  pub more : 16777216 < length bytes

-- a line ends before these bytes: they begin with a line feed, or there are none
abbrev pub EndsLine : List ℕ → Type 0
EndsLine [] = ⊤
EndsLine (byte ∷ rest) = byte ≡ 10

-- the bytes that are left are told, and begin with a line of more than 512 bytes, and of no more than may be skipped
pub record HasLonger (left : Option (List ℕ)) : Type 0 where
  pub line : List ℕ
  pub behind : List ℕ
  pub begins : left ≡ Some (line ++ behind)
  pub unfed : IsUnfed line
  pub ended : EndsLine behind
  pub longer : 512 < length line
  pub most : length line ≤ 16777216

-- some bytes were taken from the front, and no others
pub record TookSome (old new : Option (List ℕ)) : Type 0 where
  pub bytes : List ℕ
  pub taken : Consumes old new bytes

-- what was taken of the bytes that were left where a line gave this; of a fault only that it came from the front
abbrev pub Takes : Option (List ℕ) → Option (List ℕ) → Given → Type 0
Takes old new (GaveLine line) = TookLine old new line × (length line ≤ 512)
Takes old new GaveTooLong = TookLonger old new
Takes old new GaveEnd = IsAtEnd old × IsAtEnd new
Takes old new GaveFailed = TookSome old new

-- a part of a line was cut from the front of what was held, with what ends it, and was added if it fits
pub record CutPart (held rest before after feed : List ℕ) (count : ℕ) : Type 0 where
  pub part : List ℕ
  pub cut : held ≡ part ++ (feed ++ rest)
  pub counted : length part ≡ count
  pub unfed : IsUnfed part
  pub kept : length before + count ≤ 512 → after ≡ before ++ part

-- what was cut from what was held
abbrev pub Cuts : List ℕ → List ℕ → List ℕ → List ℕ → Gathered → Type 0
Cuts held rest before after (Fed count) = CutPart held rest before after (10 ∷ []) count
Cuts held rest before after (Part count) = CutPart held rest before after [] count
Cuts held rest before after End = ⊥
Cuts held rest before after Failed = ⊥

-- a part of a line was taken, with what ends it, and was added if it fits
pub record GotPart (old new : Option (List ℕ)) (before after feed : List ℕ) (count : ℕ) : Type 0 where
  pub part : List ℕ
  pub taken : Consumes old new (part ++ feed)
  pub counted : length part ≡ count
  pub unfed : IsUnfed part
  pub kept : length before + count ≤ 512 → after ≡ before ++ part

-- what was taken of the bytes that were left; where the reader had a fault, none
abbrev pub Gathers : Option (List ℕ) → Option (List ℕ) → List ℕ → List ℕ → Gathered → Type 0
Gathers old new before after (Fed count) = GotPart old new before after (10 ∷ []) count
Gathers old new before after (Part count) = GotPart old new before after [] count
Gathers old new before after End = IsAtEnd old × IsAtEnd new × Consumes old new [] × (after ≡ before)
Gathers old new before after Failed = Consumes old new []

-- the parts of a line so far
pub record Gathering (old now : Option (List ℕ)) (into : List ℕ) (len : ℕ) : Type 0 where
  pub bytes : List ℕ
  pub taken : Consumes old now bytes
  pub counted : length bytes ≡ len
  pub unfed : IsUnfed bytes
  pub kept : len ≤ 512 → into ≡ bytes
