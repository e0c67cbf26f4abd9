use Rattle.std.specs.Prelude.{ℕ, ◌-◌, ◌<◌, ◌≤◌, ◌==◌, Bool, ◌&&◌, ◌||◌, nat_lt, List, [], length, min, if◌then◌else◌}
use Rattle.std.specs.List.{list_any}
use Rattle.desk_io.specs.declared.giving.Giving.{Giving}
use Rattle.desk_io.specs.declared.giving.Giving.TheVariants.{Took, Failed}
use Rattle.desk_io.specs.Faults.{one_more}
use Rattle.desk_io.specs.Giving.{held_after, faults_after}

-- what a sink in memory holds, how it takes it, and its calls and faults so far
pub record Store : Type 0 where
  pub held : List ℕ
  pub room : ℕ
  pub piece : ℕ
  pub failing : List ℕ
  pub calls : ℕ
  pub faults : ℕ

-- what is held is within the room, for which there is memory, and some bytes are taken at a call
pub record HasRoom (held room capacity piece : ℕ) : Type 0 where
  pub within : held ≤ room
  pub reserved : room ≤ capacity
  pub some : 0 < piece

-- a sink that was not called yet
abbrev pub new_store : ℕ → ℕ → List ℕ → Store
new_store room piece failing =
    record { held = []; room = room; piece = piece; failing = failing; calls = 0; faults = 0 }

-- the room that is left
abbrev pub room_left : Store → ℕ
room_left store = store.room - length store.held

-- it fails at the listed calls, and where it has no room for any byte of a piece of so many
abbrev pub fails : Store → ℕ → Bool
fails store len =
    list_any (λ number. number == one_more store.calls) store.failing || (room_left store == 0 && nat_lt 0 len)

-- its answer to a piece of so many bytes: where it does not fail, it takes as many as it can
abbrev pub write_answer : Store → ℕ → Giving
write_answer store len = if fails store len then Failed else Took (min (min store.piece len) (room_left store))

-- what it is after an answer to a piece
abbrev pub after_write : Store → Giving → List ℕ → Store
after_write store answer from = record store {
  held = held_after answer store.held from;
  calls = one_more store.calls;
  faults = faults_after answer store.faults;
}
