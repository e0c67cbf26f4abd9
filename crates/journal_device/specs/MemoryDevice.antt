use Rattle.std.specs.Prelude.{ℕ, ◌+◌, ◌-◌, ◌≤◌, ◌==◌, Bool, true, false, nat_le, List, [], ◌++◌, length, take, min, if◌then◌else◌}
use Rattle.std.specs.List.{list_any}
use Rattle.desk_io.specs.Faults.{one_more}
use Rattle.journal_device.specs.Device.{faults_after}

-- what a device in memory holds and how many of these bytes are kept, how it takes bytes, and its calls and faults so far
pub record Disk : Type 0 where
  pub held : List ℕ
  pub kept : ℕ
  pub room : ℕ
  pub torn : ℕ
  pub failing : List ℕ
  pub calls : ℕ
  pub faults : ℕ

-- what is kept is held, and what is held is within the room, for which there is memory
pub record HasRoom (kept held room capacity : ℕ) : Type 0 where
  pub holds : kept ≤ held
  pub within : held ≤ room
  pub reserved : room ≤ capacity

-- a device that was not called yet
abbrev pub new_disk : ℕ → ℕ → List ℕ → Disk
new_disk room torn failing = record {
  held = [];
  kept = 0;
  room = room;
  torn = torn;
  failing = failing;
  calls = 0;
  faults = 0;
}

-- the bytes that are kept
abbrev pub kept_of : Disk → List ℕ
kept_of disk = take disk.kept disk.held

-- what a stop leaves: what is kept, and so many of the bytes behind it, or all of them
abbrev pub left_of : Disk → ℕ → List ℕ
left_of disk unsynced = take (disk.kept + min unsynced (length disk.held - disk.kept)) disk.held

-- the room that is left
abbrev pub room_left : Disk → ℕ
room_left disk = disk.room - length disk.held

-- the next call is one of the listed
abbrev pub fails : Disk → Bool
fails disk = list_any (λ number. number == one_more disk.calls) disk.failing

-- it takes so many bytes where the call is not listed and there is room for them all
abbrev pub append_answer : Disk → ℕ → Bool
append_answer disk len = if fails disk then false else nat_le len (room_left disk)

-- what it takes of the bytes: all of them, or at a fault no more than it is told to, and than there is room for
abbrev pub taken : Bool → Disk → List ℕ → List ℕ
taken true disk bytes = bytes
taken false disk bytes = take (min disk.torn (room_left disk)) bytes

-- what it is after an append
abbrev pub after_append : Disk → Bool → List ℕ → Disk
after_append disk answer bytes = record disk {
  held = disk.held ++ taken answer disk bytes;
  calls = one_more disk.calls;
  faults = faults_after answer disk.faults;
}

-- it syncs where the call is not listed
abbrev pub sync_answer : Disk → Bool
sync_answer disk = if fails disk then false else true

-- how many bytes are kept after a sync
abbrev pub kept_after : Bool → Disk → ℕ
kept_after true disk = length disk.held
kept_after false disk = disk.kept

-- what it is after a sync
abbrev pub after_sync : Disk → Bool → Disk
after_sync disk answer = record disk {
  kept = kept_after answer disk;
  calls = one_more disk.calls;
  faults = faults_after answer disk.faults;
}

-- it cuts where the call is not listed and there are so many bytes
abbrev pub cut_answer : Disk → ℕ → Bool
cut_answer disk len = if fails disk then false else nat_le len (length disk.held)

-- what it is after a cut to its first bytes, so many
abbrev pub after_cut : Disk → ℕ → Disk
after_cut disk len = record disk {
  held = take len disk.held;
  kept = len;
  calls = one_more disk.calls;
}
