-- How runs end: what is read, what is written, and which status comes.
use Rattle.std.specs.Prelude.{◌≡◌, ◌≢◌, ◌⊎◌, ℕ, ◌<◌, ◌≤◌, Bool, true, false, Option, None, Some, List, [], length, ⊤}
use Rattle.desk_io.specs.declared.status.Status.{Status}
use Rattle.desk_io.specs.declared.status.Status.TheVariants.{Fine, ReadFault, WriteFault, NoMemory, AuditWrong, Unreadable}
use Rattle.std.specs.Io.KnownBytes.{Appends, Keeps}
use Rattle.desk_io.specs.Faults.{Rose}
use Rattle.desk_io.specs.Giving.{AddsFront}

-- a source that told its bytes told some within the limit that have P, and has none left
abbrev pub WasRead : ℕ → Option (List ℕ) → Option (List ℕ) → (List ℕ → Type 0) → Type 0
WasRead limit None left P = ⊤
WasRead limit (Some bytes) left P = (length bytes ≤ limit) × (left ≡ Some []) × P bytes

-- the text was written, or the sink had a fault, and a front of it was
abbrev pub WritesOrFails : Option (List ℕ) → Option (List ℕ) → ℕ → ℕ → List ℕ → Type 0
WritesOrFails held held' given given' text = (Appends held held' text × (given' ≡ given)) ⊎ (AddsFront held held' text × Rose given given')

-- the source tells bytes within the limit that have P
pub record Tells (limit : ℕ) (left : Option (List ℕ)) (P : List ℕ → Type 0) : Type 0 where
  pub bytes : List ℕ
  pub told : left ≡ Some bytes
  pub within : length bytes ≤ limit
  pub has : P bytes

-- the source tells more bytes than the limit
pub record TellsMore (limit : ℕ) (left : Option (List ℕ)) : Type 0 where
  pub bytes : List ℕ
  pub told : left ≡ Some bytes
  pub more : limit < length bytes

-- the run ended so, unless the source had a fault or memory was wanting
abbrev pub EndsAs : Status → Status → Type 0
EndsAs result status = result ≢ ReadFault → result ≢ NoMemory → result ≡ status

-- the ways to end in which the sink was given something
abbrev pub writes : Status → Bool
writes Fine = true
writes WriteFault = true
writes AuditWrong = true
writes Unreadable = true
writes _ = false

-- how a run ends that has read its input and did this with what it wrote, for which it took all memory before: what its sink told before
-- and after, and how many faults it counted
pub record EndsWriting (result : Status) (Done : (List ℕ → Type 0) → Type 0) (held held' : Option (List ℕ)) (given given' : ℕ) : Type 0 where
  pub fine : result ≡ Fine → Done (Appends held held')
  pub write_fault : result ≡ WriteFault → Done (AddsFront held held')
  pub write_cause : result ≡ WriteFault → Rose given given'
  pub silent : result ≡ NoMemory → Keeps held held'
  pub write_count : result ≢ WriteFault → given' ≡ given
  pub faults_grow : given ≤ given'
  pub only : (result ≡ Fine) ⊎ ((result ≡ WriteFault) ⊎ (result ≡ NoMemory))
