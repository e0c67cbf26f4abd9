-- What a stop leaves of a device in memory lies between what is kept and what was written.
use Rattle.std.proofs.Common.{◌≡◌, ◌∙◌, ℕ, ◌+◌, List, ◌++◌, take, drop, sym, take-append-drop}
use Rattle.std.proofs.Math.Seq.{take-add}
use mathlib.Core.List.{IsPrefix}
use Rattle.journal_device.specs.MemoryDevice.{Disk, kept_of}

-- what is kept begins what is kept and some bytes more
pub kept_of-front : (disk : Disk) (held : List ℕ) (kept more : ℕ) → disk.held ≡ held → disk.kept ≡ kept
    → IsPrefix (kept_of disk) (take (kept + more) held)
kept_of-front disk held kept more same_held same_kept =
    let parts : take (kept + more) held ≡ take kept held ++ take more (drop kept held) = take-add kept more held in
    (take more (drop kept held), cc)

-- so many of the bytes begin what was written
pub written-front : (disk : Disk) (held : List ℕ) (count : ℕ) → disk.held ≡ held → IsPrefix (take count held) disk.held
written-front disk held count same_held = (drop count held, take-append-drop count held ∙ sym same_held)
