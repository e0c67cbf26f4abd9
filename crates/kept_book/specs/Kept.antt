-- How what a device has of a journal stands to the history of a book.
use Rattle.std.specs.Prelude.{◌≡◌, ℕ, Bool, true, false, List, ◌++◌, ⊤, None, Some}
use Rattle.std.specs.declared.option.Option.{Option}
use mathlib.Core.List.{IsPrefix}
use Rattle.desk_model.specs.statements.Entry.{EntryValue}
use Rattle.desk_model.specs.histories.History.{History, history_of}
use Rattle.desk_model.specs.texts.Journal.{journal}
use Rattle.journal_device.specs.Device.{Tells}

-- a book, the device that has its journal, and whether that had no fault so far
pub record KeptValue (B D : Type 0) : Type 0 where
  pub book : B
  pub device : D
  pub sound : Bool

-- the bytes are a front of the journal of this history, where they are told
abbrev pub TellsFront : Option (List ℕ) → History → Type 0
TellsFront None h = ⊤
TellsFront (Some known) h = IsPrefix known (journal h)

-- the bytes are the journal of the history's first entries, where they are told
pub record KeepsFront (kept : Option (List ℕ)) (h : History) : Type 0 where
  pub entries : List EntryValue
  pub later : List EntryValue
  pub begins : entries ++ later ≡ h.entries
  pub tells : Tells kept (journal (history_of h.opening entries))

-- a device that had no fault has the whole journal written; one that had a fault has a front of it. Each keeps that of the first entries
abbrev pub Stands : Bool → Option (List ℕ) → Option (List ℕ) → History → Type 0
Stands true written kept h = Tells written (journal h) × KeepsFront kept h
Stands false written kept h = TellsFront written h × KeepsFront kept h
