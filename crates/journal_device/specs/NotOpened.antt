-- Which refusal an error of the system comes to.
use Rattle.std.specs.Prelude.{◌≡◌, ◌≢◌}
use Rattle.std.specs.IoError.{error_kind}
use Rattle.std.specs.declared.io.Error.{Error}
use Rattle.std.specs.declared.io.ErrorKind.TheVariants.{IsADirectory}
use Rattle.std.specs.declared.fs.TryLockError.{TryLockError}
use Rattle.std.specs.declared.fs.TryLockError.TheVariants as asked
use Rattle.journal_device.specs.declared.not_opened.NotOpened.{NotOpened}
use Rattle.journal_device.specs.declared.not_opened.NotOpened.TheVariants as refusal

-- the name of a folder is that of no file, and any other error is passed on
pub record Refuses (fault : Error) (why : NotOpened) : Type 0 where
  pub folder : error_kind fault ≡ IsADirectory → why ≡ refusal.NotAFile
  pub other : error_kind fault ≢ IsADirectory → why ≡ refusal.Fault fault

-- a lock that another has is in use, and any other error is passed on
abbrev pub lock_refusal_of : TryLockError → NotOpened
lock_refusal_of asked.WouldBlock = refusal.InUse
lock_refusal_of (asked.Error fault) = refusal.Fault fault
