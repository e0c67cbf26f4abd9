use Rattle.std.specs.Prelude.{ℕ, List, codes}
use Rattle.desk_io.specs.declared.status.Status.{Status}
use Rattle.desk_io.specs.declared.status.Status.TheVariants.{Fine, Usage, ReadFault, WriteFault, TooLong, NoMemory, AuditWrong, NoOpening, Unreadable}
use Rattle.desk_io.specs.declared.input_fault.InputFault.{InputFault}
use Rattle.desk_io.specs.declared.input_fault.InputFault.TheVariants as input

-- the exit status of each way to end
abbrev pub code_of : Status → ℕ
code_of Fine = 0
code_of Usage = 2
code_of ReadFault = 3
code_of WriteFault = 4
code_of TooLong = 5
code_of NoMemory = 6
code_of AuditWrong = 7
code_of NoOpening = 8
code_of Unreadable = 9

-- the word on standard error of each way to end
abbrev pub word_of : Status → List ℕ
word_of Fine = codes ""
word_of Usage = codes "usage"
word_of ReadFault = codes "read fault"
word_of WriteFault = codes "write fault"
word_of TooLong = codes "too long"
word_of NoMemory = codes "no memory"
word_of AuditWrong = codes "wrong"
word_of NoOpening = codes "no opening"
word_of Unreadable = codes "unreadable"

-- the way to end where an input could not be taken
abbrev pub status_of : InputFault → Status
status_of input.ReadFault = ReadFault
status_of input.TooLong = TooLong
status_of input.NoMemory = NoMemory
