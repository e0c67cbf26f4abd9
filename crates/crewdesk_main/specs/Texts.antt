-- The texts that the program prints of itself.
use Rattle.std.specs.Prelude.{◌≡◌, ◌⊎◌, ℕ, Option, List, [], ◌∷◌, ◌++◌, codes}
use Rattle.std.specs.Io.KnownBytes.{Appends}
use Rattle.desk_io.specs.declared.status.Status.{Status}
use Rattle.desk_io.specs.declared.status.Status.TheVariants.{Fine, WriteFault}
use Rattle.desk_io.specs.Faults.{Rose}
use Rattle.desk_io.specs.Giving.{AddsFront}

-- a line of ASCII
abbrev pub line : List ℕ → List ℕ
line text = text ++ 10 ∷ []

-- the forms of the command line, one a line
abbrev pub help_text : List ℕ
help_text =
    line (codes "crewdesk replay          reads a day file from standard input and writes its journal to standard output")
    ++ line (codes "crewdesk tally           reads a day file from standard input and writes its tally to standard output")
    ++ line (codes "crewdesk forecast K      reads a day file from standard input and writes its journal without the last K commands, and what would be answered to these")
    ++ line (codes "crewdesk when V P        reads a day file from standard input and writes from when on nothing bars person P from vacancy V")
    ++ line (codes "crewdesk serve NAME ...  reads a day file from standard input, serves the caller of each name from NAME.in to NAME.out, and writes the journal of all")
    ++ line (codes "crewdesk watch NAME ...  does so, and hears lines `look,B,K`: who stands at place K of board B; and `M,crew,V,W`: both vacancies are called, or neither")
    ++ line (codes "crewdesk keep J NAME ...  serves so at a desk whose journal is in file J, made from a day file or gone on with; no reply is put before its entry is synced there")
    ++ line (codes "crewdesk keep --clock Z --ahead N J NAME ...  does so, and answers what is stated more than N minutes ahead of the clock, at Z from UTC, such as -0600, with the clock's minute")
    ++ line (codes "crewdesk audit           reads a journal from standard input and writes whether it is legal, or what is wrong in it")
    ++ line (codes "crewdesk continue        reads a journal, a line + and commands from standard input and writes the journal that goes on with them")
    ++ line (codes "crewdesk record P        reads a journal from standard input and writes the records of the tours of person P as JSON")
    ++ line (codes "crewdesk excess          reads a journal from standard input and writes the records of all tours that were too long as JSON")
    ++ line (codes "crewdesk gen N K         makes a day of N commands from the number K and writes the tally of its answers")
    ++ line (codes "crewdesk gen N K 2       does so by the second edition of the rules")
    ++ line (codes "crewdesk --help          prints these lines")
    ++ line (codes "crewdesk --version       prints the program's name and version")

-- the program's name and version
abbrev pub version_text : List ℕ
version_text = line (codes "crewdesk 0.1.0")

-- a run that ended so printed this text; or it had a write fault, and printed a front of it
pub record EndsPrint (result : Status) (text : List ℕ) (held held' : Option (List ℕ)) (given given' : ℕ) : Type 0 where
  pub fine : result ≡ Fine → Appends held held' text
  pub write_fault : result ≡ WriteFault → AddsFront held held' text
  pub write_cause : result ≡ WriteFault → Rose given given'
  pub either : (result ≡ Fine) ⊎ (result ≡ WriteFault)
