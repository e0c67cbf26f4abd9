-- Who is enrolled and what they can do, which boards there are, and which vacancies were made.
use Rattle.std.specs.Prelude.{ℕ, nat_eq, Option, None, Some, unwrap_or, if◌then◌else◌, List}
use Rattle.std.specs.Str.{bytes_eq}
use Rattle.std.specs.List.{filter_map}
use Rattle.desk_model.specs.declared.command.Cmd.{Cmd}
use Rattle.desk_model.specs.declared.command.Cmd.TheVariants as cmd
use Rattle.desk_model.specs.declared.person.Person.{Person}
use Rattle.desk_model.specs.declared.board_setup.BoardSetup.{BoardSetup}
use Rattle.desk_model.specs.statements.Job.{JobValue}
use Rattle.desk_model.specs.histories.History.{History, said, first_of, last_of}

-- a command that enrols this person, and one that enrols somebody
abbrev pub enrols : ℕ → Cmd → Option Person
enrols p (cmd.Enrol person craft home quals) = if nat_eq person p then Some (record { craft = craft; home = home }) else None
enrols p other = None

abbrev pub enrols_any : Cmd → Option ℕ
enrols_any (cmd.Enrol person craft home quals) = Some person
enrols_any other = None

-- the qualifications that a command gives this person: all of them, and none else
abbrev pub gives : ℕ → Cmd → Option ℕ
gives p (cmd.Enrol person craft home quals) = if nat_eq person p then Some quals else None
gives p (cmd.Qualify person quals) = if nat_eq person p then Some quals else None
gives p other = None

-- a command that sets up this board, and one that sets up some board
abbrev pub sets_up : List ℕ → Cmd → Option BoardSetup
sets_up b (cmd.Board board extra place) = if bytes_eq board b then Some (record { extra = extra; place = place }) else None
sets_up b other = None

abbrev pub sets_up_any : Cmd → Option (List ℕ)
sets_up_any (cmd.Board board extra place) = Some board
sets_up_any other = None

-- a command that makes this vacancy, and one that makes some vacancy
abbrev pub makes : ℕ → Cmd → Option JobValue
makes v (cmd.Vacancy job) = if nat_eq job.vac v then Some job else None
makes v other = None

abbrev pub makes_any : Cmd → Option ℕ
makes_any (cmd.Vacancy job) = Some job.vac
makes_any other = None

-- the person as enrolled, the board as set up, and the vacancy as made; None where there is none such
abbrev pub person_of : History → ℕ → Option Person
person_of h p = first_of (said (enrols p)) h.entries

abbrev pub board_of : History → List ℕ → Option BoardSetup
board_of h b = first_of (said (sets_up b)) h.entries

abbrev pub vacancy_of : History → ℕ → Option JobValue
vacancy_of h v = first_of (said (makes v)) h.entries

-- what the person can do: the qualifications that they were given last
abbrev pub quals_of : History → ℕ → ℕ
quals_of h p = unwrap_or (last_of (said (gives p)) h.entries) 0

-- all persons, all boards and all vacancies, in the order in which they came
abbrev pub persons : History → List ℕ
persons h = filter_map (said enrols_any) h.entries

abbrev pub boards : History → List (List ℕ)
boards h = filter_map (said sets_up_any) h.entries

abbrev pub vacancies : History → List ℕ
vacancies h = filter_map (said makes_any) h.entries
