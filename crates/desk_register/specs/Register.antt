-- What is kept of persons, boards and vacancies, beside what a history says of them.
use Rattle.desk_model.specs.histories.History.{History}
use Rattle.desk_register.specs.Persons.{KeepsPersons}
use Rattle.desk_register.specs.Boards.{KeepsBoards}
use Rattle.desk_register.specs.Vacancies.{KeepsVacancies}
use Rattle.desk_register.specs.TurnedDown.{KeepsTurned}
use Rattle.desk_register.specs.declared.roster.Roster.{Roster}
use Rattle.desk_register.specs.declared.boards.Boards.{Boards}
use Rattle.desk_register.specs.declared.vacancies.Vacancies.{Vacancies}
use Rattle.desk_register.specs.declared.turned_down.TurnedDown.{TurnedDown}
use Rattle.desk_register.specs.declared.register.Register.{Register}

-- its parts
abbrev pub roster_of : Register → Roster
roster_of r = r.persons

abbrev pub boards_kept : Register → Boards
boards_kept r = r.boards

abbrev pub vacancies_kept : Register → Vacancies
vacancies_kept r = r.vacancies

abbrev pub turned_down_of : Register → TurnedDown
turned_down_of r = r.turned_down

-- all that is kept is what the history says
pub record Keeps (r : Register) (h : History) : Type 0 where
  pub persons : KeepsPersons (roster_of r) h
  pub boards : KeepsBoards (boards_kept r) h
  pub vacancies : KeepsVacancies (vacancies_kept r) h
  pub turned_down : KeepsTurned (turned_down_of r) h
