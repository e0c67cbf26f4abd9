use Rattle.indexmap.specs.IndexMap.{get, keys}
use Rattle.std.specs.Str.{bytes_eq}
use Rattle.std.proofs.Common.{nat_eq}
use Rattle.desk_register.proofs.RegisterLemmas.{persons-none, boards-none, vacancies-none, turned-none}
use Rattle.desk_register.specs.TurnedDown.{turned_at}
use Rattle.desk_register.proofs.register.Register.new.Goals as goal

pub returns : goal.returns
returns c o = record {
  persons = persons-none o (get nat_eq c.in_ok-persons.persons.kept) (keys c.in_ok-persons.persons.kept) c.in_ok-persons.ensures.under c.in_ok-persons.ensures.keys;
  boards = boards-none o (get bytes_eq c.in_ok-boards.boards.kept) (keys c.in_ok-boards.boards.kept) c.in_ok-boards.ensures.under c.in_ok-boards.ensures.keys;
  vacancies = vacancies-none o (get nat_eq c.in_ok-vacancies.vacancies.kept) (keys c.in_ok-vacancies.vacancies.kept) c.in_ok-vacancies.ensures.under c.in_ok-vacancies.ensures.keys;
  turned_down = turned-none o (turned_at c.in_ok-turned_down.turned_down) c.in_ok-turned_down.ensures;
}
