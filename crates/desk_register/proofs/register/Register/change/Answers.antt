use Rattle.indexmap.specs.IndexMap.{get, keys}
use Rattle.std.proofs.Common.{nat_eq}
use Rattle.desk_register.specs.TurnedDown.{turned_at}
use Rattle.desk_register.proofs.RegisterLemmas.{turner-indexed, turned-indexed}
use Rattle.desk_register.proofs.TurnedLemmas.{turned-keeps}
use Rattle.desk_register.proofs.register.Register.change.Goals as goal

pub returns : goal.returns
returns c h e legal next is kept =
    let desk = c.args.self.now in
    let cmd = c.args.cmd.now in
    let had_is = c.had_by-had.ensures h kept in
    let person_is = c.turner_index-turner.ensures.index h kept in
    let vacancy_is = c.turned_index-turned.ensures.index h kept in
    record {
      persons = c.change.ensures h e legal next is (c.loser-lost.ensures h kept) (c.offeree-settled.ensures h kept) kept.persons;
      boards = c.change-2.ensures h e next is kept.boards;
      vacancies = c.change-3.ensures h e legal next is had_is kept.vacancies;
      turned_down = turned-keeps h e cmd c.turner_index-turner.result c.turned_index-turned.result (turned_at desk.turned_down) (turned_at c.keep.new.self)
          (c.what_an_entry_makes_of_the_desk.ensures.comes h e) (c.a_vacancy_is_in_one_state.ensures.has h) is person_is vacancy_is
          (turner-indexed h e cmd (get nat_eq desk.persons.kept) (keys desk.persons.kept) c.turner_index-turner.result next is kept.persons person_is c.turner_index-turner.ensures.found)
          (turned-indexed h e cmd (get nat_eq desk.vacancies.kept) (keys desk.vacancies.kept) c.turned_index-turned.result
          (λ v p. c.a_vacancy_is_in_one_state.ensures.taken h legal v p) next is kept.vacancies vacancy_is (λ v. c.turned_index-turned.ensures.found h v kept))
          c.keep.ensures kept.turned_down;
    }
