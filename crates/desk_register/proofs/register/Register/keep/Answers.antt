use Rattle.std.proofs.Common.{◌≡◌, false, sym, ap, ◌∙◌, nat_eq, subst}
use Rattle.std.specs.Str.{bytes_eq}
use Rattle.indexmap.specs.IndexMap.{get, keys}
use Rattle.desk_model.specs.histories.History.{is_done, with_entry}
use Rattle.desk_register.specs.Persons.{ArePersons}
use Rattle.desk_register.specs.Vacancies.{AreVacancies}
use Rattle.desk_register.specs.TurnedDown.{turned_at}
use Rattle.desk_register.proofs.StayLemmas.{persons-stay, persons-offered, boards-stay, vacancies-stay, vacancies-offered, turned-stays}
use Rattle.desk_register.proofs.register.Register.keep.Goals as goal

pub returns-in-Some : goal.returns-in-Some
returns-in-Some c h legal next kept =
    let e = c.args.entry.now in
    let desk = c.args.self.now in
    let comes = c.what_an_entry_makes_of_the_desk.ensures.comes h e in
    let refused : is_done e.reply ≡ false = sym (c.is_done.ensures ∙ ap is_done c.reply.ensures) ∙ c.if-is_done.false in
    record {
      persons = subst (λ ns. ArePersons (get nat_eq c.put_offer.new.self.kept) ns (with_entry h e)) (sym c.put_offer.ensures.keys)
          (persons-offered h e _ _ (get nat_eq desk.persons.kept) (get nat_eq c.put_offer.new.self.kept) (keys desk.persons.kept) comes
          (λ q. c.what_an_entry_makes_of_the_desk.ensures.on_offer h e q legal next)
          (λ b k asked is. c.what_is_done_rests_on.ensures.offered h e _ _ k b legal next asked is)
          refused c.in-Some.ensures.some.0 c.in-Some.ensures.some.1 c.put_offer.ensures.under kept.persons);
      boards = boards-stay h e (get bytes_eq desk.boards.kept) (keys desk.boards.kept) comes refused kept.boards;
      vacancies = subst (λ vs. AreVacancies (get nat_eq c.offer.new.self.kept) vs (with_entry h e)) (sym c.offer.ensures.keys)
          (vacancies-offered h e _ _ (get nat_eq desk.vacancies.kept) (get nat_eq c.offer.new.self.kept) (keys desk.vacancies.kept) comes
          (λ v. c.what_an_entry_makes_of_the_desk.ensures.state h e v legal next) next refused c.in-Some.ensures.some.0 c.in-Some.ensures.some.1 c.offer.ensures.under kept.vacancies);
      turned_down = turned-stays h e (turned_at desk.turned_down) comes refused kept.turned_down;
    }

pub returns-in_default : goal.returns-in_default
returns-in_default c h legal next kept =
    let e = c.args.entry.now in
    let desk = c.args.self.now in
    let comes = c.what_an_entry_makes_of_the_desk.ensures.comes h e in
    let refused : is_done e.reply ≡ false = sym (c.is_done.ensures ∙ ap is_done c.reply.ensures) ∙ c.if-is_done.false in
    record {
      persons = persons-stay h e (get nat_eq desk.persons.kept) (keys desk.persons.kept) comes
          (λ q. c.what_an_entry_makes_of_the_desk.ensures.on_offer h e q legal next) refused (c.offered.ensures.none c.in_default.is) kept.persons;
      boards = boards-stay h e (get bytes_eq desk.boards.kept) (keys desk.boards.kept) comes refused kept.boards;
      vacancies = vacancies-stay h e (get nat_eq desk.vacancies.kept) (keys desk.vacancies.kept) comes
          (λ v. c.what_an_entry_makes_of_the_desk.ensures.state h e v legal next) refused (c.offered.ensures.none c.in_default.is) kept.vacancies;
      turned_down = turned-stays h e (turned_at desk.turned_down) comes refused kept.turned_down;
    }
