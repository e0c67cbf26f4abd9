use Rattle.std.proofs.Common.{◌∙◌, nat_eq}
use Rattle.indexmap.specs.IndexMap.{get, keys}
use Rattle.desk_register.proofs.KeepLemmas.{vacancies-keep}
use Rattle.desk_register.proofs.vacancies.Vacancies.change.Goals as goal

pub returns : goal.returns
returns c h e legal next is had are =
    vacancies-keep h e c.args.cmd.now c.args.had (get nat_eq c.args.self.now.kept) (get nat_eq c.make.new.self.kept) (get nat_eq c.change_target.new.self.kept)
    (keys c.args.self.now.kept) (keys c.change_target.new.self.kept)
    (c.what_an_entry_makes_of_the_desk.ensures.comes h e) (λ v. c.what_an_entry_makes_of_the_desk.ensures.state h e v legal next)
    (λ v p. c.a_vacancy_is_in_one_state.ensures.taken h legal v p) next is had are
    c.make.ensures.under c.change_target.ensures.under (λ can. c.change_target.ensures.keys ∙ c.make.ensures.keys can)
