use Rattle.std.proofs.Common.{None, ◌∙◌, nat_eq}
use Rattle.indexmap.specs.IndexMap.{get, keys}
use Rattle.desk_register.specs.Changes.{subject, changed, freed, with_offer}
use Rattle.desk_register.proofs.RosterLemmas.{persons-keep, put_under-agree}
use Rattle.desk_register.proofs.roster.Roster.change.Goals as goal

pub returns : goal.returns
returns c h e legal next is lost settled agrees =
    let who = subject c.args.cmd.now in
    persons-keep h e c.args.cmd.now c.args.lost c.args.settled (get nat_eq c.args.self.now.kept) _ (keys c.args.self.now.kept) _
    (c.what_an_entry_makes_of_the_desk.ensures.comes h e) (λ q. c.what_an_entry_makes_of_the_desk.ensures.on_offer h e q legal next)
    (λ v p. c.a_vacancy_is_in_one_state.ensures.taken h legal v p) (λ v p. c.a_vacancy_is_in_one_state.ensures.offered h legal v p) (c.one_offer_to_a_person.ensures h legal)
    (c.what_is_done_rests_on.ensures.done h e next is.done) next is lost settled agrees
    (λ can q. c.put_offer.ensures.under q
    ∙ put_under-agree c.args.settled (with_offer None) _ _ (λ s. c.change_subject.ensures.under s
    ∙ put_under-agree who (changed c.args.cmd.now) _ _ (λ r. c.free.ensures.under r ∙ put_under-agree c.args.lost freed _ _ (c.enrol.ensures.under can) r) s) q)
    (λ can. c.put_offer.ensures.keys ∙ c.change_subject.ensures.keys ∙ c.free.ensures.keys ∙ c.enrol.ensures.keys can)
