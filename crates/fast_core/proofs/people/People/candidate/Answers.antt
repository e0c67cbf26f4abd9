use Rattle.std.proofs.Common.{◌≡◌, Some, sym, ap, subst, ◌∙◌}
use Rattle.std.proofs.lemmas.Option.{same_Some}
use Rattle.desk_model.specs.histories.Register.{persons}
use Rattle.desk_register.specs.Among.{index_among}
use Rattle.desk_register.specs.Persons.{IsPerson, person_numbers, person_under}
use Rattle.desk_state.specs.Clocks.{IsClock}
use Rattle.fast_core.proofs.people.People.candidate.Goals as goal

pub returns : goal.returns
returns c h keeps =
    let p = c.args.number in
    let found = c.in-Some.found in
    let index : index_among (persons h) p ≡ Some found.index =
    sym (c.in-Some.ensures.index ∙ ap (λ r. index_among (person_numbers r) p) c.persons.ensures ∙ ap (λ ns. index_among ns p) keeps.register.persons.order) in
    let clock = keeps.clocks.each p found.index index in
    record {
      index = index;
      kept = subst (λ k. IsPerson k h p) (sym (c.in-Some.ensures.kept ∙ ap (λ r. person_under r p) c.persons.ensures)) (keeps.register.persons.each p);
      clock = subst (λ x. IsClock x h p) (same_Some _ _ (sym clock.1.0 ∙ sym c.in_ok-clock.ensures)) clock.1.1;
    }
