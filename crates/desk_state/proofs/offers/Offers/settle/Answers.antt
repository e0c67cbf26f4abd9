use Rattle.std.proofs.Common.{refl, sym, ◌∙◌, subst}
use Rattle.desk_model.specs.histories.History.{with_entry}
use Rattle.desk_state.specs.OpenOffers.{AreOffers}
use Rattle.desk_state.specs.Holds.{end_at}
use Rattle.desk_state.proofs.HoldLemmas.{holds-stay}
use Rattle.desk_state.proofs.FlightLemmas.{offers-ended, offers-idle}
use Rattle.desk_state.proofs.OfferKeepLemmas.{few-stay, idle-none, decliner-indexed, declined-held}
use Rattle.desk_state.proofs.offers.Offers.settle.Goals as goal

pub returns-in_default : goal.returns-in_default
returns-in_default c h legal next settled index kept =
    let e = c.args.entry.now in
    let x = c.args.self.now in
    let comes = c.what_an_entry_makes_of_the_desk.ensures.comes h e in
    let rests = c.what_is_done_rests_on.ensures.done h e next in
    let none = sym c.finish.ensures.value ∙ c.in_default.is in
    record {
      offers = subst (λ f. AreOffers f x.answer (with_entry h e)) (sym (c.finish.ensures.none c.in_default.is))
          (offers-idle h e x.flight x.answer c.args.vac comes (λ p. c.what_an_entry_makes_of_the_desk.ensures.on_offer h e p legal next) settled c.no_person_stands_twice.ensures.one_map none kept.offers);
      holds = holds-stay h e (end_at x.holds) comes (idle-none h e x.flight x.answer c.args.vac rests settled none kept.offers) kept.holds;
      answer = kept.answer;
      few = few-stay h e comes rests kept.few;
    }

pub returns-in_default-decliner : goal.returns-in_default-decliner
returns-in_default-decliner c h legal next settled index kept =
    let e = c.args.entry.now in
    let x = c.args.self.now in
    let comes = c.what_an_entry_makes_of_the_desk.ensures.comes h e in
    record {
      offers = offers-ended h e x.flight c.finish.new.self x.answer c.args.vac c.in-Some.done comes (λ p. c.what_an_entry_makes_of_the_desk.ensures.on_offer h e p legal next) settled
          c.no_person_stands_twice.ensures.one_map c.in-Some.ensures.value c.in-Some.ensures.vacancies c.in-Some.ensures.persons kept.offers;
      holds = holds-stay h e (end_at x.holds) comes (sym c.decliner.ensures ∙ c.in_default-decliner.is) kept.holds;
      answer = kept.answer;
      few = few-stay h e comes (c.what_is_done_rests_on.ensures.done h e next) kept.few;
    }

pub returns-in_default-person : goal.returns-in_default-person
returns-in_default-person c h legal next settled index kept =
    let e = c.args.entry.now in
    let told = sym c.decliner.ensures ∙ c.in-Some-decliner.is in
    absurd (decliner-indexed h e c.in-Some-decliner.field-0 (c.what_is_done_rests_on.ensures.done h e next) (c.who_is_enrolled_has_an_index.ensures.persons h) told
    (sym c.in_default-person.is ∙ index c.in-Some-decliner.field-0 told))

pub returns : goal.returns
returns c h legal next settled index kept =
    let e = c.args.entry.now in
    let x = c.args.self.now in
    let comes = c.what_an_entry_makes_of_the_desk.ensures.comes h e in
    let rests = c.what_is_done_rests_on.ensures.done h e next in
    let told = sym c.decliner.ensures ∙ c.in-Some-decliner.is in
    record {
      offers = offers-ended h e x.flight c.finish.new.self x.answer c.args.vac c.in-Some.done comes (λ p. c.what_an_entry_makes_of_the_desk.ensures.on_offer h e p legal next) settled
          c.no_person_stands_twice.ensures.one_map c.in-Some.ensures.value c.in-Some.ensures.vacancies c.in-Some.ensures.persons kept.offers;
      holds = declined-held h e (end_at x.holds) (end_at c.hold.new.self) x.flight x.answer c.args.vac c.in-Some-decliner.field-0 c.in-Some-person.index c.in-Some.done.board c.later-until.result c.in-Some.done
          comes legal (c.each_moment_lies_in_the_window.ensures h e legal next) rests settled told c.in-Some.ensures.value (sym c.in-Some-person.is ∙ index c.in-Some-decliner.field-0 told)
          refl (rw c.moment.ensures at c.later-until.ensures) c.hold.ensures kept.offers kept.few kept.holds;
      answer = kept.answer;
      few = few-stay h e comes rests kept.few;
    }
