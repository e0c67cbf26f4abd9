use Rattle.std.proofs.Common.{is_some, inl, inr, refl, sym, ap, ◌∙◌, arith}
use Rattle.std.proofs.lemmas.Bool.{false≢true}
use Rattle.desk_state.specs.Holds.{end_at}
use Rattle.desk_state.proofs.HearLemmas.{settled-none, no-offer, made-to_person}
use Rattle.desk_state.proofs.HoldLemmas.{holds-stay}
use Rattle.desk_state.proofs.FlightLemmas.{offers-stay}
use Rattle.desk_state.proofs.OfferKeepLemmas.{few-stay, from-indexed, offers-started}
use Rattle.desk_state.proofs.offers.Offers.keep.Goals as goal

pub returns-in-Some : goal.returns-in-Some
returns-in-Some c h legal next index from kept = c.settle.ensures h legal next (sym c.settled.ensures ∙ c.in-Some.is) index kept

pub returns-in_default-asked : goal.returns-in_default-asked
returns-in_default-asked c h legal next index from kept =
    let e = c.args.entry.now in
    let x = c.args.self.now in
    let comes = c.what_an_entry_makes_of_the_desk.ensures.comes h e in
    let none = sym c.settled.ensures ∙ c.in_default.is in
    record {
      offers = offers-stay h e x.flight x.answer comes (λ p. c.what_an_entry_makes_of_the_desk.ensures.on_offer h e p legal next) none (inl (sym c.asked.ensures ∙ c.in_default-asked.is)) kept.offers;
      holds = holds-stay h e (end_at x.holds) comes (settled-none e none) kept.holds;
      answer = kept.answer;
      few = few-stay h e comes (c.what_is_done_rests_on.ensures.done h e next) kept.few;
    }

pub returns-in_default-offered_person : goal.returns-in_default-offered_person
returns-in_default-offered_person c h legal next index from kept =
    let e = c.args.entry.now in
    let x = c.args.self.now in
    let comes = c.what_an_entry_makes_of_the_desk.ensures.comes h e in
    let none = sym c.settled.ensures ∙ c.in_default.is in
    record {
      offers = offers-stay h e x.flight x.answer comes (λ p. c.what_an_entry_makes_of_the_desk.ensures.on_offer h e p legal next) none
          (inr (no-offer e (sym c.offered_person.ensures ∙ c.in_default-offered_person.is))) kept.offers;
      holds = holds-stay h e (end_at x.holds) comes (settled-none e none) kept.holds;
      answer = kept.answer;
      few = few-stay h e comes (c.what_is_done_rests_on.ensures.done h e next) kept.few;
    }

pub returns-in_default-board : goal.returns-in_default-board
returns-in_default-board c h legal next index from kept =
    let e = c.args.entry.now in
    let made = made-to_person e c.in-Some-offered_person.person (sym c.offered_person.ensures ∙ c.in-Some-offered_person.is) in
    let may = c.what_is_done_rests_on.ensures.offered h e c.in-Some-asked.vac made.offer.person made.position made.offer.board legal next (sym c.asked.ensures ∙ c.in-Some-asked.is) made.reply_is in
    absurd (false≢true (sym (ap is_some c.in_default-board.is)
    ∙ from-indexed h e c.in-Some-asked.vac c.in-Some-offered_person.person c.args.board made may (c.who_is_enrolled_has_an_index.ensures.boards h) from))

pub returns : goal.returns
returns c h legal next index from kept =
    let e = c.args.entry.now in
    let x = c.args.self.now in
    let comes = c.what_an_entry_makes_of_the_desk.ensures.comes h e in
    let none = sym c.settled.ensures ∙ c.in_default.is in
    let asked = sym c.asked.ensures ∙ c.in-Some-asked.is in
    let made = made-to_person e c.in-Some-offered_person.person (sym c.offered_person.ensures ∙ c.in-Some-offered_person.is) in
    let may = c.what_is_done_rests_on.ensures.offered h e c.in-Some-asked.vac made.offer.person made.position made.offer.board legal next asked made.reply_is in
    record {
      offers = offers-started h e x.flight c.start.new.flight x.answer c.in-Some-asked.vac c.in-Some-offered_person.person _ made comes legal
          (λ p. c.what_an_entry_makes_of_the_desk.ensures.on_offer h e p legal next) (c.each_moment_lies_in_the_window.ensures h e legal next) may
          (c.who_is_enrolled_has_an_index.ensures.persons h) c.no_person_stands_twice.ensures.apart none asked kept.answer refl refl
          (sym c.in-Some-board.is ∙ from made.offer.board made.board) (rw (c.moment.ensures, c.from.ensures) at c.later.ensures)
          c.start.ensures.vacancies c.start.ensures.persons kept.few kept.offers;
      holds = holds-stay h e (end_at x.holds) comes (settled-none e none) kept.holds;
      answer = kept.answer;
      few = few-stay h e comes (c.what_is_done_rests_on.ensures.done h e next) kept.few;
    }
