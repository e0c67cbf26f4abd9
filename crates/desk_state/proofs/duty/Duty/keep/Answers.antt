use Rattle.std.proofs.Common.{sym, ◌∙◌}
use Rattle.desk_state.proofs.DutyIndexLemmas.{said-may}
use Rattle.desk_state.proofs.ClockLemmas.{home-keeps, none-keeps, event-keeps, indexed}
use Rattle.desk_state.proofs.duty.Duty.keep.Goals as goal

pub returns-in-Some-clause-clocks : goal.returns-in-Some-clause-clocks
returns-in-Some-clause-clocks c h legal next window index are =
    let e = c.args.entry.now in
    home-keeps h e c.args.self.now.window c.in-Some.home c.args.self.now.clocks.items c.enrol.new.self.clocks.items
    (c.what_an_entry_makes_of_the_desk.ensures.comes h e) window
    (λ p told. (said-may h e p (c.what_is_done_rests_on.ensures.done h e next) told).0) (λ p told. (said-may h e p (c.what_is_done_rests_on.ensures.done h e next) told).1)
    (sym c.home_of.ensures ∙ c.in-Some.is) c.enrol.ensures.clocks are

pub returns-in_default-told_event-clause-clocks : goal.returns-in_default-told_event-clause-clocks
returns-in_default-told_event-clause-clocks c h legal next window index are =
    none-keeps h c.args.entry.now c.args.self.now.clocks.items (c.what_an_entry_makes_of_the_desk.ensures.comes h c.args.entry.now)
    (sym c.home_of.ensures ∙ c.in_default.is) (sym c.told_event.ensures ∙ c.in_default-told_event.is) are

pub returns-clause-clocks : goal.returns-clause-clocks
returns-clause-clocks c h legal next window index are =
    let e = c.args.entry.now in
    event-keeps h e c.in-Some-index.index c.in-Some-told_event.event c.args.self.now.clocks.items c.tell.new.self.clocks.items
    (c.what_an_entry_makes_of_the_desk.ensures.comes h e) c.may_follow_in_words.ensures
    (λ p x told. c.what_is_told_may_follow.ensures.follows h e p x next told) (λ p x told. c.what_is_told_may_follow.ensures.first h e p x legal next told)
    (λ p x told. c.what_is_told_may_follow.ensures.last h e p x legal next told) (sym c.told_event.ensures ∙ c.in-Some-told_event.is)
    (λ p of. sym c.in-Some-index.is ∙ index p of) c.tell.ensures.clocks are

pub returns-in_default-index-clause-clocks : goal.returns-in_default-index-clause-clocks
returns-in_default-index-clause-clocks c h legal next window index are =
    absurd (indexed h c.args.entry.now c.in-Some-told_event.event (c.what_is_done_rests_on.ensures.done h c.args.entry.now next)
    (c.who_is_enrolled_has_an_index.ensures.persons h) (sym c.told_event.ensures ∙ c.in-Some-told_event.is)
    (λ p of. sym c.in_default-index.is ∙ index p of))
