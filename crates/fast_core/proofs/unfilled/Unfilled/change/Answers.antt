use Rattle.std.proofs.Common.{sym, ◌∙◌}
use Rattle.desk_model.specs.histories.History.{with_entry}
use Rattle.fast_core.proofs.TouchedLemmas.{others-stay}
use Rattle.fast_core.proofs.unfilled.Unfilled.change.Goals as goal

pub returns-in-Some : goal.returns-in-Some
returns-in-Some c h legal next was =
    let e = c.args.entry.now in
    c.touch.ensures h (with_entry h e)
    (others-stay h e c.in-Some.person (c.what_an_entry_makes_of_the_desk.ensures.comes h e) (λ q. c.what_an_entry_makes_of_the_desk.ensures.on_offer h e q legal next)
    (c.what_is_done_rests_on.ensures.done h e next) (sym c.touched.ensures ∙ c.in-Some.is)) was

pub returns-in-None : goal.returns-in-None
returns-in-None c h legal next was = c.forget.ensures.all (with_entry h c.args.entry.now)
