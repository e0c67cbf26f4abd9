use Rattle.std.proofs.Common.{sym}
use Rattle.desk_model.specs.offers.Bars.{facts_of}
use Rattle.fast_core.proofs.candidate.Candidate.busy_bar.Goals as goal

pub returns : goal.returns
returns c h p person m job bar legal is known found =
    c.busy_bar.ensures.first (facts_of h m job p person) bar (sym is.kept.marked_off) (sym (c.in_tour.ensures h p is)) (sym is.kept.assigned) (sym is.kept.on_offer) found
