use Rattle.std.proofs.Common.{take}
use Rattle.std.specs.List.{All}
use Rattle.desk_model.specs.histories.History.{History}
use Rattle.desk_answers.specs.Asked.{IsAsked}
use Rattle.fast_core.specs.KeptDesk.{Tells}
use Rattle.fast_core.specs.Unfilled.{IsOutOrBarred}
use Rattle.fast_core.proofs.kept_desk.KeptDesk.are_barred.Given as goal

-- none of the persons so far may be called
abbrev pub invariant-loop-person : goal.invariant-loop-person
invariant-loop-person l = (h : History) → Tells l.self h → IsAsked h l.moment l.job → All (IsOutOrBarred h l.moment l.job) (take l.person-index l.persons)
