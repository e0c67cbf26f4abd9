use Rattle.desk_state.proofs.ClockLemmas.{clocks-none}
use Rattle.desk_state.proofs.duty.Duty.new.Goals as goal

pub returns-clause-clocks : goal.returns-clause-clocks
returns-clause-clocks c o = clocks-none o c.in_ok-clocks.clocks.items c.in_ok-clocks.ensures.items
