use Rattle.std.proofs.Common.{sym, arith}
use Rattle.desk_state.specs.Holds.{end_at}
use Rattle.desk_state.proofs.OfferKeepLemmas.{offers-none, holds-none}
use Rattle.desk_state.proofs.offers.Offers.new.Goals as goal

pub returns : goal.returns
returns c o answer = record {
  offers = offers-none o c.in_ok-flight.flight c.args.answer c.in_ok-flight.ensures;
  holds = holds-none o (end_at c.in_ok-holds.holds) c.in_ok-holds.ensures;
  answer = sym answer;
  few = record { enrolled = omega arith; set_up = omega arith };
}
