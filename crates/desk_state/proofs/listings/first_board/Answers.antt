use Rattle.std.proofs.Common.{arith}
use Rattle.desk_state.proofs.BitLemmas.{first-board}
use Rattle.desk_state.proofs.listings.first_board.Goals as goal

pub returns : goal.returns
returns c = rw c.of.ensures (first-board c.args.word c.requires (omega (arith, c.ranges.word.fits))).1
