use Rattle.std.proofs.Common.{sym, ◌∙◌}
use Rattle.std.proofs.lemmas.Bool.{false≢true}
use Rattle.desk_state.proofs.BitLemmas.{set-board, clear-board, clear-lesser}
use Rattle.desk_state.proofs.listings.with_board.Goals as goal

pub returns-then-on-clause-has : goal.returns-then-on-clause-has
returns-then-on-clause-has c j = rw (c.if-on.true, c.number.ensures.value) (set-board c.args.word c.args.board j (rw c.number.ensures.value at c.number.ensures.range))

pub returns-then-on-clause-lesser : goal.returns-then-on-clause-lesser
returns-then-on-clause-lesser c = λ off has. absurd (false≢true (sym off ∙ c.if-on.true))

pub returns-else-on-clause-has : goal.returns-else-on-clause-has
returns-else-on-clause-has c j = rw (c.if-on.false, c.number.ensures.value) (clear-board c.args.word c.args.board j (rw c.number.ensures.value at c.number.ensures.range))

pub returns-else-on-clause-lesser : goal.returns-else-on-clause-lesser
returns-else-on-clause-lesser c = λ off has. rw c.number.ensures.value (clear-lesser c.args.word c.args.board (rw c.number.ensures.value at c.number.ensures.range) has)
