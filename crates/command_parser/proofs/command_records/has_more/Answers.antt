use Rattle.std.proofs.Common.{ap, length, arith}
use Rattle.std.proofs.lemmas.Bool.{false≢true}
use Rattle.std.proofs.lemmas.Result.{IfOk-weaker}
use Rattle.command_parser.proofs.RecordsLemmas.{HasPassed-all}
use Rattle.command_parser.proofs.command_records.has_more.Goals as goal

pub loop-passed-init : goal.loop-passed-init
loop-passed-init c = λ all left. record { rest = all; left = left; count = omega arith }

pub loop-passed-preserved : goal.loop-passed-preserved
loop-passed-preserved c = λ all left.
    let so = c.loop-passed.invariant all left in
    let took = rw c.if-not-branch.false at (c.in_ok-next.ensures.first _ so.left) in
    record { rest = took.rest; left = took.behind; count = omega (arith, so.count, ap length took.parts) }

pub returns-then-not-branch : goal.returns-then-not-branch
returns-then-not-branch c = λ all left.
    let so = c.loop-passed.invariant all left in
    let none = rw c.if-not-branch.true at (c.in_ok-next.ensures.first _ so.left) in
    (λ e. absurd (false≢true e), λ less. absurd (omega (arith, so.count, ap length none, c.loop-passed-test.true, less)))

pub returns : goal.returns
returns c = IfOk-weaker c.next-2.result _ _ (λ more first all left.
    let so = c.loop-passed.invariant all left in
    HasPassed-all all c.loop-passed.rows c.next-2.new.self c.loop-passed._passed c.args.most _ more so (omega (arith, c.loop-passed-test.false)) (first so.rest so.left)) c.next-2.ensures.first
