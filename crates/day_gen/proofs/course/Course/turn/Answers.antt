use Rattle.std.proofs.Common.{◌≡◌, None, arith}
use Rattle.std.specs.List.{slice_get}
use Rattle.std.proofs.lemmas.Option.{slice_get_past}
use Rattle.day_gen.specs.SetUp.{set_up}
use Rattle.day_gen.proofs.SetUpLemmas.{length-set_up}
use Rattle.day_gen.proofs.course.Course.turn.Goals as goal

pub returns-else-given-lt-SET_UP-clause-course : goal.returns-else-given-lt-SET_UP-clause-course
returns-else-given-lt-SET_UP-clause-course c =
    let over : slice_get set_up c.args.given ≡ None = slice_get_past set_up c.args.given (omega (arith, length-set_up, c.if-given-lt-SET_UP.false)) in
    rw over c.by_rule.ensures.course

pub returns-else-given-lt-SET_UP-clause-cmd : goal.returns-else-given-lt-SET_UP-clause-cmd
returns-else-given-lt-SET_UP-clause-cmd c =
    let over : slice_get set_up c.args.given ≡ None = slice_get_past set_up c.args.given (omega (arith, length-set_up, c.if-given-lt-SET_UP.false)) in
    rw over c.by_rule.ensures.cmd
