use Rattle.std.proofs.Common.{rules, refl, arith}
use Rattle.serve_desk.proofs.SessionLemmas.{SoFar-begins, SoFar-more, Answers-few, Serves-ends}
use Rattle.serve_desk.proofs.one_line.session.Goals as goal

pub loop-heard-init : goal.loop-heard-init
loop-heard-init g c = record { so_far = SoFar-begins _ _ _ _; few = search rules; seat = search rules; faults = refl }

pub returns-in-Some-clause-serves : goal.returns-in-Some-clause-serves
returns-in-Some-clause-serves g c =
    Serves-ends _ _ _ _ _ _ _ _ _ _ _ _ c.loop-heard.invariant.so_far (rw c.in-Some.is at c.answer-answered.ensures.answers) c.left-left.ensures c.left.ensures

pub loop-heard-preserved : goal.loop-heard-preserved
loop-heard-preserved g c =
    let more = rw c.in-None.is at c.answer-answered.ensures.answers in record {
      so_far = SoFar-more _ _ _ _ _ _ _ _ _ c.loop-heard.invariant.so_far more;
      few = omega (arith, Answers-few _ _ _ _ _ _ _ more);
      seat = search rules;
      faults = search rules;
    }
