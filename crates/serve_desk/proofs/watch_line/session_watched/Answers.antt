use Rattle.std.proofs.Common.{rules, refl, arith, subst}
use Rattle.desk_model.specs.histories.History.{history_of}
use Rattle.desk_model.specs.histories.Legal.{IsLegal}
use Rattle.desk_model.specs.statements.Opening.{OpeningValue}
use Rattle.serve_desk.proofs.SightLemmas.{SeenSoFar-begins}
use Rattle.serve_desk.proofs.WatchLemmas.{WatchedSoFar-begins, WatchedSoFar-more, AnswersWatched-few, Watches-ends}
use Rattle.serve_desk.proofs.watch_line.session_watched.Goals as goal

pub loop-heard-init : goal.loop-heard-init
loop-heard-init g c = record {
  so_far = WatchedSoFar-begins _ _ _ _ _ _ (SeenSoFar-begins _ _ _ _ _ c.requires.caller.saw c.requires.caller.knows);
  few = search rules;
  caller = search rules;
  sure = c.requires.sure;
  faults = refl;
}

pub returns-in-Some-clause-watches : goal.returns-in-Some-clause-watches
returns-in-Some-clause-watches g c =
    let view = c.answer_watched-next.new.view in
    let legal : IsLegal (history_of c.args.desk.now.start.book.opening view.entries) =
    subst (λ (o : OpeningValue). IsLegal (history_of o view.entries)) c.answer_watched-next.ensures.caller.looks.opening c.is_legal-in-Some.ensures in
    Watches-ends _ _ _ _ _ _ _ _ _ _ _ _ _ _ _ _ c.loop-heard.invariant.so_far (rw c.in-Some.is at c.answer_watched-next.ensures.answers) legal c.left-left.ensures c.left.ensures c.loop-heard.invariant.sure c.answer_watched-next.ensures.no_fewer (search rules)

pub loop-heard-preserved : goal.loop-heard-preserved
loop-heard-preserved g c =
    let more = rw c.in-None.is at c.answer_watched-next.ensures.answers in record {
      so_far = WatchedSoFar-more _ _ _ _ _ _ _ _ _ _ _ _ _ c.loop-heard.invariant.so_far more;
      few = omega (arith, AnswersWatched-few _ _ _ _ _ _ _ _ _ more);
      caller = search rules;
      sure = search rules;
      faults = search rules;
    }
