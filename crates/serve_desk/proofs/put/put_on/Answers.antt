use Rattle.serve_desk.proofs.AnswerLemmas.{PutsOn-not_put, PutsOn-goes_on, PutsOn-ends, PutsOn-not_written}
use Rattle.serve_desk.proofs.put.put_on.Goals as goal

pub returns-then-not-put-clause-puts : goal.returns-then-not-put-clause-puts
returns-then-not-put-clause-puts g c = PutsOn-not_put c.args.text.now c.args.then _ _ c.if-not-put.ensures.no_put

pub returns-in-None-clause-puts : goal.returns-in-None-clause-puts
returns-in-None-clause-puts g c = PutsOn-goes_on c.args.text.now c.args.then _ _ c.in-None.is c.if-not-put.ensures.puts

pub returns-then-finish-clause-puts : goal.returns-then-finish-clause-puts
returns-then-finish-clause-puts g c = PutsOn-ends c.args.text.now c.args.then _ _ _ c.if-not-put.ensures.puts c.if-finish.ensures.told

pub returns-else-finish-clause-puts : goal.returns-else-finish-clause-puts
returns-else-finish-clause-puts g c =
    PutsOn-not_written c.args.text.now c.args.then _ _ _ (λ none. let some = c.in-Some.is in cc) c.if-not-put.ensures.puts c.if-finish.ensures.told
