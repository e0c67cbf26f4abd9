use Rattle.serve_desk.proofs.PutLemmas.{PutsAllOn-none, PutsAllOn-one}
use Rattle.serve_desk.proofs.watch_crew.put_some.Goals as goal

pub returns-in-Some-clause-puts : goal.returns-in-Some-clause-puts
returns-in-Some-clause-puts g c = rw c.in-Some.is (PutsAllOn-one _ _ _ _ (rw c.write.ensures at c.put_on.ensures.puts))

pub returns-in-None-clause-puts : goal.returns-in-None-clause-puts
returns-in-None-clause-puts g c = rw c.in-None.is (PutsAllOn-none _)
