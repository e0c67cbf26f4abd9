use Rattle.std.proofs.Common.{is_some, ap}
use Rattle.serve_desk.proofs.PutLemmas.{PutsAllOn-one, PutsAllOn-stops, PutsAllOn-then}
use Rattle.serve_desk.proofs.watch_crew.put_outcome.Goals as goal

pub returns-in-None-clause-puts : goal.returns-in-None-clause-puts
returns-in-None-clause-puts g c =
    PutsAllOn-then _ _ _ _ _ _ _ c.in-None.is c.put_entries-ends.ensures.puts (PutsAllOn-one _ _ _ _ (rw (c.as_slice.ensures.value, c.write_crew.ensures) at c.put_on.ensures.puts))

pub returns-in-Some-clause-puts : goal.returns-in-Some-clause-puts
returns-in-Some-clause-puts g c = PutsAllOn-stops _ _ _ _ _ (ap is_some c.in-Some.is) c.put_entries-ends.ensures.puts
