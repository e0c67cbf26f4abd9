use Rattle.day_replay.proofs.EndsLemmas.{EndsWriting-whole, EndsWriting-front}
use Rattle.day_replay.proofs.replay.print_journal.Goals as goal

pub returns-then-write : goal.returns-then-write
returns-then-write g c = EndsWriting-whole _ _ _ _ _ c.if-write.ensures.all c.if-write.ensures.no_fault

pub returns : goal.returns
returns g c = EndsWriting-front _ _ _ _ _ c.if-write.ensures.front c.if-write.ensures.cause c.if-write.ensures.faults_grow
