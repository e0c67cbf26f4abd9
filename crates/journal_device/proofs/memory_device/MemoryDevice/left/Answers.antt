use Rattle.std.proofs.Common.{rules}
use Rattle.journal_device.proofs.DiskLemmas.{kept_of-front, written-front}
use Rattle.journal_device.proofs.memory_device.MemoryDevice.left.Goals as goal

pub returns-clause-kept : goal.returns-clause-kept
returns-clause-kept c =
    kept_of-front c.args.self.now c.deref.result.now c.self.inside.kept c.min-more.result (search rules) (search rules)

pub returns-clause-written : goal.returns-clause-written
returns-clause-written c = written-front c.args.self.now c.deref.result.now _ (search rules)
