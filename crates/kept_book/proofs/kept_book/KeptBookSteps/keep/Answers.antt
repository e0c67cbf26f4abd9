use Rattle.kept_book.proofs.KeptLemmas.{stands-sync, sync-whole}
use Rattle.kept_book.proofs.kept_book.KeptBookSteps.keep.Goals as goal

pub invariant_of-self : goal.invariant_of-self
invariant_of-self g c =
    let synced = c.sync_all-self-inside.ensures in
    let before = c.self.inside in
    stands-sync before.sound c.sync_all-self-inside.result (g.D.Device.written before.device) (g.D.Device.kept before.device)
    (g.D.Device.written c.sync_all-self-inside.new.device) (g.D.Device.kept c.sync_all-self-inside.new.device) (g.B.Booked.history before.book) c.self.invariant
    synced.written synced.kept synced.unkept synced.unsound

pub returns-clause-kept : goal.returns-clause-kept
returns-clause-kept g c =
    let synced = c.sync_all-self-inside.ensures in
    let before = c.self.inside in
    sync-whole before.sound c.sync_all-self-inside.result (g.D.Device.written before.device) (g.D.Device.kept before.device) (g.D.Device.kept c.sync_all-self-inside.new.device)
    (g.B.Booked.history before.book) c.self.invariant synced.kept synced.unsound
