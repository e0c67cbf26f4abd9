use Rattle.std.proofs.Common.{◌∙◌, ap}
use Rattle.std.proofs.lemmas.Bool.{OnFalse_at, OnFalse_from}
use Rattle.kept_book.proofs.KeptLemmas.{stands-after}
use Rattle.kept_book.proofs.kept_book.KeptBookSteps.step.Goals as goal

pub invariant_of-self-2 : goal.invariant_of-self-2
invariant_of-self-2 g c =
    let appended = c.append_line-self-inside.ensures in
    let before = c.self.inside in
    stands-after before.sound c.append_line-self-inside.result (g.D.Device.written before.device) (g.D.Device.kept before.device)
    (g.D.Device.written c.append_line-self-inside.new.device) (g.D.Device.kept c.append_line-self-inside.new.device)
    (g.B.Booked.history before.book) (g.B.Booked.history c.step.new.self) c.in_ok-entry.entry c.as_slice.result.now c.self.invariant
    c.in_ok-entry.ensures.history (c.as_slice.ensures.value ∙ c.fill_with_entry.ensures) appended.done appended.front appended.unsound
    (OnFalse_from before.sound _ (λ unsound. ap g.D.Device.written (OnFalse_at unsound appended.stays))) appended.kept
