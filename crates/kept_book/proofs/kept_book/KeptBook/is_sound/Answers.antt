use Rattle.std.proofs.Common.{subst}
use Rattle.kept_book.specs.Kept.{KeptValue, KeepsFront}
use Rattle.kept_book.proofs.KeptLemmas.{keeps-front}
use Rattle.kept_book.proofs.kept_book.KeptBook.is_sound.Goals as goal

pub returns-clause-front : goal.returns-clause-front
returns-clause-front g c =
    subst (λ (k : KeptValue _ _). ∥ KeepsFront (g.D.Device.kept k.device) (g.B.Booked.history k.book) ∥₁) c.self.view_is
    (keeps-front c.self.inside.sound (g.D.Device.written c.self.inside.device) (g.D.Device.kept c.self.inside.device) (g.B.Booked.history c.self.inside.book) c.self.invariant)
