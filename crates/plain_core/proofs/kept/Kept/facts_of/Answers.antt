use Rattle.std.proofs.Common.{◌<◌, ◌^◌, sym, subst}
use Rattle.desk_model.specs.histories.History.{history_of}
use Rattle.desk_model.specs.offers.Held.{hold_end}
use Rattle.plain_core.proofs.KeptLemmas.{hold_end-kept}
use Rattle.plain_core.proofs.kept.Kept.facts_of.Goals as goal

pub held-requires : goal.held-requires
held-requires c =
    subst (λ es. hold_end (history_of c.args.self.now.opening es) c.codes.result.now c.args.number < 2 ^ 28) (sym c.deref-5.ensures.value)
    (hold_end-kept c.a_legal_history_fits.ensures c.args.self.now.opening c.args.self.now.entries.items c.codes.result.now c.args.number c.args.self.now.legal)
