use Rattle.std.proofs.Common.{◌≡◌, subst, sym, ◌∙◌, rules, true}
use Rattle.duty_events.specs.Lists.{may_follow}
use Rattle.duty_record.specs.Kept.{IsOf}
use Rattle.duty_record.proofs.KeptLemmas.{keep-yes, is-pushed}
use Rattle.duty_record.proofs.person_tours.PersonTours.take.Goals as goal

pub returns : goal.returns
returns c ds is =
    let k = c.args.self.now in
    let may : may_follow k.totals.stage k.totals.last c.args.event.now ≡ true = search rules in
    subst (IsOf c.close.new.self) (sym (keep-yes k ds c.args.event.now c.args.vacancy is may))
    (is-pushed k c.close.new.self c.args.event.now c.args.vacancy c.ended_by-tour.result ds is
    (λ es are. rw (c.close.ensures.totals) (c.apply.ensures es are)) (c.close.ensures.vacancy ∙ c.begun_for-vacancy.ensures) c.ended_by-tour.ensures
    (rw (c.close.ensures.totals, c.close.ensures.vacancy, sym c.reserve.ensures.items) c.close.ensures.ended))
