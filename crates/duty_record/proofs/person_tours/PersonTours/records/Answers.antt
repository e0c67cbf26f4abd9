use Rattle.std.proofs.Common.{◌≡◌, ◌<◌, ap, subst, ◌∙◌, map, take, length, get_or, arith}
use Rattle.std.proofs.lemmas.Grind.{common_steps}
use Rattle.duty_record.specs.EndedTours.{ended_tours}
use Rattle.duty_record.specs.Tours.{record_of}
use Rattle.duty_record.specs.Kept.{marked_record}
use Rattle.duty_record.proofs.KeptLemmas.{small, records-more}
use Rattle.duty_record.proofs.person_tours.PersonTours.records.Goals as goal

pub loop-tour-preserved : goal.loop-tour-preserved
loop-tour-preserved c ds made is are =
    let t = c.tour-item.result in
    let all = c.deref-tour-items.ensures.value ∙ is.ended in
    let within : c.loop-tour.tour-index < length (ended_tours ds) = subst (λ ts. c.loop-tour.tour-index < length ts) all (omega arith) in
    let at : t ≡ get_or (ended_tours ds) c.loop-tour.tour-index t = c.tour-item.is ∙ ap (λ ts. get_or ts c.loop-tour.tour-index t) all in
    c.in_ok-push.ensures.items ∙ records-more (marked_record c.args.person made) (ended_tours ds) c.loop-tour.list.items c.loop-tour.tour-index t c.to_record.result (small ds)
    (c.loop-tour.invariant ds made is are) within at
    (λ fits. c.to_record.ensures fits ∙ ap (λ relief. record_of c.args.person relief t) (c.is_relief.ensures made are))

pub returns : goal.returns
returns c ds made is are =
    let whole : take c.loop-tour.tour-index (ended_tours ds) ≡ ended_tours ds = grind (arith, common_steps) in
    c.loop-tour.invariant ds made is are ∙ ap (map (marked_record c.args.person made)) whole
