use Rattle.std.proofs.Common.{◌∷◌, [], ◌+◌, ap, ◌∙◌, length, length-append, arith}
use Rattle.vacancy_fill.specs.Chain.{members_at}
use Rattle.desk_state.proofs.ListLemmas.{empty-more}
use Rattle.desk_state.proofs.orders.Orders.new.Goals as goal

pub loop-number-preserved : goal.loop-number-preserved
loop-number-preserved c =
    let was = c.loop-number.boards.items in
    let x = c.in_ok-new.field-0 in (
      ap length c.push_reserved.ensures.items ∙ length-append was (x ∷ []) ∙ ap (λ n. n + 1) c.loop-number.invariant.0,
      omega (arith, c.loop-number.invariant.1, c.push_reserved.ensures.capacity),
      λ j. ap (λ bs. members_at bs j) c.push_reserved.ensures.items ∙ empty-more was x j c.loop-number.invariant.2 (ap (λ b. b.members) c.in_ok-new.ensures),
    )
