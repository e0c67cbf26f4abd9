use Rattle.std.proofs.Common.{◌≡◌, ℕ, Option, None, Some, ◌+◌, ◌-◌, ◌<◌, ◌≤◌, ◌∷◌, ◌++◌, [], length, map, unwrap_or, refl, sym, ap, ◌∙◌, arith}
use Rattle.std.proofs.lemmas.List.{take_more_set}
use Rattle.std.proofs.lemmas.List.FromFn.{map-range_with_len_more}
use Rattle.std.proofs.Math.ListN.{length-set}
use Rattle.std.specs.List.{range_with_len}
use Rattle.std.specs.Option.{SomeIff}
use Rattle.desk_base.specs.Day.{day_of}
use Rattle.desk_base.specs.Minute.{month_of}
use Rattle.desk_base.proofs.MonthLemmas.{month_of_day-unique}
use Rattle.month_hours.specs.Plan.{end_of}
use Rattle.month_hours.specs.Shares.{share_of}
use Rattle.month_hours.proofs.ShareLemmas.{months-few}
use Rattle.month_hours.proofs.plan_months.PlanMonths.of.Goals as goal

some-is : (o : Option ℕ) (n other : ℕ) → n ≤ 6124 → SomeIff o (n ≤ 6124) n → unwrap_or o other ≡ n
some-is None n other few none = absurd (none few)
some-is (Some x) n other few is = is.1

pub listed : goal.listed
listed c =
    let p = c.args.plan.now in
    omega (arith, months-few p c.requires.few, c.of-first.ensures.value, c.number-number.ensures.value, c.end_month-number-end.ensures.value, c.loop-number.invariant.many, c.loop-number.invariant.from, c.loop-number.invariant.room, c.loop-number-test.true)

pub bounds-shares-many : goal.bounds-shares-many
bounds-shares-many c =
    let p = c.args.plan.now in
    omega (arith, months-few p c.requires.few, c.of-first.ensures.value, c.number-number.ensures.value, c.end_month-number-end.ensures.value, c.loop-number.invariant.many, c.loop-number.invariant.from, c.loop-number-test.true)

pub loop-number-preserved : goal.loop-number-preserved
loop-number-preserved c =
    let p = c.args.plan.now in
    let i = c.loop-number.many in
    let first = c.of-first.result in
    let few = months-few p c.requires.few in
    let room : i < length c.loop-number.shares = omega (arith, few, c.of-first.ensures.value, c.number-number.ensures.value, c.end_month-number-end.ensures.value, c.loop-number.invariant.many, c.loop-number.invariant.from, c.loop-number.invariant.room, c.loop-number-test.true) in
    let number : c.unwrap_or-month.result ≡ c.loop-number.number = c.unwrap_or-month.ensures ∙ some-is c.new.result c.loop-number.number first (omega (arith, c.loop-number-test.true, c.end_month-number-end.ensures.range)) c.new.ensures in
    let here : first + i ≡ c.loop-number.number = omega (arith, c.loop-number.invariant.many, c.loop-number.invariant.from) in
    record {
      from = omega (arith, c.loop-number.invariant.from);
      to = omega (arith, c.loop-number-test.true);
      many = omega (arith, c.loop-number.invariant.many, c.loop-number.invariant.from);
      room = length-set c.loop-number.shares i c.of.result ∙ c.loop-number.invariant.room;
      are =
          take_more_set c.loop-number.shares i c.of.result room
          ∙ ap (λ xs. xs ++ c.of.result ∷ []) c.loop-number.invariant.are
          ∙ ap (λ x. map (share_of p) (range_with_len first i) ++ x ∷ []) (c.of.ensures ∙ ap (share_of p) number)
          ∙ sym (map-range_with_len_more (share_of p) first i c.loop-number.number here);
    }

-- a plan that lies in the month of its report has that month's share alone
pub invariant_of-result : goal.invariant_of-result
invariant_of-result c =
    let p = c.args.plan.now in
    let first = c.of-first.result in
    let some = c.lies_in.ensures.some c.if-lies_in.true in
    let over = c.lies_in.ensures.over c.if-lies_in.true in
    let last : month_of (end_of p - 1) ≡ first = month_of_day-unique (day_of (end_of p - 1)) first (record { begun = omega (arith, some, c.of-first.ensures.begun); not_over = omega (arith, some, over) }) in
    let one : month_of (end_of p - 1) + 1 - month_of p.report ≡ 1 = omega (arith, last, c.of-first.ensures.value) in
    record {
      most = omega arith;
      are = ap (λ s. s ∷ []) c.whole.ensures ∙ rw (one, sym c.of-first.ensures.value) refl;
    }

pub invariant_of-result-2 : goal.invariant_of-result-2
invariant_of-result-2 c =
    let p = c.args.plan.now in
    let few = months-few p c.requires.few in
    let all : c.loop-number.many ≡ month_of (end_of p - 1) + 1 - month_of p.report = omega (arith, c.of-first.ensures.value, c.number-number.ensures.value, c.end_month-number-end.ensures.value, c.loop-number.invariant.many, c.loop-number.invariant.from, c.loop-number.invariant.to, c.loop-number-test.false) in
    record {
      most = omega (arith, few, all);
      are = c.loop-number.invariant.are ∙ rw (all, c.of-first.ensures.value) refl;
    }
