use Rattle.std.proofs.Common.{◌≡◌, ◌≢◌, ℕ, ◌+◌, inl, inr, get_or, refl, sym, ap, ◌∙◌, arith}
use Rattle.std.proofs.lemmas.Bool.{cases_lt}
use Rattle.std.proofs.lemmas.List.{get_or-set_other, length-set}
use Rattle.std.proofs.lemmas.Grind.{get_or-set_at}
use Rattle.desk_base.specs.Month.{first_minute, minutes_of}
use Rattle.desk_base.proofs.MonthLemmas.{length_of_bounds}
use Rattle.duty_events.specs.Minutes.{shared}
use Rattle.tour_build.proofs.SumLemmas.{shared-before, shared-behind, passed, passed-in, passed-before, passed-behind, passed-next}
use Rattle.tour_build.proofs.month_sums.MonthSums.add.Goals as goal

pub loop-index-init : goal.loop-index-init
loop-index-init c = record {
  len = c.self.told;
  sums = λ was now sums more k within.
      ap (λ v. get_or v k 0) c.self.view_is ∙ sums k within ∙ sym (passed-empty _ k _ _);
}
  where
    passed-empty : (low k was now : ℕ) → passed low low k was now ≡ was
    passed-empty low k was now = elim (cases_lt k low) [ inl before ↦ passed-before low low k was now before | inr behind ↦ passed-behind low low k was now behind ]

pub loop-index-preserved : goal.loop-index-preserved
loop-index-preserved c = record {
  len = length-set c.loop-index.self-inside.sums c.from-in-loop-index-2.result c.saturating_add.result ∙ c.loop-index.invariant.len;
  sums = λ was now sums more k within.
      let w = c.args.window.now in
      let index = c.loop-index.index in
      let set = c.from-in-loop-index-2.result in
      let set_is = c.from-in-loop-index-2.ensures in
      let apart = λ (is : k ≢ index). get_or-set_other c.loop-index.self-inside.sums set k c.saturating_add.result 0 (λ e. is (e ∙ set_is))
      ∙ c.loop-index.invariant.sums was now sums more k within ∙ passed-next c.saturating_sub-low.result index k _ _ is in
      elim (cases_lt k index) [
        | inl before ↦ apart (λ e. absurd (omega (arith, e, before)))
        | inr from ↦ elim (cases_lt index k) [
          | inl behind ↦ apart (λ e. absurd (omega (arith, e, behind)))
          | inr to ↦
              let same : k ≡ index = omega (arith, from, to) in
              let month = w.first + index in
              let old = c.loop-index.invariant.sums was now sums more index (omega (arith, within, same)) ∙ passed-behind c.saturating_sub-low.result index index _ _ (omega arith) in
              let here : c.shared-minutes.result ≡ shared c.args.interval.from c.args.interval.to (first_minute month) (minutes_of month) =
              c.shared-minutes.ensures.value
              ∙ rw (c.number-in-loop-index.ensures.value, c.number-in-loop-index-2.ensures.value, c.number-in-loop-index-3.ensures.value, c.first-in-loop-index.ensures, c.minutes.ensures.value, c.month-month.ensures.value) refl in
              let most = more.most (first_minute month) (minutes_of month) in
              let new : c.saturating_add.result ≡ now (first_minute month) (minutes_of month) =
              omega (arith, c.saturating_add.ensures, ap (λ i. get_or c.loop-index.self-inside.sums i 0) c.from-in-loop-index.ensures, old, here, more.is (first_minute month) (minutes_of month), most, length_of_bounds month) in
              get_or-set_at c.loop-index.self-inside.sums set k c.saturating_add.result 0 (same ∙ sym set_is) (omega (arith, c.loop-index.invariant.len, set_is, same, within, c.months.ensures.range.most, c.months.ensures.value))
              ∙ new
              ∙ ap (λ p. now (first_minute (w.first + p)) (minutes_of (w.first + p))) (sym same)
              ∙ sym (passed-in c.saturating_sub-low.result (index + 1) k _ _ (omega (arith, c.loop-index.auto.index, same)) (omega (arith, same)))
        ]
      ];
}

pub returns : goal.returns
returns c was now sums more k within =
    let w = c.args.window.now in
    let month = w.first + k in
    let low = c.saturating_sub-low.result in
    let end = c.loop-index.index in
    let kept = c.loop-index.invariant.sums was now sums more k within in
    let added = more.is (first_minute month) (minutes_of month) in
    elim (cases_lt k low) [
      | inl before ↦
          let none = shared-before c.args.interval.from c.args.interval.to c.of-begin.result month c.of-begin.ensures.begun (omega (arith, before, c.saturating_sub-low.ensures, c.number.ensures.value, c.number-first.ensures.value, c.first.ensures)) in
          kept ∙ passed-before low end k _ _ before ∙ omega (arith, added, none)
      | inr from ↦ elim (cases_lt k end) [
        | inl to ↦ kept ∙ passed-in low end k _ _ from to
        | inr behind ↦
            let none = shared-behind c.args.interval.from c.args.interval.to c.of_from.result month c.of_from.ensures.not_over
            (omega (arith, behind, within, c.loop-index-test.false, c.min-index-end.ensures, c.from.ensures, c.months.ensures.value, c.saturating_sub-high.ensures, c.number-2.ensures.value, c.number-first.ensures.value, c.first.ensures)) in
            kept ∙ passed-behind low end k _ _ behind ∙ omega (arith, added, none)
      ]
    ]
