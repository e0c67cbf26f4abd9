-- What a gauge tells after looking at more minutes.
use Rattle.std.proofs.Common.{◌≡◌, ℕ, ◌+◌, ◌-◌, ◌<◌, ◌≤◌, Bool, true, false, nat_le, max, inl, inr, refl, sym, ◌∙◌, arith}
use Rattle.std.proofs.lemmas.Bool.{false≢true, cases_lt, le-leb}
use Rattle.std.proofs.lemmas.Bool.Decides.{nat_tests, same_from_decides}
use Rattle.duty_events.specs.Stretch.{Stretch, has_stretch}
use Rattle.duty_events.specs.Gauge.{GaugeValue, BeginsAt, Tells}
use Rattle.duty_events.proofs.StretchLemmas.{has_stretch-decides, stretch-same}

abbrev pub gauge_of : ℕ → ℕ → ℕ → GaugeValue
gauge_of since longest until = record { since = since; longest = longest; until = until }

-- of other minutes that are the same so far
pub tells-same : (was asked : ℕ → Bool) (from : ℕ) (g : GaugeValue) → Tells was from g → ((t : ℕ) → t < g.until → asked t ≡ was t) → Tells asked from g
tells-same was asked from g tells same = record {
  since = tells.since;
  begins = begins tells.begins;
  each = λ t low high. same t high ∙ tells.each t low high;
  longest = λ many some. (
    λ less. stretch-same was asked many from g.until g.until ((tells.longest many some).0 less) (omega arith) same,
    λ s. (tells.longest many some).1 (stretch-same asked was many from g.until g.until s (omega arith) (λ t low. sym (same t low))),
  );
}
  where
    begins : BeginsAt was from g → BeginsAt asked from g
    begins (inl is) = inl is
    begins (inr (later, by, not)) = inr (later, by, same (g.since - 1) (omega (arith, later, by)) ∙ not)

-- minutes more that are all of the kind
tells-asked : (asked : ℕ → Bool) (from : ℕ) (g : GaugeValue) (to : ℕ) → Tells asked from g → g.until ≤ to
    → ((t : ℕ) → g.until ≤ t → t < to → asked t ≡ true) → Tells asked from (gauge_of g.since (max g.longest (to - g.since)) to)
tells-asked asked from g to tells order are = record {
  since = tells.since;
  begins = begins tells.begins;
  each = λ t low high. elim (cases_lt t g.until) [
    | inl early ↦ tells.each t low early
    | inr late ↦ are t late high
  ];
  longest = λ many some. (λ less. there many some less, λ s. has many some s);
}
  where
    begins : BeginsAt asked from g → BeginsAt asked from (gauge_of g.since (max g.longest (to - g.since)) to)
    begins (inl is) = inl is
    begins (inr (later, by, not)) = inr (later, omega (arith, by, order), not)

    all_since : (t : ℕ) → g.since ≤ t → t < to → asked t ≡ true
    all_since t low high = elim (cases_lt t g.until) [
      | inl early ↦ tells.each t low early
      | inr late ↦ are t late high
    ]

    there : (many : ℕ) → 0 < many → nat_le many (max g.longest (to - g.since)) ≡ true → Stretch asked many from to
    there many some less = elim (cases_lt g.longest many) [
      | inl long ↦
          let most : many ≤ max g.longest (to - g.since) = grind (arith, nat_tests, less) in
          let fits : g.since + many ≤ to = omega (arith, most, long, some) in
          record { first = g.since; begins = tells.since; ends = fits; each = λ t low high. all_since t low (omega (arith, high, fits)) }
      | inr short ↦ stretch-same asked asked many from g.until to ((tells.longest many some).0 (le-leb many g.longest short)) order (λ t low. refl)
    ]

    reaches : (many : ℕ) → 0 < many → (s : Stretch asked many from to) → g.until < s.first + many → BeginsAt asked from g → g.since ≤ s.first
    reaches many some s late (inl is) = omega (arith, is, s.begins)
    reaches many some s late (inr (later, by, not)) = elim (cases_lt s.first g.since) [
      | inl early ↦ absurd (false≢true (sym not ∙ s.each (g.since - 1) (omega (arith, early)) (omega (arith, late, by, later))))
      | inr from ↦ from
    ]

    has : (many : ℕ) → 0 < many → Stretch asked many from to → nat_le many (max g.longest (to - g.since)) ≡ true
    has many some s = elim (cases_lt g.until (s.first + many)) [
      | inl late ↦
          let low = reaches many some s (omega (arith, late)) tells.begins in
          le-leb many (max g.longest (to - g.since)) (omega (arith, low, s.ends))
      | inr early ↦
          let old = (tells.longest many some).1 (record { first = s.first; begins = s.begins; ends = early; each = s.each }) in
          let short : many ≤ g.longest = grind (arith, nat_tests, old) in
          le-leb many (max g.longest (to - g.since)) (omega (arith, short))
    ]

-- minutes more of which none is of the kind
tells-other : (asked : ℕ → Bool) (from : ℕ) (g : GaugeValue) (to : ℕ) → Tells asked from g → g.until < to
    → ((t : ℕ) → g.until ≤ t → t < to → asked t ≡ false) → Tells asked from (gauge_of (max g.since to) g.longest to)
tells-other asked from g to tells order are = record {
  since = omega (arith, tells.since);
  begins = begins tells.begins;
  each = λ t low high. absurd (omega (arith, low, high));
  longest = λ many some. (
    λ less. stretch-same asked asked many from g.until to ((tells.longest many some).0 less) (omega (arith, order)) (λ t low. refl),
    λ s. has many some s,
  );
}
  where
    begins : BeginsAt asked from g → BeginsAt asked from (gauge_of (max g.since to) g.longest to)
    begins (inl is) = elim (cases_lt from to) [
      | inl behind ↦ inr (omega (arith, is, behind), omega (arith, is, behind), last (omega (arith, is, behind)))
      | inr before ↦ inl (omega (arith, is, before))
    ]
      where
        last : max g.since to ≡ to → asked (max g.since to - 1) ≡ false
        last most = rw most (are (to - 1) (omega (arith, order)) (omega (arith, order)))
    begins (inr (later, by, not)) =
        let most : max g.since to ≡ to = omega (arith, by, order) in
        inr (omega (arith, later), omega (arith, most), rw most (are (to - 1) (omega (arith, order)) (omega (arith, order))))

    has : (many : ℕ) → 0 < many → Stretch asked many from to → nat_le many g.longest ≡ true
    has many some s = elim (cases_lt g.until (s.first + many)) [
      | inl late ↦
          let last = s.first + many - 1 in
          absurd (false≢true (sym (are last (omega (arith, late, some)) (omega (arith, s.ends, some))) ∙ s.each last (omega (arith, some)) (omega (arith, some))))
      | inr early ↦ (tells.longest many some).1 (record { first = s.first; begins = s.begins; ends = early; each = s.each })
    ]

-- the same of a gauge that has these numbers
pub tells-passed_asked : (was asked : ℕ → Bool) (from : ℕ) (g : GaugeValue) (to : ℕ) (are : Bool) (since longest until : ℕ) → Tells was from g
    → ((t : ℕ) → t < g.until → asked t ≡ was t) → ((t : ℕ) → g.until ≤ t → t < to → asked t ≡ are) → are ≡ true → g.until < to
    → since ≡ g.since → longest ≡ max g.longest (to - g.since) → until ≡ to → Tells asked from (gauge_of since longest until)
tells-passed_asked was asked from g to are since longest until tells same is asked_for order since_is longest_is until_is =
    rw (since_is, longest_is, until_is)
    (tells-asked asked from g to (tells-same was asked from g tells same) (omega (arith, order)) (λ t low high. is t low high ∙ asked_for))

pub tells-passed_other : (was asked : ℕ → Bool) (from : ℕ) (g : GaugeValue) (to : ℕ) (are : Bool) (since longest until : ℕ) → Tells was from g
    → ((t : ℕ) → t < g.until → asked t ≡ was t) → ((t : ℕ) → g.until ≤ t → t < to → asked t ≡ are) → are ≡ false → g.until < to
    → since ≡ max g.since to → longest ≡ g.longest → until ≡ to → Tells asked from (gauge_of since longest until)
tells-passed_other was asked from g to are since longest until tells same is other order since_is longest_is until_is =
    rw (since_is, longest_is, until_is)
    (tells-other asked from g to (tells-same was asked from g tells same) order (λ t low high. is t low high ∙ other))

-- the longest stretch is the test
pub longest-stretch : (asked : ℕ → Bool) (from many : ℕ) (g : GaugeValue) → Tells asked from g → 0 < many → nat_le many g.longest ≡ has_stretch asked many from g.until
longest-stretch asked from many g tells some =
    same_from_decides (nat_le many g.longest) (has_stretch asked many from g.until) (tells.longest many some) (has_stretch-decides asked many from g.until some)
