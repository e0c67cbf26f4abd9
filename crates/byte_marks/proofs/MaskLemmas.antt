-- The bits of masks.
use Rattle.std.proofs.Common.{◌≡◌, ◌≢◌, ℕ, zero, suc, ◌+◌, ◌-◌, ◌*◌, ◌/◌, ◌%◌, ◌^◌, ◌<◌, ◌≤◌, ◌==◌, Bool, true, false, cond, List, [], ◌∷◌, length, take, drop, map, get_or, bit_and, refl, sym, ap, ◌∙◌, arith, inl, inr}
use Rattle.std.specs.Int.{w64, bit_at, bit_not, trailing_zeros}
use Rattle.std.specs.Simd.Lanes.{mask_l}
use Rattle.std.proofs.Math.Nat.{div-one, pow-succ', div-div-eq-div-mul, div-eq_of_lt}
use Rattle.std.proofs.Math.ListN.{get_or-eq_default}
use Rattle.std.proofs.lemmas.Bool.{cases_lt, cases_eq, eqb-true, eq-eqb}
use Rattle.std.proofs.lemmas.List.{drop-map, drop-drop, take_all, length-map, length-take, length-drop, get_or-map, get_or-take, get_or-drop}
use Rattle.std.proofs.lemmas.Nat.{and_le_l}
use Rattle.std.proofs.lemmas.Nat.Bits.{bit_at-zero, bit_at-trailing_zeros, bit_at_clear_same, bit_at_clear_other, bit_at_above}
use Rattle.std.proofs.lemmas.Simd.{bit_mask_l}
use Rattle.byte_marks.specs.Marks.{mask_of, StandsAt, IsNowhere, IsFirstFrom, AreMarked}

abbrev one-if : Bool → ℕ
one-if b = cond b 1 0

half : (b : Bool) (m : ℕ) → (cond b 1 0 + 2 * m) / 2 ≡ m
half true m = omega arith
half false m = omega arith

-- a mask without its lowest bits is that of the bytes behind them
mask-drop : (bs : List Bool) (j : ℕ) → mask_l bs / 2 ^ j ≡ mask_l (drop j bs)
mask-drop bs zero = div-one (mask_l bs)
mask-drop [] (suc j) = none (2 ^ suc j)
  where
    none : (n : ℕ) → 0 / n ≡ 0
    none zero = refl
    none (suc n) = div-eq_of_lt (omega arith)
mask-drop (b ∷ bs) (suc j) =
    ap (λ p. mask_l (b ∷ bs) / p) (pow-succ' 2 j) ∙ sym (div-div-eq-div-mul (mask_l (b ∷ bs)) 2 (2 ^ j)) ∙ ap (λ m. m / 2 ^ j) (half b (mask_l bs)) ∙ mask-drop bs j

-- the bytes behind an index among the last sixteen
pub last-marks : (text : List ℕ) (mark last at : ℕ) → length text ≡ last + 16 → last ≤ at
    → mask_of mark (take 16 (drop last text)) / 2 ^ (at - last) ≡ mask_of mark (take 16 (drop at text))
last-marks text mark last at len behind =
    let there : last + (at - last) ≡ at = omega (arith, behind) in
    let is : ℕ → Bool = λ b. b == mark in
    ap (λ bytes. mask_of mark bytes / 2 ^ (at - last)) (take_all 16 (drop last text) (omega (arith, length-drop last text, len)))
    ∙ mask-drop (map is (drop last text)) (at - last) ∙ ap mask_l (drop-map is (at - last) (drop last text))
    ∙ ap (mask_of mark) (drop-drop (at - last) last text ∙ ap (λ n. drop n text) there ∙ sym (take_all 16 (drop at text) (omega (arith, length-drop at text, len, behind))))

-- ---- a mask of sixteen bytes

module _ (text : List ℕ) (mark begin : ℕ) where
  abbrev pub bytes : List ℕ
  bytes = take 16 (drop begin text)

  abbrev pub is : ℕ → Bool
  is b = b == mark

  here : (k : ℕ) → k < length bytes → get_or (map is bytes) k false ≡ is (get_or text (begin + k) 0)
  here k within = get_or-map is bytes k 0 false within ∙ ap is (get_or-take 16 (drop begin text) k 0 (omega (arith, within, length-take 16 (drop begin text))) ∙ get_or-drop begin text k 0)

  bit-is : (k : ℕ) → bit_at (mask_of mark bytes) k ≡ cond (get_or (map is bytes) k false) 1 0
  bit-is k = bit_mask_l (map is bytes) k

  set-bit : (k : ℕ) → bit_at (mask_of mark bytes) k ≡ 1 → (k < 16) × StandsAt text mark (begin + k)
  set-bit k one = elim (cases_lt k (length bytes)) [
    | inl within ↦ (
      omega (arith, within, length-take 16 (drop begin text)),
      (
        omega (arith, within, length-take 16 (drop begin text), length-drop begin text),
        eqb-true _ mark (sym (here k within) ∙ told (get_or (map is bytes) k false) (sym (bit-is k) ∙ one)),
      ),
    )
    | inr past ↦ absurd (false-one (ap one-if (get_or-eq_default (map is bytes) false (omega (arith, past, length-map bytes is)))) one (sym (bit-is k)))
  ]
    where
      told : (b : Bool) → one-if b ≡ 1 → b ≡ true
      told true e = refl
      told false e = absurd (omega (arith, e))

      false-one : {a b : ℕ} → a ≡ 0 → b ≡ 1 → a ≡ b → ⊥
      false-one x y e = omega (arith, x, y, e)

  bit-set : (k : ℕ) → k < 16 → StandsAt text mark (begin + k) → bit_at (mask_of mark bytes) k ≡ 1
  bit-set k low stands =
      let within : k < length bytes = omega (arith, low, stands.0, length-take 16 (drop begin text), length-drop begin text) in
      bit-is k ∙ ap one-if (here k within ∙ eq-eqb _ mark stands.1)

  -- it has the marks from an index on, from which there are none up to it
  pub newly-marked : (from : ℕ) → from ≤ begin → IsNowhere text mark from begin → AreMarked text mark from begin (mask_of mark bytes)
  newly-marked from before none = record {
    within = omega (arith, before);
    set = λ k one. let it = set-bit k one in (it.0, omega (arith, before), it.1);
    all = λ i low high stands. elim (cases_lt i begin) [
      | inl less ↦ absurd (none i low less stands.1)
      | inr more ↦ let there : begin + (i - begin) ≡ i = omega (arith, more) in (more, bit-set (i - begin) (omega (arith, more, high)) (rw there stands))
    ];
  }

-- ---- the marks of a mask, one after another

module _ (text : List ℕ) (mark from begin mask : ℕ) (are : AreMarked text mark from begin mask) where
  -- where it has none
  pub none-marked : mask ≡ 0 → (i : ℕ) → from ≤ i → i < begin + 16 → i < length text → get_or text i 0 ≢ mark
  none-marked none i low high within here =
      let one = (are.all i low high (within, here)).1 in
      omega (arith, sym one ∙ ap (λ m. bit_at m (i - begin)) none ∙ bit_at-zero (i - begin))

  module _ (some : 0 < mask) (fits : mask < 2 ^ 64) where
    abbrev pub lowest : ℕ
    lowest = trailing_zeros w64 mask

    lowest-is : (bit_at mask lowest ≡ 1) × ((i : ℕ) → i < lowest → bit_at mask i ≡ 0)
    lowest-is = let told = bit_at-trailing_zeros w64 mask some fits in (told.1, told.2)

    at : (lowest < 16) × (from ≤ begin + lowest) × StandsAt text mark (begin + lowest)
    at = are.set lowest lowest-is.0

    pub lowest-first : IsFirstFrom text mark from (begin + lowest)
    lowest-first = record {
      stands = at.2;
      behind = at.1;
      first = λ i low less here.
          let one = are.all i low (omega (arith, less, at.0)) (omega (arith, less, at.2.0), here) in
          omega (arith, sym one.1 ∙ lowest-is.1 (i - begin) (omega (arith, less, one.0)));
    }

    abbrev pub rest : ℕ
    rest = bit_and mask (bit_not w64 (1 * 2 ^ lowest % 2 ^ 64))

    -- those behind the lowest
    pub others-marked : AreMarked text mark (begin + lowest + 1) begin rest
    others-marked = record {
      within = omega (arith, at.0);
      set = λ j one. elim (cases_eq j lowest) [
        | inl same ↦ absurd (omega (arith, sym (ap (bit_at rest) same ∙ bit_at_clear_same w64 mask lowest (omega (arith, at.0))) ∙ one))
        | inr other ↦ elim (cases_lt j 64) [
          | inl low ↦
              let was = sym (bit_at_clear_other w64 mask lowest (omega (arith, at.0)) j low other) ∙ one in
              let told = are.set j was in (
                told.0,
                elim (cases_lt j lowest) [
                  | inl less ↦ absurd (omega (arith, sym (lowest-is.1 j less) ∙ was))
                  | inr more ↦ omega (arith, more, other)
                ],
                told.2,
              )
          | inr high ↦ absurd (omega (arith, sym (bit_at_above rest 64 j (omega (arith, fits, and_le_l mask (bit_not w64 (1 * 2 ^ lowest % 2 ^ 64)))) high) ∙ one))
        ]
      ];
      all = λ i low high stands.
          let was = are.all i (omega (arith, low, at.1)) high stands in
          (was.0, bit_at_clear_other w64 mask lowest (omega (arith, at.0)) (i - begin) (omega (arith, high, was.0)) (λ same. omega (arith, low, same, was.0)) ∙ was.1);
    }
