-- The lines of a text, counted by their line feeds.
use Rattle.std.proofs.Common.{◌≡◌, ◌∙◌, ℕ, ◌+◌, ◌-◌, ◌==◌, Bool, true, if◌then◌else◌, Some, None, List, [], ◌∷◌, length, get_or, slice_get, count_by, refl, sym, ap, arith}
use Rattle.std.proofs.lemmas.List.Sums.{sum_by-cons}
use Rattle.std.proofs.lemmas.Option.{get_or_from_slice_get, slice_get-get_or, none-some}
use Rattle.crewdesk_main.specs.Lines.{lines_from, line_count}

-- whether a line begins behind a text, where one begins at its first byte or doesn't
unfoldable begins_behind : Bool → List ℕ → Bool
begins_behind begins [] = begins
begins_behind begins (b ∷ later) = begins_behind (b == 10) later

abbrev one : Bool → ℕ
one b = if b then 1 else 0

abbrev pub fed : List ℕ → ℕ
fed text = count_by (λ b. b == 10) text

-- each line but one that begins nowhere ends with a line feed
lines_from-fed : (begins : Bool) (text : List ℕ) → lines_from begins text + 1 + one (begins_behind begins text) ≡ fed text + 1 + one begins
unfolding lines_from begins_behind
lines_from-fed begins [] = omega arith
lines_from-fed begins (b ∷ later) = omega (arith, lines_from-fed (b == 10) later, sum_by-cons (λ x. one (x == 10)) b later)

begins_behind-last : (begins : Bool) (b : ℕ) (later : List ℕ) → begins_behind begins (b ∷ later) ≡ (get_or (b ∷ later) (length later) 0 == 10)
unfolding begins_behind
begins_behind-last begins b [] = refl
begins_behind-last begins b (c ∷ later) = begins_behind-last (b == 10) c later

-- a text with a last byte has a line for each line feed, and one more where that byte is none
pub line_count-last : (text : List ℕ) (last : ℕ) → Some last ≡ slice_get text (length text - 1) → line_count text + (if last == 10 then 1 else 0) ≡ fed text + 1
line_count-last [] last is = absurd (none-some last (sym is))
line_count-last (b ∷ later) last is =
    let index : length (b ∷ later) - 1 ≡ length later = omega arith in
    let here = get_or_from_slice_get (b ∷ later) (length later) last 0 (ap (slice_get (b ∷ later)) (sym index) ∙ sym is) in
    omega (arith, lines_from-fed true (b ∷ later), ap one (begins_behind-last true b later), ap (λ x. one (x == 10)) here)

-- and one without has none
pub line_count-none : (text : List ℕ) → None ≡ slice_get text (length text - 1) → line_count text ≡ fed text
unfolding lines_from
line_count-none [] is = refl
line_count-none (b ∷ later) is =
    let index : length (b ∷ later) - 1 ≡ length later = omega arith in
    absurd (none-some _ (is ∙ ap (slice_get (b ∷ later)) index ∙ slice_get-get_or (b ∷ later) (length later) 0 (omega arith)))
