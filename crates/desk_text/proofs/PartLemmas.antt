-- What stands between blanks in a text.
use Rattle.std.proofs.Common.{◌≡◌, ◌∙◌, ℕ, ◌+◌, ◌/◌, ◌%◌, ◌<◌, ◌≤◌, ◌==◌, false, List, [], ◌∷◌, ◌++◌, length, take, drop, decimal, sym, ap, arith, length-append}
use Rattle.std.specs.List.{IsSplitAt}
use Rattle.std.proofs.lemmas.Bool.{ne_eqb, cond-true, lt-ltb}
use Rattle.std.proofs.lemmas.List.{take_at, drop_at, take-append-drop}
use Rattle.std.proofs.lemmas.List.Elements.{All-cons, All-nil}
use Rattle.desk_base.specs.declared.minute.TheConstants.{YEARS_END}
use Rattle.desk_base.specs.Minute.{minute_text}
use Rattle.desk_model.specs.texts.BarTexts.{late_text}
use Rattle.desk_base.specs.Month.{year_of, number_in_year, two_digits, month_text}
use Rattle.record_rows.proofs.MinuteLemmas.{length-minute_text}
use Rattle.desk_text.proofs.ReplyApartLemmas.{IsUnbroken}

no_blank : (b : ℕ) (rest : List ℕ) → 33 ≤ b → IsUnbroken rest → IsUnbroken (b ∷ rest)
no_blank b rest above = All-cons (λ b. (b == 32) ≡ false) b rest (ne_eqb b 32 (λ e. omega (arith, above, e)))

two : (n : ℕ) (rest : List ℕ) → IsUnbroken rest → IsUnbroken (two_digits n ++ rest)
two n rest is = no_blank (48 + n / 10) ((48 + n % 10) ∷ rest) (omega arith) (no_blank (48 + n % 10) rest (omega arith) is)

-- a month is such a text
pub month-unbroken : (m : ℕ) → IsUnbroken (month_text m)
unfolding month_text
month-unbroken m =
    let index = two_digits (number_in_year m) in
    two (year_of m / 100) (two_digits (year_of m % 100) ++ 45 ∷ index)
    (two (year_of m % 100) (45 ∷ index) (no_blank 45 index (omega arith) (two (number_in_year m) [] (All-nil (λ b. (b == 32) ≡ false)))))

-- and what is cut off behind 16 bytes stood behind it
pub behind_16 : (t : ℕ) (text front back rest : List ℕ) → IsSplitAt text 16 front back → text ≡ minute_text t ++ rest → (front ≡ minute_text t) × (back ≡ rest)
behind_16 t text front back rest is e =
    (is.1 ∙ ap (take 16) e ∙ take_at (minute_text t) rest 16 (length-minute_text t), is.2 ∙ ap (drop 16) e ∙ drop_at (minute_text t) rest 16 (length-minute_text t))

-- two texts and a mark between them, put together
pub with_mark : (mark : ℕ) (text front back first rest : List ℕ) → IsSplitAt text 16 front back → front ≡ first → back ≡ mark ∷ rest → text ≡ first ++ mark ∷ rest
with_mark mark text front back first rest is one other =
    sym (take-append-drop 16 text) ∙ ap (λ t. t ++ drop 16 text) (sym is.1 ∙ one) ∙ ap (λ t. first ++ t) (sym is.2 ∙ other)

-- a text of a minute and more is no shorter
pub no_shorter : (t : ℕ) (text rest : List ℕ) → text ≡ minute_text t ++ rest → length text < 16 → ⊥
no_shorter t text rest e short = omega (arith, ap length e, length-append (minute_text t) rest, length-minute_text t)

-- a minute of the years has its own text
pub late-early : (t : ℕ) → t < YEARS_END → late_text t ≡ minute_text t
late-early t lt = cond-true _ (minute_text t) (decimal t) (lt-ltb t YEARS_END lt)
