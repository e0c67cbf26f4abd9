-- The opening's record, field by field.
use Rattle.std.proofs.Common.{◌≡◌, ◌-◌, ◌<◌, ◌≤◌, ℕ, List, [], ◌∷◌, ◌++◌, length, get_or, take, drop, map, codes, decimal, arith, refl, ap, Bor, Option, None, Some}
use Rattle.std.specs.Option.{SomeIff}
use Rattle.std.specs.List.{join_with_byte}
use Rattle.std.proofs.lemmas.Fmt.{decimal_injective}
use Rattle.std.proofs.lemmas.List.{take_all}
use Rattle.desk_base.specs.Minute.{minute_text}
use Rattle.desk_base.specs.Month.{month_text}
use Rattle.desk_base.specs.Window.{window_of}
use Rattle.desk_model.specs.declared.edition.Edition.{Edition}
use Rattle.desk_model.specs.declared.edition.Edition.TheVariants as edition
use Rattle.desk_model.specs.texts.Journal.{opening_line}
use Rattle.desk_model.specs.statements.Opening.{OpeningValue, IsOpening, opening_of, edition_fields, opening_fields}
use Rattle.command_parser.specs.OpeningRecord.{SpellsOpening}
use Rattle.record_rows.proofs.MinuteLemmas.{minute_text-one}
use Rattle.command_parser.proofs.ApartLemmas.{month_text-one}

-- one field alone
pub single : (fields : List (Bor (List ℕ))) (d : Bor (List ℕ)) (text : List ℕ) → length fields ≡ 1 → (get_or fields 0 d).now ≡ text
    → map (λ field. field.now) fields ≡ text ∷ []
single [] d text len is = absurd (omega (arith, len))
single (f ∷ []) d text len is = ap (λ t. t ∷ []) is
single (f ∷ g ∷ more) d text len is = absurd (omega (arith, len))

-- five fields of which the second is the word and the others spell the opening, and behind them what names its edition, are
-- the opening's
pub opening_fields-spelled : (fields : List (Bor (List ℕ))) (d : Bor (List ℕ)) (e : Edition) (o : OpeningValue) → 5 ≤ length fields → (get_or fields 1 d).now ≡ codes "open"
    → map (λ field. field.now) (take (length fields - 5) (drop 5 fields)) ≡ edition_fields e
    → SpellsOpening (get_or fields 0 d).now (get_or fields 2 d).now (get_or fields 3 d).now (get_or fields 4 d).now e o → map (λ field. field.now) fields ≡ opening_fields o
opening_fields-spelled [] d e o len word last spells = absurd (omega (arith, len))
opening_fields-spelled (f0 ∷ []) d e o len word last spells = absurd (omega (arith, len))
opening_fields-spelled (f0 ∷ f1 ∷ []) d e o len word last spells = absurd (omega (arith, len))
opening_fields-spelled (f0 ∷ f1 ∷ f2 ∷ []) d e o len word last spells = absurd (omega (arith, len))
opening_fields-spelled (f0 ∷ f1 ∷ f2 ∷ f3 ∷ []) d e o len word last spells = absurd (omega (arith, len))
opening_fields-spelled (f0 ∷ f1 ∷ f2 ∷ f3 ∷ f4 ∷ more) d e o len word last spells =
    let rest : map (λ field. field.now) more ≡ edition_fields e = rw (take_all (length (f0 ∷ f1 ∷ f2 ∷ f3 ∷ f4 ∷ more) - 5) more (omega arith)) at last in
    rw (spells.start_is, word, spells.window_is.first_is, spells.window_is.months_is, spells.answer_is, rest, spells.edition_is) refl

-- they are six at most, fewer than the fields of a record that are kept
pub few_opening : (o : OpeningValue) → length (opening_fields o) < 12
few_opening o = go o.edition
  where
    go : (e : Edition) → length (minute_text o.start ∷ codes "open" ∷ month_text o.window.first ∷ decimal o.window.months ∷ decimal o.answer ∷ edition_fields e) < 12
    go edition.One = omega arith
    go edition.Two = omega arith

-- editions are told apart by what names them, and openings by their fields
edition_fields-one : (a b : Edition) → edition_fields a ≡ edition_fields b → a ≡ b
edition_fields-one edition.One edition.One e = refl
edition_fields-one edition.Two edition.Two e = refl
edition_fields-one edition.One edition.Two e = absurd (omega (arith, ap length e))
edition_fields-one edition.Two edition.One e = absurd (omega (arith, ap length e))

opening-of : (o : OpeningValue) (start first months answer : ℕ) (edition : Edition)
    → start ≡ o.start → first ≡ o.window.first → months ≡ o.window.months → answer ≡ o.answer → edition ≡ o.edition
    → opening_of start (window_of first months) answer edition ≡ o
opening-of o start first months answer edition a b c d e = rw (a, b, c, d, e) refl

pub opening_fields-one : (o p : OpeningValue) → IsOpening o → IsOpening p → opening_fields o ≡ opening_fields p → o ≡ p
opening_fields-one o p ho hp e =
    opening-of p o.start o.window.first o.window.months o.answer o.edition
    (minute_text-one o.start p.start (ap (λ l. get_or l 0 []) e))
    (month_text-one o.window.first p.window.first (ap (λ l. get_or l 2 []) e))
    (decimal_injective o.window.months p.window.months (omega (arith, ho.window.most)) (omega (arith, hp.window.most)) (ap (λ l. get_or l 3 []) e))
    (decimal_injective o.answer p.answer (omega (arith, ho.most)) (omega (arith, hp.most)) (ap (λ l. get_or l 4 []) e))
    (edition_fields-one o.edition p.edition (ap (λ l. drop 5 l) e))

-- an answer that comes exactly where something holds comes where it holds
pub SomeIff-yes : {T : Type 0} (r : Option T) (P : Type 0) (v : T) → SomeIff r P v → P → r ≡ Some v
SomeIff-yes None P v h p = absurd (h p)
SomeIff-yes (Some x) P v h p = ap Some h.1

-- an opening's line: its fields with commas between them
pub opening_line-fields : (o : OpeningValue) → opening_line o ≡ join_with_byte 44 (opening_fields o) ++ 10 ∷ []
unfolding opening_line
opening_line-fields o = refl
