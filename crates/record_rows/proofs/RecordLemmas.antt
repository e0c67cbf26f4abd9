-- What the read of a record leaves of a text.
use Rattle.std.proofs.Common.{◌≡◌, ◌≤◌, ◌<◌, ℕ, zero, suc, Bool, true, false, List, [], ◌∷◌, length, Option, Some, None, inl, inr, refl, sym, ap, ◌∙◌, arith, rules}
use Rattle.std.specs.Prelude.{◌||◌, ◌==◌, if◌then◌else◌}
use Rattle.std.proofs.lemmas.Bool.{cases_Bool, false≢true}
use Rattle.csv.specs.Machine.{Read, next_record, step, is_end, fields_after, field_after, ends_at_end}
use Rattle.csv.specs.Reading.{default_config, records_from, records_next}
use Rattle.csv.specs.declared.parser.State.{State}
use Rattle.csv.specs.declared.parser.State.TheVariants as st
use Rattle.csv.specs.declared.parser.Action.{Action}
use Rattle.csv.specs.declared.parser.Action.TheVariants as act
use Rattle.record_rows.specs.Rows.{IsBetween}

-- what a byte within a field leads to: it is a comma, ends a line, as a carriage return or another, or is neither
abbrev after_byte : Bool → Bool → Bool → State × Action
after_byte comma ends return =
    if◌then◌else◌ {A = State × Action} comma (st.StartField, act.EndField)
    (if◌then◌else◌ {A = State × Action} ends (if return then st.AfterCr else st.StartRecord, act.EndRecord) (st.InField, act.Copy))

after_byte-ends : (comma ends return : Bool) → is_end (after_byte comma ends return).1 ≡ true → IsBetween (after_byte comma ends return).0
after_byte-ends true ends return e = absurd (false≢true e)
after_byte-ends false true true e = inr refl
after_byte-ends false true false e = inl refl
after_byte-ends false false return e = absurd (false≢true e)

within-ends : (c : ℕ) → is_end (step default_config st.InField c).1 ≡ true → IsBetween (step default_config st.InField c).0
within-ends c e = after_byte-ends (c == 44) ((c == 13) || (c == 10)) (c == 13) e

field-ends : (c : ℕ) → is_end (step default_config st.StartField c).1 ≡ true → IsBetween (step default_config st.StartField c).0
field-ends c e = elim (cases_Bool (c == 34)) [
  | inl quote ↦ absurd (false≢true (rw quote at e))
  | inr other ↦ rw other (within-ends c (rw other at e))
]

-- no byte ends a record that hasn't begun
abbrev first_byte : Bool → Bool → Bool → Bool → State × Action
first_byte ends quote comma return =
    if◌then◌else◌ {A = State × Action} ends (st.StartRecord, act.Skip)
    (if◌then◌else◌ {A = State × Action} quote (st.InQuoted, act.Skip) (after_byte comma ends return))

first_byte-goes_on : (ends quote comma return : Bool) → is_end (first_byte ends quote comma return).1 ≡ false
first_byte-goes_on true quote comma return = refl
first_byte-goes_on false true comma return = refl
first_byte-goes_on false false true return = refl
first_byte-goes_on false false false return = refl

begins-goes_on : (c : ℕ) → is_end (step default_config st.StartRecord c).1 ≡ false
begins-goes_on c = first_byte-goes_on ((c == 13) || (c == 10)) (c == 34) (c == 44) (c == 13)

return-goes_on : (c : ℕ) → is_end (step default_config st.AfterCr c).1 ≡ false
return-goes_on c = go (c == 10) (step default_config st.StartRecord c) (begins-goes_on c)
  where
    go : (feed : Bool) (first : State × Action) → is_end first.1 ≡ false → is_end (if◌then◌else◌ {A = State × Action} feed (st.StartRecord, act.Skip) first).1 ≡ false
    go true first goes_on = refl
    go false first goes_on = goes_on

-- a byte that ends a record leaves the state between two
step-ends : (s : State) (c : ℕ) → is_end (step default_config s c).1 ≡ true → IsBetween (step default_config s c).0
step-ends st.InField c e = within-ends c e
step-ends st.StartField c e = field-ends c e
step-ends st.StartRecord c e = absurd (false≢true (sym (begins-goes_on c) ∙ e))
step-ends st.AfterQuote c e = elim (cases_Bool (c == 34)) [
  | inl quote ↦ absurd (false≢true (rw quote at e))
  | inr other ↦ rw other (within-ends c (rw other at e))
]
step-ends st.AfterCr c e = absurd (false≢true (sym (return-goes_on c) ∙ e))
step-ends st.InQuoted c e = elim (cases_Bool (c == 34)) [
  | inl quote ↦ absurd (false≢true (rw quote at e))
  | inr other ↦ absurd (false≢true (rw other at e))
]
step-ends st.InEscape c e = absurd (false≢true e)
step-ends st.InComment c e = elim (cases_Bool (c == 10)) [
  | inl feed ↦ absurd (false≢true (rw feed at e))
  | inr other ↦ absurd (false≢true (rw other at e))
]

-- what a record leaves of a text: no more bytes than there were, and the state between two records
pub record Leaves (most : ℕ) (o : Option Read) : Type 0 where
  pub state : (p : Read) → o ≡ Some p → IsBetween p.1
  pub bytes : (p : Read) → o ≡ Some p → length p.2 ≤ most

leaves-some : (most : ℕ) (p : Read) → IsBetween p.1 → length p.2 ≤ most → Leaves most (Some p)
leaves-some most p state bytes = record {
  state = λ q same. let e : p ≡ q = search rules in rw (sym e) state;
  bytes = λ q same. let e : p ≡ q = search rules in rw (sym e) bytes;
}

leaves-none : (most : ℕ) → Leaves most None
leaves-none most = record { state = λ q same. let same = same in cc; bytes = λ q same. let same = same in cc }

leaves-more : (most : ℕ) (o : Option Read) → Leaves most o → Leaves (suc most) o
leaves-more most o leaves = record { state = leaves.state; bytes = λ p same. omega (arith, leaves.bytes p same) }

pub next_record-leaves : (s : State) (fields : List (List ℕ)) (field text : List ℕ) → Leaves (length text) (next_record default_config s fields field text)
unfolding next_record
next_record-leaves s fields field [] = elim (cases_Bool (ends_at_end s)) [
  | inl ends ↦ rw ends (leaves-some 0 _ (inl refl) (omega arith))
  | inr goes_on ↦ rw goes_on (leaves-none 0)
]
next_record-leaves s fields field (c ∷ rest) = elim (cases_Bool (is_end (step default_config s c).1)) [
  | inl ends ↦ rw ends (leaves-some _ _ (step-ends s c ends) (omega arith))
  | inr goes_on ↦ rw goes_on (leaves-more (length rest) _
      (next_record-leaves (step default_config s c).0 (fields_after (step default_config s c).1 fields field) (field_after (step default_config s c).1 c field) rest))
]

-- between two records no record is left of no bytes, and each takes one at least
pub next_record-shorter : (s : State) (text : List ℕ) (p : Read) → IsBetween s → next_record default_config s [] [] text ≡ Some p → length p.2 < length text
unfolding next_record
next_record-shorter s [] p between same = elim between [
  | inl start ↦ let e : None ≡ Some p = rw start at same in cc
  | inr return ↦ let e : None ≡ Some p = rw return at same in cc
]
next_record-shorter s (c ∷ rest) p between same = elim (cases_Bool (is_end (step default_config s c).1)) [
  | inl ends ↦ omega (arith, (leaves-some (length rest) (fields_after (step default_config s c).1 [] [], (step default_config s c).0, rest) (step-ends s c ends) (omega arith)).bytes p (rw ends at same))
  | inr goes_on ↦ omega (arith, (next_record-leaves _ _ _ rest).bytes p (rw goes_on at same))
]

-- as many turns as there are bytes, and one more, read all records; further turns read none
pub records_from-turns : (m n : ℕ) (s : State) (text : List ℕ) → IsBetween s → length text < m → length text < n
    → records_from default_config m s text ≡ records_from default_config n s text
unfolding records_from
records_from-turns zero n s text between some also = absurd (omega (arith, some))
records_from-turns (suc m) zero s text between some also = absurd (omega (arith, also))
records_from-turns (suc m) (suc n) s text between some also =
    next_same (next_record default_config s [] [] text) m n (length text)
    (λ p same. next_record-shorter s text p between same) ((next_record-leaves s [] [] text).state)
    (λ p state less. records_from-turns m n p.1 p.2 state (omega (arith, less, some)) (omega (arith, less, also)))
  where
    next_same : (o : Option Read) (m n most : ℕ) → ((p : Read) → o ≡ Some p → length p.2 < most) → ((p : Read) → o ≡ Some p → IsBetween p.1)
        → ((p : Read) → IsBetween p.1 → length p.2 < most → records_from default_config m p.1 p.2 ≡ records_from default_config n p.1 p.2)
        → records_next (records_from default_config m) o ≡ records_next (records_from default_config n) o
    next_same None m n most shorter state same = refl
    next_same (Some p) m n most shorter state same = ap (λ more. p.0 ∷ more) (same p (state p refl) (shorter p refl))
