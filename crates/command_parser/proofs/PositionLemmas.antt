-- Where a front of a command's record is wrong, and a command's record with fields behind it.
use Rattle.std.proofs.Common.{◌≡◌, ◌∙◌, ℕ, ◌+◌, ◌<◌, ◌≤◌, Bool, true, false, nat_le, ltb, List, length, ◌++◌, take, get_or, refl, sym, arith, inl, inr, nat_eq, ◌||◌, ◌&&◌, not, length-append, length-take, []}
use Rattle.std.specs.List.{list_all, Contains}
use Rattle.std.specs.Cmp.Lexicographic.{pointwise}
use Rattle.std.proofs.lemmas.Bool.{and_parts, or_cases, not-true, leb-true, ltb-true, false≢true}
use Rattle.std.proofs.lemmas.List.{get_or_append_left}
use Rattle.std.proofs.lemmas.List.Sums.{AllPass-from_list_all}
use Rattle.std.proofs.lemmas.List.Elements.{All-contains}
use Rattle.std.proofs.Math.Seq.{take-append_seam}
use Rattle.desk_model.specs.statements.Statement.{StatedValue}
use Rattle.command_parser.specs.declared.field_form.FieldForm.{FieldForm}
use Rattle.command_parser.specs.declared.field_form.FieldForm.TheVariants as form
use Rattle.command_parser.specs.Word.{word_text, event_word_text}
use Rattle.command_parser.specs.Spelled.{StatesCommand}
use Rattle.command_parser.specs.RecordForms.{HasForm, HasForms, record_forms, Begins, IsWrongAt}
use Rattle.command_parser.proofs.SpelledLemmas.{apart}
use Rattle.command_parser.proofs.FormLemmas.{one-back, begins-take, take-begins, begins-fewer}
use Rattle.command_parser.proofs.RowLemmas.{StatesCommand-HasRow}

-- two forms are different words
abbrev are_apart : FieldForm → FieldForm → Bool
are_apart (form.Word v) (form.Word w) = not (pointwise nat_eq (word_text v) (word_text w))
are_apart (form.Event v) (form.Event w) = not (pointwise nat_eq (event_word_text v) (event_word_text w))
are_apart f g = false

-- so no field has both
not-both : (f g : FieldForm) (b c field : List ℕ) → are_apart f g ≡ true → HasForm f b field → HasForm g c field → ⊥
not-both (form.Word v) (form.Word w) b c field e is also = apart _ _ (not-true _ e) (sym is ∙ also)
not-both (form.Event v) (form.Event w) b c field e is also = apart _ _ (not-true _ e) (sym is ∙ also)
not-both f g b c field e is also = false≢true e

-- two rows have different words at this place
abbrev are_apart_at : ℕ → List FieldForm → List FieldForm → Bool
are_apart_at i r s = ltb i (length r) && are_apart (get_or r i form.Minute) (get_or s i form.Minute)

-- the second row is no longer than the first, or another command's or event's
abbrev is_no_longer : List FieldForm → List FieldForm → Bool
is_no_longer r s = nat_le (length s) (length r) || (are_apart_at 1 r s || are_apart_at 3 r s)

-- so is each row beside each
none-longer : (r s : List FieldForm) → Contains record_forms r → Contains record_forms s → is_no_longer r s ≡ true
none-longer r s is also =
    let all : list_all (is_no_longer r) record_forms ≡ true = All-contains (λ r. list_all (is_no_longer r) record_forms ≡ true) record_forms r
    (AllPass-from_list_all (λ r. list_all (is_no_longer r) record_forms) record_forms refl) is in
    All-contains (λ s. is_no_longer r s ≡ true) record_forms s (AllPass-from_list_all (is_no_longer r) record_forms all) also

-- fields that have all the forms of a row begin, with others behind them, like no other that has different words
at-apart : (r s : List FieldForm) (fields more : List (List ℕ)) (i n : ℕ) → length r ≡ length fields → length fields ≤ n → HasForms r fields (length fields)
    → HasForms s (fields ++ more) n → are_apart_at i r s ≡ true → ⊥
at-apart r s fields more i n as_many le has also e =
    let both = and_parts (ltb i (length r)) (are_apart (get_or r i form.Minute) (get_or s i form.Minute)) e in
    let lt : i < length fields = omega (arith, ltb-true i (length r) both.0, as_many) in
    not-both (get_or r i form.Minute) (get_or s i form.Minute) _ _ (get_or fields i []) both.1 (has.each i lt)
    (rw (get_or_append_left fields more [] i lt) at (also.each i (omega (arith, lt, le))))

-- and like none with one more
no-more : (r s : List FieldForm) (fields more : List (List ℕ)) → length r ≡ length fields → HasForms r fields (length fields)
    → is_no_longer r s ≡ true → ¬ HasForms s (fields ++ more) (length fields + 1)
no-more r s fields more as_many has e also = elim (or_cases (nat_le (length s) (length r)) (are_apart_at 1 r s || are_apart_at 3 r s) e) [
  | inl short ↦ omega (arith, leb-true (length s) (length r) short, as_many, also.some)
  | inr words ↦ elim (or_cases (are_apart_at 1 r s) (are_apart_at 3 r s) words) [
    | inl command ↦ at-apart r s fields more 1 _ as_many (omega arith) has also command
    | inr event ↦ at-apart r s fields more 3 _ as_many (omega arith) has also event
  ]
]

-- a command's record begins like a row
whole-begins : (fields : List (List ℕ)) (s : StatedValue) → StatesCommand fields s → Begins fields (length fields)
whole-begins fields s states = let row = StatesCommand-HasRow fields s states in record { forms = row.forms; among = row.among; has = row.has }

-- and so does a front of it
front-begins : (fields more : List (List ℕ)) (s : StatedValue) → StatesCommand (fields ++ more) s → Begins fields (length fields)
front-begins fields more s states =
    rw (take-append_seam fields more) at (take-begins (fields ++ more) (length fields) (length fields) (omega arith)
    (begins-fewer (fields ++ more) (length fields) _ (omega (arith, length-append fields more)) (whole-begins (fields ++ more) s states)))

pub wrong-missing : (fields more : List (List ℕ)) (s : StatedValue) → StatesCommand (fields ++ more) s → IsWrongAt fields (length fields + 1)
wrong-missing fields more s states = record {
  from_1 = omega arith;
  right = rw (one-back (length fields)) (front-begins fields more s states);
  wrong = λ begins. omega (arith, begins.has.most);
}

pub wrong-too_many : (fields more : List (List ℕ)) (s : StatedValue) → StatesCommand fields s → IsWrongAt (fields ++ more) (length fields + 1)
wrong-too_many fields more s states = record {
  from_1 = omega arith;
  right = rw (one-back (length fields)) (begins-take (fields ++ more) (length fields) (length fields) (omega arith)
      (rw (take-append_seam fields more) (whole-begins fields s states)));
  wrong = λ also.
      let row = StatesCommand-HasRow fields s states in
      no-more row.forms also.forms fields more row.as_many row.has (none-longer row.forms also.forms row.among also.among) also.has;
}

pub wrong-no_command : (fields more : List (List ℕ)) (p : ℕ) (s : StatedValue) → IsWrongAt fields p → p ≤ length fields → ¬ StatesCommand (take p fields ++ more) s
wrong-no_command fields more p s wrong le states =
    let e : length (take p fields) ≡ p = omega (arith, length-take p fields, le) in
    wrong.wrong (begins-take fields p p (omega arith) (rw e at (front-begins (take p fields) more s states)))
