-- How many fields have the forms of a record.
use Rattle.std.proofs.Common.{◌≡◌, ℕ, ◌+◌, ◌-◌, ◌<◌, ◌≤◌, true, nat_le, List, [], length, map, get_or, arith, refl, sym, ap, ◌∙◌, take, inl, inr, Bor}
use Rattle.std.proofs.lemmas.Bool.{cases_eq, cases_lt, leb-true}
use Rattle.std.proofs.lemmas.List.{get_or-map, length-map, get_or-take, length-take}
use Rattle.std.proofs.lemmas.List.Sums.{AllPass-from_list_all}
use Rattle.std.proofs.lemmas.List.Elements.{Contains-get_or, at_from_Contains}
use Rattle.command_parser.specs.declared.field_form.FieldForm.{FieldForm}
use Rattle.command_parser.specs.RecordForms.{HasForm, HasForms, record_forms, Begins, IsWrongAt}
use Rattle.command_parser.proofs.SpelledLemmas.{field_at}

-- what holds below a number and at it holds up to it
pub each-next : (P : ℕ → Type 0) (n : ℕ) → ((i : ℕ) → i < n → P i) → P n → (i : ℕ) → i < n + 1 → P i
each-next P n below here i lt = elim (cases_eq i n) [
  | inl same ↦ rw (same) here
  | inr other ↦ below i (omega (arith, lt, other))
]

-- fewer fields have the forms as well
pub has-fewer : (forms : List FieldForm) (fields : List (List ℕ)) (m n : ℕ) → m ≤ n → HasForms forms fields n → HasForms forms fields m
has-fewer forms fields m n le has = record {
  some = omega (arith, le, has.some);
  most = omega (arith, le, has.most);
  each = λ i lt. has.each i (omega (arith, le, lt));
}

-- a field that has its form is one of the texts of the fields
pub has-its-form : (f : FieldForm) (fields : List (Bor (List ℕ))) (i j : ℕ) (d e : Bor (List ℕ)) → j ≡ i - 1 → i < length fields
    → HasForm f (get_or fields j d).now (get_or fields i e).now
    → HasForm f (get_or (map (λ field. field.now) fields) (i - 1) []) (get_or (map (λ field. field.now) fields) i [])
has-its-form f fields i j d e before lt has =
    rw (sym (field_at fields _ (i - 1) d refl (omega (arith, lt))), sym (field_at fields _ i e refl lt), sym before) has

-- the code's table has as many rows as the definition's
pub length-rows : (rows : List (Bor (List FieldForm))) → map (λ row. row.now) rows ≡ record_forms → length rows ≡ length record_forms
length-rows rows same = sym (length-map rows (λ row. row.now)) ∙ ap length same

-- and the same rows
pub same-row : (rows : List (Bor (List FieldForm))) (i : ℕ) (d : Bor (List FieldForm)) → map (λ row. row.now) rows ≡ record_forms → i < length record_forms
    → (get_or rows i d).now ≡ get_or record_forms i []
same-row rows i d same lt = sym (get_or-map (λ row. row.now) rows i d [] (rw (length-rows rows same) lt)) ∙ ap (λ list. get_or list i []) same

-- what is known of the rows before one, with so many fields as begin like one of them
pub record HasTried (fields : List (List ℕ)) (rows most : ℕ) : Type 0 where
  pub begins : Begins fields most
  pub none : (i : ℕ) → i < rows → ¬ HasForms (get_or record_forms i []) fields (most + 1)

-- and with that row
pub tried-next : (rows : List (Bor (List FieldForm))) (i : ℕ) (d : Bor (List FieldForm)) (fields : List (List ℕ)) (m n r : ℕ)
    → map (λ row. row.now) rows ≡ record_forms → i < length record_forms
    → HasForms (get_or rows i d).now fields n → ¬ HasForms (get_or rows i d).now fields (n + 1)
    → m ≤ r → n ≤ r → (m < n → r ≡ n) → (n ≤ m → r ≡ m) → HasTried fields i m → HasTried fields (i + 1) r
tried-next rows i d fields m n r same lt some most left right up stay tried = record {
  begins = elim (cases_lt m n) [
    | inl less ↦ rw (up less) record { forms = get_or record_forms i []; among = Contains-get_or record_forms i [] lt; has = rw (sym (same-row rows i d same lt)) some }
    | inr no_less ↦ rw (stay no_less) tried.begins
  ];
  none = each-next _ i (λ j before more. tried.none j before (has-fewer _ fields (m + 1) (r + 1) (omega (arith, left)) more))
      (λ more. most (rw (same-row rows i d same lt) (has-fewer _ fields (n + 1) (r + 1) (omega (arith, right)) more)));
}

-- before the first row it is known that no fields begin like one
pub tried-none : (fields : List (List ℕ)) → HasTried fields 0 0
tried-none fields = record {
  begins = record {
    forms = get_or record_forms 0 [];
    among = Contains-get_or record_forms 0 [] (omega arith);
    has = record { some = omega arith; most = omega arith; each = λ i lt. absurd (omega (arith, lt)) };
  };
  none = λ i lt has. omega (arith, lt);
}

-- no record has more than 10 fields
pub begins-short : (fields : List (List ℕ)) (count : ℕ) → Begins fields count → count ≤ 10
begins-short fields count begins =
    let at = at_from_Contains record_forms begins.forms begins.among in
    let short : nat_le (length (get_or record_forms at.0 [])) 10 ≡ true = AllPass-from_list_all (λ row. nat_le (length row) 10) record_forms refl at.0 [] at.1 in
    omega (arith, leb-true _ _ short, ap length (at.2 []), begins.has.some)

pub one-back : (n : ℕ) → n + 1 - 1 ≡ n
one-back n = omega arith

-- fields that begin like a row and like no row with one more are wrong there
pub tried-all : (fields : List (List ℕ)) (most : ℕ) → HasTried fields (length record_forms) most → IsWrongAt fields (most + 1)
tried-all fields most tried = record {
  from_1 = omega (arith);
  right = rw (one-back most) tried.begins;
  wrong = λ begins.
      let at = at_from_Contains record_forms begins.forms begins.among in
      tried.none at.0 at.1 (rw (at.2 []) begins.has);
}

-- fields begin as a front of them does, where the front is long enough
pub begins-take : (fields : List (List ℕ)) (front count : ℕ) → count ≤ front → Begins (take front fields) count → Begins fields count
begins-take fields front count le begins = record {
  forms = begins.forms;
  among = begins.among;
  has = record {
    some = begins.has.some;
    most = omega (arith, le, begins.has.most, length-take front fields);
    each = λ i lt. rw (sym (get_or-take front fields (i - 1) [] (omega (arith, le, lt))), sym (get_or-take front fields i [] (omega (arith, le, lt)))) (begins.has.each i lt);
  };
}

pub take-begins : (fields : List (List ℕ)) (front count : ℕ) → count ≤ front → Begins fields count → Begins (take front fields) count
take-begins fields front count le begins = record {
  forms = begins.forms;
  among = begins.among;
  has = record {
    some = begins.has.some;
    most = omega (arith, le, begins.has.most, length-take front fields);
    each = λ i lt. rw (get_or-take front fields (i - 1) [] (omega (arith, le, lt)), get_or-take front fields i [] (omega (arith, le, lt))) (begins.has.each i lt);
  };
}

-- and they are wrong where the first 12 of them are
pub wrong-take : (fields : List (List ℕ)) (place : ℕ) → IsWrongAt (take 12 fields) place → IsWrongAt fields place
wrong-take fields place wrong = record {
  from_1 = wrong.from_1;
  right = begins-take fields 12 (place - 1) (omega (arith, begins-short _ _ wrong.right)) wrong.right;
  wrong = λ begins. wrong.wrong (take-begins fields 12 place (omega (arith, begins-short _ _ begins)) begins);
}

pub begins-fewer : (fields : List (List ℕ)) (m n : ℕ) → m ≤ n → Begins fields n → Begins fields m
begins-fewer fields m n le begins = record { forms = begins.forms; among = begins.among; has = has-fewer begins.forms fields m n le begins.has }

-- fields are wrong at one place at most
pub wrong-one : (fields : List (List ℕ)) (p q : ℕ) → IsWrongAt fields p → IsWrongAt fields q → p ≡ q
wrong-one fields p q at also = elim (cases_lt p q) [
  | inl less ↦ absurd (at.wrong (begins-fewer fields p (q - 1) (omega (arith, less)) also.right))
  | inr no_less ↦ elim (cases_lt q p) [
    | inl more ↦ absurd (also.wrong (begins-fewer fields q (p - 1) (omega (arith, more)) at.right))
    | inr no_more ↦ omega (arith, no_less, no_more)
  ]
]
