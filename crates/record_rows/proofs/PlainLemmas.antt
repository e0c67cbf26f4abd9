-- A text with no quote and no carriage return is read by lines, and each of these is cut at its commas.
use Rattle.std.proofs.Common.{◌≡◌, ◌∙◌, ℕ, ◌+◌, ◌==◌, Bool, true, false, not, ◌&&◌, ◌||◌, List, [], ◌∷◌, ◌++◌, length, map, filter, Some, None, Option, is_some, slice_get, IsTrue, if◌then◌else◌, inl, inr, refl, sym, ap, subst, append_assoc, append-nil, arith}
use Rattle.std.specs.List.{All, list_all}
use Rattle.std.proofs.lemmas.Bool.{cases_Bool, eqb-true, false_from_ne_true}
use Rattle.std.proofs.lemmas.Grind.{get_or_default_zero}
use Rattle.std.proofs.lemmas.List.Sums.{AllPass-from_list_all, list_all-from_AllPass}
use Rattle.std.proofs.lemmas.List.Folds.{list_all-append}
use Rattle.std.proofs.lemmas.List.Splits.{slice_split_at, slice_split_none}
use Rattle.csv.specs.Machine.{Read, step, is_end, ends_at_end, fields_after, field_after, next_record}
use Rattle.csv.specs.Reading.{default_config, records_from, strip_bom}
use Rattle.csv.specs.declared.parser.Action.{Action}
use Rattle.csv.specs.declared.parser.Action.TheVariants as act
use Rattle.csv.specs.declared.parser.State.{State}
use Rattle.csv.specs.declared.parser.State.TheVariants as st
use Rattle.desk_base.specs.Parts.{parts_by}
use Rattle.memchr.specs.Find.{IsFirstByte, is_byte2}
use Rattle.record_rows.specs.Plain.{has_bytes, is_plain, is_plain_byte, plain_records, records_with}
use Rattle.record_rows.specs.Rows.{records_of}
use Rattle.record_rows.proofs.ReadLemmas.{records_from-some, records_from-none}

-- there is a part before the first mark
parts_by-some : (mark : ℕ) (xs : List ℕ) → (first : List ℕ) × (rest : List (List ℕ)) × (parts_by mark xs ≡ first ∷ rest)
parts_by-some mark [] = ([], [], refl)
parts_by-some mark (x ∷ xs) =
    let (first, rest, is) = parts_by-some mark xs in
    elim (cases_Bool (x == mark)) [
      | inl here ↦ ([], parts_by mark xs, rw here refl)
      | inr other ↦ (x ∷ first, rest, rw (other, is) refl)
    ]

-- bytes before the first of parts
abbrev onto : List ℕ → List (List ℕ) → List (List ℕ)
onto front [] = front ∷ []
onto front (part ∷ parts) = (front ++ part) ∷ parts

onto-none : (mark : ℕ) (xs : List ℕ) → onto [] (parts_by mark xs) ≡ parts_by mark xs
onto-none mark xs = let (first, rest, is) = parts_by-some mark xs in rw is refl

-- what a comma does, and any other plain byte
abbrev plain_step : Bool → State × Action
plain_step true = (st.StartField, act.EndField)
plain_step false = (st.InField, act.Copy)

abbrev IsStep : State → Type 0
IsStep s = (c : ℕ) → is_plain_byte c ≡ true → step default_config s c ≡ plain_step (c == 44)

not_true : (b : Bool) → not b ≡ true → b ≡ false
not_true true e = absurd (let e = e in cc)
not_true false e = refl

and_first : (a b : Bool) → (a && b) ≡ true → a ≡ true
and_first true b e = refl
and_first false b e = e

and_second : (a b : Bool) → (a && b) ≡ true → b ≡ true
and_second true b e = e
and_second false b e = absurd (let e = e in cc)

no_quote : (c : ℕ) → is_plain_byte c ≡ true → (c == 34) ≡ false
no_quote c plain = not_true (c == 34) (and_first (not (c == 34)) _ plain)

no_feed : (c : ℕ) → is_plain_byte c ≡ true → (c == 10) ≡ false
no_feed c plain = not_true (c == 10) (and_first (not (c == 10)) _ (and_second (not (c == 34)) _ plain))

no_return : (c : ℕ) → is_plain_byte c ≡ true → (c == 13) ≡ false
no_return c plain = not_true (c == 13) (and_second (not (c == 10)) _ (and_second (not (c == 34)) _ plain))

IsStep-InField : IsStep st.InField
IsStep-InField c plain = elim (cases_Bool (c == 44)) [
  | inl comma ↦ rw comma refl
  | inr other ↦ rw (other, no_return c plain, no_feed c plain) refl
]

IsStep-StartField : IsStep st.StartField
IsStep-StartField c plain = rw (no_quote c plain) (IsStep-InField c plain)

IsStep-StartRecord : IsStep st.StartRecord
IsStep-StartRecord c plain = elim (cases_Bool (c == 44)) [
  | inl comma ↦ rw (no_return c plain, no_feed c plain, no_quote c plain, comma) refl
  | inr other ↦ rw (no_return c plain, no_feed c plain, no_quote c plain, other) refl
]

-- one byte of a record
abbrev turn : List (List ℕ) → List ℕ → ℕ → List ℕ → State × Action → Option Read
turn fields field c rest p =
    if is_end p.1 then Some (fields_after p.1 fields field, p.0, rest)
    else next_record default_config p.0 (fields_after p.1 fields field) (field_after p.1 c field) rest

-- what stands behind a line, its end or that of the text, ends a record in this state, and leaves this text
abbrev IsEnd : List ℕ → List ℕ → State → Type 0
IsEnd end left s = (fields : List (List ℕ)) (field : List ℕ) → next_record default_config s fields field end ≡ Some (fields ++ field ∷ [], st.StartRecord, left)

-- from this state the rest of a line is read as the rest of a record
abbrev IsReadWhole : List ℕ → List ℕ → List ℕ → State → Type 0
IsReadWhole line end left s = (fields : List (List ℕ)) (field : List ℕ)
    → next_record default_config s fields field (line ++ end) ≡ Some (fields ++ onto field (parts_by 44 line), st.StartRecord, left)

next_record-turn : (end left : List ℕ) (s : State) → IsStep s → (fields : List (List ℕ)) (field : List ℕ) (c : ℕ) (rest : List ℕ) → is_plain_byte c ≡ true
    → IsReadWhole rest end left st.StartField → IsReadWhole rest end left st.InField
    → next_record default_config s fields field (c ∷ (rest ++ end)) ≡ Some (fields ++ onto field (parts_by 44 (c ∷ rest)), st.StartRecord, left)
unfolding next_record
next_record-turn end left s steps fields field c rest plain starts goes_on =
    let (first, parts, is) = parts_by-some 44 rest in
    ap (turn fields field c (rest ++ end)) (steps c plain) ∙ elim (cases_Bool (c == 44)) [
      | inl comma ↦ rw comma (starts (fields ++ field ∷ []) []
          ∙ ap (λ f. Some (f, st.StartRecord, left)) (append_assoc fields (field ∷ []) (onto [] (parts_by 44 rest)) ∙ rw (append-nil field, onto-none 44 rest) refl))
      | inr other ↦ rw other (goes_on fields (field ++ c ∷ [])
          ∙ ap (λ f. Some (fields ++ f, st.StartRecord, left)) (rw is (ap (λ f. f ∷ parts) (append_assoc field (c ∷ []) first))))
    ]

next_record-plain : (end left : List ℕ) → IsEnd end left st.StartField → IsEnd end left st.InField
    → (xs : List ℕ) → list_all is_plain_byte xs ≡ true → (s : State) → IsStep s → IsEnd end left s → IsReadWhole xs end left s
next_record-plain end left starts goes_on [] all s steps ends fields field = ends fields field ∙ ap (λ f. Some (fields ++ f ∷ [], st.StartRecord, left)) (sym (append-nil field))
next_record-plain end left starts goes_on (c ∷ rest) all s steps ends fields field =
    let later : list_all is_plain_byte rest ≡ true = and_second (is_plain_byte c) (list_all is_plain_byte rest) all in
    next_record-turn end left s steps fields field c rest (and_first (is_plain_byte c) (list_all is_plain_byte rest) all)
    (next_record-plain end left starts goes_on rest later st.StartField IsStep-StartField starts)
    (next_record-plain end left starts goes_on rest later st.InField IsStep-InField goes_on)

-- the end of the text, and a line feed
IsEnd-text : (s : State) → ends_at_end s ≡ true → IsEnd [] [] s
unfolding next_record
IsEnd-text s ends fields field = rw ends refl

IsEnd-StartField : (rest : List ℕ) → IsEnd (10 ∷ rest) rest st.StartField
unfolding next_record
IsEnd-StartField rest fields field = refl

IsEnd-InField : (rest : List ℕ) → IsEnd (10 ∷ rest) rest st.InField
unfolding next_record
IsEnd-InField rest fields field = refl

-- a line that isn't empty is a record
next_record-line : (end left : List ℕ) → IsEnd end left st.StartField → IsEnd end left st.InField → (b : ℕ) (line : List ℕ) → list_all is_plain_byte (b ∷ line) ≡ true
    → next_record default_config st.StartRecord [] [] ((b ∷ line) ++ end) ≡ Some (parts_by 44 (b ∷ line), st.StartRecord, left)
next_record-line end left starts goes_on b line all =
    let later : list_all is_plain_byte line ≡ true = and_second (is_plain_byte b) (list_all is_plain_byte line) all in
    next_record-turn end left st.StartRecord IsStep-StartRecord [] [] b line (and_first (is_plain_byte b) (list_all is_plain_byte line) all)
    (next_record-plain end left starts goes_on line later st.StartField IsStep-StartField starts)
    (next_record-plain end left starts goes_on line later st.InField IsStep-InField goes_on)
    ∙ ap (λ f. Some (f, st.StartRecord, left)) (onto-none 44 (b ∷ line))

-- the records that a reader reads of a text from the front of a line on
abbrev read_of : List ℕ → List (List (List ℕ))
read_of text = records_from default_config (length text + 1) st.StartRecord text

-- where the next record of two texts is one, so are all records
read_of-one : (a b : List ℕ) (o : Option Read) → next_record default_config st.StartRecord [] [] a ≡ o → next_record default_config st.StartRecord [] [] b ≡ o → read_of a ≡ read_of b
read_of-one a b None of_a of_b = records_from-none st.StartRecord a of_a ∙ sym (records_from-none st.StartRecord b of_b)
read_of-one a b (Some p) of_a of_b =
    records_from-some st.StartRecord a p p.0 p.1 p.2 (inl refl) of_a refl refl refl ∙ sym (records_from-some st.StartRecord b p p.0 p.1 p.2 (inl refl) of_b refl refl refl)

-- an empty line is passed over
read_of-empty : (rest : List ℕ) → read_of (10 ∷ rest) ≡ read_of rest
unfolding next_record
read_of-empty rest = read_of-one (10 ∷ rest) rest (next_record default_config st.StartRecord [] [] rest) refl refl

-- any other is the first record
read_of-line : (end left : List ℕ) → IsEnd end left st.StartField → IsEnd end left st.InField → (b : ℕ) (line : List ℕ) → list_all is_plain_byte (b ∷ line) ≡ true
    → read_of ((b ∷ line) ++ end) ≡ parts_by 44 (b ∷ line) ∷ read_of left
read_of-line end left starts goes_on b line all =
    records_from-some st.StartRecord ((b ∷ line) ++ end) (parts_by 44 (b ∷ line), st.StartRecord, left) (parts_by 44 (b ∷ line)) st.StartRecord left (inl refl)
    (next_record-line end left starts goes_on b line all) refl refl refl

-- and nothing is behind the end
read_of-end : read_of [] ≡ []
unfolding next_record
read_of-end = records_from-none st.StartRecord [] refl

-- ---- lines

no_mark : (xs : List ℕ) → list_all is_plain_byte xs ≡ true → All (λ b. (b == 10) ≡ false) xs
no_mark xs all = λ k d within. no_feed _ (AllPass-from_list_all is_plain_byte xs all k d within)

-- the first line, and the last
pub plain_records-cut : (text line : List ℕ) (lines : List (List ℕ)) → parts_by 10 text ≡ line ∷ lines
    → plain_records text ≡ records_with line (map (parts_by 44) (filter has_bytes lines))
plain_records-cut text [] lines is = ap (λ lines. map (parts_by 44) (filter has_bytes lines)) is
plain_records-cut text (b ∷ line) lines is = ap (λ lines. map (parts_by 44) (filter has_bytes lines)) is

plain_records-line : (line rest : List ℕ) → list_all is_plain_byte line ≡ true → plain_records (line ++ 10 ∷ rest) ≡ records_with line (plain_records rest)
plain_records-line line rest all = plain_records-cut (line ++ 10 ∷ rest) line (parts_by 10 rest) (slice_split_at (λ b. b == 10) line 10 rest (no_mark line all) refl)

plain_records-last : (line : List ℕ) → list_all is_plain_byte line ≡ true → plain_records line ≡ records_with line []
plain_records-last line all = plain_records-cut line line [] (slice_split_none (λ b. b == 10) line (no_mark line all))

-- a byte that is neither a quote nor a carriage return
abbrev pub is_unquoted : ℕ → Bool
is_unquoted b = not (is_byte2 34 13 b)

plain_byte : (quote feed return : Bool) → feed ≡ false → not (quote || return) ≡ true → (not quote && (not feed && not return)) ≡ true
plain_byte true feed return no_feed other = absurd (let other = other in cc)
plain_byte false true return no_feed other = absurd (let no_feed = no_feed in cc)
plain_byte false false return no_feed other = other

-- a byte more of a line
longer : (line : List ℕ) (c : ℕ) → list_all is_plain_byte line ≡ true → is_plain_byte c ≡ true → list_all is_plain_byte (line ++ c ∷ []) ≡ true
longer line c all plain = list_all-append is_plain_byte line (c ∷ []) ∙ rw (all, plain) refl

-- a text whose first line has begun
read_of-lines : (line rest : List ℕ) → list_all is_plain_byte line ≡ true → list_all is_unquoted rest ≡ true → read_of (line ++ rest) ≡ plain_records (line ++ rest)
read_of-lines [] [] all unquoted = read_of-end
read_of-lines (b ∷ line) [] all unquoted =
    read_of-line [] [] (IsEnd-text st.StartField refl) (IsEnd-text st.InField refl) b line all
    ∙ ap (λ more. parts_by 44 (b ∷ line) ∷ more) read_of-end
    ∙ sym (plain_records-last (b ∷ line) all)
    ∙ ap plain_records (sym (append-nil (b ∷ line)))
read_of-lines line (c ∷ rest) all unquoted =
    let later : list_all is_unquoted rest ≡ true = and_second (is_unquoted c) (list_all is_unquoted rest) unquoted in
    elim (cases_Bool (c == 10)) [
      | inl feed ↦ let is : c ≡ 10 = eqb-true c 10 feed in
          subst (λ n. read_of (line ++ n ∷ rest) ≡ plain_records (line ++ n ∷ rest)) (sym is) (read_of-feed line rest all (read_of-lines [] rest refl later))
      | inr other ↦
          let plain : is_plain_byte c ≡ true = plain_byte (c == 34) (c == 10) (c == 13) other (and_first (is_unquoted c) (list_all is_unquoted rest) unquoted) in
          subst (λ text. read_of text ≡ plain_records text) (append_assoc line (c ∷ []) rest) (read_of-lines (line ++ c ∷ []) rest (longer line c all plain) later)
    ]
  where
    read_of-feed : (line rest : List ℕ) → list_all is_plain_byte line ≡ true → read_of rest ≡ plain_records rest → read_of (line ++ 10 ∷ rest) ≡ plain_records (line ++ 10 ∷ rest)
    read_of-feed [] rest all same = read_of-empty rest ∙ same ∙ sym (plain_records-line [] rest all)
    read_of-feed (b ∷ line) rest all same =
        read_of-line (10 ∷ rest) rest (IsEnd-StartField rest) (IsEnd-InField rest) b line all
        ∙ ap (λ more. parts_by 44 (b ∷ line) ∷ more) same
        ∙ sym (plain_records-line (b ∷ line) rest all)

-- what has no byte order mark at its front stays whole
strip_bom-none : (b : ℕ) (rest : List ℕ) → (b == 0xEF) ≡ false → strip_bom (b ∷ rest) ≡ b ∷ rest
unfolding strip_bom
strip_bom-none b [] other = refl
strip_bom-none b (c ∷ []) other = refl
strip_bom-none b (c ∷ d ∷ rest) other = rw other refl

strip_bom-empty : strip_bom [] ≡ []
unfolding strip_bom
strip_bom-empty = refl

-- where a search for a quote or a carriage return found none
unquoted : (text : List ℕ) (found : Option ℕ) (none : Bool) → IsFirstByte (is_byte2 34 13) text found → is_some found ≡ not none → IsTrue none → list_all is_unquoted text ≡ true
unquoted text (Some at) none first same is = let gone : true ≡ not true = same ∙ ap not is in cc
unquoted text None none first same is = list_all-from_AllPass is_unquoted text (λ k d within.
    ap is_unquoted (get_or_default_zero text k d within) ∙ ap not (false_from_ne_true _ (first k (omega arith) within)))

pub records_of-empty : (text : List ℕ) → None ≡ slice_get text 0 → records_of text ≡ plain_records text
unfolding records_of
records_of-empty [] none = ap read_of strip_bom-empty ∙ read_of-end
records_of-empty (b ∷ rest) none = let none : None ≡ Some b = none in cc

pub records_of-lines : (text : List ℕ) (b : ℕ) (found : Option ℕ) (none : Bool) → Some b ≡ slice_get text 0 → (b ≡ 0xEF → ⊥)
    → IsFirstByte (is_byte2 34 13) text found → is_some found ≡ not none → IsTrue none → records_of text ≡ plain_records text
unfolding records_of
records_of-lines [] b found none first other is same true_is = let gone : Some b ≡ None = first in cc
records_of-lines (x ∷ rest) b found none first other is same true_is =
    let here : Some b ≡ Some x = first in
    let b_is : b ≡ x = cc in
    ap read_of (strip_bom-none x rest (false_from_ne_true (x == 0xEF) (λ e. other (b_is ∙ eqb-true x 0xEF e))))
    ∙ read_of-lines [] (x ∷ rest) refl (unquoted (x ∷ rest) found none is same true_is)

pub records_of-plain : (text : List ℕ) → is_plain text ≡ true → records_of text ≡ parts_by 44 text ∷ []
unfolding records_of
records_of-plain [] plain = absurd (let plain = plain in cc)
records_of-plain (b ∷ rest) plain =
    let other : (b == 0xEF) ≡ false = not_true (b == 0xEF) (and_first (not (b == 0xEF)) (list_all is_plain_byte (b ∷ rest)) plain) in
    let all : list_all is_plain_byte (b ∷ rest) ≡ true = and_second (not (b == 0xEF)) (list_all is_plain_byte (b ∷ rest)) plain in
    ap read_of (strip_bom-none b rest other) ∙ ap read_of (sym (append-nil (b ∷ rest)))
    ∙ read_of-line [] [] (IsEnd-text st.StartField refl) (IsEnd-text st.InField refl) b rest all
    ∙ ap (λ more. parts_by 44 (b ∷ rest) ∷ more) read_of-end
