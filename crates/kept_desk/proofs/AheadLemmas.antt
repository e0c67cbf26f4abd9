-- Lines that state a minute ahead of one, by what they begin with.
use Rattle.std.proofs.Common.{◌≡◌, inl, inr, ◌∙◌, ℕ, ◌+◌, ◌<◌, ◌≤◌, Bool, true, false, not, Option, None, Some, is_some, IfSome, IsNone, IsSomeAnd, List, [], ◌∷◌, length, get_or, map, codes, decimal, nat_eq, refl, sym, ap, arith, Bor}
use Rattle.std.specs.Bool.{OnTrue, OnFalse}
use Rattle.std.specs.Cmp.Lexicographic.{pointwise}
use Rattle.std.proofs.lemmas.Bool.Decides.{Decides-eqb}
use Rattle.std.proofs.lemmas.Slice.Eq.{slice_eq-Decides}
use Rattle.desk_base.specs.Minute.{IsInYears, minute_text}
use Rattle.desk_base.specs.Number.{IsNumber}
use Rattle.desk_model.specs.statements.Statement.{StatedValue}
use Rattle.record_rows.specs.Rows.{records_of}
use Rattle.command_parser.specs.CommandLine.{IsCommandLine}
use Rattle.kept_desk.specs.declared.ahead.Beginning.{Beginning}
use Rattle.kept_desk.specs.Ahead.{IsCommandAt, StatesMinute, IsWithin, IsAhead, IsInTime}
use Rattle.kept_desk.specs.Beginning.{BeginsAt, IsCrewAt, BeginsWith, LineBeginsWith}

no_not : (b : Bool) → not b ≡ false → b ≡ true
no_not true not_false = refl
no_not false not_false = sym not_false

-- a text that doesn't compare as unlike a word is the word
pub word-is : (text word spelled : List ℕ) (unlike : Bool) → unlike ≡ not (pointwise nat_eq text word) → unlike ≡ false → word ≡ spelled → text ≡ spelled
word-is text word spelled unlike told like is = (slice_eq-Decides Decides-eqb text word _ refl).0 (no_not _ (sym told ∙ like)) ∙ is

-- four fields are a crew call's, where each is
pub crew-at : (fields : List (Bor (List ℕ))) (d : Bor (List ℕ)) (minute first second : ℕ) → 4 ≤ length fields → length fields < 5 → (get_or fields 1 d).now ≡ codes "crew"
    → IsInYears minute × ((get_or fields 0 d).now ≡ minute_text minute) → IsNumber first × ((get_or fields 2 d).now ≡ decimal first) → IsNumber second × ((get_or fields 3 d).now ≡ decimal second)
    → IsCrewAt (map (λ field. field.now) fields) minute
crew-at [] d minute first second least below word at one two = absurd (omega (arith, least))
crew-at (_ ∷ []) d minute first second least below word at one two = absurd (omega (arith, least))
crew-at (_ ∷ _ ∷ []) d minute first second least below word at one two = absurd (omega (arith, least))
crew-at (_ ∷ _ ∷ _ ∷ []) d minute first second least below word at one two = absurd (omega (arith, least))
crew-at (x ∷ y ∷ z ∷ a ∷ []) d minute first second least below word at one two = record {
  first = first;
  second = second;
  crew = record { in_years = at.0; number = one.0; other = two.0; fields_are = rw (word, at.1, one.1, two.1) refl };
}
crew-at (_ ∷ _ ∷ _ ∷ _ ∷ _ ∷ rest) d minute first second least below word at one two = absurd (omega (arith, below))

head : {x y : List ℕ} {xs ys : List (List ℕ)} → x ∷ xs ≡ y ∷ ys → x ≡ y
head is = cc

-- the first of some fields
pub first-is : (fields : List (Bor (List ℕ))) (d : Bor (List ℕ)) (x : List ℕ) (behind : List (List ℕ)) → map (λ field. field.now) fields ≡ x ∷ behind → (get_or fields 0 d).now ≡ x
first-is [] d x behind is = absurd (cc)
first-is (field ∷ fields) d x behind is = head is

-- a crew call's record begins with its minute
crew-begins : (fields : List (List ℕ)) (minute : ℕ) → IsCrewAt fields minute → BeginsAt fields minute
crew-begins fields minute at = record { in_years = at.crew.in_years; behind = codes "crew" ∷ decimal at.first ∷ decimal at.second ∷ []; fields_are = at.crew.fields_are }

-- a record begins with a minute, where no other may be read in its first field
pub begins : (fields : List (List ℕ)) (minute : ℕ) (crew : Option ℕ) (is : Bool) → ((m : ℕ) → BeginsAt fields m → minute ≡ m) → IfSome crew (IsCrewAt fields)
    → (IsNone crew → (m : ℕ) → ¬ IsCrewAt fields m) → is ≡ is_some crew → BeginsWith fields (Some (record { minute = minute; is_crew = is }))
begins fields minute None true first some none told = absurd (cc)
begins fields minute None false first some none told = record { only = first; crew = tt; no_crew = none refl }
begins fields minute (Some m) true first some none told =
    record { only = first; crew = rw (first m (crew-begins fields m some)) some; no_crew = tt }
begins fields minute (Some m) false first some none told = absurd (cc)

-- the fields of the one record of a line that states a minute
record StatesIn (line : List ℕ) (minute : ℕ) : Type 0 where
  fields : List (List ℕ)
  one : records_of line ≡ fields ∷ []
  begins_at : BeginsAt fields minute

states-in : (line : List ℕ) (minute : ℕ) → StatesMinute line minute → StatesIn line minute
states-in line minute (inl command) = record {
  fields = command.command.fields;
  one = command.command.one;
  begins_at = rw (← command.at) (record { in_years = command.command.states.valid.minute; behind = _; fields_are = command.command.states.fields_are });
}
states-in line minute (inr crew) = record {
  fields = _;
  one = crew.crew.one;
  begins_at = record { in_years = crew.crew.in_years; behind = _; fields_are = refl };
}

-- what is read in front of a line is the minute that it states
pub read-is : (line : List ℕ) (found : Option Beginning) → LineBeginsWith line found → (minute : ℕ) → StatesMinute line minute → IsSomeAnd found (λ beginning. beginning.minute ≡ minute)
read-is line found begins minute states =
    let in_line = states-in line minute states in
    (begins.record_begins in_line.fields in_line.one).only minute in_line.begins_at

-- a line in front of which no later minute is read states none
pub within-first : (line : List ℕ) (found : Option Beginning) (latest : ℕ) → LineBeginsWith line found → IfSome found (λ beginning. beginning.minute ≤ latest) → IsWithin latest line
within-first line found latest begins early = λ minute states. go found early (read-is line found begins minute states)
  where
    go : {minute : ℕ} → (found : Option Beginning) → IfSome found (λ beginning. beginning.minute ≤ latest) → IsSomeAnd found (λ beginning. beginning.minute ≡ minute) → minute ≤ latest
    go None early is = absurd is
    go (Some beginning) early is = rw (← is) early

-- and one that is neither a command nor a crew call states none
pub within-neither : (line : List ℕ) (beginning : Beginning) (latest : ℕ) → LineBeginsWith line (Some beginning) → beginning.is_crew ≡ false → ((s : StatedValue) → ¬ IsCommandLine line s) → IsWithin latest line
within-neither line beginning latest begins no_crew no_command = λ minute states. go minute states
  where
    go : (minute : ℕ) → StatesMinute line minute → minute ≤ latest
    go minute (inl command) = absurd (no_command command.stated command.command)
    go minute (inr crew) =
        let call = crew.crew in
        let no = rw no_crew at (begins.record_begins _ call.one).no_crew in
        absurd (no minute (record { first = crew.first; second = crew.second; crew = record { in_years = call.in_years; number = call.number; other = call.other; fields_are = refl } }))

-- a crew call is ahead that begins with a later minute
pub ahead-crew : (line : List ℕ) (beginning : Beginning) (latest : ℕ) → LineBeginsWith line (Some beginning) → beginning.is_crew ≡ true → latest < beginning.minute → IsAhead latest line
ahead-crew line beginning latest begins is_crew later =
    let one = begins.one.one in
    let at = rw is_crew at (begins.record_begins _ one).crew in
    record {
      minute = beginning.minute;
      states = inr (record {
        first = at.first;
        second = at.second;
        crew = record { in_years = at.crew.in_years; number = at.crew.number; other = at.crew.other; one = one ∙ ap (λ fields. fields ∷ []) at.crew.fields_are };
      });
      later = later;
    }

-- and so is a command
pub ahead-command : (line : List ℕ) (beginning : Beginning) (latest : ℕ) → LineBeginsWith line (Some beginning) → (minute : ℕ) × IsCommandAt line minute → latest < beginning.minute → IsAhead latest line
ahead-command line beginning latest begins command later =
    let is = read-is line (Some beginning) begins command.0 (inl command.1) in
    record { minute = command.0; states = inl command.1; later = rw (← is) later }

-- a line is in time that states no minute later than so many ahead of the one that was told
pub in-time : (told : Option ℕ) (now latest ahead : ℕ) (line read : List ℕ) → told ≡ Some now → latest ≡ now + ahead → read ≡ line → IsWithin latest read → IsInTime told ahead line
in-time told now latest ahead line read is sum same within = rw (is, ← sum, ← same) within

-- what follows from a fact that holds where a test does
pub on-true : (is : Bool) (P Q : Type 0) → (P → Q) → OnTrue is P → OnTrue is Q
on-true true P Q so p = so p
on-true false P Q so p = tt

-- and where it doesn't
pub on-false : (is : Bool) (P Q : Type 0) → (P → Q) → OnFalse is P → OnFalse is Q
on-false true P Q so p = tt
on-false false P Q so p = so p
