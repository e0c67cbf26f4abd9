-- What is taken of a reader's bytes, part by part.
use Rattle.std.proofs.Common.{◌≡◌, ◌≢◌, ◌⊎◌, ℕ, ◌+◌, ◌<◌, ◌≤◌, List, [], ◌∷◌, ◌++◌, length, Option, None, Some, inl, inr, sym, ap, subst, ◌∙◌, refl, arith, append_assoc, length-append}
use Rattle.std.proofs.lemmas.List.{append-nil}
use Rattle.std.proofs.lemmas.List.Elements.{All-append, All-head, All-tail}
use Rattle.std.specs.Fmt.{option_append}
use Rattle.std.specs.Io.KnownBytes.{Consumes, IsAtEnd}
use Rattle.std.proofs.KnownBytes.{Consumes-trans}
use Rattle.caller_lines.specs.declared.heard.Heard.{Heard}
use Rattle.caller_lines.specs.declared.heard.Heard.TheVariants as heard
use Rattle.caller_lines.specs.Given.{answer_of}
use Rattle.caller_lines.specs.Takes.{IsUnfed, TookLine, TookLonger, TookUnfed, EndsLine, HasLonger, TookSome, Takes, CutPart, Cuts, GotPart, Gathers, Gathering}
use Rattle.caller_lines.specs.declared.file_line.Gathered.{Gathered}
use Rattle.caller_lines.specs.declared.file_line.Gathered.TheVariants.{Fed, Part, End, Failed}

-- a part more
pub Gathering-more : (a b c : Option (List ℕ)) (before after : List ℕ) (len count : ℕ)
    → Gathering a b before len → GotPart b c before after [] count → Gathering a c after (len + count)
Gathering-more a b c before after len count g p = record {
  bytes = g.bytes ++ p.part;
  taken = subst (λ t. Consumes a c (g.bytes ++ t)) (append-nil p.part) (Consumes-trans a b c g.bytes (p.part ++ []) g.taken p.taken);
  counted = omega (arith, length-append g.bytes p.part, g.counted, p.counted);
  unfed = All-append (λ byte. byte ≢ 10) g.bytes p.part g.unfed p.unfed;
  kept = whole;
}
  where
    whole : len + count ≤ 512 → after ≡ g.bytes ++ p.part
    whole few =
        let is : before ≡ g.bytes = g.kept (omega (arith, few)) in
        p.kept (omega (arith, few, ap length is, g.counted)) ∙ ap (λ t. t ++ p.part) is

-- a line feed behind the parts ends the line
pub Gathering-fed : (a b c : Option (List ℕ)) (before after : List ℕ) (len count : ℕ)
    → (g : Gathering a b before len) → (p : GotPart b c before after (10 ∷ []) count) → TookLine a c (g.bytes ++ p.part)
Gathering-fed a b c before after len count g p = record {
  text = g.bytes ++ (p.part ++ 10 ∷ []);
  taken = Consumes-trans a b c g.bytes (p.part ++ 10 ∷ []) g.taken p.taken;
  unfed = All-append (λ byte. byte ≢ 10) g.bytes p.part g.unfed p.unfed;
  ended = inl (sym (append_assoc g.bytes p.part (10 ∷ [])));
}

-- a line whose bytes all fitted is told with them, and another as too long
pub Gathering-short : (a b c : Option (List ℕ)) (before after : List ℕ) (len count : ℕ)
    → Gathering a b before len → GotPart b c before after (10 ∷ []) count → len + count ≤ 512 → TookLine a c after × (length after ≤ 512)
Gathering-short a b c before after len count g p few =
    let is : before ≡ g.bytes = g.kept (omega (arith, few)) in
    let whole : after ≡ g.bytes ++ p.part = p.kept (omega (arith, few, ap length is, g.counted)) ∙ ap (λ t. t ++ p.part) is in (
      subst (λ t. TookLine a c t) (sym whole) (Gathering-fed a b c before after len count g p),
      omega (arith, ap length whole, length-append g.bytes p.part, g.counted, p.counted, few),
    )

pub Gathering-long : (a b c : Option (List ℕ)) (before after : List ℕ) (len count : ℕ)
    → Gathering a b before len → GotPart b c before after (10 ∷ []) count → 512 < len + count → len + count ≤ 16777216 → TookLonger a c
Gathering-long a b c before after len count g p many most = record {
  line = g.bytes ++ p.part;
  longer = omega (arith, length-append g.bytes p.part, g.counted, p.counted, many);
  most = omega (arith, length-append g.bytes p.part, g.counted, p.counted, most);
  took = Gathering-fed a b c before after len count g p;
}

-- the end behind the parts ends the line, if there are any
pub Gathering-ended : (a b c : Option (List ℕ)) (into : List ℕ) (len : ℕ) → (g : Gathering a b into len) → Consumes b c []
    → IsAtEnd c → 0 < len → TookLine a c g.bytes
Gathering-ended a b c into len g none end some = record {
  text = g.bytes;
  taken = subst (λ t. Consumes a c t) (append-nil g.bytes) (Consumes-trans a b c g.bytes [] g.taken none);
  unfed = g.unfed;
  ended = inr (refl, omega (arith, some, g.counted), end);
}

pub Gathering-ended_short : (a b c : Option (List ℕ)) (before after : List ℕ) (len : ℕ) → Gathering a b before len → Consumes b c []
    → IsAtEnd c → 0 < len → len ≤ 512 → after ≡ before → TookLine a c after × (length after ≤ 512)
Gathering-ended_short a b c before after len g none end some few same =
    let whole : after ≡ g.bytes = same ∙ g.kept few in
    (subst (λ t. TookLine a c t) (sym whole) (Gathering-ended a b c before len g none end some), omega (arith, ap length whole, g.counted, few))

pub Gathering-ended_long : (a b c : Option (List ℕ)) (before : List ℕ) (len : ℕ) → Gathering a b before len → Consumes b c []
    → IsAtEnd c → 512 < len → len ≤ 16777216 → TookLonger a c
Gathering-ended_long a b c before len g none end many most = record {
  line = g.bytes;
  longer = omega (arith, g.counted, many);
  most = omega (arith, g.counted, most);
  took = Gathering-ended a b c before len g none end (omega (arith, many));
}

-- more bytes than may be skipped, with a line feed behind them or without
pub Gathering-unfed : (a b c : Option (List ℕ)) (before after : List ℕ) (len count : ℕ)
    → Gathering a b before len → GotPart b c before after (10 ∷ []) count → 16777216 < len + count → TookUnfed a c
Gathering-unfed a b c before after len count g p many = record {
  bytes = g.bytes ++ p.part;
  behind = 10 ∷ [];
  taken = subst (λ t. Consumes a c t) (sym (append_assoc g.bytes p.part (10 ∷ []))) (Consumes-trans a b c g.bytes (p.part ++ 10 ∷ []) g.taken p.taken);
  unfed = All-append (λ byte. byte ≢ 10) g.bytes p.part g.unfed p.unfed;
  more = omega (arith, length-append g.bytes p.part, g.counted, p.counted, many);
}

-- then some bytes were taken, and no others
pub TookUnfed-some : (a b : Option (List ℕ)) → TookUnfed a b → TookSome a b
TookUnfed-some a b took = record { bytes = took.bytes ++ took.behind; taken = took.taken }

-- bytes without a line feed go no further than to the end of a line
unfed-within : (xs more ys behind : List ℕ) → IsUnfed xs → EndsLine behind → xs ++ more ≡ ys ++ behind → length xs ≤ length ys
unfed-within [] more ys behind unfed ended same = omega arith
unfed-within (x ∷ xs) more [] [] unfed ended same = absurd (let same = same in cc)
unfed-within (x ∷ xs) more [] (b ∷ behind) unfed ended same =
    let feed : x ≡ b = cc in absurd (All-head (λ byte. byte ≢ 10) x xs unfed (feed ∙ ended))
unfed-within (x ∷ xs) more (y ∷ ys) behind unfed ended same =
    let rest : xs ++ more ≡ ys ++ behind = cc in
    omega (arith, unfed-within xs more ys behind (All-tail (λ byte. byte ≢ 10) x xs unfed) ended rest)

-- a line that was taken is no shorter than the first that was left
TookLine-longer : (left new : Option (List ℕ)) (line : List ℕ) → (has : HasLonger left) → TookLine left new line → 512 < length line
TookLine-longer None new line has took = let none = has.begins in cc
TookLine-longer (Some xs) None line has took = absurd took.taken
TookLine-longer (Some xs) (Some ys) line has took =
    let all : xs ≡ has.line ++ has.behind = let begins = has.begins in cc in
    elim took.ended [
      | inl fed ↦
          let cut : has.line ++ has.behind ≡ line ++ 10 ∷ ys = sym all ∙ took.taken ∙ ap (λ t. t ++ ys) fed ∙ append_assoc line (10 ∷ []) ys in
          omega (arith, has.longer, unfed-within has.line has.behind line (10 ∷ ys) has.unfed refl cut)
      | inr last ↦
          let cut : has.line ++ has.behind ≡ line ++ [] = sym all ∙ took.taken ∙ ap (λ t. t ++ ys) last.0 ∙ ap (λ t. line ++ t) last.2 in
          omega (arith, has.longer, unfed-within has.line has.behind line [] has.unfed tt cut)
    ]

-- and more bytes without a line feed can't have been taken
TookUnfed-none : (left new : Option (List ℕ)) → HasLonger left → TookUnfed left new → ⊥
TookUnfed-none None new has took = let none = has.begins in cc
TookUnfed-none (Some xs) None has took = absurd took.taken
TookUnfed-none (Some xs) (Some ys) has took =
    let all : xs ≡ has.line ++ has.behind = let begins = has.begins in cc in
    let cut : took.bytes ++ (took.behind ++ ys) ≡ has.line ++ has.behind = sym (append_assoc took.bytes took.behind ys) ∙ sym took.taken ∙ all in
    omega (arith, took.more, has.most, unfed-within took.bytes (took.behind ++ ys) has.line has.behind took.unfed has.ended cut)

-- nor is the end there
IsAtEnd-none : (left : Option (List ℕ)) → HasLonger left → IsAtEnd left → ⊥
IsAtEnd-none None has end = let none = has.begins in cc
IsAtEnd-none (Some xs) has end =
    let none : [] ≡ has.line ++ has.behind = let begins = has.begins in cc in
    omega (arith, has.longer, ap length none, length-append has.line has.behind)

-- so a line of more than 512 bytes is told as too long, unless an error came or a file is missing
pub HasLonger-told : (Error NoFile : Type 0) (left new : Option (List ℕ)) (into : List ℕ) (given : Heard) → HasLonger left
    → Takes left new (answer_of given into) → (given ≡ heard.Failed → Error ⊎ (NoFile ⊎ TookUnfed left new)) → (given ≡ heard.TooLong) ⊎ (Error ⊎ NoFile)
HasLonger-told Error NoFile left new into heard.Line has takes fails = absurd (omega (arith, takes.1, TookLine-longer left new into has takes.0))
HasLonger-told Error NoFile left new into heard.TooLong has takes fails = inl refl
HasLonger-told Error NoFile left new into heard.End has takes fails = absurd (IsAtEnd-none left has takes.0)
HasLonger-told Error NoFile left new into heard.Failed has takes fails = elim (fails refl) [
  | inl error ↦ inr (inl error)
  | inr other ↦ elim other [
    | inl none ↦ inr (inr none)
    | inr unfed ↦ absurd (TookUnfed-none left new has unfed)
  ]
]

-- ---- a part cut from what is held

cut-consumes : (behind : Option (List ℕ)) (held rest bytes : List ℕ) → held ≡ bytes ++ rest → Consumes (option_append (Some held) behind) (option_append (Some rest) behind) bytes
cut-consumes None held rest bytes cut = tt
cut-consumes (Some more) held rest bytes cut = ap (λ h. h ++ more) cut ∙ append_assoc bytes rest more

GotPart-cut : (left behind : Option (List ℕ)) (held rest before after feed : List ℕ) (count : ℕ) → Consumes left (option_append (Some held) behind) []
    → CutPart held rest before after feed count → GotPart left (option_append (Some rest) behind) before after feed count
GotPart-cut left behind held rest before after feed count none cut = record {
  part = cut.part;
  taken = Consumes-trans left (option_append (Some held) behind) (option_append (Some rest) behind) [] (cut.part ++ feed) none
      (cut-consumes behind held rest (cut.part ++ feed) (cut.cut ∙ sym (append_assoc cut.part feed rest)));
  counted = cut.counted;
  unfed = cut.unfed;
  kept = cut.kept;
}

pub Gathers-cut : (left behind : Option (List ℕ)) (held rest before after : List ℕ) (got : Gathered) → Consumes left (option_append (Some held) behind) []
    → Cuts held rest before after got → Gathers left (option_append (Some rest) behind) before after got
Gathers-cut left behind held rest before after (Fed count) none cuts = GotPart-cut left behind held rest before after (10 ∷ []) count none cuts
Gathers-cut left behind held rest before after (Part count) none cuts = GotPart-cut left behind held rest before after [] count none cuts
Gathers-cut left behind held rest before after End none cuts = absurd cuts
Gathers-cut left behind held rest before after Failed none cuts = absurd cuts
