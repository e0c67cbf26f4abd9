-- The parts of a text that goes on, found as its bytes are passed.
use Rattle.std.proofs.Common.{◌≡◌, ℕ, ◌+◌, ◌<◌, ◌≤◌, ◌==◌, Bool, true, false, ◌&&◌, List, [], ◌∷◌, ◌++◌, drop, take, length, get_or, ap, refl, sym, ◌∙◌, append-nil, append_assoc}
use Rattle.std.proofs.lemmas.List.{drop_all, at_drop_more, take_more, take_all}
use Rattle.crewdesk_main.specs.Parts.{is_plus, before_plus, behind_plus, journal_of, more_of}

-- the parts of a text, whose bytes before an index were passed
pub record Passed (text : List ℕ) (index : ℕ) (begins : Bool) : Type 0 where
  pub journal : take index text ++ before_plus begins (drop index text) ≡ journal_of text
  pub more : behind_plus begins (drop index text) ≡ more_of text

before_plus-past : (begins : Bool) (b : ℕ) (later : List ℕ) → (begins && is_plus (b ∷ later)) ≡ false → before_plus begins (b ∷ later) ≡ b ∷ before_plus (b == 10) later
unfolding before_plus
before_plus-past begins b later not = rw not refl

behind_plus-past : (begins : Bool) (b : ℕ) (later : List ℕ) → (begins && is_plus (b ∷ later)) ≡ false → behind_plus begins (b ∷ later) ≡ behind_plus (b == 10) later
unfolding behind_plus
behind_plus-past begins b later not = rw not refl

-- where no line is just a plus here, one byte more is passed
pub Passed-more : (text : List ℕ) (index : ℕ) (begins : Bool) → index < length text → (begins && is_plus (drop index text)) ≡ false → Passed text index begins
    → Passed text (index + 1) (get_or text index 0 == 10)
Passed-more text index begins within not passed =
    let b = get_or text index 0 in
    let later = drop (index + 1) text in
    let here = sym (at_drop_more (λ left. begins && is_plus left) text index 0 within) ∙ not in
    record {
      journal = ap (λ front. front ++ before_plus (b == 10) later) (take_more text index 0 within)
          ∙ append_assoc (take index text) (b ∷ []) (before_plus (b == 10) later)
          ∙ ap (λ t. take index text ++ t) (sym (at_drop_more (before_plus begins) text index 0 within ∙ before_plus-past begins b later here))
          ∙ passed.journal;
      more = sym (at_drop_more (behind_plus begins) text index 0 within ∙ behind_plus-past begins b later here) ∙ passed.more;
    }

-- where one is, the parts are what was passed, and what is behind it
before_plus-here : (left more : List ℕ) → left ≡ 43 ∷ 10 ∷ more → before_plus true left ≡ []
unfolding before_plus
before_plus-here left more is = rw is refl

behind_plus-here : (left more : List ℕ) → left ≡ 43 ∷ 10 ∷ more → behind_plus true left ≡ more
unfolding behind_plus
behind_plus-here left more is = rw is refl

pub Passed-journal : (text more : List ℕ) (index : ℕ) → drop index text ≡ 43 ∷ 10 ∷ more → Passed text index true → take index text ≡ journal_of text
Passed-journal text more index is passed =
    sym (append-nil (take index text)) ∙ ap (λ t. take index text ++ t) (sym (before_plus-here (drop index text) more is)) ∙ passed.journal

pub Passed-commands : (text more : List ℕ) (index : ℕ) → drop index text ≡ 43 ∷ 10 ∷ more → Passed text index true → more ≡ more_of text
Passed-commands text more index is passed = sym (behind_plus-here (drop index text) more is) ∙ passed.more

-- where all was passed there is no such line
before_plus-end : (begins : Bool) → before_plus begins [] ≡ []
unfolding before_plus
before_plus-end begins = refl

behind_plus-end : (begins : Bool) → behind_plus begins [] ≡ []
unfolding behind_plus
behind_plus-end begins = refl

pub Passed-whole : (text : List ℕ) (index : ℕ) (begins : Bool) → length text ≤ index → Passed text index begins → text ≡ journal_of text
Passed-whole text index begins all passed =
    sym (append-nil text) ∙ sym (ap (λ t. t ++ []) (take_all index text all))
    ∙ ap (λ t. take index text ++ t) (sym (ap (before_plus begins) (drop_all index text all) ∙ before_plus-end begins)) ∙ passed.journal

pub Passed-no_commands : (text : List ℕ) (index : ℕ) (begins : Bool) → length text ≤ index → Passed text index begins → [] ≡ more_of text
Passed-no_commands text index begins all passed =
    sym (ap (behind_plus begins) (drop_all index text all) ∙ behind_plus-end begins) ∙ passed.more
