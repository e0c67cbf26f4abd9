-- The entries up to a position, and the one there.
use Rattle.std.proofs.Common.{◌≡◌, ℕ, ◌+◌, ◌-◌, ◌<◌, ◌≤◌, Option, unwrap_or, List, [], ◌∷◌, ◌++◌, length, take, get_or, fold, sym, ap, ◌∙◌, arith, append-nil}
use Rattle.std.proofs.Math.Seq.{append_snoc}
use Rattle.std.proofs.lemmas.List.{take_more}
use Rattle.desk_model.specs.statements.Opening.{OpeningValue}
use Rattle.desk_model.specs.statements.Entry.{EntryValue}
use Rattle.desk_model.specs.histories.History.{History, history_of, opened, with_entry, last_of}
use Rattle.desk_model.proofs.SaidLemmas.{last_of-or}

-- the history up to the next position
pub one_more : (o : OpeningValue) (es : List EntryValue) (i : ℕ) (e : EntryValue) → i < length es → e ≡ get_or es i e
    → with_entry (history_of o (take i es)) e ≡ history_of o (take (i + 1) es)
one_more o es i e within is = ap (history_of o) (ap (λ x. take i es ++ x ∷ []) is ∙ sym (take_more es i e within))

-- what the last of those up to a position says, or else a value, by the one before that position
pub last_of-back : {X : Type 0} (f : EntryValue → Option X) (es : List EntryValue) (i : ℕ) (e : EntryValue) (x : X) (told : Option X) → 0 < i → i ≤ length es
    → e ≡ get_or es (i - 1) e → f e ≡ told → unwrap_or told (unwrap_or (last_of f (take (i - 1) es)) x) ≡ unwrap_or (last_of f (take i es)) x
last_of-back f es i e x told some within is told-is =
    let front = take (i - 1) es in
    let whole : take i es ≡ front ++ e ∷ [] =
    ap (λ n. take n es) (omega arith) ∙ take_more es (i - 1) e (omega arith) ∙ ap (λ y. front ++ y ∷ []) (sym is) in
    ap (λ t. unwrap_or t (unwrap_or (last_of f front) x)) (sym told-is) ∙ sym (ap (λ xs. unwrap_or (last_of f xs) x) whole ∙ last_of-or f front e x)

-- what each entry makes from what the entries before made is what all of them make
pub is-fold : {X : Type 0} (f : History → X) (step : X → EntryValue → X) (x : X) → ((o : OpeningValue) → f (opened o) ≡ x)
    → ((h : History) (e : EntryValue) → f (with_entry h e) ≡ step (f h) e) → (h : History) → f h ≡ fold step x h.entries
is-fold f step x first more h = go (opened h.opening) h.entries ∙ ap (λ y. fold step y h.entries) (first h.opening)
  where
    go : (front : History) (later : List EntryValue) → f (history_of front.opening (front.entries ++ later)) ≡ fold step (f front) later
    go front [] = ap (λ es. f (history_of front.opening es)) (append-nil front.entries)
    go front (e ∷ later) =
        ap (λ es. f (history_of front.opening es)) (sym (append_snoc front.entries e later)) ∙ go (with_entry front e) later ∙ ap (λ y. fold step y later) (more front e)
