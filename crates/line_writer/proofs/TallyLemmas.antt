-- The sorts of a tally.
use Rattle.std.proofs.Common.{◌≡◌, ◌∙◌, Decides, true, false, ℕ, ◌+◌, ◌≤◌, ◌<◌, ◌^◌, Bool, ap, sym, List, [], ◌∷◌, ◌++◌, length, refl, arith, inl, inr}
use Rattle.std.proofs.lemmas.Bool.{cases_Bool}
use Rattle.std.specs.Prelude.{if◌then◌else◌}
use Rattle.desk_model.specs.statements.Entry.{EntryValue}
use Rattle.desk_model.specs.declared.reply.Reply.{Reply}
use Rattle.desk_model.specs.declared.reply.Reply.TheVariants as reply
use Rattle.line_writer.specs.declared.reply_sort.ReplySort.{ReplySort}
use Rattle.line_writer.specs.declared.reply_sort.ReplySort.TheVariants as sort
use Rattle.line_writer.specs.Tally.{is_of, count}

-- one for a sort that an answer is of, and none for another
one : ReplySort → Reply → ℕ
one s r = if is_of s r then 1 else 0

-- an answer is of one sort
one-of-six : (r : Reply) → one sort.Done r + one sort.Offered r + one sort.Unfilled r + one sort.Denied r + one sort.Told r + one sort.Refused r ≡ 1
unfolding one
one-of-six reply.Done = refl
one-of-six r = refl

-- one entry more counts for its sort
count-next : (s : ReplySort) (e : EntryValue) (later : List EntryValue) → count s (e ∷ later) ≡ one s e.reply + count s later
unfolding one
count-next s e later = elim (cases_Bool (is_of s e.reply)) [
  | inl is ↦ rw is (omega arith)
  | inr other ↦ rw other (omega arith)
]

-- and so does one behind the others
pub count-last : (s : ReplySort) (entries : List EntryValue) (e : EntryValue) → count s (entries ++ e ∷ []) ≡ count s entries + (if is_of s e.reply then 1 else 0)
unfolding one
count-last s [] e = omega (arith, count-next s e [])
count-last s (x ∷ entries) e = omega (arith, count-last s entries e, count-next s x (entries ++ e ∷ []), count-next s x entries)

-- no sort has more than all
pub count-least : (s : ReplySort) (entries : List EntryValue) → count s entries ≤ length entries
count-least s [] = omega arith
count-least s (e ∷ entries) = elim (cases_Bool (is_of s e.reply)) [
  | inl is ↦ rw is (omega (arith, count-least s entries))
  | inr other ↦ rw other (omega (arith, count-least s entries))
]

-- so a count that is raised where the next answer is of the sort counts it too
pub count-raised : (s : ReplySort) (entries : List EntryValue) (e : EntryValue) (n later : ℕ) (so : Bool) → length entries + 1 < 2 ^ 64
    → n ≡ count s entries → so ≡ is_of s e.reply → (n + 1 < 2 ^ 64 → later ≡ n + (if so then 1 else 0)) → later ≡ count s (entries ++ e ∷ [])
count-raised s entries e n later so few counts is raised =
    raised (omega (arith, few, counts, count-least s entries))
    ∙ ap (λ t. n + (if t then 1 else 0)) is
    ∙ ap (λ k. k + (if is_of s e.reply then 1 else 0)) counts
    ∙ sym (count-last s entries e)

-- whether an answer's sort is this one tells whether the answer is of this one
pub sort-told : (s found : ReplySort) (r : Reply) (so : Bool) → Decides so (found ≡ s) → is_of found r ≡ true
    → ((other : ReplySort) → is_of other r ≡ true → found ≡ other) → so ≡ is_of s r
sort-told s found r true told is only = sym (ap (λ x. is_of x r) (sym (told.0 refl)) ∙ is)
sort-told s found r false told is only = elim (cases_Bool (is_of s r)) [
  | inl of_it ↦ absurd (let found_it = told.1 (only s of_it) in cc)
  | inr other ↦ sym other
]

pub count-all : (entries : List EntryValue)
    → count sort.Done entries + count sort.Offered entries + count sort.Unfilled entries + count sort.Denied entries + count sort.Told entries + count sort.Refused entries
    ≡ length entries
count-all [] = refl
count-all (e ∷ later) = omega (
  arith,
  count-all later,
  one-of-six e.reply,
  count-next sort.Done e later,
  count-next sort.Offered e later,
  count-next sort.Unfilled e later,
  count-next sort.Denied e later,
  count-next sort.Told e later,
  count-next sort.Refused e later,
)
