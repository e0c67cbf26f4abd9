-- Lists that begin each other, and what waits.
use Rattle.std.proofs.Common.{◌≡◌, ℕ, zero, suc, ◌+◌, ◌<◌, ◌≤◌, arith, length-append, List, [], ◌∷◌, ◌++◌, length, take, get_or, Option, None, Some, refl, ap, sym, ◌∙◌, subst}
use Rattle.std.proofs.lemmas.List.{append-nil, append_assoc, take_more, take-append-le}
use mathlib.Core.List.{IsPrefix}
use Rattle.desk_model.specs.statements.Entry.{EntryValue}
use Rattle.desk_model.specs.histories.History.{History, with_entry, said}
use Rattle.desk_model.specs.histories.Legal.{IsLegal, IsNext}
use Rattle.board_window.specs.Becomes.{declines_from, boards_after}
use Rattle.board_window.specs.Shelves.{IsNextChange, IsRight, after, after_all}
use Rattle.board_window.specs.Shows.{AreBoards}
use Rattle.board_window.specs.Walls.{FrontValue, history_in, longer_by}
use Rattle.board_window.specs.Windows.{IsWaiting}
use Rattle.board_window.specs.declared.change.Change.{Change}
use Rattle.board_window.specs.declared.shelf.Shelf.{Shelf}
use Rattle.board_window.specs.declared.shown_board.ShownBoard.{ShownBoard}
use Rattle.board_window.specs.declared.wall_name.WallName.{WallName}

-- a list begins itself; what begins a beginning begins the whole
pub prefix_self : {A : Type 0} (xs : List A) → IsPrefix xs xs
prefix_self xs = ([], append-nil xs)

pub prefix_trans : {A : Type 0} (xs ys zs : List A) → IsPrefix xs ys → IsPrefix ys zs → IsPrefix xs zs
prefix_trans xs ys zs p q = (p.0 ++ q.0, sym (append_assoc xs p.0 q.0) ∙ (ap (λ w. w ++ q.0) p.1 ∙ q.1))

-- as many of the first as a beginning has are that beginning; and so many of the first are a beginning
pub prefix-take : {A : Type 0} (xs ys : List A) → IsPrefix xs ys → xs ≡ take (length xs) ys
prefix-take [] ys p = refl
prefix-take (x ∷ xs) [] p = absurd (cc (p.1))
prefix-take (x ∷ xs) (y ∷ ys) p = let rest = prefix-take xs ys (p.0, cc (p.1)) in cc (p.1, rest)

pub take-begins : {A : Type 0} (n : ℕ) (ys : List A) → IsPrefix (take n ys) ys
take-begins zero ys = (ys, refl)
take-begins (suc n) [] = ([], refl)
take-begins (suc n) (y ∷ ys) = let rest = take-begins n ys in (rest.0, ap (λ zs. y ∷ zs) rest.1)

-- the first and the one behind them
pub take-next : {A : Type 0} (xs : List A) (i : ℕ) (x : A) → i < length xs → x ≡ get_or xs i x → take (i + 1) xs ≡ take i xs ++ x ∷ []
take-next xs i x within is = take_more xs i x within ∙ ap (λ y. take i xs ++ y ∷ []) (sym is)

pub next-begins : {A : Type 0} (xs : List A) (i : ℕ) (x : A) → i < length xs → x ≡ get_or xs i x → IsPrefix (take i xs ++ x ∷ []) xs
next-begins {A} xs i x within is = subst (λ (ys : List A). IsPrefix ys xs) (take-next xs i x within is) (take-begins (i + 1) xs)

-- a shelf is right after the change of its list's next entry, where boards are by what an entry makes of them
abbrev pub Law : Type 0
Law = (h : History) (e : EntryValue) (xs : List ShownBoard) → IsLegal h → IsNext h e → AreBoards xs h → AreBoards (boards_after (said (declines_from h) e) e xs) (with_entry h e)

pub right-after : Law → (s : Shelf) (c : Change) (changes : List Change) → changes ≡ c ∷ [] → IsNextChange s.front c → IsLegal (history_in s.front) → IsNext (history_in s.front) c.entry → IsRight s → IsRight (after_all s changes)
right-after law s c changes one is legal next right =
    let boards = law (history_in s.front) c.entry s.boards legal next right in
    let by_from = subst (λ (from : Option (List ℕ)). AreBoards (boards_after from c.entry s.boards) (history_in (longer_by s.front c.entry))) (sym is.from) boards in
    subst (λ (cs : List Change). IsRight (after_all s cs)) (sym one) (subst (λ (f : FrontValue). AreBoards (boards_after c.from c.entry s.boards) (history_in f)) (sym is.front) by_from)

-- what is queued begins what was given, which has at most one entry more
pub waiting-begins : (shown added : FrontValue) (w : Option Change) → IsWaiting shown added w → IsPrefix shown.entries added.entries
waiting-begins shown added None is = subst (λ (f : FrontValue). IsPrefix shown.entries f.entries) is (prefix_self shown.entries)
waiting-begins shown added (Some change) is = (change.entry ∷ [], ap (λ f. f.entries) (sym (is.0 ∙ is.1.front)))

-- ---- what is queued

-- a shelf after one change more
after_all-more : (s : Shelf) (changes : List Change) (c : Change) → after_all s (changes ++ c ∷ []) ≡ after (after_all s changes) c
after_all-more s [] c = refl
after_all-more s (x ∷ changes) c = after_all-more (after s x) changes c

-- how a wall's parts stand to each other: whom its writer knows, what is shown, the changes that are pending, what is queued, and its list
abbrev pub Stand : Option WallName → Shelf → List Change → FrontValue → FrontValue → Option Change → Type 0
Stand client shown pending queued list waiting = (client ≡ Some list.wall) × (shown.front.wall ≡ list.wall) × (queued.wall ≡ list.wall) × (queued ≡ (after_all shown pending).front)
    × (IsRight shown → IsRight (after_all shown pending)) × (shown.front.entries ≡ take (length shown.front.entries) queued.entries) × IsWaiting queued list waiting

-- so with the next change queued too
pub Stand-more : Law → (client : Option WallName) (shown : Shelf) (pending later : List Change) (queued list now : FrontValue) (waiting : Option Change) (c : Change)
    → Stand client shown pending queued list waiting → later ≡ pending ++ c ∷ [] → IsNextChange queued c → now ≡ c.front → IsLegal (history_in queued) → IsNext (history_in queued) c.entry
    → Stand client shown later c.front now None
Stand-more law client shown pending later queued list now waiting c stand more is given legal next =
    let s = after_all shown pending in
    let longer : after_all shown later ≡ after s c = ap (after_all shown) more ∙ after_all-more shown pending c in
    let wall : list.wall ≡ now.wall = sym (ap (λ f. f.wall) (given ∙ is.front) ∙ stand.2) in
    let n = length shown.front.entries in
    let begins = take-begins n queued.entries in
    let few : n ≤ length queued.entries = omega (arith, ap length stand.5, ap length begins.1, length-append (take n queued.entries) begins.0) in (
      stand.0 ∙ ap Some wall,
      stand.1 ∙ wall,
      ap (λ f. f.wall) (sym given),
      sym (ap (λ (x : Shelf). x.front) longer),
      λ right. subst IsRight (sym longer) (right-after law s c (c ∷ []) refl (subst (λ (f : FrontValue). IsNextChange f c) stand.3 is)
          (subst (λ (f : FrontValue). IsLegal (history_in f)) stand.3 legal) (subst (λ (f : FrontValue). IsNext (history_in f) c.entry) stand.3 next) (stand.4 right)),
      stand.5 ∙ sym (take-append-le n queued.entries (c.entry ∷ []) few) ∙ ap (λ (f : FrontValue). take n f.entries) (sym is.front),
      sym given,
    )

-- what is shown begins what is queued
pub shown-begins : (shown queued : List EntryValue) → shown ≡ take (length shown) queued → IsPrefix shown queued
shown-begins shown queued is = subst (λ (es : List EntryValue). IsPrefix es queued) (sym is) (take-begins (length shown) queued)
