-- One board's members, before and after a command.
use Rattle.std.proofs.Common.{◌≡◌, ◌≢◌, ℕ, Bool, true, false, ◌||◌, cond, nat_eq, List, [], ◌∷◌, ◌++◌, Some, is_some, refl, sym, ap, ◌∙◌, inl, inr}
use Rattle.std.proofs.lemmas.Bool.{false≢true, cases_eq}
use Rattle.std.proofs.lemmas.Option.{same_Some}
use Rattle.std.specs.List.{list_any}
use Rattle.slot_tree.specs.declared.slot.Slot.{Slot}
use Rattle.pool_board.specs.Board.{BoardValue}
use Rattle.pool_board.specs.Members.{persons, is_listed, ready_of}
use Rattle.pool_board.proofs.MemberLemmas.{without-out, ready_of-append, ready_of-last}
use Rattle.desk_state.specs.Changes.{HasLetGo, HasMoved}

-- each is ready from the minute that they are to be
abbrev pub AllReady : (ℕ → ℕ) → List Slot → Type 0
AllReady minutes members = (p r : ℕ) → ready_of p members ≡ Some r → r ≡ minutes p

-- whoever is ready from some minute is listed
pub ready-listed : (p r : ℕ) (members : List Slot) → ready_of p members ≡ Some r → is_listed p members ≡ true
ready-listed p r [] at = absurd (false≢true (ap is_some at))
ready-listed p r (s ∷ members) at = go (nat_eq p s.person) (ready-listed p r members) at
  where
    go : (here : Bool) → (ready_of p members ≡ Some r → is_listed p members ≡ true) → cond here (Some s.ready) (ready_of p members) ≡ Some r → (here || is_listed p members) ≡ true
    go true rest at = refl
    go false rest at = rest at

-- nobody is ready on a board of nobody
pub ready-empty : (minutes : ℕ → ℕ) (members : List Slot) → members ≡ [] → AllReady minutes members
ready-empty minutes members empty p r at = absurd (false≢true (ap is_some (ap (ready_of p) (sym empty) ∙ at)))

-- a board that stays, of whose members nothing is told
pub ready-stays : (was now : ℕ → ℕ) (members : List Slot) → ((p : ℕ) → is_listed p members ≡ true → now p ≡ was p) → AllReady was members → AllReady now members
ready-stays was now members same ready p r at = ready p r at ∙ sym (same p (ready-listed p r members at))

-- all but one person are ready as before
others : (was now : ℕ → ℕ) (p : ℕ) (before after : List Slot) → ((q : ℕ) → q ≢ p → now q ≡ was q) → AllReady was before
    → ((q : ℕ) → q ≢ p → ready_of q after ≡ ready_of q before) → ((r : ℕ) → ready_of p after ≡ Some r → r ≡ now p) → AllReady now after
others was now p before after same ready kept this q r at = elim (cases_eq q p) [
  | inl is ↦ this r (ap (λ x. ready_of x after) (sym is) ∙ at) ∙ ap now (sym is)
  | inr other ↦ ready q r (sym (kept q other) ∙ at) ∙ sym (same q other)
]

pub ready-taken : (was now : ℕ → ℕ) (p m : ℕ) (before after : List Slot) → ((q : ℕ) → q ≢ p → now q ≡ was q) → m ≡ now p → is_listed p before ≡ false
    → after ≡ before ++ record { person = p; ready = m } ∷ [] → AllReady was before → AllReady now after
ready-taken was now p m before after same mine out after_is ready = others was now p before after same ready
    (λ q other. ap (ready_of q) after_is ∙ ready_of-append q before (record { person = p; ready = m }) other)
    (λ r at. same_Some r m (sym at ∙ ap (ready_of p) after_is ∙ ready_of-last before (record { person = p; ready = m }) out) ∙ mine)

pub ready-gone : (was now : ℕ → ℕ) (p : ℕ) (b x : BoardValue) → ((q : ℕ) → now q ≡ was q) → HasLetGo p b x → AllReady was b.members → AllReady now x.members
ready-gone was now p b x same gone ready = others was now p b.members x.members (λ q other. same q) ready gone.ready
    (λ r at. absurd (false≢true (sym (without-out p (persons b.members)) ∙ ap (list_any (nat_eq p)) (sym gone.order) ∙ ready-listed p r x.members at)))

pub ready-moved : (was now : ℕ → ℕ) (p m : ℕ) (last : Bool) (b x : BoardValue) → ((q : ℕ) → q ≢ p → now q ≡ was q) → m ≡ now p → HasMoved last p m b x
    → AllReady was b.members → AllReady now x.members
ready-moved was now p m last b x same mine moved ready = others was now p b.members x.members same ready moved.others
    (λ r at. same_Some r m (sym at ∙ moved.this) ∙ mine)
