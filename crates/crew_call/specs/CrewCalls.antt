-- Crew calls: two vacancies that are called as one outcome.
use Rattle.std.specs.Prelude.{◌≡◌, ◌≢◌, ⊤, ℕ, Option, None, Some, List, [], ◌∷◌, ◌++◌}
use Rattle.std.specs.List.{filter_map}
use Rattle.desk_model.specs.declared.command.Cmd.TheVariants as cmd
use Rattle.desk_model.specs.declared.reply.Reply.{Reply}
use Rattle.desk_model.specs.declared.reply.Reply.TheVariants as reply
use Rattle.desk_model.specs.statements.Statement.{StatedValue, stated_of}
use Rattle.desk_model.specs.statements.Entry.{EntryValue}
use Rattle.crew_call.specs.declared.crew_outcome.CrewOutcome.{CrewOutcome}
use Rattle.crew_call.specs.declared.crew_outcome.CrewOutcome.TheVariants as outcome

-- to whom a reply offers the vacancy
abbrev pub person_offered : Reply → Option ℕ
person_offered (reply.Offered person board position) = Some person
person_offered other = None

-- the entry was stated so, and its reply offers to this person, or to nobody
abbrev pub Offers : EntryValue → StatedValue → Option ℕ → Type 0
Offers e s person = (e.stated ≡ s) × (person_offered e.reply ≡ person)

-- the entries of a crew call of the vacancies v and w at minute t, in their order, and what it came to. v and w may be the same
pub data CrewCall (t v w : ℕ) : List EntryValue → CrewOutcome → Type 0 where
  the_first_is_not_offered : (e : EntryValue) → Offers e (stated_of t (cmd.Next v)) None → CrewCall t v w (e ∷ []) (outcome.Neither v e.reply)
  both_are_offered : (e f : EntryValue) (p q : ℕ) → Offers e (stated_of t (cmd.Next v)) (Some p) → Offers f (stated_of t (cmd.Next w)) (Some q)
      → CrewCall t v w (e ∷ f ∷ []) (outcome.Both p q)
  the_first_is_withdrawn : (e f g : EntryValue) (p : ℕ) → Offers e (stated_of t (cmd.Next v)) (Some p) → Offers f (stated_of t (cmd.Next w)) None
      → g.stated ≡ stated_of t (cmd.Withdraw v p) → g.reply ≡ reply.Done → CrewCall t v w (e ∷ f ∷ g ∷ []) (outcome.Neither w f.reply)
  the_first_was_closed : (e f g : EntryValue) (p : ℕ) → Offers e (stated_of t (cmd.Next v)) (Some p) → Offers f (stated_of t (cmd.Next w)) None
      → g.stated ≡ stated_of t (cmd.Withdraw v p) → g.reply ≢ reply.Done → CrewCall t v w (e ∷ f ∷ g ∷ []) (outcome.Between v p)

-- what contracts see of a crew call that goes on: its minute, its vacancies, and its entries so far
pub record CrewValue : Type 0 where
  pub minute : ℕ
  pub first : ℕ
  pub second : ℕ
  pub heard : List EntryValue

abbrev pub crew_of : ℕ → ℕ → ℕ → List EntryValue → CrewValue
crew_of minute first second heard = record { minute = minute; first = first; second = second; heard = heard }

-- it is over, and came to this
abbrev pub IsOver : CrewValue → CrewOutcome → Type 0
IsOver c told = CrewCall c.minute c.first c.second c.heard told

-- this is stated next: whatever entry comes next in a crew call that began so is stated so, and each that is begins or ends one
pub record AsksNext (c : CrewValue) (s : StatedValue) : Type 0 where
  pub only : (e : EntryValue) (later : List EntryValue) (told : CrewOutcome) → CrewCall c.minute c.first c.second (c.heard ++ e ∷ later) told → e.stated ≡ s
  pub goes_on : (e : EntryValue) → e.stated ≡ s
      → (later : List EntryValue) × ((told : CrewOutcome) × CrewCall c.minute c.first c.second (c.heard ++ e ∷ later) told)

-- those that are there
abbrev pub somes : List (Option EntryValue) → List EntryValue
somes entries = filter_map (λ entry. entry) entries

-- it is filled from the front: behind one that isn't there none is
abbrev pub IsFilled : List (Option EntryValue) → Type 0
IsFilled [] = ⊤
IsFilled (Some e ∷ rest) = IsFilled rest
IsFilled (None ∷ rest) = somes rest ≡ []
