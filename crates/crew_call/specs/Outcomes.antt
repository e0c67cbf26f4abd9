-- What the outcome of a crew call says of the history that its entries stand in.
use Rattle.std.specs.Prelude.{◌≡◌, ℕ, ⊤, None, Some, List, [], ◌∷◌, ◌++◌}
use Rattle.std.specs.List.{All}
use mathlib.Core.List.{IsPrefix}
use Rattle.desk_model.specs.statements.Opening.{OpeningValue}
use Rattle.desk_model.specs.statements.Entry.{EntryValue}
use Rattle.desk_model.specs.histories.History.{history_of}
use Rattle.desk_model.specs.offers.Offers.{asks_for, open_offer}
use Rattle.desk_model.specs.histories.Legal.{IsLegal}
use Rattle.crew_call.specs.declared.crew_outcome.CrewOutcome.{CrewOutcome}
use Rattle.crew_call.specs.declared.crew_outcome.CrewOutcome.TheVariants as outcome
use Rattle.crew_call.specs.CrewCalls.{CrewCall, person_offered}
use Rattle.crew_call.specs.Ended.{WasEnded}

-- the call's entries stand in this order behind those that were known, with others before each; the last is the last of all that are known later
abbrev pub StandIn : List EntryValue → List EntryValue → List EntryValue → Type 0
StandIn known [] later = later ≡ known
StandIn known (e ∷ es) later = (others : List EntryValue) × StandIn ((known ++ others) ++ e ∷ []) es later

-- the offer that this entry made, if it made one, is open no more after the later entries
abbrev pub IsClosedAt : OpeningValue → List EntryValue → EntryValue → Type 0
IsClosedAt o later e = (u q : ℕ) → asks_for e.stated.cmd ≡ Some u → person_offered e.reply ≡ Some q → open_offer (history_of o later) u ≡ None

-- behind what was known came the call's first entry, which offered the vacancy to the person, and between it and the call's last, which
-- could not withdraw that, another entry has ended the offer
pub record EndedIn (o : OpeningValue) (known es later : List EntryValue) (v p : ℕ) : Type 0 where
  pub before : List EntryValue
  pub knew : IsPrefix known before
  pub first : EntryValue
  pub between : List EntryValue
  pub last : EntryValue
  pub parts : later ≡ (before ++ first ∷ []) ++ (between ++ last ∷ [])
  pub ours : List EntryValue
  pub entries : es ≡ first ∷ (ours ++ last ∷ [])
  pub offered : person_offered first.reply ≡ Some p
  pub ended : WasEnded o (before ++ first ∷ []) between v p

-- both were offered by the call's entries, as they show; no offer that the call made is open at its last entry; the first offer was
-- ended by an entry between
abbrev pub Says : OpeningValue → List EntryValue → List EntryValue → List EntryValue → CrewOutcome → Type 0
Says o known es later (outcome.Both p q) = ⊤
Says o known es later (outcome.Neither u reply) = All (IsClosedAt o later) es
Says o known es later (outcome.Between v p) = EndedIn o known es later v p

abbrev pub OutcomesInWords : Type 0
OutcomesInWords = (o : OpeningValue) (known es later : List EntryValue) (t v w : ℕ) (told : CrewOutcome) → IsLegal (history_of o later) → StandIn known es later
    → CrewCall t v w es told → Says o known es later told
