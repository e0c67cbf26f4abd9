-- How a crew call goes on from its entries so far, and no rule.
use Rattle.std.specs.Prelude.{◌≡◌, ℕ, Option, None, Some, List, [], ◌∷◌, ⊤, if◌then◌else◌}
use Rattle.std.specs.Option.{option_map}
use Rattle.desk_model.specs.declared.command.Cmd.TheVariants as cmd
use Rattle.desk_model.specs.statements.Statement.{StatedValue, stated_of}
use Rattle.desk_model.specs.statements.Entry.{EntryValue}
use Rattle.desk_model.specs.histories.History.{is_done}
use Rattle.crew_call.specs.declared.crew_outcome.CrewOutcome.{CrewOutcome}
use Rattle.crew_call.specs.declared.crew_outcome.CrewOutcome.TheVariants as outcome
use Rattle.crew_call.specs.declared.heard.Heard.{Heard}
use Rattle.crew_call.specs.declared.heard.Heard.TheVariants as heard
use Rattle.crew_call.specs.CrewCalls.{person_offered}

abbrev pub entries_of : Heard → List EntryValue
entries_of heard.Nothing = []
entries_of (heard.First e) = e ∷ []
entries_of (heard.Second e f) = e ∷ f ∷ []
entries_of (heard.Third e f g) = e ∷ f ∷ g ∷ []

-- what is stated after the second entry, by whom its reply and the first's offer to
abbrev pub withdrawn_after : ℕ → ℕ → Option ℕ → Option ℕ → Option StatedValue
withdrawn_after t v first None = option_map (λ p. stated_of t (cmd.Withdraw v p)) first
withdrawn_after t v first (Some q) = None

-- what is stated after so many
abbrev pub stated_after : ℕ → ℕ → ℕ → List EntryValue → Option StatedValue
stated_after t v w [] = Some (stated_of t (cmd.Next v))
stated_after t v w (e ∷ []) = option_map (λ p. stated_of t (cmd.Next w)) (person_offered e.reply)
stated_after t v w (e ∷ f ∷ []) = withdrawn_after t v (person_offered e.reply) (person_offered f.reply)
stated_after t v w (e ∷ f ∷ g ∷ more) = None

-- each was stated so after those before it
abbrev pub IsFront : ℕ → ℕ → ℕ → List EntryValue → Type 0
IsFront t v w [] = ⊤
IsFront t v w (e ∷ []) = stated_after t v w [] ≡ Some e.stated
IsFront t v w (e ∷ f ∷ []) = (stated_after t v w [] ≡ Some e.stated) × (stated_after t v w (e ∷ []) ≡ Some f.stated)
IsFront t v w (e ∷ f ∷ g ∷ []) =
    (stated_after t v w [] ≡ Some e.stated) × ((stated_after t v w (e ∷ []) ≡ Some f.stated) × (stated_after t v w (e ∷ f ∷ []) ≡ Some g.stated))
IsFront t v w (e ∷ f ∷ g ∷ x ∷ more) = ⊥

-- what came of the first entry, of two, and of three, by whom the replies offer to
abbrev pub alone : ℕ → EntryValue → Option ℕ → Option CrewOutcome
alone v e None = Some (outcome.Neither v e.reply)
alone v e (Some p) = None

abbrev pub both : Option ℕ → Option ℕ → Option CrewOutcome
both (Some p) (Some q) = Some (outcome.Both p q)
both first second = None

abbrev pub withdrawn : ℕ → ℕ → EntryValue → EntryValue → Option ℕ → Option CrewOutcome
withdrawn v w f g None = None
withdrawn v w f g (Some p) = Some (if is_done g.reply then outcome.Neither w f.reply else outcome.Between v p)

abbrev pub outcome_after : ℕ → ℕ → List EntryValue → Option CrewOutcome
outcome_after v w [] = None
outcome_after v w (e ∷ []) = alone v e (person_offered e.reply)
outcome_after v w (e ∷ f ∷ []) = both (person_offered e.reply) (person_offered f.reply)
outcome_after v w (e ∷ f ∷ g ∷ []) = withdrawn v w f g (person_offered e.reply)
outcome_after v w (e ∷ f ∷ g ∷ x ∷ more) = None
