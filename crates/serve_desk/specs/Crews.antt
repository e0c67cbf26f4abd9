-- The texts that answer crew calls, behind the lines of their entries.
use Rattle.std.specs.Prelude.{ℕ, List, [], ◌∷◌, ◌++◌, map, codes, decimal}
use Rattle.crew_call.specs.declared.crew_outcome.CrewOutcome.{CrewOutcome}
use Rattle.crew_call.specs.declared.crew_outcome.CrewOutcome.TheVariants as outcome
use Rattle.desk_model.specs.statements.Entry.{EntryValue}
use Rattle.desk_model.specs.texts.Journal.{entry_line}
use Rattle.serve_desk.specs.Texts.{with_feed}

-- both vacancies are offered, to these persons; this vacancy isn't; or the offer of this one was closed by another
abbrev pub outcome_text : CrewOutcome → List ℕ
outcome_text (outcome.Both first second) = codes "both " ++ decimal first ++ 32 ∷ decimal second
outcome_text (outcome.Neither vac reply) = codes "neither " ++ decimal vac
outcome_text (outcome.Between vac person) = codes "between " ++ decimal vac

abbrev pub crew_text : CrewOutcome → List ℕ
crew_text told = with_feed (codes "crew " ++ outcome_text told)

-- the seat has only so many calls left
abbrev pub too_few : ℕ → List ℕ
too_few left = with_feed (codes "crew too few " ++ decimal left)

-- the lines of its entries, and then what it came to
abbrev pub crew_texts : List EntryValue → CrewOutcome → List (List ℕ)
crew_texts entries told = map entry_line entries ++ crew_text told ∷ []
