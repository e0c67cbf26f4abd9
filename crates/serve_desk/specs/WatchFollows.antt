-- What follows each answer of a line where looks at boards and crew calls are heard.
use Rattle.std.specs.Prelude.{◌≡◌, ◌⊎◌, ℕ, ◌<◌, ◌≤◌, Bool, true, false, ⊤, List, [], ◌∷◌, ◌++◌, map, None, Some}
use Rattle.std.specs.declared.option.Option.{Option}
use Rattle.board_window.specs.declared.spot.Spot.{Spot}
use Rattle.caller_lines.specs.CrewLines.{IsCrewLine}
use Rattle.caller_lines.specs.Given.{Given, GaveLine, GaveTooLong, GaveEnd, GaveFailed}
use Rattle.caller_lines.specs.Looks.{IsLookLine}
use Rattle.caller_lines.specs.Requests.{IsNoRequest}
use Rattle.command_parser.specs.CommandLine.{IsCommandLine}
use Rattle.crew_call.specs.declared.crew_outcome.CrewOutcome.{CrewOutcome}
use Rattle.crew_call.specs.CrewCalls.{CrewCall}
use Rattle.desk_model.specs.statements.Entry.{EntryValue}
use Rattle.desk_model.specs.texts.Journal.{entry_line}
use Rattle.serve_desk.specs.declared.limits.TheConstants.{LINES_PER_CALLER}
use Rattle.serve_desk.specs.declared.why.Why.{Why}
use Rattle.serve_desk.specs.declared.why.Why.TheVariants as why
use Rattle.serve_desk.specs.Crews.{crew_texts, too_few}
use Rattle.serve_desk.specs.Follows.{Puts, Follows}
use Rattle.serve_desk.specs.Looks.{look_text, behind}
use Rattle.serve_desk.specs.Texts.{no_memory, journal_fault}

-- what an answer came to: a look, whose text was put; or a call, whose entry is shown, or isn't
pub data Act : Type 0 where
  Looked : (seen : ℕ) (board : List ℕ) (position : ℕ) (what : Spot) → Act
  Called : (entry : EntryValue) (is_shown : Bool) → Act

-- entries are shown where no text `behind n` was put behind their lines, or behind what their crew call came to
abbrev pub shown : List EntryValue → List Act
shown entries = map (λ e. Called e true) entries

abbrev pub not_shown : List EntryValue → List Act
not_shown entries = map (λ e. Called e false) entries

-- a line that is replied to asks for no look and for no crew call
abbrev pub AsksNoRequest : ℕ → Given → Type 0
AsksNoRequest heard (GaveLine bytes) = heard < LINES_PER_CALLER → IsNoRequest bytes
AsksNoRequest heard GaveTooLong = ⊤
AsksNoRequest heard GaveEnd = ⊤
AsksNoRequest heard GaveFailed = ⊤

-- texts are put, one behind the other; or one of them isn't taken, which is a fault and ends the session
pub data PutsAll : List (List ℕ) → List (List ℕ) → Option Why → Type 0 where
  all_are_put : (texts : List (List ℕ)) → PutsAll texts texts None
  one_is_not_put : (before : List (List ℕ)) (text : List ℕ) (behind : List (List ℕ)) → PutsAll (before ++ text ∷ behind) before (Some why.LineFault)

-- it is told that the journal had a fault, or that isn't taken either
abbrev pub TellsFault : List (List ℕ) → Type 0
TellsFault texts = (texts ≡ []) ⊎ (texts ≡ journal_fault ∷ [])

-- what follows an answer of a line that gave so many lines before it, at a seat with so many calls left: what follows where lines are
-- served without looks, and each entry is shown; or a call whose entry isn't shown yet; or a look, whose text is put without an entry; or a
-- crew call, whose entries are shown or aren't yet, or for which too few calls are left; or `no memory`, in place of what follows any line; or
-- a call or a crew call of which an entry isn't kept: then no entry's line is put, and the session ends
pub data FollowsWatched (heard left : ℕ) : Given → List EntryValue → List (List ℕ) → List Act → Option Why → Type 0 where
  as_it_is_served : (gave : Given) (entries : List EntryValue) (texts : List (List ℕ)) (ends : Option Why) → AsksNoRequest heard gave
      → Follows heard left gave entries texts ends → FollowsWatched heard left gave entries texts (shown entries) ends
  a_call_behind : (bytes : List ℕ) (e : EntryValue) (n : ℕ) (texts : List (List ℕ)) (ends : Option Why) → heard < LINES_PER_CALLER → IsNoRequest bytes
      → IsCommandLine bytes e.stated → 0 < left → 0 < n → PutsAll (entry_line e ∷ behind n ∷ []) texts ends
      → FollowsWatched heard left (GaveLine bytes) (e ∷ []) texts (Called e false ∷ []) ends
  a_look : (bytes board : List ℕ) (position seen : ℕ) (what : Spot) → heard < LINES_PER_CALLER → IsLookLine bytes board position
      → FollowsWatched heard left (GaveLine bytes) [] (look_text seen what ∷ []) (Looked seen board position what ∷ []) None
  a_look_that_is_not_put : (bytes board : List ℕ) (position : ℕ) → heard < LINES_PER_CALLER → IsLookLine bytes board position
      → FollowsWatched heard left (GaveLine bytes) [] [] [] (Some why.LineFault)
  too_few_calls_left : (bytes : List ℕ) (t v w : ℕ) (texts : List (List ℕ)) (ends : Option Why) → heard < LINES_PER_CALLER → IsCrewLine bytes t v w → left < 3
      → Puts (too_few left) None texts ends → FollowsWatched heard left (GaveLine bytes) [] texts [] ends
  a_crew_call : (bytes : List ℕ) (t v w : ℕ) (entries : List EntryValue) (told : CrewOutcome) (texts : List (List ℕ)) (ends : Option Why) → heard < LINES_PER_CALLER
      → IsCrewLine bytes t v w → 3 ≤ left → CrewCall t v w entries told → PutsAll (crew_texts entries told) texts ends
      → FollowsWatched heard left (GaveLine bytes) entries texts (shown entries) ends
  a_crew_call_behind : (bytes : List ℕ) (t v w : ℕ) (entries : List EntryValue) (told : CrewOutcome) (n : ℕ) (texts : List (List ℕ)) (ends : Option Why) → heard < LINES_PER_CALLER
      → IsCrewLine bytes t v w → 3 ≤ left → CrewCall t v w entries told → 0 < n → PutsAll (crew_texts entries told ++ behind n ∷ []) texts ends
      → FollowsWatched heard left (GaveLine bytes) entries texts (not_shown entries) ends
  no_memory_for_a_request : (bytes : List ℕ) (texts : List (List ℕ)) (ends : Option Why) → heard < LINES_PER_CALLER
      → Puts no_memory None texts ends → FollowsWatched heard left (GaveLine bytes) [] texts [] ends
  a_call_not_kept : (bytes : List ℕ) (e : EntryValue) (texts : List (List ℕ)) → heard < LINES_PER_CALLER → IsNoRequest bytes → IsCommandLine bytes e.stated → 0 < left
      → TellsFault texts → FollowsWatched heard left (GaveLine bytes) (e ∷ []) texts (not_shown (e ∷ [])) (Some why.JournalFault)
  a_crew_call_not_kept : (bytes : List ℕ) (t v w : ℕ) (entries : List EntryValue) (told : CrewOutcome) (texts : List (List ℕ)) → heard < LINES_PER_CALLER → IsCrewLine bytes t v w
      → 3 ≤ left → CrewCall t v w entries told → TellsFault texts → FollowsWatched heard left (GaveLine bytes) entries texts (not_shown entries) (Some why.JournalFault)
