-- The words that the program is given, and the forms of its command line.
use Rattle.std.specs.Prelude.{ℕ, ◌^◌, ◌≤◌, ◌==◌, ⊤, Bool, true, false, not, ◌&&◌, nat_eq, nat_le, nat_lt, Option, None, Some, if◌then◌else◌, List, [], ◌∷◌, length, drop, codes, decimal, String, string_bytes}
use Rattle.desk_base.specs.declared.limits.TheConstants.{NUMBER_LIMIT}
use Rattle.std.specs.Cmp.Lexicographic.{pointwise}
use Rattle.std.specs.List.{list_any}
use Rattle.std.specs.Str.Parse.{digits_value}
use Rattle.std.specs.Global.{Global}
use Rattle.desk_model.specs.declared.edition.Edition.{Edition}
use Rattle.desk_model.specs.declared.edition.Edition.TheVariants as edition
use Rattle.desk_model.specs.declared.limits.TheConstants.{LAST_CALLER}
use Rattle.kept_desk.specs.Offset.{offset_in}
use Rattle.kept_desk.specs.declared.guard.Guard.{Guard}
use Rattle.kept_desk.specs.declared.limits.TheConstants.{MOST_AHEAD}
use Rattle.kept_desk.specs.declared.offset.Offset.{Offset}
use Rattle.day_gen.specs.declared.numbers.TheConstants.{SET_UP}
use Rattle.day_gen.specs.Generator.{most_commands}
use Rattle.day_replay.specs.declared.day_form.DayForm.TheVariants as day
use Rattle.serve_desk.specs.declared.sessions.Sessions.{Sessions}
use Rattle.serve_desk.specs.declared.sessions.Sessions.TheVariants as sessions
use Rattle.crewdesk_main.specs.declared.tour_form.TourForm.TheVariants as tour
use Rattle.crewdesk_main.specs.declared.form.Form.{Form}
use Rattle.crewdesk_main.specs.declared.form.Form.TheVariants as form
use Rattle.crewdesk_main.specs.declared.limits.TheConstants.{MOST_SUPPOSED}

-- they are just this one
abbrev pub is_alone : List ℕ → List (String Global) → Bool
is_alone form [] = false
is_alone form (word ∷ []) = pointwise nat_eq (string_bytes word) form
is_alone form (word ∷ other ∷ more) = false

-- the numbers of a form are what they may be: a day has no fewer commands than set its desk up, and no more than its edition has; and
-- someone is to be served, and no more than a desk may have
abbrev pub HasNumbers : Form → Type 0
HasNumbers (form.Gen commands number edition) = (SET_UP ≤ commands) × (commands ≤ most_commands edition)
HasNumbers (form.Serve how callers) = (1 ≤ callers) × (callers ≤ LAST_CALLER)
HasNumbers (form.Keep callers guard) = (1 ≤ callers) × (callers ≤ LAST_CALLER)
HasNumbers other = ⊤

-- a word is this one
abbrev pub is_word : List ℕ → String Global → Bool
is_word form word = pointwise nat_eq (string_bytes word) form

-- the number, below 2^64, whose decimal a text is; none where it is that of none
unfoldable pub number_in : List ℕ → Option ℕ
number_in text =
    if nat_lt (digits_value 10 text) (2 ^ 64) && pointwise nat_eq (decimal (digits_value 10 text)) text then Some (digits_value 10 text) else None

-- a day of so many commands is made from a number; none where a day may not have so many
abbrev pub gen_form : Edition → Option ℕ → Option ℕ → Option Form
gen_form edition None number = None
gen_form edition (Some commands) None = None
gen_form edition (Some commands) (Some number) =
    if nat_le SET_UP commands && nat_le commands (most_commands edition) then Some (form.Gen commands number edition) else None

-- persons and vacancies may have the number
abbrev pub is_number : ℕ → Bool
is_number number = nat_le 1 number && nat_le number NUMBER_LIMIT

-- the records of a person's tours are told; none where nobody may have the number
abbrev pub record_form : Option ℕ → Option Form
record_form None = None
record_form (Some person) = if is_number person then Some (form.Tours (tour.Record person)) else None

-- so many of a day's last commands are only supposed; none where a day may not have so many
abbrev pub forecast_form : Option ℕ → Option Form
forecast_form None = None
forecast_form (Some supposed) = if nat_le supposed MOST_SUPPOSED then Some (form.Day (day.Forecast supposed)) else None

-- it is told from when on nothing bars the person from the vacancy; none where no vacancy or nobody may have the number
abbrev pub when_form : Option ℕ → Option ℕ → Option Form
when_form None person = None
when_form (Some vac) None = None
when_form (Some vac) (Some person) = if is_number vac && is_number person then Some (form.Day (day.When vac person)) else None

-- the form that words with numbers are: `record P`, `forecast K`, `gen N K`, `when V P`, and `gen N K 2` for the second edition
abbrev pub numbered_form : List (String Global) → Option Form
numbered_form (word ∷ number ∷ []) =
    if is_word (codes "record") word then record_form (number_in (string_bytes number))
    else if is_word (codes "forecast") word then forecast_form (number_in (string_bytes number))
    else None
numbered_form (word ∷ first ∷ second ∷ []) =
    if is_word (codes "gen") word then gen_form edition.One (number_in (string_bytes first)) (number_in (string_bytes second))
    else if is_word (codes "when") word then when_form (number_in (string_bytes first)) (number_in (string_bytes second))
    else None
numbered_form (word ∷ commands ∷ number ∷ two ∷ []) =
    if is_word (codes "gen") word && is_word (codes "2") two then gen_form edition.Two (number_in (string_bytes commands)) (number_in (string_bytes number)) else None
numbered_form other = None

-- so many callers are served; none where nobody is named, or more than a desk may have
abbrev pub serve_form : Sessions → ℕ → Option Form
serve_form how callers = if nat_le 1 callers && nat_le callers LAST_CALLER then Some (form.Serve how callers) else None

-- a word may name a caller: it begins with no dash, has no slash,
abbrev pub has_dash : List ℕ → Bool
has_dash [] = false
has_dash (byte ∷ bytes) = byte == 45

-- and is none of these
abbrev pub is_before : List ℕ → List (String Global) → Bool
is_before word others = not (has_dash word) && (not (list_any (λ byte. byte == 47) word) && not (list_any (is_word word) others))

-- words may name callers: each does, and no two are the same
unfoldable pub are_names : List (String Global) → Bool
are_names [] = true
are_names (name ∷ others) = if is_before (string_bytes name) others then are_names others else false

-- minutes are heard up to so many ahead of the clock at this offset; none where either is none, or where these are too many
abbrev pub guard_of : Option Offset → Option ℕ → Option Guard
guard_of None ahead = None
guard_of (Some offset) None = None
guard_of (Some offset) (Some ahead) = if nat_le ahead MOST_AHEAD then Some (record { offset = offset; ahead = ahead }) else None

-- a journal is kept and callers are served, by the journal's name and those of the callers; none where the journal's begins with a dash, where
-- nobody is named, or more than a desk may have, or where they can't be names
abbrev pub journal_form : Option Guard → List (String Global) → Option Form
journal_form guard [] = None
journal_form guard (journal ∷ names) =
    if not (has_dash (string_bytes journal)) && (nat_le 1 (length names) && nat_le (length names) LAST_CALLER && are_names names)
    then Some (form.Keep (length names) guard) else None

-- so with a guard, if there is one
abbrev pub guarded_form : Option Guard → List (String Global) → Option Form
guarded_form None words = None
guarded_form (Some guard) words = journal_form (Some guard) words

-- with one by the words `--clock ±HHMM --ahead N` in front of the names, or without
abbrev pub keep_form : List (String Global) → Option Form
keep_form (clock ∷ offset ∷ ahead ∷ minutes ∷ words) =
    if is_word (codes "--clock") clock && is_word (codes "--ahead") ahead
    then guarded_form (guard_of (offset_in (string_bytes offset)) (number_in (string_bytes minutes))) words
    else journal_form None (clock ∷ offset ∷ ahead ∷ minutes ∷ words)
keep_form words = journal_form None words

-- the words behind those of a guard, if there is one
abbrev pub behind_guard : Option Guard → List (String Global) → List (String Global)
behind_guard None words = words
behind_guard (Some guard) words = drop 4 words

-- the form that words with callers' names are, `serve NAME ..`, `watch NAME ..` and `keep .. JOURNAL NAME ..`, or with numbers
abbrev pub named_form : List (String Global) → Option Form
named_form [] = None
named_form (word ∷ names) =
    if is_word (codes "serve") word then serve_form sessions.WithoutLooks (length names)
    else if is_word (codes "watch") word then serve_form sessions.WithLooks (length names)
    else if is_word (codes "keep") word then keep_form names
    else numbered_form (word ∷ names)

-- the form that they are; none where they are no form of the command line
abbrev pub form_of : List (String Global) → Option Form
form_of words =
    if is_alone (codes "replay") words then Some (form.Day day.Replay)
    else if is_alone (codes "tally") words then Some (form.Day day.Tally)
    else if is_alone (codes "audit") words then Some form.Audit
    else if is_alone (codes "continue") words then Some form.Continue
    else if is_alone (codes "excess") words then Some (form.Tours tour.Excess)
    else if is_alone (codes "--help") words then Some form.Help
    else if is_alone (codes "--version") words then Some form.Version
    else named_form words

-- the form runs the desk for its source and its sink alone: it doesn't print what the program says of itself, and serves no callers
abbrev pub runs : Form → Bool
runs form.Help = false
runs form.Version = false
runs (form.Serve how callers) = false
runs (form.Keep callers guard) = false
runs other = true

-- the form serves callers
abbrev pub serves : Form → Bool
serves (form.Serve how callers) = true
serves (form.Keep callers guard) = true
serves other = false

-- the form reads a source
abbrev pub reads : Form → Bool
reads (form.Day how) = true
reads form.Audit = true
reads form.Continue = true
reads (form.Tours how) = true
reads (form.Serve how callers) = true
reads (form.Keep callers guard) = true
reads other = false

-- and runs the desk for it and the sink alone
abbrev pub asks : Form → Bool
asks form = reads form && runs form

-- so does the form that the words are, if they are one
abbrev pub is_asked : (Form → Bool) → Option Form → Bool
is_asked test None = false
is_asked test (Some form) = test form
