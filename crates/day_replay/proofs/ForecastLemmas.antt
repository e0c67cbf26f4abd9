-- A day of which the last commands are only supposed.
use Rattle.std.proofs.Common.{◌≡◌, ℕ, ◌-◌, min, Option, List, ◌++◌, length, map, take, drop, refl, sym, ap, subst, ◌∙◌, arith, length-append, length-drop}
use Rattle.std.proofs.Math.Seq.{take-append_seam, drop-append_seam}
use Rattle.std.proofs.lemmas.List.{length-map, take_all}
use Rattle.desk_io.specs.Giving.{AddsFront}
use Rattle.desk_model.specs.statements.Opening.{OpeningValue}
use Rattle.desk_model.specs.statements.Statement.{StatedValue}
use Rattle.desk_model.specs.statements.Entry.{EntryValue}
use Rattle.desk_model.specs.histories.History.{History, history_of, opened}
use Rattle.desk_model.specs.histories.Legal.{given, history_from}
use Rattle.desk_model.proofs.LegalLemmas.{legal-opened}
use Rattle.desk_model.specs.texts.Journal.{entry_lines, journal}
use Rattle.forecast.specs.Supposed.{by_nobody, IsSupposed, OnlyThese}
use Rattle.earliest_minute.specs.declared.earliest.Earliest.{Earliest}
use Rattle.earliest_minute.specs.When.{when_of}
use Rattle.day_replay.specs.Forecast.{IsParted, forecast_lines, forecast_text, supposed_line, earliest_line, when_text}
use Rattle.day_replay.specs.Gathered.{Gathers}
use Rattle.day_replay.specs.Replay.{by_the_day_file, day_history}
use Rattle.day_replay.proofs.HistoryLemmas.{goes_on-behind, goes_on-length}
use Rattle.day_replay.proofs.JournalLemmas.{Gathers-more, AddsFront-longer}

-- supposed entries are as many as their commands
supposed-length : (h : History) (commands : List StatedValue) (es : List EntryValue) → IsSupposed h commands es → length es ≡ length commands
supposed-length h commands es supposed =
    sym (length-map es given) ∙ ap length supposed.stated ∙ length-map commands by_nobody

-- the first commands answered, and the others supposed behind them, are the day's history
pub IsParted-day : OnlyThese → (o : OpeningValue) (commands : List StatedValue) (asked index : ℕ) (answered supposed : List EntryValue)
    → index ≡ length commands - asked
    → IsSupposed (opened o) (take index commands) answered
    → IsSupposed (history_of o answered) (take (length commands - index) (drop index commands)) supposed
    → IsParted asked o (day_history o commands) answered supposed
IsParted-day goes_on o commands asked index answered supposed at first behind =
    let later = map by_the_day_file (drop index commands) in
    let rest = subst (λ cs. IsSupposed (history_of o answered) cs supposed) (take_all (length commands - index) (drop index commands) (omega (arith, length-drop index commands))) behind in
    record {
      history = sym (
          goes_on (history_of o answered) (drop index commands) supposed first.legal rest
          ∙ ap (λ h. history_from h later) (goes_on (opened o) (take index commands) answered (legal-opened o first.legal.opening) first)
          ∙ goes_on-behind (opened o) commands index
          );
      count = omega (arith, at, supposed-length (history_of o answered) (drop index commands) supposed rest, length-drop index commands, goes_on-length (opened o) commands);
    }

-- so its text has the lines of both
pub forecast_text-parted : (asked : ℕ) (o : OpeningValue) (h : History) (answered supposed : List EntryValue) → IsParted asked o h answered supposed
    → forecast_text asked h ≡ forecast_lines o answered supposed
unfolding forecast_text
forecast_text-parted asked o h answered supposed parted = subst (λ x. forecast_text asked x ≡ forecast_lines o answered supposed) (sym parted.history) here
  where
    entries : List EntryValue
    entries = answered ++ supposed

    index : length entries - min asked (length entries) ≡ length answered
    index = omega (arith, length-append answered supposed, parted.count, ap (λ x. length x.entries) parted.history)

    here : forecast_lines o (take (length entries - min asked (length entries)) entries) (drop (length entries - min asked (length entries)) entries) ≡ forecast_lines o answered supposed
    here = rw (index, take-append_seam answered supposed, drop-append_seam answered supposed) refl

-- ---- the lines, one after another

-- what was gathered with the line that says how many are supposed
pub Gathers-supposed : (a b c : Option (List ℕ)) (text : List ℕ) (count : ℕ) (line first waiting : List ℕ) → line ≡ supposed_line count
    → Gathers a b text first → Gathers b c (first ++ line) waiting → Gathers a c (text ++ supposed_line count) waiting
Gathers-supposed a b c text count line first waiting spelled before next =
    subst (λ l. Gathers a c (text ++ l) waiting) spelled (Gathers-more a b c text first line waiting before next)

-- where a front of the journal before that line was put, a front of all was
pub AddsFront-answered : (a b : Option (List ℕ)) (o : OpeningValue) (answered supposed : List EntryValue)
    → AddsFront a b (journal (history_of o answered)) → AddsFront a b (forecast_lines o answered supposed)
AddsFront-answered a b o answered supposed front =
    let text = journal (history_of o answered) in
    let line = supposed_line (length supposed) in
    AddsFront-longer a b (text ++ line) (entry_lines supposed) (AddsFront-longer a b text line front)

-- ---- the line of an earliest minute

-- what is told from the definition is the text
pub when_text-told : (vac person : ℕ) (h : History) (told : Earliest) → told ≡ when_of h vac person → when_text vac person h ≡ earliest_line told
unfolding when_text
when_text-told vac person h told is = ap earliest_line (sym is)
