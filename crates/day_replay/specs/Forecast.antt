-- What would be, in lines of text.
use Rattle.std.specs.Prelude.{◌≡◌, ℕ, ◌-◌, min, List, [], ◌∷◌, ◌++◌, length, take, drop, codes}
use Rattle.desk_base.specs.Minute.{minute_text}
use Rattle.desk_model.specs.texts.BarTexts.{late_text, bar_text}
use Rattle.desk_model.specs.statements.Opening.{OpeningValue}
use Rattle.desk_model.specs.statements.Entry.{EntryValue}
use Rattle.desk_model.specs.histories.History.{History, history_of}
use Rattle.desk_model.specs.texts.Journal.{entry_lines, journal}
use Rattle.line_writer.specs.Tally.{count_line}
use Rattle.earliest_minute.specs.declared.earliest.Earliest.{Earliest}
use Rattle.earliest_minute.specs.declared.earliest.Earliest.TheVariants as earliest
use Rattle.earliest_minute.specs.When.{when_of}

-- the line that says of how many entries behind it the commands are only supposed
abbrev pub supposed_line : ℕ → List ℕ
supposed_line count = count_line (codes "supposed") count

-- a journal, that line, and the lines of what would be answered
abbrev pub forecast_lines : OpeningValue → List EntryValue → List EntryValue → List ℕ
forecast_lines o answered supposed = journal (history_of o answered) ++ supposed_line (length supposed) ++ entry_lines supposed

-- so of a history of which the last entries are only supposed: so many as are asked for, or all where there are fewer. That these are
-- what is supposed of their commands after the others is the law of `OnlyThese`
unfoldable pub forecast_text : ℕ → History → List ℕ
forecast_text asked h =
    let answered = length h.entries - min asked (length h.entries) in
    forecast_lines h.opening (take answered h.entries) (drop answered h.entries)

-- a history that was opened so has just these entries, those that are supposed last: as many as are asked for, or all where there are
-- fewer
pub record IsParted (asked : ℕ) (o : OpeningValue) (h : History) (answered supposed : List EntryValue) : Type 0 where
  pub history : h ≡ history_of o (answered ++ supposed)
  pub count : length supposed ≡ min asked (length h.entries)

-- from when on nothing bars a person from a vacancy, or why not. A clear minute is no later than a report, which is of the years 2000 to
-- 2099
abbrev pub earliest_text : Earliest → List ℕ
earliest_text (earliest.Clear minute) = codes "clear " ++ minute_text minute
earliest_text (earliest.Barred bar) = codes "barred " ++ bar_text bar
earliest_text (earliest.Lapsed report) = codes "lapsed " ++ late_text report
earliest_text earliest.NotListed = codes "not listed"
earliest_text earliest.UnknownVacancy = codes "unknown vacancy"
earliest_text earliest.UnknownPerson = codes "unknown person"

-- the line that says so
abbrev pub earliest_line : Earliest → List ℕ
earliest_line told = earliest_text told ++ 10 ∷ []

-- that of a vacancy and a person after a history
unfoldable pub when_text : ℕ → ℕ → History → List ℕ
when_text vac person h = earliest_line (when_of h vac person)
