-- The history of a day file's commands and of the calls of lines behind them.
use Rattle.std.proofs.Common.{◌≡◌, ℕ, Option, ◌+◌, ◌<◌, ◌==◌, false, cond, List, [], ◌∷◌, ◌++◌, length, map, take, drop, slice_index_or, refl, sym, ap, subst, ◌∙◌, arith}
use Rattle.std.specs.List.{All}
use Rattle.std.proofs.lemmas.Grind.{common_steps}
use Rattle.std.proofs.lemmas.List.Elements.{filter-append}
use Rattle.desk_model.specs.statements.Entry.{EntryValue}
use Rattle.desk_model.specs.histories.History.{History, opened}
use Rattle.desk_model.specs.texts.Journal.{journal}
use Rattle.desk_model.specs.histories.Legal.{given}
use Rattle.desk_model.specs.statements.Opening.{OpeningValue, IsOpening}
use Rattle.desk_model.specs.statements.Statement.{StatedValue}
use Rattle.command_parser.specs.DayFile.{IsDayFile}
use Rattle.day_replay.specs.declared.day_input.TheConstants.{DAY_BYTES}
use Rattle.day_replay.specs.Ends.{WasRead}
use Rattle.day_replay.specs.Replay.{IsReplay, by_the_day_file, day_history}
use Rattle.day_replay.proofs.HistoryLemmas.{goes_on-length}
use Rattle.turn_gate.specs.Told.{own, IsNumber}
use Rattle.serve_desk.specs.Told.{LineValue}
use Rattle.serve_desk.specs.Serve.{OneOfAll, ServesAllBehind, ServesAllOf, ServesAllOfDay}

-- caller 0 stated what the day file has, so no line's caller did
own-day : (es : List EntryValue) (commands : List StatedValue) (number : ℕ) → 0 < number → map given es ≡ map by_the_day_file commands → own es number ≡ []
own-day [] commands number some same = refl
own-day (e ∷ es) [] number some same = absurd (cc)
own-day (e ∷ es) (s ∷ commands) number some same =
    let first : given e ≡ by_the_day_file s = cc in
    let rest : map given es ≡ map by_the_day_file commands = cc in
    let zero_is : e.caller ≡ 0 = ap (λ c. c.0) first in
    let other : (e.caller == number) ≡ false = grind (arith) in
    ap (λ b. cond b (e ∷ own es number) (own es number)) other ∙ own-day es commands number some rest

-- the history of lines that were served behind a day file's commands
served-all : (One : OneOfAll) (o : OpeningValue) (commands : List StatedValue) (h : History) (lines later : List LineValue) (Writes : List ℕ → Type 0)
    → h ≡ day_history o commands → IsReplay o commands (day_history o commands) → ServesAllBehind One h lines later Writes → ServesAllOf One o commands lines later Writes
served-all One o commands h lines later Writes is replay behind =
    let after = behind.after in
    let served = behind.served in
    let day = day_history o commands in
    let begins : after.entries ≡ day.entries ++ served.more = served.begins ∙ ap (λ x. x.entries ++ served.more) is in
    let long : length day.entries ≡ length commands = omega (arith, goes_on-length (opened o) commands) in
    let front : take (length commands) after.entries ≡ day.entries = ap (take (length commands)) begins ∙ grind (arith, common_steps) in
    let rest : drop (length commands) after.entries ≡ served.more = ap (drop (length commands)) begins ∙ grind (arith, common_steps) in
    record {
      history = after;
      opened = behind.opened ∙ ap (λ x. x.opening) is ∙ replay.opening;
      legal = behind.legal;
      setup = ap (map given) front ∙ replay.given;
      callers = subst (All (λ e. IsNumber (length lines) e.caller)) (sym rest) served.callers;
      count = served.count;
      each = λ i line within.
          let mine : own served.more (i + 1) ≡ own after.entries (i + 1) =
          sym (ap (λ es. own es (i + 1)) begins ∙ filter-append (λ e. e.caller == i + 1) day.entries served.more ∙ ap (λ es. es ++ own served.more (i + 1)) (own-day day.entries commands (i + 1) (omega arith) replay.given)) in
          subst (λ es. One after.entries (i + 1) es (slice_index_or lines i line) (slice_index_or later i line)) mine (served.each i line within);
      written = behind.written;
    }

-- so of what becomes of a line by how the desk was opened, and how many entries it had then
pub ServesHistory-served : (One : OpeningValue → ℕ → OneOfAll) (o : OpeningValue) (commands : List StatedValue) (h : History) (lines later : List LineValue) (Writes : List ℕ → Type 0)
    → h ≡ day_history o commands → IsReplay o commands (day_history o commands) → ServesAllBehind (One h.opening (length h.entries)) h lines later Writes
    → ServesAllOf (One o (length commands)) o commands lines later Writes
ServesHistory-served One o commands h lines later Writes is replay behind =
    let as_opened : h.opening ≡ o = ap (λ x. x.opening) is ∙ replay.opening in
    let as_many : length h.entries ≡ length commands = ap (λ x. length x.entries) is ∙ omega (arith, goes_on-length (opened o) commands) in
    served-all (One o (length commands)) o commands h lines later Writes is replay
    (subst (λ n. ServesAllBehind (One o n) h lines later Writes) as_many (subst (λ x. ServesAllBehind (One x (length h.entries)) h lines later Writes) as_opened behind))

-- a day file was taken, and lines were served behind it; and what was done with their journal is as if nothing had been done before
pub ServesDay-taken : (One : OpeningValue → ℕ → OneOfAll) (before after : Option (List ℕ)) (o : OpeningValue) (commands : List StatedValue) (lines later : List LineValue) (Writes WritesAll : List ℕ → Type 0)
    → ((text : List ℕ) → Writes text → WritesAll text) → IsOpening o → WasRead DAY_BYTES before after (λ bytes. IsDayFile bytes o commands)
    → ServesAllOf (One o (length commands)) o commands lines later Writes → ServesAllOfDay One before after lines later WritesAll
ServesDay-taken One before after o commands lines later Writes WritesAll as_well valid read serves = record {
  opening = o;
  valid = valid;
  commands = commands;
  read = read;
  serves = record {
    history = serves.history;
    opened = serves.opened;
    legal = serves.legal;
    setup = serves.setup;
    callers = serves.callers;
    count = serves.count;
    each = serves.each;
    written = as_well (journal serves.history) serves.written;
  };
}
