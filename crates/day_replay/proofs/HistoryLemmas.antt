-- The history of a day file's commands.
use Rattle.std.proofs.Common.{◌≡◌, ℕ, ◌<◌, ◌+◌, ◌^◌, List, [], ◌∷◌, ◌++◌, length, get_or, take, map, refl, sym, ap, ◌∙◌, arith, drop, take-append-drop}
use Rattle.std.specs.List.{All}
use Rattle.std.proofs.lemmas.List.{take_more, map-append, length-map, length-take-le}
use Rattle.std.proofs.lemmas.List.Elements.{All-cons, All-nil, All-head, All-tail}
use Rattle.desk_model.specs.statements.Opening.{OpeningValue, IsOpening}
use Rattle.desk_model.specs.statements.Statement.{StatedValue}
use Rattle.desk_model.specs.statements.Fits.{IsStated}
use Rattle.desk_model.specs.statements.Entry.{EntryValue}
use Rattle.desk_model.specs.histories.History.{History, opened, with_entry}
use Rattle.desk_model.specs.histories.Legal.{next, given, history_from, history, MayState, IsLegal}
use Rattle.desk_model.proofs.LegalLemmas.{history_from-append, history_from-length}
use Rattle.day_replay.specs.Replay.{by_the_day_file, goes_on, day_history, IsReplay}

-- no command has no entry
pub goes_on-none : (h : History) → goes_on h [] ≡ h
unfolding history_from
goes_on-none h = refl

-- the next command adds the entry that the rules give
goes_on-more : (h : History) (commands : List StatedValue) (index : ℕ) (s : StatedValue) → index < length commands → s ≡ get_or commands index s
    → goes_on h (take (index + 1) commands) ≡ with_entry (goes_on h (take index commands)) (next (goes_on h (take index commands)) 0 s)
unfolding history_from
goes_on-more h commands index s within at =
    ap (goes_on h) (take_more commands index s within ∙ ap (λ x. take index commands ++ x ∷ []) (sym at))
    ∙ ap (history_from h) (map-append by_the_day_file (take index commands) (s ∷ []))
    ∙ history_from-append h (map by_the_day_file (take index commands)) (by_the_day_file s ∷ [])

-- so the entry that comes next is the one that a desk answers which stands for the history so far
pub goes_on-next : (h : History) (commands : List StatedValue) (index : ℕ) (s : StatedValue) (e : EntryValue)
    → index < length commands → s ≡ get_or commands index s → e ≡ next (goes_on h (take index commands)) 0 s
    → with_entry (goes_on h (take index commands)) e ≡ goes_on h (take (index + 1) commands)
goes_on-next h commands index s e within at answer =
    ap (with_entry (goes_on h (take index commands))) answer ∙ sym (goes_on-more h commands index s within at)

-- the same of all commands so far, and one more
pub goes_on-last : (h : History) (commands : List StatedValue) (s : StatedValue) (e : EntryValue) → e ≡ next (goes_on h commands) 0 s
    → with_entry (goes_on h commands) e ≡ goes_on h (commands ++ s ∷ [])
unfolding history_from
goes_on-last h commands s e answer =
    ap (with_entry (goes_on h commands)) answer
    ∙ sym (ap (history_from h) (map-append by_the_day_file commands (s ∷ [])) ∙ history_from-append h (map by_the_day_file commands) (by_the_day_file s ∷ []))

-- it has an entry more for each command
pub goes_on-length : (h : History) (commands : List StatedValue) → length (goes_on h commands).entries ≡ length h.entries + length commands
goes_on-length h commands = omega (arith, history_from-length h (map by_the_day_file commands), length-map commands by_the_day_file)

-- so of the first commands it has one entry for each, and one more is no more than all
pub day_history-few : (o : OpeningValue) (commands : List StatedValue) (index : ℕ) → length commands < 2 ^ 64 → index < length commands
    → length (day_history o (take index commands)).entries + 1 < 2 ^ 64
day_history-few o commands index few within = omega (arith, few, within, goes_on-length (opened o) (take index commands), length-take-le index commands (omega (arith, within)))

-- the history of the first commands goes on with that of the rest
pub goes_on-behind : (h : History) (commands : List StatedValue) (index : ℕ)
    → history_from (goes_on h (take index commands)) (map by_the_day_file (drop index commands)) ≡ goes_on h commands
goes_on-behind h commands index =
    sym (history_from-append h (map by_the_day_file (take index commands)) (map by_the_day_file (drop index commands)))
    ∙ ap (history_from h) (sym (map-append by_the_day_file (take index commands) (drop index commands)) ∙ ap (map by_the_day_file) (take-append-drop index commands))

-- the day file's commands may be stated by caller 0
pub day-MayState : (commands : List StatedValue) → All IsStated commands → All (λ c. MayState c.0 c.1) (map by_the_day_file commands)
day-MayState [] all = All-nil (λ c. MayState c.0 c.1)
day-MayState (s ∷ rest) all =
    All-cons (λ c. MayState c.0 c.1) (by_the_day_file s) (map by_the_day_file rest)
    (record { caller_in = omega arith; stated = All-head IsStated s rest all })
    (day-MayState rest (All-tail IsStated s rest all))

-- by the laws of legal histories, the history that the rules give for a day file's commands is their replay
pub IsReplay-day : ((o : OpeningValue) (commands : List (ℕ × StatedValue)) → (history o commands).opening ≡ o)
    → ((o : OpeningValue) (commands : List (ℕ × StatedValue)) → IsOpening o → All (λ c. MayState c.0 c.1) commands → IsLegal (history o commands))
    → ((o : OpeningValue) (commands : List (ℕ × StatedValue)) → map given (history o commands).entries ≡ commands)
    → (o : OpeningValue) (commands : List StatedValue) → IsOpening o → All IsStated commands → IsReplay o commands (day_history o commands)
IsReplay-day opening legal given_is o commands valid all = record {
  opening = opening o (map by_the_day_file commands);
  legal = legal o (map by_the_day_file commands) valid (day-MayState commands all);
  given = given_is o (map by_the_day_file commands);
}
