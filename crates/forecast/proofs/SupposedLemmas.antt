-- Supposed entries, one after another.
use Rattle.std.proofs.Common.{◌≡◌, ℕ, ◌<◌, ◌+◌, List, [], ◌∷◌, ◌++◌, length, get_or, take, map, refl, sym, ap, ◌∙◌, append_assoc, append-nil}
use Rattle.std.proofs.lemmas.List.{take_more, map-append}
use Rattle.desk_model.specs.statements.Statement.{StatedValue}
use Rattle.desk_model.specs.statements.Entry.{EntryValue}
use Rattle.desk_model.specs.histories.History.{History, history_of, opened, with_entry}
use Rattle.desk_model.specs.histories.Legal.{next, given, history_from, history, IsLegal}
use Rattle.forecast.specs.Supposed.{by_nobody, with_entries, OnlyThese}

-- no entries change nothing
pub with_entries-none : (h : History) → h ≡ with_entries h []
with_entries-none h = ap (history_of h.opening) (sym (append-nil h.entries))

-- one entry more
pub with_entries-more : (h : History) (es : List EntryValue) (e : EntryValue) → with_entry (with_entries h es) e ≡ with_entries h (es ++ e ∷ [])
with_entries-more h es e = ap (history_of h.opening) (append_assoc h.entries es (e ∷ []))

given-next : (h : History) (s : StatedValue) → given (next h 0 s) ≡ by_nobody s
unfolding next
given-next h s = refl

-- of one command more the entry that is answered next has just that command
pub stated-more : (h : History) (commands : List StatedValue) (index : ℕ) (s : StatedValue) (es : List EntryValue) (e : EntryValue)
    → index < length commands → s ≡ get_or commands index s → e ≡ next h 0 s → map given es ≡ map by_nobody (take index commands)
    → map given (es ++ e ∷ []) ≡ map by_nobody (take (index + 1) commands)
stated-more h commands index s es e within at answer were =
    map-append given es (e ∷ [])
    ∙ ap (λ cs. cs ++ given e ∷ []) were
    ∙ ap (λ c. map by_nobody (take index commands) ++ c ∷ []) (ap given answer ∙ given-next h s)
    ∙ sym (map-append by_nobody (take index commands) (s ∷ []))
    ∙ ap (map by_nobody) (ap (λ x. take index commands ++ x ∷ []) at ∙ sym (take_more commands index s within))

-- by the laws of legal histories: a legal one is the one of its commands, and commands behind others go on from the history of those
pub goes-on : ((h : History) → IsLegal h → h ≡ history h.opening (map given h.entries))
    → ((h : History) (commands later : List (ℕ × StatedValue)) → history_from h (commands ++ later) ≡ history_from (history_from h commands) later)
    → OnlyThese
goes-on only behind h commands es legal supposed =
    only (with_entries h es) supposed.legal
    ∙ ap (history h.opening) (map-append given h.entries es ∙ ap (λ cs. map given h.entries ++ cs) supposed.stated)
    ∙ behind (opened h.opening) (map given h.entries) (map by_nobody commands)
    ∙ ap (λ x. history_from x (map by_nobody commands)) (sym (only h legal))
