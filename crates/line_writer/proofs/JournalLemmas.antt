-- The journal of a history grows by a line for each entry.
use Rattle.std.proofs.Common.{◌≡◌, ◌∙◌, List, [], ◌∷◌, ◌++◌, sym, ap, append_assoc, append-nil}
use Rattle.std.proofs.lemmas.Grind.{flat_map-append}
use Rattle.desk_model.specs.statements.Entry.{EntryValue}
use Rattle.desk_model.specs.histories.History.{History, history_of, with_entry}
use Rattle.desk_model.specs.texts.Journal.{opening_line, entry_line, entry_lines, journal}

-- entries more are lines more
pub journal-append : (h : History) (later : List EntryValue) → journal (history_of h.opening (h.entries ++ later)) ≡ journal h ++ entry_lines later
journal-append h later =
    ap (λ t. opening_line h.opening ++ t) (flat_map-append entry_line h.entries later)
    ∙ sym (append_assoc (opening_line h.opening) (entry_lines h.entries) (entry_lines later))

-- an entry more is a line more
pub journal-next : (h : History) (e : EntryValue) → journal (with_entry h e) ≡ journal h ++ entry_line e
journal-next h e = journal-append h (e ∷ []) ∙ ap (λ t. journal h ++ t) (append-nil (entry_line e))
