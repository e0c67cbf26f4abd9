use Rattle.std.proofs.Common.{◌∙◌, [], ap, sym, subst, arith, length}
use Rattle.audit_desk.specs.Found.{Begins}
use Rattle.desk_model.specs.histories.History.{History}
use Rattle.kept_desk.proofs.ThroughLemmas.{cut-opening, opening-is, stands-behind}
use Rattle.kept_desk.proofs.journal_book.book_of_journal.Goals as goal

pub step_through-requires-clause-lines : goal.step_through-requires-clause-lines
step_through-requires-clause-lines c =
    let j = c.requires.journal in
    let cut = cut-opening c.each_line_ends_once.ensures.opening _ _ _ j.history j.begins.legal j.begins.parts c.first_line.ensures.line in
    record {
      entries = j.history.entries;
      fits = c.a_legal_history_fits.ensures j.history j.begins.legal;
      text_is = cut.1;
      few = omega (arith, j.count_is, c.in_ok-book.ensures.room, c.in_ok-core.ensures.room, ap (λ (x : History). length x.entries) c.in_ok-book.ensures.history, c.from.ensures, c.from-2.ensures);
    }

pub returns-clause-opening : goal.returns-clause-opening
returns-clause-opening c =
    let j = c.requires.journal in
    let h = j.history in
    let cut = cut-opening c.each_line_ends_once.ensures.opening _ _ _ h j.begins.legal j.begins.parts c.first_line.ensures.line in
    let opening = opening-is _ h _ _ j.begins.legal cut.0 c.read_opening.ensures.only c.in-Some.is in
    let answered = c.in_ok-step_through.ensures.history h.entries (c.a_legal_history_fits.ensures h j.begins.legal) cut.1 in
    opening ∙ sym (ap (λ (x : History). x.opening) (stands-behind h _ _ _ _ answered c.in_ok-book.ensures.history c.in_ok-core.ensures.opening opening (c.one_history_is_legal.ensures.only h j.begins.legal)))

pub returns-clause-history : goal.returns-clause-history
returns-clause-history c =
    let j = c.requires.journal in
    let h = j.history in
    let cut = cut-opening c.each_line_ends_once.ensures.opening _ _ _ h j.begins.legal j.begins.parts c.first_line.ensures.line in
    let opening = opening-is _ h _ _ j.begins.legal cut.0 c.read_opening.ensures.only c.in-Some.is in
    let answered = c.in_ok-step_through.ensures.history h.entries (c.a_legal_history_fits.ensures h j.begins.legal) cut.1 in
    subst (λ (x : History). Begins c.args.text.now x []) (sym (stands-behind h _ _ _ _ answered c.in_ok-book.ensures.history c.in_ok-core.ensures.opening opening (c.one_history_is_legal.ensures.only h j.begins.legal))) j.begins

pub returns-clause-count : goal.returns-clause-count
returns-clause-count c =
    let j = c.requires.journal in
    let h = j.history in
    let cut = cut-opening c.each_line_ends_once.ensures.opening _ _ _ h j.begins.legal j.begins.parts c.first_line.ensures.line in
    let opening = opening-is _ h _ _ j.begins.legal cut.0 c.read_opening.ensures.only c.in-Some.is in
    let answered = c.in_ok-step_through.ensures.history h.entries (c.a_legal_history_fits.ensures h j.begins.legal) cut.1 in
    ap (λ (x : History). length x.entries) (stands-behind h _ _ _ _ answered c.in_ok-book.ensures.history c.in_ok-core.ensures.opening opening (c.one_history_is_legal.ensures.only h j.begins.legal)) ∙ sym j.count_is
