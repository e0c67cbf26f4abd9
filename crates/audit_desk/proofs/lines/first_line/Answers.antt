use Rattle.std.proofs.Common.{◌∙◌, ◌+◌, ◌==◌, ◌∷◌, ◌++◌, [], Some, None, get_or, take, drop, sym, ap}
use Rattle.std.proofs.lemmas.List.Splits.{slice_split_none}
use Rattle.memchr.specs.Find.{IsFirstByte, is_byte}
use Rattle.record_rows.proofs.FoundLemmas.{parts_by-found, parts_by-absent}
use Rattle.desk_text.proofs.CutLemmas.{parts-one, text-parts, some-parts}
use Rattle.audit_desk.proofs.LineLemmas.{take-feed, first-is, no-feed}
use Rattle.audit_desk.proofs.lines.first_line.Goals as goal

pub returns-in-Some-clause-line : goal.returns-in-Some-clause-line
returns-in-Some-clause-line c = λ line rest is e.
    let text = c.args.text.now in
    let at = c.in-Some.at in
    let found : IsFirstByte (is_byte 10) text (Some at) = rw (c.in-Some.is) at c.memchr.ensures in
    let first = first-is text (take at text) (drop (at + 1) text) line rest (parts_by-found 10 at text found) is e in
    (c.split_at.ensures.front ∙ take-feed at text found ∙ first.0, c.split_at.ensures.back ∙ first.1)

pub returns-in-None-clause-line : goal.returns-in-None-clause-line
returns-in-None-clause-line c = λ line rest is e.
    let text = c.args.text.now in
    let none : IsFirstByte (is_byte 10) text None = rw (c.in-None.is) at c.memchr.ensures in
    absurd (no-feed text text line rest (parts_by-absent 10 text none) is e)

pub returns-in-Some-clause-fed : goal.returns-in-Some-clause-fed
returns-in-Some-clause-fed c = λ front rest free e.
    let text = c.args.text.now in
    let at = c.in-Some.at in
    let found : IsFirstByte (is_byte 10) text (Some at) = rw (c.in-Some.is) at c.memchr.ensures in
    let both = sym (parts_by-found 10 at text found) ∙ text-parts 10 text front rest free e in
    (c.split_at.ensures.front ∙ take-feed at text found ∙ ap (λ t. t ++ 10 ∷ []) (ap (λ ps. get_or ps 0 []) both), c.split_at.ensures.back ∙ parts-one 10 _ rest (ap (λ ps. drop 1 ps) both))

pub returns-in-None-clause-fed : goal.returns-in-None-clause-fed
returns-in-None-clause-fed c = λ front rest free e.
    let text = c.args.text.now in
    let none : IsFirstByte (is_byte 10) text None = rw (c.in-None.is) at c.memchr.ensures in
    absurd (some-parts 10 rest (ap (λ ps. drop 1 ps) (sym (parts_by-absent 10 text none) ∙ text-parts 10 text front rest free e)))

pub returns-in-Some-clause-last : goal.returns-in-Some-clause-last
returns-in-Some-clause-last c = λ free.
    let text = c.args.text.now in
    let at = c.in-Some.at in
    let found : IsFirstByte (is_byte 10) text (Some at) = rw (c.in-Some.is) at c.memchr.ensures in
    absurd (some-parts 10 (drop (at + 1) text) (ap (λ ps. drop 1 ps) (sym (slice_split_none (λ b. b == 10) text free) ∙ parts_by-found 10 at text found)))
