use Rattle.std.proofs.Common.{◌∙◌, refl}
use Rattle.command_parser.proofs.SpelledLemmas.{same}
use Rattle.desk_model.specs.texts.ReplyTexts.{reply_text}
use Rattle.desk_text.proofs.SpelledEntryLemmas.{before-line_feed, IsEntryLine-begins, IsEntryLine-parts, outcome_line-parts}
use Rattle.desk_text.proofs.spelled_entry.read_next_entry.Goals as goal

pub returns-in_err-outcome-clause-only : goal.returns-in_err-outcome-clause-only
returns-in_err-outcome-clause-only c = λ e is. absurd (c.in_err-outcome.ensures.only _ _ (IsEntryLine-begins _ e is))

pub returns-in_err-moment-clause-only : goal.returns-in_err-moment-clause-only
returns-in_err-moment-clause-only c = λ e is.
    let read = c.in_ok-outcome.ensures.only _ _ (IsEntryLine-begins _ e is) in
    absurd (c.in_err-moment.ensures.only _ _ (read.1 ∙ outcome_line-parts e.moment e.reply))

pub returns-in_err-moment-2-clause-only : goal.returns-in_err-moment-2-clause-only
returns-in_err-moment-2-clause-only c = λ e is.
    let read = c.in_ok-outcome.ensures.only _ _ (IsEntryLine-begins _ e is) in
    let parts = c.in_ok-moment.ensures.only _ _ (read.1 ∙ outcome_line-parts e.moment e.reply) in
    let none = c.in_err-moment-2.ensures.only e.moment is.valid.moment parts.0 in cc

pub returns-in_err-before-clause-only : goal.returns-in_err-before-clause-only
returns-in_err-before-clause-only c = λ e is.
    let read = c.in_ok-outcome.ensures.only _ _ (IsEntryLine-begins _ e is) in
    let parts = c.in_ok-moment.ensures.only _ _ (read.1 ∙ outcome_line-parts e.moment e.reply) in
    absurd (c.in_err-before.ensures.none _ parts.1)

pub returns-in_err-reply-clause-only : goal.returns-in_err-reply-clause-only
returns-in_err-reply-clause-only c = λ e is.
    let read = c.in_ok-outcome.ensures.only _ _ (IsEntryLine-begins _ e is) in
    let parts = c.in_ok-moment.ensures.only _ _ (read.1 ∙ outcome_line-parts e.moment e.reply) in
    let text = before-line_feed _ _ (reply_text e.reply) c.in_ok-before.ensures.some parts.1 in
    let none = c.in_err-reply.ensures.only e.reply (record { valid = is.valid.reply; text_is = text }) in cc

pub returns-clause-some : goal.returns-clause-some
returns-clause-some c = rw c.new.ensures (IsEntryLine-parts _ _ _ _ _ _ c.in_ok-outcome.ensures.some c.in_ok-moment.ensures.some c.in_ok-moment-2.ensures.some
    c.in_ok-before.ensures.some c.in_ok-reply.ensures.some)

pub returns-clause-only : goal.returns-clause-only
returns-clause-only c = λ e is.
    let read = c.in_ok-outcome.ensures.only _ _ (IsEntryLine-begins _ e is) in
    let parts = c.in_ok-moment.ensures.only _ _ (read.1 ∙ outcome_line-parts e.moment e.reply) in
    let text = before-line_feed _ _ (reply_text e.reply) c.in_ok-before.ensures.some parts.1 in
    let moment = same _ _ (c.in_ok-moment-2.ensures.only e.moment is.valid.moment parts.0) in
    let reply = same _ _ (c.in_ok-reply.ensures.only e.reply (record { valid = is.valid.reply; text_is = text })) in
    rw (c.new.ensures, read.0, moment, reply) refl
