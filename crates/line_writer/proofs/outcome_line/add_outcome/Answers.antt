use Rattle.std.proofs.Common.{◌∙◌}
use Rattle.std.proofs.lemmas.Result.{IfOk-weaker}
use Rattle.line_writer.proofs.FieldLemmas.{outcome_line-added}
use Rattle.line_writer.proofs.outcome_line.add_outcome.Goals as goal

pub returns-in_ok-extend_from_slice-in_default : goal.returns-in_ok-extend_from_slice-in_default
returns-in_ok-extend_from_slice-in_default c = IfOk-weaker c.add_reply.result _ _ (λ done added.
    added ∙ rw (c.reply.ensures) (rw (c.in_ok-extend_from_slice-in_default.ensures.items, c.between_bars.ensures, c.write-moment.ensures, c.moment.ensures)
    (outcome_line-added c.args.text.now.items c.args.entry.now.moment c.args.entry.now.reply))) c.add_reply.ensures
