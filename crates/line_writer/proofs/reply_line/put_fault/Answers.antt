use Rattle.std.proofs.Common.{append_assoc, codes}
use Rattle.desk_model.specs.texts.ReplyTexts.{stage_text}
use Rattle.line_writer.proofs.reply_line.put_fault.Goals as goal

pub returns-in-WrongStage-clause-text : goal.returns-in-WrongStage-clause-text
returns-in-WrongStage-clause-text c =
    rw (c.put_stage.ensures.text, c.put.ensures.text, c.in-WrongStage.is)
    (append_assoc c.args.line.now.items (codes "wrong stage ") (stage_text c.in-WrongStage.stage))
