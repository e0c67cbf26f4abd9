use Rattle.std.proofs.Common.{refl}
use Rattle.line_writer.proofs.reply_line.put_reply.Goals as goal

pub returns-in-UnknownBoard-clause-text : goal.returns-in-UnknownBoard-clause-text
returns-in-UnknownBoard-clause-text c =
    rw (c.put_named-in-UnknownBoard.ensures.text, c.text-in-UnknownBoard.ensures.value, c.in-UnknownBoard.is) refl

pub returns-in-EventAhead-clause-text : goal.returns-in-EventAhead-clause-text
returns-in-EventAhead-clause-text c =
    rw (c.put_named.ensures.text, c.write.ensures.text, c.in-EventAhead.is) refl
