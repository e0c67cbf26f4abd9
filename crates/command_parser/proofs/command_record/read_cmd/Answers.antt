use Rattle.std.proofs.Common.{◌∙◌}
use Rattle.command_parser.proofs.SpelledLemmas.{field_at, has_word}
use Rattle.command_parser.proofs.command_record.read_cmd.Goals as goal

pub returns-in_err-word-clause-only : goal.returns-in_err-word-clause-only
returns-in_err-word-clause-only c = λ cmd spells.
    let h = has_word cmd in
    let none = c.in_err-word.ensures.only h.word (field_at _ _ 0 _ (spells.fields_are ∙ h.fields_are) c.in-len1-up.len_at_least) in cc
