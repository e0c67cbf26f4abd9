use Rattle.std.proofs.Common.{map}
use Rattle.command_parser.proofs.FormLemmas.{HasTried}
use Rattle.command_parser.proofs.first_wrong.wrong_field.Given as goal

abbrev pub invariant-loop-forms : goal.invariant-loop-forms
invariant-loop-forms l = HasTried (map (λ field. field.now) l.fields) l.forms-index l.most
