use Rattle.std.proofs.Common.{sym, ◌∙◌, arith}
use Rattle.crewdesk_main.proofs.LineLemmas.{line_count-last, line_count-none}
use Rattle.crewdesk_main.proofs.count_lines.count_lines.Goals as goal

pub returns-in-Some : goal.returns-in-Some
returns-in-Some c = grind (arith, c.count_fed-fed.ensures.count, line_count-last c.args.text.now _ c.in-Some.ensures.value)

pub returns-in-None : goal.returns-in-None
returns-in-None c = c.count_fed-fed.ensures.count ∙ sym (line_count-none c.args.text.now c.in-None.ensures.value)
