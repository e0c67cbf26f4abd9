use Rattle.desk_model.specs.histories.History.{opened}
use Rattle.desk_model.proofs.LegalLemmas.{legal-opened, legal-with, IsNext-next, legal-history_from, opening-history_from, given-history_from, history-given}
use Rattle.desk_model.proofs.laws.legal.one_history_is_legal.Goals as goal

pub returns-clause-empty : goal.returns-clause-empty
returns-clause-empty c o valid = legal-opened o valid

pub returns-clause-legal : goal.returns-clause-legal
returns-clause-legal c o commands valid may = legal-history_from (opened o) commands (legal-opened o valid) may

pub returns-clause-opening : goal.returns-clause-opening
returns-clause-opening c o commands = opening-history_from (opened o) commands

pub returns-clause-given : goal.returns-clause-given
returns-clause-given c o commands = given-history_from (opened o) commands

pub returns-clause-only : goal.returns-clause-only
returns-clause-only c h legal = history-given h legal

pub returns-clause-grows : goal.returns-clause-grows
returns-clause-grows c h caller s legal may = legal-with h _ legal (IsNext-next h caller s may)
