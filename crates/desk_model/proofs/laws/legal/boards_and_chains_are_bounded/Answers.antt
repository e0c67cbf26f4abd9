use Rattle.desk_model.proofs.BoundLemmas.{length-order, length-chain-most}
use Rattle.desk_model.proofs.laws.legal.boards_and_chains_are_bounded.Goals as goal

pub returns-clause-boards : goal.returns-clause-boards
returns-clause-boards c h b legal = length-order h b legal

pub returns-clause-chains : goal.returns-clause-chains
returns-clause-chains c h codes legal few = length-chain-most h codes legal few
