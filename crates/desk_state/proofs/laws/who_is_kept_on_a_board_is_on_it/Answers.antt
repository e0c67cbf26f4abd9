use Rattle.desk_state.proofs.ReadLemmas.{on-one}
use Rattle.desk_state.proofs.laws.who_is_kept_on_a_board_is_on_it.Goals as goal

pub returns : goal.returns
returns c = λ l h p i boards keeps fits indexed one. on-one l.orders.boards.items l.listings.words.items h p i boards keeps.lists fits indexed one
