-- What is so of a legal history and its next entry that the lists rest on.
use Rattle.std.specs.Prelude.{◌≡◌, ℕ, true, None, is_some, nat_eq, List, []}
use Rattle.std.specs.List.{list_any}
use Rattle.desk_model.specs.statements.Entry.{EntryValue}
use Rattle.desk_model.specs.histories.History.{History, is_done}
use Rattle.desk_model.specs.histories.Register.{person_of, board_of, persons, boards}
use Rattle.desk_model.specs.boards.Boards.{is_on, order}
use Rattle.desk_model.specs.laws.Comes.{Comes}
use Rattle.desk_model.specs.laws.RestsOn.{RestsOn, IsListed}
use Rattle.desk_register.specs.Among.{index_among, board_index}

-- what the entry makes of the desk, and what it rests on where its command is done; who is on a board is enrolled, and the board was
-- set up; a board that wasn't has nobody; an order has just those who are on the board; and who is enrolled has an index, and each board
pub record Laws (h : History) (e : EntryValue) : Type 0 where
  pub comes : Comes h e
  pub rests : is_done e.reply ≡ true → RestsOn h e.stated.cmd
  pub listed : (p : ℕ) (b : List ℕ) → is_on h p b ≡ true → IsListed h p b
  pub empty : (b : List ℕ) → board_of h b ≡ None → order h b ≡ []
  pub those : (b : List ℕ) (p : ℕ) → list_any (nat_eq p) (order h b) ≡ is_on h p b
  pub persons_indexed : (p : ℕ) → is_some (index_among (persons h) p) ≡ is_some (person_of h p)
  pub boards_indexed : (b : List ℕ) → is_some (board_index (boards h) b) ≡ is_some (board_of h b)
