use Rattle.desk_state.proofs.laws.what_the_lists_rest_on.Goals as goal

pub returns : goal.returns
returns c h e legal next = record {
  comes = c.what_an_entry_makes_of_the_desk.ensures.comes h e;
  rests = c.what_is_done_rests_on.ensures.done h e next;
  listed = c.who_is_on_a_board_is_listed.ensures.listed h legal;
  empty = c.who_is_on_a_board_is_listed.ensures.empty h legal;
  those = λ b p. (c.order_is_by_rank.ensures.by_rank h b).those p;
  persons_indexed = c.who_is_enrolled_has_an_index.ensures.persons h;
  boards_indexed = c.who_is_enrolled_has_an_index.ensures.boards h;
}
