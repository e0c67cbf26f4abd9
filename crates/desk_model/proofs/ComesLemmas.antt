-- What one entry more makes of each definition of a history.
use Rattle.std.proofs.Common.{false, None, is_some, ap, ◌∙◌}
use Rattle.desk_model.specs.statements.Entry.{EntryValue}
use Rattle.desk_model.specs.histories.History.{History, steps, step_of, said, first_of}
use Rattle.desk_model.specs.histories.Register.{enrols, enrols_any, gives, sets_up, sets_up_any, makes, makes_any}
use Rattle.desk_model.specs.offers.Offers.{offer_said}
use Rattle.desk_model.specs.boards.Boards.{puts}
use Rattle.desk_model.specs.histories.Duty.{closes}
use Rattle.desk_model.specs.boards.Marks.{marks}
use Rattle.desk_model.specs.offers.TurnedDown.{turned_by}
use Rattle.desk_model.specs.laws.Comes.{Comes}
use Rattle.desk_model.proofs.SaidLemmas.{first_of-snoc, last_of-or, is_some-snoc, filter_map-snoc, steps-snoc}
use Rattle.desk_model.proofs.EventLemmas.{events-snoc}
use Rattle.desk_model.proofs.MovedLemmas.{order-comes}
use Rattle.desk_model.proofs.AssignedLemmas.{has-comes, assigned-comes}
use Rattle.desk_model.proofs.HeldLemmas.{hold_end-comes}

pub comes : (h : History) (e : EntryValue) → Comes h e
comes h e = record {
  person = λ p. first_of-snoc (said (enrols p)) h.entries e;
  quals = λ p. last_of-or (said (gives p)) h.entries e 0;
  board = λ b. first_of-snoc (said (sets_up b)) h.entries e;
  vacancy = λ v. first_of-snoc (said (makes v)) h.entries e;
  persons = filter_map-snoc (said enrols_any) h.entries e;
  boards = filter_map-snoc (said sets_up_any) h.entries e;
  vacancies = filter_map-snoc (said makes_any) h.entries e;
  events = events-snoc h e;
  closed = λ p. is_some-snoc (said (closes p)) h.entries e;
  on = λ p b. last_of-or (said (puts b p)) h.entries e false;
  order = order-comes h e;
  offer = λ v. last_of-or (offer_said v) h.entries e None;
  marked = λ p. last_of-or (said (marks p)) h.entries e false;
  has = has-comes h e;
  assigned = assigned-comes h e;
  turned_down = λ v p. ap (λ all. is_some (first_of (turned_by v p) all)) (steps-snoc h e) ∙ is_some-snoc (turned_by v p) (steps h) (step_of h e);
  hold_end = hold_end-comes h e;
}
