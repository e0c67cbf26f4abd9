use Rattle.desk_model.proofs.LegalLemmas.{history_from-none, history_from-next, history_from-append, history_from-length, opening-history_from, legal-history_from}
use Rattle.desk_model.proofs.laws.legal.a_history_goes_on_with_commands.Goals as goal

pub returns : goal.returns
returns c = record {
  none = history_from-none;
  next = history_from-next;
  behind = history_from-append;
  opening = opening-history_from;
  count = history_from-length;
  legal = legal-history_from;
}
