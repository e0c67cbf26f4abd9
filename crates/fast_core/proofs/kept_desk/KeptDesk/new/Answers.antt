use Rattle.std.proofs.Common.{refl, sym, ◌∙◌}
use Rattle.desk_model.specs.histories.History.{opened}
use Rattle.fast_core.proofs.kept_desk.KeptDesk.new.Goals as goal

pub returns : goal.returns
returns c = record {
  tells = record {
    legal = c.one_history_is_legal.ensures.empty c.args.opening c.answer.ensures.range;
    opening = refl;
    last = c.start.ensures.value;
    people = record {
      register = c.in_ok-register.ensures c.args.opening;
      clocks = c.in_ok-duty.ensures.clocks c.args.opening;
      window = c.in_ok-duty.ensures.window ∙ c.window.ensures.value;
    };
    offers = c.in_ok-offers.ensures c.args.opening (sym c.answer-2.ensures.value);
    lists = c.in_ok-lists.ensures c.args.opening;
    unfilled = c.in_ok-unfilled.ensures (opened c.args.opening);
  };
}
