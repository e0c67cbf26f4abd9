use Rattle.std.proofs.Common.{sym, ◌∙◌}
use Rattle.indexmap.proofs.CallerLemmas.{keys-with_value_at, index_map_len-with_value_at}
use Rattle.desk_register.proofs.ValueLemmas.{Changes-with_value_at}
use Rattle.desk_register.proofs.vacancies.Vacancies.change_target.Goals as goal

pub invariant_of-self : goal.invariant_of-self
invariant_of-self c = record {
  room = rw index_map_len-with_value_at c.args.self.now.room;
  few = rw index_map_len-with_value_at c.args.self.now.few;
}

pub returns-in-Some-get_index_mut-clause-under : goal.returns-in-Some-get_index_mut-clause-under
returns-in-Some-get_index_mut-clause-under c =
    Changes-with_value_at c.args.self.now.kept c.in-Some-find.found.index c.in-Some.vac c.in-Some-get_index_mut.kept.now c.change.new.self c.args.cmd.now c.args.had
    c.get_index_mut.ensures.unique (sym c.in-Some-find.ensures.index) c.in-Some-get_index_mut.ensures.value (sym c.target.ensures ∙ c.in-Some.is) c.change.ensures

pub returns-in-Some-get_index_mut-clause-keys : goal.returns-in-Some-get_index_mut-clause-keys
returns-in-Some-get_index_mut-clause-keys c = keys-with_value_at c.args.self.now.kept _ _
