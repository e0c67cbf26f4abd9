use Rattle.std.proofs.Common.{sym}
use Rattle.indexmap.proofs.CallerLemmas.{keys-with_value_at, index_map_len-with_value_at}
use Rattle.desk_register.specs.Changes.{freed}
use Rattle.desk_register.proofs.ValueLemmas.{get-changed_at}
use Rattle.desk_register.proofs.roster.Roster.free.Goals as goal

pub invariant_of-self : goal.invariant_of-self
invariant_of-self c = record {
  room = rw index_map_len-with_value_at c.args.self.now.room;
  few = rw index_map_len-with_value_at c.args.self.now.few;
}

pub returns-in-Some-get_index_mut-clause-under : goal.returns-in-Some-get_index_mut-clause-under
returns-in-Some-get_index_mut-clause-under c =
    rw c.in-Some.is (get-changed_at c.args.self.now.kept c.in-Some-found.found.index c.in-Some.person c.in-Some-get_index_mut.kept.now (freed) c.get_index_mut.ensures.unique
    (sym c.in-Some-found.ensures.index) c.in-Some-get_index_mut.ensures.value)

pub returns-in-Some-get_index_mut-clause-keys : goal.returns-in-Some-get_index_mut-clause-keys
returns-in-Some-get_index_mut-clause-keys c = keys-with_value_at c.args.self.now.kept _ _
