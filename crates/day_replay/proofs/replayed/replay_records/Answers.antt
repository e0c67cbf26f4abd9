use Rattle.std.proofs.Common.{IfSome, [], ◌∷◌, ◌++◌, sym, subst, arith}
use Rattle.desk_model.specs.histories.History.{opened}
use Rattle.command_parser.specs.declared.limits.TheConstants.{COMMAND_LIMIT}
use Rattle.command_parser.specs.CommandRecords.{last_stated}
use Rattle.command_parser.specs.Spelled.{SpellsStated}
use Rattle.day_replay.proofs.HistoryLemmas.{goes_on-none, goes_on-last}
use Rattle.day_replay.proofs.ReplayLemmas.{HasReplayed-few, IsTextOf-next, caller-next}
use Rattle.day_replay.proofs.replayed.replay_records.Goals as goal

pub loop-core-init : goal.loop-core-init
loop-core-init g c = record {
  left = c.requires;
  so_far = λ rest o read stands kept.
      let start = sym (goes_on-none (opened o)) in
      record {
        commands = [];
        read = read;
        stands = subst (g.C.DeskCore.stands c.args.core.now) start stands;
        kept = subst (g.T.DayKept.kept_of c.args.kept.now) start kept;
      };
}

pub loop-core-preserved : goal.loop-core-preserved
loop-core-preserved g c =
    let stated = last_stated c.next.new.self in
    record {
      left = omega (arith, c.answer-entry.ensures.room, c.loop-core.invariant.left, c.in-Ok-true.ensures.left c.in-Ok-true.field-0-test);
      so_far = λ rest o read stands kept.
          let so = c.loop-core.invariant.so_far rest o read stands kept in
          let answer = rw c.stated.ensures at (c.answer-entry.ensures.answer _ so.stands) in
          let next = goes_on-last (opened o) so.commands stated c.answer-entry.result answer in
          let text = IsTextOf-next _ stated c.line.result c.answer-entry.result answer
          (subst (λ l. IfSome l (λ text. SpellsStated text.now stated)) (sym c.line.ensures) (c.in-Ok-true.ensures.spelled c.in-Ok-true.field-0-test)) in
          record {
            commands = so.commands ++ stated ∷ [];
            read = rw c.in-Ok-true.field-0-test at (c.in-Ok-true.ensures.reads 2 COMMAND_LIMIT rest so.commands so.read);
            stands = subst (g.C.DeskCore.stands c.answer-entry.new.self) next (c.answer-entry.ensures.stands _ so.stands);
            kept = subst (g.T.DayKept.kept_of c.keep.new.self) next (c.in_ok-keep-in-Ok-true.ensures _ so.kept (HasReplayed-few rest o so.commands _ so.read) (caller-next _ stated c.answer-entry.result answer) text);
          };
    }

pub returns-in-Ok-false : goal.returns-in-Ok-false
returns-in-Ok-false g c = λ rest o read stands kept.
    let so = c.loop-core.invariant.so_far rest o read stands kept in
    record {
      commands = so.commands;
      states = rw c.in-Ok-false.field-0-test at (c.in-Ok-false.ensures.reads 2 COMMAND_LIMIT rest so.commands so.read);
      is = so.kept;
    }

pub returns-in-Err : goal.returns-in-Err
returns-in-Err g c = λ rest o read stands kept.
    let so = c.loop-core.invariant.so_far rest o read stands kept in
    c.in-Err.ensures.fault 2 COMMAND_LIMIT rest so.commands so.read
