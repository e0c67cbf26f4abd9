use Rattle.command_parser.proofs.RecordsLemmas.{fault-passed}
use Rattle.day_replay.proofs.replayed.ReplayedFromDay.from_day.Goals as goal

pub returns-in_err-replay_records-clause-fault : goal.returns-in_err-replay_records-clause-fault
returns-in_err-replay_records-clause-fault g c =
    let opened = c.in_ok-day.ensures.opened in
    fault-passed c.from_residual-in_err-replay_records.result c.args.bytes.now c.in_err-replay_records.field-0.0 c.from_residual-in_err-replay_records.ensures.1 (λ some.
    c.an_open_day_is_read_by_its_commands.ensures.fault _ _ opened.0 _ opened.1
    (c.in_err-replay_records.ensures opened.0 c.in_ok-day.day.opening opened.1.unread c.in_ok-core.ensures.stands c.in_ok-kept.ensures some))

pub returns-clause-made : goal.returns-clause-made
returns-clause-made g c =
    let opened = c.in_ok-day.ensures.opened in
    let all = c.in_ok-replay_records.ensures opened.0 c.in_ok-day.day.opening opened.1.unread c.in_ok-core.ensures.stands c.in_ok-kept.ensures in
    record {
      opening = c.in_ok-day.day.opening;
      commands = all.commands;
      day = c.an_open_day_is_read_by_its_commands.ensures.day _ _ opened.0 _ opened.1 all.states;
      is = all.is;
    }
