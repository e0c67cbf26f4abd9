use Rattle.std.proofs.Common.{◌≡◌, inl, inr, sym, subst}
use Rattle.command_parser.specs.MoreCommands.{HasMoreFault}
use Rattle.command_parser.specs.declared.more_fault.MoreFault.{MoreFault}
use Rattle.command_parser.specs.declared.more_fault.MoreFault.TheVariants as fault
use Rattle.crewdesk_main.specs.Continue.{room_behind}
use Rattle.crewdesk_main.proofs.go_on.go_on.Goals as goal

pub returns-in-Ok-clause-by_the_commands : goal.returns-in-Ok-clause-by_the_commands
returns-in-Ok-clause-by_the_commands g c =
    let room : c.saturating_sub.result ≡ room_behind c.args.count = c.saturating_sub.ensures in
    let never : (cause : MoreFault) → HasMoreFault c.args.more.now (room_behind c.args.count) cause → ⊥ =
    λ cause has. elim (c.read_more.ensures.tells cause (subst (λ n. HasMoreFault c.args.more.now n cause) (sym room) has)) [
      | inl told ↦ let read = c.in-Ok.is in cc
      | inr told ↦ let read = c.in-Ok.is in cc
    ] in
    record {
      too_many = λ has. absurd (never fault.TooMany has);
      unreadable = λ record_no field has. absurd (never (fault.Unreadable record_no field) has);
      commands = λ commands are write read memory. elim c.print_more.ensures.only [
        | inl fine ↦ fine
        | inr (inl fails) ↦ absurd (write fails)
        | inr (inr wants) ↦ absurd (memory wants)
      ];
    }

pub returns-in-Err-Unreadable-clause-unreadable : goal.returns-in-Err-Unreadable-clause-unreadable
returns-in-Err-Unreadable-clause-unreadable g c = λ told.
    let has = rw (c.in-Err-Unreadable.field-0-is) at (c.in-Err-Unreadable.ensures.fault (λ e. let is = c.in-Err-Unreadable.field-0-is in cc)) in
    record {
      record_no = c.in-Err-Unreadable.record_no;
      field = c.in-Err-Unreadable.field;
      has = subst (λ n. HasMoreFault c.args.more.now n (fault.Unreadable c.in-Err-Unreadable.record_no c.in-Err-Unreadable.field)) c.saturating_sub.ensures has;
      written = rw (c.in-Err-Unreadable.record_no-is, c.in-Err-Unreadable.field-is) at c.tell_wrong.ensures.written;
    }
