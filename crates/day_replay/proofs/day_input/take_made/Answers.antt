use Rattle.std.proofs.Common.{◌≡◌, arith, rules}
use Rattle.day_replay.specs.Ends.{Tells, WritesOrFails}
use Rattle.day_replay.specs.declared.day_input.TheConstants.{DAY_BYTES}
use Rattle.command_parser.specs.declared.day_fault.DayFault.{DayFault}
use Rattle.command_parser.specs.declared.day_fault.DayFault.TheVariants as fault
use Rattle.command_parser.specs.DayFile.{HasFault}
use Rattle.day_replay.proofs.ReplayLemmas.{WasMade-TookAll, FindsWrong-TookAll, one-cause, cause-day, day-cause, unreadable-cause}
use Rattle.day_replay.proofs.day_input.take_made.Goals as goal

pub returns-in-Ok-from_day-clause-made : goal.returns-in-Ok-from_day-clause-made
returns-in-Ok-from_day-clause-made g c =
    WasMade-TookAll _ _ c.in-Ok.bytes.items _ (g.D.FromDay.made_of c.in-Ok-from_day.made) c.in-Ok.ensures.whole (omega (arith, c.in-Ok.ensures.bounded, c.in-Ok.bytes.ok.0))
    c.deref.ensures.value c.in-Ok-from_day.ensures.made

pub returns-in-Err-Unreadable-clause-unreadable : goal.returns-in-Err-Unreadable-clause-unreadable
returns-in-Err-Unreadable-clause-unreadable g c = λ told.
    FindsWrong-TookAll _ _ c.in-Ok.bytes.items _ _ _ (WritesOrFails (g.K.Sink.held c.args.sink.now) (g.K.Sink.held c.tell_wrong.new.sink) (g.K.Sink.faults c.args.sink.now) (g.K.Sink.faults c.tell_wrong.new.sink)) c.in-Ok.ensures.whole (omega (arith, c.in-Ok.ensures.bounded, c.in-Ok.bytes.ok.0))
    c.deref.ensures.value (rw (c.in-Err-Unreadable.field-0-is) at (c.in-Err-Unreadable.ensures.fault (λ e. let is = c.in-Err-Unreadable.field-0-is in cc))) (rw (c.in-Err-Unreadable.record_no-is, c.in-Err-Unreadable.field-is) at c.tell_wrong.ensures.written)

pub returns-in-Ok-from_day-clause-by_the_day : goal.returns-in-Ok-from_day-clause-by_the_day
returns-in-Ok-from_day-clause-by_the_day g c =
    let without : (cause : DayFault) → Tells DAY_BYTES (g.S.Source.left c.args.source.now) (λ bytes. HasFault bytes cause) → ⊥ =
    λ cause tells. day-cause _ _ c.in-Ok.bytes.items _ _ _ cause c.in-Ok.ensures.whole c.deref.ensures.value c.in-Ok-from_day.ensures.made.day tells in
    record {
      more_bytes = search rules;
      too_many = λ tells. absurd (without fault.TooMany tells);
      no_opening = λ tells. absurd (without fault.NoOpening tells);
      unreadable = λ tells. absurd (without (fault.Unreadable tells.has.record_no tells.has.field) (unreadable-cause _ tells));
      day = search rules;
    }

pub returns-in-Err-NoOpening-clause-by_the_day : goal.returns-in-Err-NoOpening-clause-by_the_day
returns-in-Err-NoOpening-clause-by_the_day g c =
    let has = rw (c.in-Err-NoOpening.field-0-is) at (c.in-Err-NoOpening.ensures.fault (λ e. let is = c.in-Err-NoOpening.field-0-is in cc)) in
    let one : (cause : DayFault) → Tells DAY_BYTES (g.S.Source.left c.args.source.now) (λ bytes. HasFault bytes cause) → fault.NoOpening ≡ cause =
    λ cause tells. one-cause _ _ c.in-Ok.bytes.items _ fault.NoOpening cause c.in-Ok.ensures.whole c.deref.ensures.value has tells in
    record {
      more_bytes = search rules;
      too_many = λ tells read memory. let same = one fault.TooMany tells in cc;
      no_opening = search rules;
      unreadable = λ tells read memory. let same = one (fault.Unreadable tells.has.record_no tells.has.field) (unreadable-cause _ tells) in cc;
      day = λ tells. absurd (cause-day _ _ c.in-Ok.bytes.items _ fault.NoOpening c.in-Ok.ensures.whole c.deref.ensures.value has tells);
    }

pub returns-in-Err-Unreadable-clause-by_the_day : goal.returns-in-Err-Unreadable-clause-by_the_day
returns-in-Err-Unreadable-clause-by_the_day g c =
    let has = rw (c.in-Err-Unreadable.field-0-is) at (c.in-Err-Unreadable.ensures.fault (λ e. let is = c.in-Err-Unreadable.field-0-is in cc)) in
    let one : (cause : DayFault) → Tells DAY_BYTES (g.S.Source.left c.args.source.now) (λ bytes. HasFault bytes cause) → fault.Unreadable c.in-Err-Unreadable.record_no c.in-Err-Unreadable.field ≡ cause =
    λ cause tells. one-cause _ _ c.in-Ok.bytes.items _ (fault.Unreadable c.in-Err-Unreadable.record_no c.in-Err-Unreadable.field) cause c.in-Ok.ensures.whole c.deref.ensures.value has tells in
    record {
      more_bytes = search rules;
      too_many = λ tells read memory. let same = one fault.TooMany tells in cc;
      no_opening = λ tells read memory. let same = one fault.NoOpening tells in cc;
      unreadable = search rules;
      day = λ tells. absurd (cause-day _ _ c.in-Ok.bytes.items _ (fault.Unreadable c.in-Err-Unreadable.record_no c.in-Err-Unreadable.field) c.in-Ok.ensures.whole c.deref.ensures.value has tells);
    }
