use Rattle.std.proofs.Common.{true, false, Option, None, Some, refl, sym, ap, ◌∙◌, arith}
use Rattle.std.proofs.lemmas.List.{take_all}
use Rattle.std.proofs.lemmas.List.Sums.{fold_push}
use Rattle.std.specs.Option.{option_map}
use Rattle.duty_events.specs.declared.event.Event.{Event}
use Rattle.duty_events.specs.declared.stage.Stage.TheVariants as stage
use Rattle.duty_events.specs.Allowed.{last_minute}
use Rattle.duty_events.specs.Lists.{stage_after, stage_of, latest}
use Rattle.desk_model.specs.histories.History.{history_of}
use Rattle.desk_model.specs.histories.Duty.{events}
use Rattle.plain_core.proofs.GatherLemmas.{events-opened, gathered-none, gathered}
use Rattle.plain_core.proofs.duty.gather.Goals as goal

pub loop-entry-init : goal.loop-entry-init
loop-entry-init c = record {
  events = λ o. c.clear.ensures.items ∙ sym (events-opened o c.args.person);
  stage = rw c.clear.ensures.items refl;
  last = rw c.clear.ensures.items refl;
  few = omega (arith, c.clear.ensures.len);
  room = c.clear.ensures.capacity;
}

pub loop-entry-preserved-in_default : goal.loop-entry-preserved-in_default
loop-entry-preserved-in_default c =
    let kept = c.loop-entry.invariant in record {
      events = λ o. gathered-none o c.args.entries.now c.loop-entry.entry-index c.entry-item.result c.args.person c.loop-entry.list.items c.loop-entry-test.true c.entry-item.is (sym c.told.ensures ∙ c.in_default.is) (kept.events o);
      stage = kept.stage;
      last = kept.last;
      few = omega (arith, kept.few);
      room = kept.room;
    }

pub loop-entry-preserved-then-not-may_follow : goal.loop-entry-preserved-then-not-may_follow
loop-entry-preserved-then-not-may_follow c =
    let kept = c.loop-entry.invariant in record {
      events = λ o. gathered o c.args.entries.now c.loop-entry.entry-index c.entry-item.result c.args.person c.loop-entry.list.items c.loop-entry.stage c.loop-entry.last c.in-Some.event false
          c.loop-entry-test.true c.entry-item.is (sym c.told.ensures ∙ c.in-Some.is) kept.stage kept.last (sym c.may_follow.ensures.value ∙ c.if-not-may_follow.true) (kept.events o);
      stage = kept.stage;
      last = kept.last;
      few = omega (arith, kept.few);
      room = kept.room;
    }

pub loop-entry-preserved : goal.loop-entry-preserved
loop-entry-preserved c =
    let kept = c.loop-entry.invariant in record {
      events = λ o. c.push_reserved.ensures.items
          ∙ gathered o c.args.entries.now c.loop-entry.entry-index c.entry-item.result c.args.person c.loop-entry.list.items c.loop-entry.stage c.loop-entry.last c.in-Some.event true
          c.loop-entry-test.true c.entry-item.is (sym c.told.ensures ∙ c.in-Some.is) kept.stage kept.last (sym c.may_follow.ensures.value ∙ c.if-not-may_follow.false) (kept.events o);
      stage = c.after-stage.ensures ∙ ap (λ s. stage_after s c.in-Some.event) kept.stage ∙ sym (fold_push stage_after stage.Off c.loop-entry.list.items c.in-Some.event) ∙ ap stage_of (sym c.push_reserved.ensures.items);
      last = ap Some c.last_minute.ensures.value ∙ sym (ap (option_map last_minute) (fold_push (λ (o : Option Event) (x : Event). Some x) None c.loop-entry.list.items c.in-Some.event)) ∙ ap latest (sym c.push_reserved.ensures.items);
      few = omega (arith, kept.few, c.push_reserved.ensures.len);
      room = c.push_reserved.ensures.capacity ∙ kept.room;
    }

pub returns-clause-events : goal.returns-clause-events
returns-clause-events c o =
    c.loop-entry.invariant.events o ∙ ap (λ es. events (history_of o es) c.args.person) (take_all c.loop-entry.entry-index c.args.entries.now c.loop-entry-test.false)
