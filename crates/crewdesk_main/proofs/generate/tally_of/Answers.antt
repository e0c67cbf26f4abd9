use Rattle.std.proofs.Common.{◌≡◌, ◌∙◌, ◌+◌, Some, sym, ap, refl, subst, arith}
use Rattle.desk_model.specs.histories.History.{opened, with_entry}
use Rattle.desk_model.specs.histories.Legal.{next}
use Rattle.line_writer.specs.Tally.{Counts}
use Rattle.day_gen.specs.Due.{due_by, last_entry}
use Rattle.day_gen.specs.Day.{day_opening, generated_day}
use Rattle.crewdesk_main.proofs.generate.tally_of.Goals as goal

pub loop-stated-init : goal.loop-stated-init
loop-stated-init g c =
    let day = c.args.day.now in
    let begins : opened (day_opening day.edition) ≡ generated_day day.edition day.number day.given =
    sym (ap (generated_day day.edition day.number) c.requires.first ∙ c.a_generated_day_grows.ensures.begins day.edition day.number) in
    record {
      edition = refl;
      number = refl;
      commands = refl;
      few = omega (arith, c.requires.first);
      room = omega (arith, c.requires.room);
      due = ap (λ h. due_by (last_entry h)) begins;
      stands = subst (g.C.DeskCore.stands c.args.core.now) begins c.requires.start;
      counts = subst (Counts c.new-tally.result) (ap opened c.requires.opening ∙ begins) c.new-tally.ensures;
    }

pub loop-stated-preserved : goal.loop-stated-preserved
loop-stated-preserved g c =
    let was = c.loop-stated.invariant in
    let some = c.in-Some.ensures.some in
    let e = c.loop-stated.day.edition in
    let n = c.loop-stated.day.number in
    let k = c.loop-stated.day.given in
    let h = generated_day e n k in
    let law = c.a_generated_day_grows.ensures in
    let answer = c.answer-entry.ensures.answer h was.stands ∙ ap (next h 0) some.1 in
    let at : generated_day e n (k + 1) ≡ generated_day c.next.new.self.edition c.next.new.self.number c.next.new.self.given =
    ap (λ day. generated_day day.edition day.number day.given) (sym some.2) in
    let later = ap (with_entry h) answer ∙ sym (law.grows e n k) ∙ at in
    record {
      edition = ap (λ day. day.edition) some.2 ∙ was.edition;
      number = ap (λ day. day.number) some.2 ∙ was.number;
      commands = ap (λ day. day.commands) some.2 ∙ was.commands;
      few = omega (arith, some.0, ap (λ day. day.given) some.2, ap (λ day. day.commands) some.2);
      room = omega (arith, was.room, c.answer-entry.ensures.room, ap (λ day. day.given) some.2, ap (λ day. day.commands) some.2);
      due = c.after-due.ensures ∙ ap due_by (ap Some answer ∙ sym (law.last e n k) ∙ ap last_entry at);
      stands = subst (g.C.DeskCore.stands c.answer-entry.new.self) later (c.answer-entry.ensures.stands h was.stands);
      counts = subst (Counts c.count.new.self) later (c.count.ensures h (omega (arith, law.entries e n k, some.0, was.commands, c.requires.few)) was.counts);
    }
