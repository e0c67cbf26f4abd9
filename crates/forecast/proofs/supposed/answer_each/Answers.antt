use Rattle.std.proofs.Common.{◌∙◌, [], ◌∷◌, ap, sym, subst, arith, map, length, length-append}
use Rattle.std.proofs.lemmas.List.{take_all}
use Rattle.desk_model.specs.histories.Legal.{given}
use Rattle.forecast.specs.Supposed.{by_nobody, with_entries}
use Rattle.forecast.proofs.SupposedLemmas.{with_entries-none, with_entries-more, stated-more}
use Rattle.forecast.proofs.supposed.answer_each.Goals as goal

pub loop-stated-init : goal.loop-stated-init
loop-stated-init g c = record {
  room = omega arith;
  left = omega (arith, c.requires.room);
  memory = c.requires.memory;
  many = ap length c.requires.new;
  stands = λ h stands. subst (g.C.DeskCore.stands c.args.core.now) (with_entries-none h ∙ ap (with_entries h) (sym c.requires.new)) stands;
  stated = λ h stands. ap (map given) c.requires.new;
}

pub loop-stated-preserved : goal.loop-stated-preserved
loop-stated-preserved g c =
    let before = c.loop-stated.invariant in
    let es = c.loop-stated.entries.items in
    record {
      room = omega (arith, c.step.ensures.room, before.room);
      left = omega (arith, c.step.ensures.room, before.left);
      memory = omega (arith, before.memory, c.push_reserved.ensures.capacity);
      many = omega (arith, before.many, ap length c.push_reserved.ensures.items, length-append es (c.step.result ∷ []));
      stands = λ h stands.
          subst (g.C.DeskCore.stands c.step.new.self) (with_entries-more h es c.step.result ∙ ap (with_entries h) (sym c.push_reserved.ensures.items))
          (c.step.ensures.stands _ (before.stands h stands));
      stated = λ h stands.
          ap (map given) c.push_reserved.ensures.items
          ∙ stated-more (with_entries h es) c.args.commands.now c.loop-stated.stated-index c.stated-item.result es c.step.result
          c.loop-stated-test.true c.stated-item.is (c.step.ensures.answer _ (before.stands h stands)) (before.stated h stands);
    }

pub returns-clause-entries : goal.returns-clause-entries
returns-clause-entries g c h stands =
    let so = c.loop-stated.invariant in
    let all = take_all c.loop-stated.stated-index c.args.commands.now (omega (arith, c.loop-stated-test.false)) in
    record {
      legal = g.met.C.DeskCore.legal c.loop-stated.core _ (so.stands h stands);
      stated = so.stated h stands ∙ ap (map by_nobody) all;
    }
