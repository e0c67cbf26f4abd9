use Rattle.std.proofs.Common.{◌≡◌, ℕ, ◌||◌, false, take, refl, sym, ap, ◌∙◌}
use Rattle.std.proofs.lemmas.List.{take_all}
use Rattle.desk_model.specs.statements.Opening.{OpeningValue}
use Rattle.desk_model.specs.histories.History.{history_of, opened, steps}
use Rattle.desk_model.specs.offers.Assigned.{assigned}
use Rattle.desk_model.specs.laws.Comes.{assigned_after}
use Rattle.desk_model.specs.offers.TurnedDown.{has_turned_down}
use Rattle.desk_model.proofs.ComesLemmas.{comes}
use Rattle.plain_core.proofs.PrefixLemmas.{one_more}
use Rattle.plain_core.proofs.turned_down.has_turned_down.Goals as goal

turned-opened : (o : OpeningValue) (v p : ℕ) → false ≡ has_turned_down (opened o) v p
unfolding steps
turned-opened o v p = refl

pub loop-entry-init : goal.loop-entry-init
loop-entry-init c = record { assigned = λ o. refl; turned_down = λ o. turned-opened o c.args.vac c.args.person }

pub loop-entry-preserved : goal.loop-entry-preserved
loop-entry-preserved c =
    let es = c.args.entries.now in
    let i = c.loop-entry.entry-index in
    let e = c.entry-item.result in
    let v = c.args.vac in
    let p = c.args.person in
    record {
      assigned = λ o. c.assigned_after-assigned.ensures
          ∙ ap (assigned_after p e) (c.loop-entry.invariant.assigned o)
          ∙ sym ((comes (history_of o (take i es)) e).assigned p)
          ∙ ap (λ h. assigned h p) (one_more o es i e c.loop-entry-test.true c.entry-item.is);
      turned_down = λ o. ap (λ was. was || c.turns_down-turned_down.result) (c.loop-entry.invariant.turned_down o)
          ∙ ap (λ now. has_turned_down (history_of o (take i es)) v p || now) (c.turns_down-turned_down.ensures (history_of o (take i es)) (c.loop-entry.invariant.assigned o))
          ∙ sym ((comes (history_of o (take i es)) e).turned_down v p)
          ∙ ap (λ h. has_turned_down h v p) (one_more o es i e c.loop-entry-test.true c.entry-item.is);
    }

pub returns : goal.returns
returns c o =
    c.loop-entry.invariant.turned_down o ∙ ap (λ es. has_turned_down (history_of o es) c.args.vac c.args.person) (take_all c.loop-entry.entry-index c.args.entries.now c.loop-entry-test.false)
