use Rattle.std.proofs.Common.{◌≡◌, ℕ, max, unwrap_or, take, refl, sym, ap, ◌∙◌, arith}
use Rattle.std.proofs.lemmas.List.{take_all}
use Rattle.desk_model.specs.statements.Opening.{OpeningValue}
use Rattle.desk_model.specs.histories.History.{history_of, opened, steps, said}
use Rattle.desk_model.specs.offers.Held.{hold_told, hold_end}
use Rattle.desk_model.proofs.ComesLemmas.{comes}
use Rattle.plain_core.proofs.PrefixLemmas.{one_more}
use Rattle.plain_core.proofs.held.hold_end.Goals as goal
use Rattle.plain_core.proofs.held.hold_end.Goals.{then-until-end, else-until-end}

hold_end-opened : (o : OpeningValue) (codes : _) (p : ℕ) → 0 ≡ hold_end (opened o) codes p
unfolding hold_end steps
hold_end-opened o codes p = refl

pub loop-i-init : goal.loop-i-init
loop-i-init c o = hold_end-opened o c.args.boards.now c.args.person

pub loop-i-preserved : goal.loop-i-preserved
loop-i-preserved c o =
    let es = c.args.entries.now in
    let i = c.loop-i.i in
    let e = c.index-entries-i.result in
    let codes = c.args.boards.now in
    let p = c.args.person in
    let until : c.unwrap_or-until.result ≡ unwrap_or c.hold_told.result 0 = c.unwrap_or-until.ensures in
    let later : c.if-until-end.end ≡ max c.loop-i.end c.unwrap_or-until.result = elim c.if-until-end.branch [
      | then-until-end w ↦ omega (arith, w.end-is, w.if-until-end.true)
      | else-until-end w ↦ omega (arith, w.end-is, w.if-until-end.false)
    ] in
    later ∙ ap (max c.loop-i.end) (until ∙ ap (λ told. unwrap_or told 0) (c.hold_told.ensures o))
    ∙ ap (λ end. max end (unwrap_or (said (hold_told codes p (history_of o (take i es)) e.moment) e) 0)) (c.loop-i.invariant o)
    ∙ sym ((comes (history_of o (take i es)) e).hold_end codes p)
    ∙ ap (λ h. hold_end h codes p) (one_more o es i e c.loop-i-test.true c.index-entries-i.is)

pub returns : goal.returns
returns c o = c.loop-i.invariant o ∙ ap (λ es. hold_end (history_of o es) c.args.boards.now c.args.person) (take_all c.loop-i.i c.args.entries.now c.loop-i-test.false)
