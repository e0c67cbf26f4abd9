use Rattle.std.proofs.Common.{◌≡◌, ◌<◌, refl, sym, ap, subst, ◌∙◌, arith}
use Rattle.std.specs.Option.{option_or}
use Rattle.desk_model.specs.statements.Fits.{IsStated}
use Rattle.desk_model.specs.statements.Statement.{stated_of}
use Rattle.day_gen.specs.Due.{plans}
use Rattle.day_gen.proofs.NextLemmas.{most_few, day-room, turn-is, due-is, stated-is, kept-on}
use Rattle.day_gen.proofs.day_gen.DayGen.next.Goals as goal

pub turn-cmd-requires : goal.turn-cmd-requires
turn-cmd-requires c =
    let below : c.self.inside.given < 20_000 =
    omega (arith, c.self.invariant.given, c.self.invariant.most, most_few c.self.inside.edition, c.if-self.false) in
    rw c.self.invariant.course (day-room c.self.inside.edition c.self.inside.number c.self.inside.given below)

pub unwrap-requires : goal.unwrap-requires
unwrap-requires c =
    let g = c.self.inside in
    let below : g.given < 20_000 = omega (arith, c.self.invariant.given, c.self.invariant.most, most_few g.edition, c.if-self.false) in
    let turn = turn-is g c.args.due c.self.invariant (due-is g c.args.self.now c.args.due c.self.view_is c.requires) in
    let stated = stated-is g.edition g.number g.given _ c.turn-cmd.new.self c.turn-cmd.result turn c.turn-cmd.ensures.course c.turn-cmd.ensures.cmd in
    let fits : IsStated (stated_of c.turn-cmd.new.self.minute c.turn-cmd.result) =
    subst IsStated (sym stated) (c.a_generated_day_is_legal.ensures.stated g.edition g.number g.given below) in
    grind (arith, fits, c.new.ensures)

pub invariant_of-self : goal.invariant_of-self
invariant_of-self c =
    let g = c.self.inside in
    let turn = turn-is g c.args.due c.self.invariant (due-is g c.args.self.now c.args.due c.self.view_is c.requires) in
    kept-on g c.turn-cmd.new.self c.keep_planned.new.job c.self.invariant (omega (arith, c.self.invariant.given, c.if-self.false))
    (c.turn-cmd.ensures.course ∙ ap (λ t. t.course) turn)
    (c.keep_planned.ensures ∙ ap (λ cmd. option_or (plans cmd) g.job) (c.turn-cmd.ensures.cmd ∙ ap (λ t. t.cmd) turn))

pub returns-clause-some : goal.returns-clause-some
returns-clause-some c =
    let g = c.self.inside in
    let turn = turn-is g c.args.due c.self.invariant (due-is g c.args.self.now c.args.due c.self.view_is c.requires) in
    let stated = stated-is g.edition g.number g.given _ c.turn-cmd.new.self c.turn-cmd.result turn c.turn-cmd.ensures.course c.turn-cmd.ensures.cmd in
    let same : c.unwrap.result ≡ stated_of c.turn-cmd.new.self.minute c.turn-cmd.result = grind (arith, c.unwrap.ensures, c.new.ensures) in
    rw (← c.self.view_is) (omega (arith, c.self.invariant.given, c.if-self.false), same ∙ stated, refl)
