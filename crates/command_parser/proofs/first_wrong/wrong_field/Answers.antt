use Rattle.std.proofs.Common.{◌≡◌, length, arith, sym}
use Rattle.std.proofs.lemmas.Grind.{common_steps}
use Rattle.command_parser.specs.RecordForms.{record_forms}
use Rattle.command_parser.proofs.FormLemmas.{length-rows, begins-short, tried-none, tried-next, tried-all}
use Rattle.command_parser.proofs.first_wrong.wrong_field.Goals as goal

pub loop-forms-init : goal.loop-forms-init
loop-forms-init c = tried-none _

pub loop-forms-preserved : goal.loop-forms-preserved
loop-forms-preserved c =
    let rows = length-rows c.record_rows-forms-items.result.now c.record_rows-forms-items.ensures in
    tried-next c.record_rows-forms-items.result.now c.loop-forms.forms-index _ _ c.loop-forms.most c.allowed_front.result c.max-most.result
    c.record_rows-forms-items.ensures (omega (arith, rows, c.loop-forms-test.true)) c.allowed_front.ensures.some c.allowed_front.ensures.most
    (grind (arith, common_steps, c.max-most.ensures)) (grind (arith, common_steps, c.max-most.ensures))
    (λ less. grind (arith, common_steps, less, c.max-most.ensures)) (λ no_less. grind (arith, common_steps, no_less, c.max-most.ensures))
    c.loop-forms.invariant

pub returns : goal.returns
returns c =
    let rows = length-rows c.record_rows-forms-items.result.now c.record_rows-forms-items.ensures in
    let all : c.loop-forms.forms-index ≡ length record_forms = omega (arith, rows, c.loop-forms.auto.forms-index-end, c.loop-forms-test.false) in
    tried-all _ c.loop-forms.most (rw (sym all) c.loop-forms.invariant)

pub overflow_cast-result : goal.overflow_cast-result
overflow_cast-result c = omega (arith, begins-short _ c.loop-forms.most c.loop-forms.invariant.begins)

pub overflow_add-result : goal.overflow_add-result
overflow_add-result c = omega (arith, begins-short _ c.loop-forms.most c.loop-forms.invariant.begins)
