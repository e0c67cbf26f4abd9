use Rattle.std.proofs.Common.{◌∙◌, ◌++◌, ◌∷◌, [], ap, sym, codes, decimal}
use Rattle.std.proofs.lemmas.Option.{IfSome_then}
use Rattle.desk_base.specs.Minute.{minute_text}
use Rattle.desk_base.specs.Month.{month_text}
use Rattle.desk_model.specs.statements.Opening.{edition_fields, opening_fields}
use Rattle.desk_text.proofs.LineLemmas.{opening_inner}
use Rattle.command_parser.proofs.OpeningLemmas.{few_opening, opening_line-fields}
use Rattle.desk_text.proofs.SpelledEntryLemmas.{text-of-fields, fields-of-text, before-line_feed}
use Rattle.desk_text.proofs.journal_opening.read_opening.Goals as goal

pub returns-in_err-before-clause-only : goal.returns-in_err-before-clause-only
returns-in_err-before-clause-only c = λ o is. absurd (c.in_err-before.ensures.none _ (is.line_is ∙ opening_line-fields o))

pub returns-clause-some : goal.returns-clause-some
returns-clause-some c =
    let front = c.as_slice.ensures ∙ c.fill_with_line.ensures in
    IfSome_then c.opening_of.result c.opening_of.ensures.some (λ o fields. record {
      valid = fields.valid;
      line_is = c.in_ok-before.ensures.some ∙ ap (λ t. t ++ 10 ∷ []) (text-of-fields _ _ (opening_fields o) front fields.fields_are (few_opening o)) ∙ sym (opening_line-fields o);
    })

pub returns-clause-only : goal.returns-clause-only
returns-clause-only c = λ o is.
    let front = c.as_slice.ensures ∙ c.fill_with_line.ensures in
    let text = before-line_feed _ _ _ c.in_ok-before.ensures.some (is.line_is ∙ opening_line-fields o) in
    c.opening_of.ensures.only o record {
      valid = is.valid;
      fields_are = fields-of-text _ _ (minute_text o.start) (codes "open" ∷ month_text o.window.first ∷ decimal o.window.months ∷ decimal o.answer ∷ edition_fields o.edition) (opening_inner o is.valid) front text (few_opening o);
    }
