use Rattle.std.proofs.Common.{◌≤◌, ◌∙◌, sym, length, refl, []}
use Rattle.std.proofs.lemmas.Bool.{not-false}
use Rattle.std.proofs.lemmas.Bool.Decides.{Decides-eqb}
use Rattle.std.proofs.lemmas.Option.{IfSome_then}
use Rattle.std.proofs.lemmas.Slice.Eq.{slice_eq-Decides}
use Rattle.command_parser.proofs.OpeningLemmas.{opening_fields-spelled}
use Rattle.command_parser.proofs.opening_record.opening_of.Goals as goal

pub returns-clause-some : goal.returns-clause-some
returns-clause-some c =
    let fields = c.args.fields.now in
    let len : 5 ≤ length fields = c.in-len5-up.len_at_least in
    let is_word = (slice_eq-Decides Decides-eqb _ _ _ refl).0 (not-false _ (sym c.ne.ensures ∙ c.if-ne.false)) ∙ c.as_slice.ensures in
    IfSome_then c.spelled_opening.result c.spelled_opening.ensures.some (λ opening spells. record {
      valid = spells.valid;
      fields_are = opening_fields-spelled fields (record { ref_ptr = (0, 0); now = [] }) c.in_ok-edition_of.field-0 opening len is_word c.in_ok-edition_of.ensures.some spells;
    })
