use Rattle.std.proofs.Common.{◌≡◌, ◌∙◌, length, arith, []}
use Rattle.std.proofs.lemmas.Bool.Decides.{Decides-eqb}
use Rattle.std.proofs.lemmas.Slice.Eq.{slice_eq-Decides}
use Rattle.command_parser.proofs.OpeningLemmas.{single}
use Rattle.command_parser.proofs.opening_record.edition_of.Goals as goal

pub returns-then-eq-clause-some : goal.returns-then-eq-clause-some
returns-then-eq-clause-some c =
    let len : length c.args.fields.now ≡ 1 = omega (arith, c.in-len1.len_at_least, c.in-len1.len_below) in
    single c.args.fields.now (record { ref_ptr = (0, 0); now = [] }) _ len ((slice_eq-Decides Decides-eqb _ _ _ c.eq.ensures).0 c.if-eq.true ∙ c.as_slice.ensures)
