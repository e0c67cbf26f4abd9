use Rattle.std.proofs.Common.{◌≡◌, ◌∙◌, ℕ, List, [], ◌∷◌, length, get_or, codes, IfSome, Bor, sym, ap, subst, arith}
use Rattle.std.proofs.lemmas.Bool.Decides.{Decides-eqb}
use Rattle.std.proofs.lemmas.Slice.Eq.{slice_eq-Decides}
use Rattle.command_parser.specs.Spelled.{SpellsEvent}
use Rattle.command_parser.proofs.SpelledLemmas.{four}
use Rattle.command_parser.proofs.spelled_event.read_event.Goals as goal

pub returns-then-eq-clause-some : goal.returns-then-eq-clause-some
returns-then-eq-clause-some c =
    let d : Bor (List ℕ) = record { ref_ptr = (0, 0); now = [] } in
    let fields = c.args.fields.now in
    let len : length fields ≡ 4 = omega (arith, c.in-len4.len_at_least, c.in-len4.len_below) in
    let word : (get_or fields 0 d).now ≡ codes "interim" = (slice_eq-Decides Decides-eqb _ _ _ c.eq.ensures).0 c.if-eq.true ∙ c.as_slice.ensures in
    let rest : List (List ℕ) = (get_or fields 1 d).now ∷ (get_or fields 2 d).now ∷ (get_or fields 3 d).now ∷ [] in
    subst (λ all. IfSome c.read_interim.result (SpellsEvent all)) (sym (four fields d len ∙ ap (λ w. w ∷ rest) word)) c.read_interim.ensures.some
