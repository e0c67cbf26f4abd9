use Rattle.std.proofs.Common.{ap, ◌∙◌}
use Rattle.desk_state.specs.Words.{is_in}
use Rattle.desk_state.proofs.BitLemmas.{no-words}
use Rattle.desk_state.proofs.listings.Listings.new.Goals as goal

pub returns-clause-empty : goal.returns-clause-empty
returns-clause-empty c i j = ap (λ ws. is_in ws i j) (c.in_ok-vec.ensures.items_if_clones_equal (λ y is. is)) ∙ no-words 1000 i j
