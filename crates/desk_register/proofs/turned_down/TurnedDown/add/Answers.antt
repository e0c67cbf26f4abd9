use Rattle.std.proofs.Common.{◌<◌, ◌/◌, ◌%◌, length, slice_set, slice_index_or, ap, ◌∙◌, subst}
use Rattle.std.proofs.lemmas.List.{get_or_default}
use Rattle.desk_register.specs.TurnedDown.{turned_in}
use Rattle.desk_register.proofs.WordLemmas.{with_bit, turned-inserted}
use Rattle.desk_register.proofs.turned_down.TurnedDown.add.Goals as goal

pub returns : goal.returns
returns c i j =
    let words = c.reach.new.self.words.items in
    let bit = c.bit_of-bit.result in
    let is = c.bit_of-bit.ensures.value in
    let within = c.reach.ensures.reached in
    ap (λ w. turned_in (slice_set words (bit / 64) (with_bit w (bit % 64))) i j) (c.index-word.ensures ∙ get_or_default words (bit / 64) _ 0 within)
    ∙ ap (λ b. turned_in (slice_set words (b / 64) (with_bit (slice_index_or words (b / 64) 0) (b % 64))) i j) is
    ∙ turned-inserted words c.args.self.now.words.items c.args.person c.args.vacancy c.bit_of-bit.ensures.few (subst (λ b. b / 64 < length words) is within) c.reach.ensures.same i j
