-- What is drawn.
use Rattle.std.proofs.Common.{ℕ, ◌<◌, ◌/◌, ◌^◌}
use Rattle.std.proofs.lemmas.Nat.{mod_below}
use Rattle.day_gen.specs.declared.course.Course.{Course}
use Rattle.day_gen.specs.Draws.{drawn}

pub drawn-below : (c : Course) (k : ℕ) → 0 < k → drawn c k < k
unfolding drawn
drawn-below c k some = mod_below (c.number / 2 ^ 33) k some
