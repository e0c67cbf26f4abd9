-- What a taking from a source comes to, after those before it.
use Rattle.std.proofs.Common.{ℕ, ◌+◌, ◌<◌, ◌≤◌, List, ◌++◌, length, take, arith, length-append}
use Rattle.std.proofs.lemmas.List.{length-take}
use Rattle.std.specs.declared.option.Option.{Option}
use Rattle.std.specs.Io.KnownBytes.{Consumes}
use Rattle.std.proofs.KnownBytes.{Consumes-trans}
use Rattle.desk_io.specs.Input.{TookMore, TookFront}

-- with the next bytes, so many at most came from the front
pub TookFront-more : (a b c : Option (List ℕ)) (bytes piece : List ℕ) (count most : ℕ)
    → Consumes a b bytes → Consumes b c (take count piece)
    → length bytes + count ≤ most → TookFront a c most
TookFront-more a b c bytes piece count most before next fits = record {
  bytes = bytes ++ take count piece;
  taken = Consumes-trans a b c bytes (take count piece) before next;
  within = omega (arith, length-append bytes (take count piece), length-take count piece);
}

-- with the next bytes, one byte more than the limit came
pub TookMore-more : (a b c : Option (List ℕ)) (bytes piece : List ℕ) (count limit : ℕ)
    → Consumes a b bytes → Consumes b c (take count piece)
    → count ≤ length piece → limit < length bytes + count → length bytes + count ≤ limit + 1 → TookMore a c limit
TookMore-more a b c bytes piece count limit before next whole more most = record {
  bytes = bytes ++ take count piece;
  taken = Consumes-trans a b c bytes (take count piece) before next;
  more = omega (arith, length-append bytes (take count piece), length-take count piece);
  most = omega (arith, length-append bytes (take count piece), length-take count piece);
}
