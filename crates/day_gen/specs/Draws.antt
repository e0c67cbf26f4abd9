-- How a generator draws numbers. All of this is the desk's own rule.
use Rattle.std.specs.Prelude.{ℕ, ◌+◌, ◌*◌, ◌/◌, ◌%◌, ◌^◌}
use Rattle.day_gen.specs.declared.numbers.TheConstants.{MULTIPLIER, INCREMENT}
use Rattle.day_gen.specs.declared.course.Course.{Course}

-- the number that comes after this one
unfoldable pub next_number : ℕ → ℕ
next_number number = (number * MULTIPLIER + INCREMENT) % 2 ^ 64

-- a course whose number has moved on
abbrev pub moved : Course → Course
moved c = record c { number = next_number c.number }

-- what its number, which has moved for it, draws of 0 to k - 1
unfoldable pub drawn : Course → ℕ → ℕ
drawn c k = (c.number / 2 ^ 33) % k
