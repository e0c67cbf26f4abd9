-- Numbers of persons and vacancies.
use Rattle.std.specs.Prelude.{ℕ, ◌≤◌}
use Rattle.desk_base.specs.declared.limits.TheConstants.{NUMBER_LIMIT}

-- 1 to 9,999,999
abbrev pub IsNumber : ℕ → Type 0
IsNumber n = (1 ≤ n) × (n ≤ NUMBER_LIMIT)
