use Rattle.std.specs.Prelude.{ℕ, zero, suc, Ok, Err}
use Rattle.std.specs.declared.result.Result.{Result}
use Rattle.desk_io.specs.Faults.{one_more}

-- the count of errors after an answer
abbrev pub errors_after : {A E : Type 0} → Result A E → ℕ → ℕ
errors_after (Ok value) errors = errors
errors_after (Err error) errors = one_more errors

-- the same after the count of bytes that a writer took of so many: to take none of some is an error too
abbrev pub errors_of_count : ℕ → ℕ → ℕ → ℕ
errors_of_count zero (suc len) errors = one_more errors
errors_of_count zero zero errors = errors
errors_of_count (suc count) len errors = errors

-- and after a writer's answer to a piece of so many bytes
abbrev pub errors_written : {E : Type 0} → Result ℕ E → ℕ → ℕ → ℕ
errors_written (Ok count) len errors = errors_of_count count len errors
errors_written (Err error) len errors = one_more errors
