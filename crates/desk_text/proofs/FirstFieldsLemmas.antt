-- The first fields of a record.
use Rattle.std.proofs.Common.{◌≡◌, ◌∙◌, ℕ, ◌<◌, List, length, take, sym, ap, arith}
use Rattle.std.proofs.lemmas.List.{take_all, length-take}

-- where less than 12 fields are the first 12 of a record, these are all
pub take-short : (fields front : List (List ℕ)) → take 12 fields ≡ front → length front < 12 → fields ≡ front
take-short fields front same short = sym (take_all 12 fields (omega (arith, short, ap length same, length-take 12 fields))) ∙ same
