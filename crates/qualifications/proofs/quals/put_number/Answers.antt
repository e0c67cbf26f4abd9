use Rattle.std.proofs.Common.{◌≤◌, ◌<◌, ℕ, length, decimal, ap, arith}
use Rattle.arrayvec.specs.ArrayVec.{array_vec_len}
use Rattle.std.proofs.lemmas.Fmt.{length-decimal-le}
use Rattle.qualifications.proofs.quals.put_number.Goals as goal
use Rattle.qualifications.proofs.quals.put_number.Goals.{then-not-is_empty, else-not-is_empty}

digits : (n : ℕ) → n < 64 → length (decimal n) ≤ 2
digits n h = length-decimal-le 2 n (omega arith) (omega arith) (omega arith)

pub unwrap-requires : goal.unwrap-requires
unwrap-requires c =
    let extended = rw (c.as_bytes.ensures.value, c.format.ensures.text) at c.try_extend_from_slice.ensures.variant in
    let short = digits c.args.number c.requires.number in
    elim c.if-not-is_empty.branch [
      | then-not-is_empty w ↦ extended.1 (omega (arith, short, w.push.ensures.len, ap array_vec_len w.text-is, c.requires.room))
      | else-not-is_empty w ↦ extended.1 (omega (arith, short, ap array_vec_len w.text-is, c.requires.room))
    ]

pub returns-clause-len : goal.returns-clause-len
returns-clause-len c =
    let extended = rw (c.as_bytes.ensures.value, c.format.ensures.text, c.unwrap.ensures) at c.try_extend_from_slice.ensures.len in
    let short = digits c.args.number c.requires.number in
    elim c.if-not-is_empty.branch [
      | then-not-is_empty w ↦ omega (arith, extended, short, w.push.ensures.len, ap array_vec_len w.text-is)
      | else-not-is_empty w ↦ omega (arith, extended, short, ap array_vec_len w.text-is)
    ]
