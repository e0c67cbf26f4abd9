use Rattle.std.proofs.Common.{◌≡◌, ◌<◌, ◌+◌, ◌^◌, ◌++◌, ℕ, Option, Some, None, List, length, Bor, map, decimal}
use Rattle.std.specs.Option.{option_copied}
use Rattle.desk_base.specs.Parts.{parts_by, parts_after}
use Rattle.qualifications.specs.Quals.{numbers_below, quals_text}
use Rattle.qualifications.proofs.NumbersLemmas.{IsLeft}
use Rattle.qualifications.proofs.quals.bits_of.Given as goal

-- the bytes that are left, and one more where a part is left
abbrev pub left : Option (Bor (List ℕ)) → ℕ
left None = 0
left (Some bytes) = length bytes.now + 1

-- the parts are the numbers that were read and what is left, and where the whole text is that of a set, these are its numbers
abbrev pub invariant-loop-rest : goal.invariant-loop-rest
invariant-loop-rest l = record {
  parts : parts_by 43 l.fn.text ≡ map decimal (numbers_below l.bits 64) ++ parts_after 43 (option_copied l.rest);
  lacked : (quals : ℕ) → quals < 2 ^ 64 → l.fn.text ≡ quals_text quals → IsLeft quals l.bits (parts_after 43 (option_copied l.rest));
}

abbrev pub decreases-loop-rest : goal.decreases-loop-rest
decreases-loop-rest l = left l.rest
