use Rattle.std.proofs.Common.{◌≡◌, ◌≤◌, ◌+◌, ◌++◌, drop, vec_len, vec_capacity}
use Rattle.std.specs.Vec.Iter.{into_iter_items, into_iter_len}
use Rattle.crewdesk_main.proofs.words.behind_the_name.Given as goal

-- the words so far and those to come are all behind the name
abbrev pub invariant-loop-word : goal.invariant-loop-word
invariant-loop-word l = record {
  copied : l.words.items ++ into_iter_items l.given ≡ drop 1 (into_iter_items l.fn.given);
  room : vec_len l.words + into_iter_len l.given ≤ vec_capacity l.words;
}

abbrev pub decreases-loop-word : goal.decreases-loop-word
decreases-loop-word l = into_iter_len l.given
