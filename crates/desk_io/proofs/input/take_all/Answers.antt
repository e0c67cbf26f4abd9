use Rattle.std.proofs.Common.{ℕ, ◌+◌, ◌≤◌, length, arith}
use Rattle.std.proofs.lemmas.List.{length-take}
use Rattle.desk_io.proofs.Took.{TookFront-more, TookMore-more}
use Rattle.desk_io.proofs.input.take_all.Goals as goal

pub returns-then-spare-count-clause-too_long : goal.returns-then-spare-count-clause-too_long
returns-then-spare-count-clause-too_long g c =
    let asked : length c.loop-count.bytes.items + c.in-Got.count ≤ c.args.limit + 1 =
    omega (arith, c.loop-count.bytes.ok.0, c.in-Got.ensures.piece.most, c.read.auto.into, length-take {A = ℕ}) in
    λ _. TookMore-more _ _ _ _ _ _ _ c.loop-count.invariant.given c.in-Got.ensures.moves
    c.in-Got.ensures.piece.most (omega (arith, c.loop-count.bytes.ok.0)) asked

pub returns-then-spare-count-clause-given : goal.returns-then-spare-count-clause-given
returns-then-spare-count-clause-given g c =
    TookFront-more _ _ _ _ _ _ _ c.loop-count.invariant.given c.in-Got.ensures.moves
    (omega (arith, c.loop-count.bytes.ok.0, c.in-Got.ensures.piece.most, c.read.auto.into, length-take {A = ℕ}))

pub returns-in_err-extend_from_slice-in-Got-clause-not_too_long :
    goal.returns-in_err-extend_from_slice-in-Got-clause-not_too_long
returns-in_err-extend_from_slice-in-Got-clause-not_too_long g c =
    λ _. TookFront-more _ _ _ _ _ _ _ c.loop-count.invariant.given c.in-Got.ensures.moves
    (omega (arith, c.loop-count.bytes.ok.0))

pub returns-in_err-extend_from_slice-in-Got-clause-given :
    goal.returns-in_err-extend_from_slice-in-Got-clause-given
returns-in_err-extend_from_slice-in-Got-clause-given g c =
    TookFront-more _ _ _ _ _ _ _ c.loop-count.invariant.given c.in-Got.ensures.moves
    (omega (arith, c.loop-count.bytes.ok.0))
