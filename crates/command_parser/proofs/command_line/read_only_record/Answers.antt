use Rattle.std.proofs.Common.{◌∙◌, ◌∷◌, length, inl, inr, refl, ap, arith}
use Rattle.record_rows.specs.Rows.{row_fields}
use Rattle.command_parser.proofs.command_line.read_only_record.Goals as goal

pub returns-then-not-branch-clause-fail : goal.returns-then-not-branch-clause-fail
returns-then-not-branch-clause-fail c = λ told.
    let none = rw c.if-not-branch.true at (c.in_ok-next.ensures.first _ c.of-rows.ensures) in
    inl (λ one. omega (arith, one, ap length none), refl)

pub returns-then-branch-clause-fail : goal.returns-then-branch-clause-fail
returns-then-branch-clause-fail c = λ told.
    let first = rw c.if-not-branch.false at (c.in_ok-next.ensures.first _ c.of-rows.ensures) in
    let second = rw c.if-branch.true at (c.in_ok-next-2.ensures.first _ first.behind) in
    inl (λ one. omega (arith, one, ap length first.parts, ap length second.parts), refl)

pub returns-in-Ok-clause-some : goal.returns-in-Ok-clause-some
returns-in-Ok-clause-some c =
    let first = rw c.if-not-branch.false at (c.in_ok-next.ensures.first _ c.of-rows.ensures) in
    let none = rw c.if-branch.false at (c.in_ok-next-2.ensures.first _ first.behind) in
    record {
      fields = row_fields c.next.new.row;
      one = first.parts ∙ ap (λ rest. row_fields c.next.new.row ∷ rest) none;
      states = c.in-Ok.ensures.some;
    }

pub returns-clause-fail : goal.returns-clause-fail
returns-clause-fail c = λ told.
    let first = rw c.if-not-branch.false at (c.in_ok-next.ensures.first _ c.of-rows.ensures) in
    let none = rw c.if-branch.false at (c.in_ok-next-2.ensures.first _ first.behind) in
    inr record {
      fields = row_fields c.next.new.row;
      one = first.parts ∙ ap (λ rest. row_fields c.next.new.row ∷ rest) none;
      wrong = λ s states. let is = c.in-Err.ensures.only s states in cc;
      field_is = c.in-Err.ensures.wrong;
    }
