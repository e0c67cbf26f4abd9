use Rattle.std.proofs.Common.{◌≡◌, ◌-◌, ◌/◌, ◌%◌, ◌≤◌, nat_eq, Some, sym, ap, ◌∙◌, arith}
use Rattle.day_gen.specs.SetUp.{join_command}
use Rattle.day_gen.proofs.SetUpLemmas.{set_up-at, command_at-join}
use Rattle.day_gen.proofs.set_up.set_up_command.Goals as goal

pub returns-in-0 : goal.returns-in-0
returns-in-0 c = rw c.in-0.is (set_up-at 0 (omega arith) ∙ grind (arith, c.set_up_board.ensures, c.pool_of.ensures))

pub returns-in-1 : goal.returns-in-1
returns-in-1 c = rw c.in-1.is (set_up-at 1 (omega arith) ∙ grind (arith, c.set_up_board-in-1.ensures, c.pool_of-in-1.ensures))

pub returns-in-2 : goal.returns-in-2
returns-in-2 c = rw c.in-2.is (set_up-at 2 (omega arith) ∙ grind (arith, c.set_up_board-in-2.ensures, c.extra_of.ensures))

pub returns-in-3 : goal.returns-in-3
returns-in-3 c = rw c.in-3.is (set_up-at 3 (omega arith) ∙ grind (arith, c.set_up_board-in-3.ensures, c.extra_of-in-3.ensures))

pub returns-in_default : goal.returns-in_default
returns-in_default c =
    let far : 4 ≤ c.args.place = search arith in
    let person : c.unwrap.result ≡ c.args.place / 2 - 1 = grind (arith, c.new.ensures, c.unwrap.ensures) in
    set_up-at c.args.place c.requires
    ∙ ap Some (command_at-join c.args.place far ∙ ap (λ p. join_command p (nat_eq (c.args.place % 2) 0)) (sym person) ∙ sym c.join.ensures)
