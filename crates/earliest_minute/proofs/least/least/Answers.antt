use Rattle.std.proofs.Common.{◌≤◌, ◌+◌, ℕ, arith}
use Rattle.desk_model.specs.histories.History.{History}
use Rattle.desk_model.specs.statements.Job.{JobValue}
use Rattle.desk_model.specs.declared.person.Person.{Person}
use Rattle.desk_model.specs.histories.Legal.{IsLegal}
use Rattle.earliest_minute.specs.Least.{StaysGone, IsBetween, IsLeast}
use Rattle.earliest_minute.proofs.least.least.Goals as goal

-- where no minute is between, the one at which nothing bars the person is the first
least-is : StaysGone → (h : History) (job : JobValue) (p : ℕ) (person : Person) (barred clear : ℕ) → IsLegal h → IsBetween h job p person barred clear → clear ≤ barred + 1
    → IsLeast h job p person clear
least-is stays h job p person barred clear legal between next = record {
  from = between.clear_asked.from;
  to = between.clear_asked.to;
  clear = between.gone;
  before = λ m late below none. between.bars (stays h job p person m barred legal late (omega (arith, below, next)) none);
}

pub returns-clause-answer : goal.returns-clause-answer
returns-clause-answer g c h tells between is =
    least-is c.a_bar_that_is_gone_stays_gone.ensures h c.args.job.now c.args.number c.args.person.now c.loop-minute.barred c.loop-minute.clear
    (g.R.Reads.legal c.args.reads.now h tells) (c.loop-minute.invariant.sought h tells between) c.in_default.ensures.none
