use Rattle.consecutive_days.proofs.DaysLemmas.{days_ok-is}
use Rattle.consecutive_days.proofs.days.are_days_ok.Goals as goal

pub returns-clause-events : goal.returns-clause-events
returns-clause-events c es home run away tells =
    rw (c.is_enough.ensures, c.need.ensures, c.is_seventh_from_away-seventh.ensures, c.is_day_after.ensures, away)
    (days_ok-is es home c.args.report c.args.run.now.days c.args.run.now.last c.args.longest run.days run.last tells)
