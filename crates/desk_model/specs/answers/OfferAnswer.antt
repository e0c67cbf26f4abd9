-- `offer`, of a vacancy to a person whom the caller names: the answers in order.
use Rattle.std.specs.Prelude.{ℕ, nat_eq, Option, None, Some, if◌then◌else◌}
use Rattle.desk_model.specs.declared.reply.Reply.{Reply}
use Rattle.desk_model.specs.declared.reply.Reply.TheVariants as reply
use Rattle.desk_model.specs.declared.person.Person.{Person}
use Rattle.desk_model.specs.declared.link.Link.{Link}
use Rattle.desk_model.specs.histories.History.{History}
use Rattle.desk_model.specs.statements.Job.{JobValue}
use Rattle.desk_model.specs.histories.Register.{person_of, vacancy_of}
use Rattle.desk_model.specs.offers.States.{state_of}
use Rattle.desk_model.specs.offers.Bars.{first_free}
use Rattle.desk_model.specs.answers.NextAnswer.{unless_closed}
use Rattle.desk_model.specs.answers.ExplainAnswer.{judged_by}

-- another person is the first of the chain whom nothing bars; else it is offered to this one, at this position
abbrev pub named_answer : ℕ → Option Link → Link → Reply
named_answer p None link = reply.Offered p link.board link.position
named_answer p (Some first) link =
    if nat_eq first.person p then reply.Offered p link.board link.position
    else reply.RunAround first.person

-- nobody has the number; else what the vacancy's state gives, and where it is vacant the person is judged
abbrev pub called_answer : History → ℕ → ℕ → JobValue → ℕ → Option Person → Reply
called_answer h m v job p None = reply.UnknownPerson
called_answer h m v job p (Some person) = unless_closed (state_of h v) (judged_by h m job p (named_answer p (first_free h m job)) person)

-- the vacancy was never made; else what the person gives
abbrev pub offer_made_answer : History → ℕ → ℕ → ℕ → Option JobValue → Reply
offer_made_answer h m v p None = reply.UnknownVacancy
offer_made_answer h m v p (Some job) = called_answer h m v job p (person_of h p)

-- the answer by the numbers of the vacancy and the person
abbrev pub offer_answer : History → ℕ → ℕ → ℕ → Reply
offer_answer h m v p = offer_made_answer h m v p (vacancy_of h v)
