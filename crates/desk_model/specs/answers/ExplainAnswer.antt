-- `explain`: the answers in order.
use Rattle.std.specs.Prelude.{ℕ, nat_eq, nat_lt, Option, None, Some, if◌then◌else◌, List}
use Rattle.std.specs.List.{find}
use Rattle.denial_rules.specs.declared.bar.Bar.{Bar}
use Rattle.desk_model.specs.declared.reply.Reply.{Reply}
use Rattle.desk_model.specs.declared.reply.Reply.TheVariants as reply
use Rattle.desk_model.specs.declared.person.Person.{Person}
use Rattle.desk_model.specs.declared.link.Link.{Link}
use Rattle.desk_model.specs.histories.History.{History}
use Rattle.desk_model.specs.statements.Job.{JobValue}
use Rattle.desk_model.specs.histories.Register.{person_of, vacancy_of}
use Rattle.desk_model.specs.boards.Boards.{chain}
use Rattle.desk_model.specs.offers.Bars.{bar_of}

-- the first position of a chain that is this person's
abbrev pub position_in : List Link → ℕ → Option Link
position_in links p = find (λ link. nat_eq link.person p) links

-- the person has no position in the chain; a bar holds; else what the position gives
abbrev pub position_answer : Option Bar → (Link → Reply) → Option Link → Reply
position_answer bar rest None = reply.NotListed
position_answer (Some bar) rest (Some link) = reply.Denied bar
position_answer None rest (Some link) = rest link

-- the moment is after the report; else what the chain and the bars give of an enrolled person
abbrev pub judged_by : History → ℕ → JobValue → ℕ → (Link → Reply) → Person → Reply
judged_by h m job p rest person =
    if nat_lt job.report m then reply.Lapsed job.report
    else position_answer (bar_of h m job p person) rest (position_in (chain h job.chain) p)

-- where no bar holds the person is clear, at this position
abbrev pub clear_answer : Link → Reply
clear_answer link = reply.Clear link.board link.position

-- nobody has the number; else the person is judged
abbrev pub person_answer : History → ℕ → JobValue → ℕ → Option Person → Reply
person_answer h m job p None = reply.UnknownPerson
person_answer h m job p (Some person) = judged_by h m job p clear_answer person

-- the vacancy was never made; else what the person gives, however the vacancy stands
abbrev pub job_answer : History → ℕ → ℕ → Option JobValue → Reply
job_answer h m p None = reply.UnknownVacancy
job_answer h m p (Some job) = person_answer h m job p (person_of h p)

-- the answer by the numbers of the vacancy and the person
abbrev pub explain_answer : History → ℕ → ℕ → ℕ → Reply
explain_answer h m v p = job_answer h m p (vacancy_of h v)
