-- `next`: the answers in order.
use Rattle.std.specs.Prelude.{ℕ, nat_lt, Option, None, Some, if◌then◌else◌, length}
use Rattle.desk_model.specs.declared.reply.Reply.{Reply}
use Rattle.desk_model.specs.declared.reply.Reply.TheVariants as reply
use Rattle.desk_model.specs.declared.vac_state.VacState.{VacState}
use Rattle.desk_model.specs.declared.vac_state.VacState.TheVariants as state
use Rattle.desk_model.specs.declared.link.Link.{Link}
use Rattle.desk_model.specs.histories.History.{History}
use Rattle.desk_model.specs.statements.Job.{JobValue}
use Rattle.desk_model.specs.histories.Register.{vacancy_of}
use Rattle.desk_model.specs.boards.Boards.{chain}
use Rattle.desk_model.specs.offers.States.{state_of}
use Rattle.desk_model.specs.offers.Bars.{first_free}

-- where all are barred it is unfilled
abbrev pub choice_answer : ℕ → Option Link → Reply
choice_answer listed None = reply.Unfilled listed
choice_answer listed (Some link) = reply.Offered link.person link.board link.position

-- the moment is after the report; else the first of the chain whom nothing bars is offered it
abbrev pub vacant_answer : History → ℕ → JobValue → Reply
vacant_answer h m job =
    if nat_lt job.report m then reply.Lapsed job.report
    else choice_answer (length (chain h job.chain)) (first_free h m job)

-- it is taken, begun or annulled; it is on offer; else the other
abbrev pub unless_closed : VacState → Reply → Reply
unless_closed state.Vacant other = other
unless_closed (state.OnOffer p) other = reply.OfferOpen p
unless_closed how other = reply.Closed how

-- the vacancy was never made; else what its state gives, and where it is vacant its report and its chain
abbrev pub known_answer : History → ℕ → ℕ → Option JobValue → Reply
known_answer h m v None = reply.UnknownVacancy
known_answer h m v (Some job) = unless_closed (state_of h v) (vacant_answer h m job)

-- the answer by the vacancy's number
abbrev pub next_answer : History → ℕ → ℕ → Reply
next_answer h m v = known_answer h m v (vacancy_of h v)
