-- `accept`, `decline`, `noanswer` and `withdraw`, which settle an offer: the answers in order.
use Rattle.std.specs.Prelude.{ℕ, nat_eq, nat_lt, Option, None, Some, is_none, if◌then◌else◌}
use Rattle.desk_model.specs.declared.reply.Reply.{Reply}
use Rattle.desk_model.specs.declared.reply.Reply.TheVariants as reply
use Rattle.desk_model.specs.declared.offer.Offer.{Offer}
use Rattle.desk_model.specs.statements.Job.{JobValue}
use Rattle.desk_model.specs.histories.History.{History}
use Rattle.desk_model.specs.histories.Register.{person_of, vacancy_of}
use Rattle.desk_model.specs.offers.Offers.{open_offer, deadline}

-- the vacancy isn't on offer to the person; else what their offer gives
abbrev pub offered_answer : ℕ → (Offer → Reply) → Option Offer → Reply
offered_answer p rest None = reply.NoOffer
offered_answer p rest (Some offer) = if nat_eq offer.person p then rest offer else reply.NoOffer

-- the vacancy was never made; nobody has the number; else what the offer gives
abbrev pub made_answer : History → ℕ → ℕ → (JobValue → Offer → Reply) → Option JobValue → Reply
made_answer h v p rest None = reply.UnknownVacancy
made_answer h v p rest (Some job) =
    if is_none (person_of h p) then reply.UnknownPerson
    else offered_answer p (rest job) (open_offer h v)

abbrev pub settle_answer : History → ℕ → ℕ → (JobValue → Offer → Reply) → Reply
settle_answer h v p rest = made_answer h v p rest (vacancy_of h v)

-- `accept`: the moment is after the report; else it is done
abbrev pub accept_answer : History → ℕ → ℕ → ℕ → Reply
accept_answer h m v p = settle_answer h v p (λ job offer. if nat_lt job.report m then reply.Lapsed job.report else reply.Done)

-- `decline` and `withdraw`: it is done
abbrev pub decline_answer : History → ℕ → ℕ → Reply
decline_answer h v p = settle_answer h v p (λ job offer. reply.Done)

-- `noanswer`: the moment is before the deadline; else it is done
abbrev pub no_answer : History → ℕ → ℕ → ℕ → Reply
no_answer h m v p =
    settle_answer h v p (λ job offer. if nat_lt m (deadline h.opening offer) then reply.EarlyNoAnswer (deadline h.opening offer) else reply.Done)
