-- `annul` and `drop`: the answers in order.
use Rattle.std.specs.Prelude.{ℕ, is_none, if◌then◌else◌}
use Rattle.desk_model.specs.declared.reply.Reply.{Reply}
use Rattle.desk_model.specs.declared.reply.Reply.TheVariants as reply
use Rattle.desk_model.specs.declared.vac_state.VacState.{VacState}
use Rattle.desk_model.specs.declared.vac_state.VacState.TheVariants as state
use Rattle.desk_model.specs.histories.History.{History}
use Rattle.desk_model.specs.histories.Register.{person_of, vacancy_of}
use Rattle.desk_model.specs.offers.Assigned.{assigned}
use Rattle.desk_model.specs.offers.States.{state_of}

-- it is begun or annulled; else it is done
abbrev pub over_answer : VacState → Reply
over_answer (state.Begun p) = reply.Closed (state.Begun p)
over_answer state.Annulled = reply.Closed state.Annulled
over_answer other = reply.Done

-- `annul`: the vacancy was never made; else what its state gives
abbrev pub annul_answer : History → ℕ → Reply
annul_answer h v = if is_none (vacancy_of h v) then reply.UnknownVacancy else over_answer (state_of h v)

-- `drop`: nobody has the number; no vacancy is assigned to the person; else it is done
abbrev pub drop_answer : History → ℕ → Reply
drop_answer h p =
    if is_none (person_of h p) then reply.UnknownPerson
    else if is_none (assigned h p) then reply.NotAssigned
    else reply.Done
