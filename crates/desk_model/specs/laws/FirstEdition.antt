-- What the first edition of the rules answers, with no word of holds or relief.
use Rattle.std.specs.Prelude.{ℕ, ◌+◌, nat_lt, nat_le, Option, None, Some, is_some, if◌then◌else◌, List, [], ◌∷◌, length}
use Rattle.desk_base.specs.Window.{end_of}
use Rattle.denial_rules.specs.declared.bar.Bar.{Bar}
use Rattle.denial_rules.specs.declared.facts.Facts.{Facts}
use Rattle.denial_rules.specs.Table.{marked_off_row, busy_row, on_offer_row, place_row, craft_row, quals_row, answered_row, law_row, first_some}
use Rattle.desk_model.specs.declared.limits.TheConstants.{PLAN_LIMIT, VACANCY_LIMIT}
use Rattle.desk_model.specs.declared.reply.Reply.{Reply}
use Rattle.desk_model.specs.declared.reply.Reply.TheVariants as reply
use Rattle.desk_model.specs.histories.History.{History}
use Rattle.desk_model.specs.statements.Job.{JobValue}
use Rattle.desk_model.specs.histories.Register.{vacancy_of, vacancies}
use Rattle.desk_model.specs.answers.VacancyAnswer.{unknown_in, bad_in}

-- the first bar of its table, which ends with B7 and the law
abbrev pub first_bar_in_one : Facts → Option Bar
first_bar_in_one facts = first_some (
    marked_off_row facts
    ∷ busy_row facts
    ∷ on_offer_row facts
    ∷ place_row facts
    ∷ craft_row facts
    ∷ quals_row facts
    ∷ answered_row facts
    ∷ law_row facts
    ∷ [])

-- its answer to `vacancy`: what a plan gives, what a chain gives, and what is looked at before them
abbrev pub plan_answer_in_one : History → ℕ → JobValue → Reply
plan_answer_in_one h m job =
    if nat_lt PLAN_LIMIT job.duty then reply.PlanTooLong
    else if nat_lt job.report m then reply.ReportPast job.report
    else if nat_lt (end_of h.opening.window) (job.report + job.duty + job.limbo) then reply.OutsideWindow
    else reply.Done

abbrev pub chain_answer_in_one : History → ℕ → JobValue → Option (List ℕ) → Option (List ℕ) → Reply
chain_answer_in_one h m job (Some b) bad = reply.UnknownBoard b
chain_answer_in_one h m job None (Some b) = reply.BadChain b
chain_answer_in_one h m job None None = plan_answer_in_one h m job

abbrev pub vacancy_answer_in_one : History → ℕ → JobValue → Reply
vacancy_answer_in_one h m job =
    if is_some (vacancy_of h job.vac) then reply.Used
    else if nat_le VACANCY_LIMIT (length (vacancies h)) then reply.VacanciesFull
    else chain_answer_in_one h m job (unknown_in h job.chain) (bad_in h job.chain)
