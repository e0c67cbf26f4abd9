-- `vacancy`: the answers in order.
use Rattle.std.specs.Prelude.{ℕ, ◌+◌, Bool, true, false, not, ◌&&◌, nat_lt, nat_le, Option, None, Some, is_none, is_some, if◌then◌else◌, List, length, drop}
use Rattle.std.specs.List.{find}
use Rattle.desk_base.specs.Window.{end_of}
use Rattle.desk_model.specs.declared.limits.TheConstants.{PLAN_LIMIT, RELIEF_LIMIT, VACANCY_LIMIT}
use Rattle.desk_model.specs.declared.reply.Reply.{Reply}
use Rattle.desk_model.specs.declared.reply.Reply.TheVariants as reply
use Rattle.desk_model.specs.declared.edition.Edition.{Edition}
use Rattle.desk_model.specs.declared.edition.Edition.TheVariants as edition
use Rattle.desk_model.specs.declared.board_setup.BoardSetup.{BoardSetup}
use Rattle.desk_model.specs.statements.Opening.{OpeningValue}
use Rattle.desk_model.specs.histories.History.{History}
use Rattle.desk_model.specs.statements.Job.{JobValue}
use Rattle.desk_model.specs.histories.Register.{board_of, vacancy_of, vacancies}

-- the code is an extra board
abbrev pub is_extra : Option BoardSetup → Bool
is_extra None = false
is_extra (Some board) = board.extra

-- the first code of a chain that is no board
abbrev pub unknown_in : History → List (List ℕ) → Option (List ℕ)
unknown_in h codes = find (λ b. is_none (board_of h b)) codes

-- the first board behind the chain's first that is no extra board
abbrev pub bad_in : History → List (List ℕ) → Option (List ℕ)
bad_in h codes = find (λ b. not (is_extra (board_of h b))) (drop 1 codes)

-- an ordinary job's duty is above 720 minutes (49 USC 21103(a)(2)), or a relief one's above 960 (21103(d)); the report is before the
-- moment; the plan ends after the window; else it is done
abbrev pub plan_answer : OpeningValue → ℕ → JobValue → Reply
plan_answer o m job =
    if not job.relief && nat_lt PLAN_LIMIT job.duty then reply.PlanTooLong
    else if job.relief && nat_lt RELIEF_LIMIT job.duty then reply.ReliefTooLong
    else if nat_lt job.report m then reply.ReportPast job.report
    else if nat_lt (end_of o.window) (job.report + job.duty + job.limbo) then reply.OutsideWindow
    else reply.Done

-- a code of the chain is no board; a board behind its first is no extra board; else what its plan gives
abbrev pub chain_answer : OpeningValue → ℕ → JobValue → Option (List ℕ) → Option (List ℕ) → Reply
chain_answer o m job (Some b) bad = reply.UnknownBoard b
chain_answer o m job None (Some b) = reply.BadChain b
chain_answer o m job None None = plan_answer o m job

-- the rules are of the first edition
abbrev pub is_edition_one : Edition → Bool
is_edition_one edition.One = true
is_edition_one edition.Two = false

-- it is a relief vacancy, which the first edition hasn't; the vacancy was made before; 20,000 were made; else what its chain gives
abbrev pub vacancy_answer : History → ℕ → JobValue → Reply
vacancy_answer h m job =
    if job.relief && is_edition_one h.opening.edition then reply.OtherEdition
    else if is_some (vacancy_of h job.vac) then reply.Used
    else if nat_le VACANCY_LIMIT (length (vacancies h)) then reply.VacanciesFull
    else chain_answer h.opening m job (unknown_in h job.chain) (bad_in h job.chain)
