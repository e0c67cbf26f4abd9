-- The rules by which a generated day goes on, each the desk's own. A number that is drawn is one of 0 to a number less one.
use Rattle.std.specs.Prelude.{ℕ, ◌+◌, Bool, false, nat_eq, nat_lt, max, Option, None, Some, if◌then◌else◌, List, [], ◌∷◌}
use Rattle.desk_base.specs.Minute.{month_of}
use Rattle.qualifications.specs.declared.craft.Craft.{Craft}
use Rattle.qualifications.specs.declared.craft.Craft.TheVariants as craft
use Rattle.duty_events.specs.declared.event.Event.TheVariants as event
use Rattle.desk_model.specs.declared.command.Cmd.{Cmd}
use Rattle.desk_model.specs.declared.command.Cmd.TheVariants as cmd
use Rattle.desk_model.specs.declared.edition.Edition.{Edition}
use Rattle.desk_model.specs.declared.edition.Edition.TheVariants as edition
use Rattle.desk_model.specs.statements.Job.{JobValue, job_of}
use Rattle.day_gen.specs.declared.numbers.TheConstants.{PERSONS}
use Rattle.day_gen.specs.declared.course.Course.{Course}
use Rattle.day_gen.specs.declared.due.Due.{Due}
use Rattle.day_gen.specs.declared.due.Due.TheVariants as due
use Rattle.day_gen.specs.Draws.{moved, drawn}
use Rattle.day_gen.specs.SetUp.{HOME, pool_of, extra_of}
use Rattle.day_gen.specs.Turn.{Turn, turn_of}

-- an offer is accepted, declined or taken back: of ten that are drawn, by 0 to 6, by 7 and 8, and by 9
abbrev pub answer_by : ℕ → ℕ → ℕ → Cmd
answer_by draw vac person =
    if nat_lt draw 7 then cmd.Accept vac person
    else if nat_lt draw 9 then cmd.Decline vac person
    else cmd.Withdraw vac person

abbrev pub answer_turn : Course → ℕ → ℕ → Turn
answer_turn c vac person = turn_of (moved c) (answer_by (drawn (moved c) 10) vac person)

-- the report of a job and its planned minutes on duty; 0 where there is none
abbrev pub report_of : Option JobValue → ℕ
report_of None = 0
report_of (Some job) = job.report

abbrev pub duty_of : Option JobValue → ℕ
duty_of None = 0
duty_of (Some job) = job.duty

-- it becomes this minute
abbrev pub at_minute : Course → ℕ → Course
at_minute c minute = record c { minute = minute }

-- who accepted goes on duty at the report, or at once where that is past
abbrev pub report_turn : Course → Option JobValue → ℕ → Turn
report_turn c job person =
    let minute = max c.minute (report_of job) in
    turn_of (at_minute c minute) (cmd.Happened person (event.Duty minute))

-- who went on duty is released when the planned minutes are over
abbrev pub release_turn : Course → Option JobValue → ℕ → Turn
release_turn c job person =
    let minute = c.minute + duty_of job in
    turn_of (at_minute c minute) (cmd.Happened person (event.Final minute HOME))

-- a vacancy is called for
abbrev pub call_turn : Course → ℕ → Turn
call_turn c vac = turn_of c (cmd.Next vac)

-- the hours of a person in the month are asked, or who stands at a place of the engineers' pool
abbrev pub hours_turn : Course → Turn
hours_turn c = turn_of (moved c) (cmd.Hours (1 + drawn (moved c) PERSONS) (month_of c.minute))

abbrev pub place_turn : Course → Turn
place_turn c = turn_of (moved c) (cmd.At (pool_of craft.E) (1 + drawn (moved c) 12))

-- a vacancy for an engineer or a conductor, on the pool of the craft and then its extra board, whose report is in one to two
-- hours: an ordinary one of one to three hours on duty, or a relief one of more than twelve
abbrev pub craft_by : ℕ → Craft
craft_by draw = if nat_eq draw 0 then craft.E else craft.C

abbrev pub chain_of : Craft → List (List ℕ)
chain_of asked = pool_of asked ∷ extra_of asked ∷ []

abbrev pub least_duty : Bool → ℕ
least_duty relief = if relief then 721 else 60

-- the next vacancy, from what was drawn for its craft, its report and its duty
abbrev pub vacancy_by : Course → Bool → ℕ → ℕ → ℕ → JobValue
vacancy_by c relief asked wait length =
    let this = craft_by asked in
    job_of (c.made + 1) this 0 HOME (c.minute + 60 + wait) (least_duty relief + length) 0 (chain_of this) relief

-- these are drawn in this order: of 2, of 60 and of 120
abbrev pub vacancy_turn : Course → Bool → Turn
vacancy_turn c relief =
    let one = moved c in
    let two = moved one in
    let three = moved two in
    turn_of (record three { made = c.made + 1 }) (cmd.Vacancy (vacancy_by c relief (drawn one 2) (drawn two 60) (drawn three 120)))

-- the second edition makes one of six vacancies a relief one
abbrev pub is_relief : Edition → ℕ → Bool
is_relief edition.One draw = false
is_relief edition.Two draw = nat_eq draw 7

-- what comes where there is nothing to do: of eight that are drawn, by 0 the hours, by 1 the place, and else a vacancy
abbrev pub idle_by : Edition → ℕ → Course → Turn
idle_by edition draw c =
    if nat_eq draw 0 then hours_turn c
    else if nat_eq draw 1 then place_turn c
    else vacancy_turn c (is_relief edition draw)

-- up to 9 minutes go by, as drawn, before this is drawn
abbrev pub passed : Course → Course
passed c = at_minute (moved c) (c.minute + drawn (moved c) 10)

abbrev pub idle_turn : Edition → Course → Turn
idle_turn edition c = idle_by edition (drawn (moved (passed c)) 8) (moved (passed c))

-- what comes by what there is to do, and for which job
abbrev pub turn_by : Edition → Course → Option JobValue → Due → Turn
turn_by edition c job (due.Answer vac person) = answer_turn c vac person
turn_by edition c job (due.Report vac person) = report_turn c job person
turn_by edition c job (due.Release person) = release_turn c job person
turn_by edition c job (due.Call vac) = call_turn c vac
turn_by edition c job due.Nothing = idle_turn edition c
