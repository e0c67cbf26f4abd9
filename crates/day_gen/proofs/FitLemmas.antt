-- What is stated is in its ranges.
use Rattle.std.proofs.Common.{◌≡◌, ℕ, zero, suc, ◌+◌, ◌/◌, ◌%◌, ◌≤◌, ◌<◌, Bool, true, false, nat_eq, nat_lt, nat_le, Option, None, Some, unwrap_or, if◌then◌else◌, length, refl, sym, ap, subst, ◌∙◌, arith}
use Rattle.std.specs.List.{slice_get}
use Rattle.std.proofs.lemmas.Option.{slice_get_within}
use Rattle.desk_base.specs.Number.{IsNumber}
use Rattle.desk_base.specs.Code.{IsCode}
use Rattle.desk_base.specs.Minute.{IsInYears, month_of}
use Rattle.desk_base.specs.Month.{IsMonthInYears}
use Rattle.desk_base.proofs.MonthLemmas.{month_in_years, month_of_day_is}
use Rattle.qualifications.specs.declared.craft.Craft.TheVariants as craft
use Rattle.desk_model.specs.declared.command.Cmd.{Cmd}
use Rattle.desk_model.specs.declared.command.Cmd.TheVariants as cmd
use Rattle.desk_model.specs.declared.edition.Edition.{Edition}
use Rattle.desk_model.specs.statements.Job.{JobValue}
use Rattle.desk_model.specs.statements.Fits.{IsJob, IsCommand}
use Rattle.day_gen.specs.declared.course.Course.{Course}
use Rattle.day_gen.specs.declared.due.Due.{Due}
use Rattle.day_gen.specs.declared.due.Due.TheVariants as due
use Rattle.day_gen.specs.Draws.{moved, drawn}
use Rattle.day_gen.specs.SetUp.{pool_of, extra_of, craft_of, listed_on, join_command, set_up}
use Rattle.day_gen.specs.Turn.{Turn}
use Rattle.day_gen.specs.Rules.{hours_turn, place_turn, craft_by, vacancy_by, vacancy_turn, is_relief, least_duty, passed, turn_by}
use Rattle.day_gen.specs.Day.{turn_at}
use Rattle.day_gen.proofs.DrawLemmas.{drawn-below}
use Rattle.day_gen.proofs.SetUpLemmas.{set_up-at, length-set_up, command_at}
use Rattle.day_gen.proofs.OpeningLemmas.{home_code, pool_code, extra_code, chain_valid}
use Rattle.day_gen.proofs.DueLemmas.{FitsDue}

-- there is time for a job behind the minute
abbrev pub IsEarly : ℕ → Type 0
IsEarly minute = (15_778_080 ≤ minute) × (minute + 1_000 < 68_374_080)

pub early-in : (minute : ℕ) → IsEarly minute → IsInYears minute
early-in minute is = (omega (arith, is.0), omega (arith, is.1))

month-in : (minute : ℕ) → IsEarly minute → IsMonthInYears (month_of minute)
month-in minute is = month_in_years (minute / 1440) (month_of minute) (month_of_day_is (minute / 1440)) (omega (arith, is.0)) (omega (arith, is.1))

listed-code : (person : ℕ) → IsCode (listed_on person)
listed-code person = go (nat_le person 24)
  where
    go : (low : Bool) → IsCode (if low then pool_of (craft_of person) else extra_of (craft_of person))
    go true = pool_code (craft_of person)
    go false = extra_code (craft_of person)

join-fits : (person : ℕ) (first : Bool) → IsNumber person → IsCommand (join_command person first)
join-fits person true is = (is, home_code, omega arith)
join-fits person false is = (is, listed-code person)

command_at-fits : (place : ℕ) → place < 64 → IsCommand (command_at place)
command_at-fits zero below = (pool_code craft.E, home_code)
command_at-fits (suc zero) below = (pool_code craft.C, home_code)
command_at-fits (suc (suc zero)) below = (extra_code craft.E, home_code)
command_at-fits (suc (suc (suc zero))) below = (extra_code craft.C, home_code)
command_at-fits (suc (suc (suc (suc place)))) below = join-fits (place / 2 + 1) (nat_eq (place % 2) 0) (omega arith, omega (arith, below))

answer-fits : (vac person : ℕ) (early late : Bool) → IsNumber vac → IsNumber person
    → IsCommand (if early then cmd.Accept vac person else if late then cmd.Decline vac person else cmd.Withdraw vac person)
answer-fits vac person true late one other = (one, other)
answer-fits vac person false true one other = (one, other)
answer-fits vac person false false one other = (one, other)

duty-in : (relief : Bool) (length : ℕ) → length < 120 → (1 ≤ least_duty relief + length) × (least_duty relief + length ≤ 9_999)
duty-in true length below = (omega arith, omega (arith, below))
duty-in false length below = (omega arith, omega (arith, below))

job-fits : (c : Course) (relief : Bool) (asked wait length : ℕ) → IsEarly c.minute → c.made + 1 ≤ 20_000 → wait < 60 → length < 120
    → IsJob (vacancy_by c relief asked wait length)
job-fits c relief asked wait length early made below under = record {
  vac = (omega arith, omega (arith, made));
  quals = omega arith;
  place = home_code;
  plan = record {
    report_in = (omega (arith, early.0), omega (arith, early.1, below));
    some = (duty-in relief length under).0;
    most = (duty-in relief length under).1;
    limbo_most = omega arith;
  };
  chain = chain_valid (craft_by asked);
}

-- what a turn gives, where it leaves time and numbers
abbrev pub MayGive : Turn → Type 0
MayGive turn = IsEarly turn.course.minute → turn.course.made ≤ 20_000 → IsCommand turn.cmd

idle-fits : (c : Course) (first second relief : Bool) → MayGive (if first then hours_turn c else if second then place_turn c else vacancy_turn c relief)
idle-fits c true second relief early made = ((omega arith, omega (arith, drawn-below (moved c) 30 (omega arith))), month-in c.minute early)
idle-fits c false true relief early made = (pool_code craft.E, omega arith, omega (arith, drawn-below (moved c) 12 (omega arith)))
idle-fits c false false relief early made =
    job-fits c relief (drawn (moved c) 2) (drawn (moved (moved c)) 60) (drawn (moved (moved (moved c))) 120) early made
    (drawn-below (moved (moved c)) 60 (omega arith)) (drawn-below (moved (moved (moved c))) 120 (omega arith))

rule-fits : (edition : Edition) (c : Course) (job : Option JobValue) (due : Due) → FitsDue due → MayGive (turn_by edition c job due)
rule-fits edition c job (due.Answer vac person) fits early made =
    answer-fits vac person (nat_lt (drawn (moved c) 10) 7) (nat_lt (drawn (moved c) 10) 9) fits.0 fits.1
rule-fits edition c job (due.Report vac person) fits early made = (fits.1, early-in _ early)
rule-fits edition c job (due.Release person) fits early made = (fits, (early-in _ early, home_code))
rule-fits edition c job (due.Call vac) fits early made = fits
rule-fits edition c job due.Nothing fits early made =
    let d : ℕ = drawn (moved (passed c)) 8 in
    idle-fits (moved (passed c)) (nat_eq d 0) (nat_eq d 1) (is_relief edition d) early made

pub turn-fits : (edition : Edition) (c : Course) (o : Option Cmd) (job : Option JobValue) (due : Due) → ((x : Cmd) → o ≡ Some x → IsCommand x) → FitsDue due
    → MayGive (turn_at edition c o job due)
turn-fits edition c (Some x) job due sets fits early made = sets x refl
turn-fits edition c None job due sets fits early made = rule-fits edition c job due fits early made

pub set_up-fits : (n : ℕ) (c : Cmd) → slice_get set_up n ≡ Some c → IsCommand c
set_up-fits n c is =
    let below : n < 64 = omega (arith, slice_get_within set_up n c is, length-set_up) in
    subst IsCommand (ap (λ o. unwrap_or o c) (sym (set_up-at n below) ∙ is)) (command_at-fits n below)
