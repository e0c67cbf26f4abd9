-- The names of the bars.
use Rattle.std.specs.Prelude.{ℕ, ◌<◌, ◌≤◌, ◌^◌, ⊤, List, codes}
use Rattle.desk_base.specs.declared.minute.TheConstants.{YEARS_BEGIN}
use Rattle.desk_base.specs.Code.{IsCode}
use Rattle.desk_base.specs.Month.{IsMonthInYears}
use Rattle.desk_base.specs.Number.{IsNumber}
use Rattle.denial_rules.specs.declared.bar.Bar.{Bar}
use Rattle.denial_rules.specs.declared.bar.Bar.TheVariants as bar

-- the bar's row in this desk's list, or its paragraph of 49 USC 21103
abbrev pub name_of : Bar → List ℕ
name_of bar.MarkedOff = codes "B1"
name_of bar.InTour = codes "B2"
name_of (bar.Assigned vacancy) = codes "B2"
name_of (bar.OnOffer vacancy) = codes "B3"
name_of (bar.Elsewhere place) = codes "B4"
name_of (bar.OtherCraft craft) = codes "B5"
name_of (bar.Lacks number) = codes "B6"
name_of bar.Answered = codes "B7"
name_of (bar.Held until) = codes "B8"
name_of (bar.Rest ends) = codes "21103(a)(3)"
name_of (bar.MoreRest ends) = codes "21103(c)(4)"
name_of (bar.Undisturbed ends) = codes "21103(e)"
name_of (bar.SixDays run need) = codes "21103(a)(4)(A)"
name_of (bar.SevenDays run need) = codes "21103(a)(4)(A)(ii)"
name_of (bar.MonthHours month total) = codes "21103(a)(1)"
name_of (bar.LimboHours month total) = codes "21103(c)(1)"

-- each value that a bar keeps is in its range: a vacancy's number, a place, a qualification of 0 to 63, a minute from the
-- year 2000 on, which may lie behind 2099, a month of the years 2000 to 2099, and numbers of 32 bits
abbrev pub FitsBar : Bar → Type 0
FitsBar (bar.Assigned vacancy) = IsNumber vacancy
FitsBar (bar.OnOffer vacancy) = IsNumber vacancy
FitsBar (bar.Elsewhere place) = IsCode place
FitsBar (bar.Lacks number) = number ≤ 63
FitsBar (bar.Held until) = (YEARS_BEGIN ≤ until) × (until < 2 ^ 28)
FitsBar (bar.Rest ends) = (YEARS_BEGIN ≤ ends) × (ends < 2 ^ 28)
FitsBar (bar.MoreRest ends) = (YEARS_BEGIN ≤ ends) × (ends < 2 ^ 28)
FitsBar (bar.Undisturbed ends) = (YEARS_BEGIN ≤ ends) × (ends < 2 ^ 28)
FitsBar (bar.SixDays run need) = (run < 2 ^ 32) × (need < 2 ^ 32)
FitsBar (bar.SevenDays run need) = (run < 2 ^ 32) × (need < 2 ^ 32)
FitsBar (bar.MonthHours month total) = IsMonthInYears month × (total < 2 ^ 32)
FitsBar (bar.LimboHours month total) = IsMonthInYears month × (total < 2 ^ 32)
FitsBar other = ⊤
