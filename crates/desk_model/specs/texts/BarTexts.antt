-- The texts of bars.
use Rattle.std.specs.Prelude.{ℕ, nat_lt, if◌then◌else◌, List, [], ◌∷◌, ◌++◌, codes, decimal}
use Rattle.desk_base.specs.declared.minute.TheConstants.{YEARS_END}
use Rattle.desk_base.specs.Minute.{minute_text}
use Rattle.desk_base.specs.Month.{month_text}
use Rattle.qualifications.specs.Craft.{craft_text}
use Rattle.denial_rules.specs.declared.bar.Bar.{Bar}
use Rattle.denial_rules.specs.declared.bar.Bar.TheVariants as bar
use Rattle.denial_rules.specs.Bar.{name_of}

-- a minute that may lie behind the year 2099: then its number
abbrev pub late_text : ℕ → List ℕ
late_text minute = if nat_lt minute YEARS_END then minute_text minute else decimal minute

-- what a bar keeps, behind a space: the vacancy, the place, the craft or the qualification's number; the minute at which a hold ends; of the law's bars
-- the minute at which a rest ends, the days in a row and the minutes off duty that they need, or the month and its total
abbrev pub kept_text : Bar → List ℕ
kept_text bar.MarkedOff = []
kept_text bar.InTour = codes " tour"
kept_text (bar.Assigned vacancy) = codes " assigned " ++ decimal vacancy
kept_text (bar.OnOffer vacancy) = 32 ∷ decimal vacancy
kept_text (bar.Elsewhere place) = 32 ∷ place
kept_text (bar.OtherCraft craft) = 32 ∷ craft_text craft
kept_text (bar.Lacks number) = 32 ∷ decimal number
kept_text bar.Answered = []
kept_text (bar.Held until) = 32 ∷ late_text until
kept_text (bar.Rest ends) = 32 ∷ late_text ends
kept_text (bar.MoreRest ends) = 32 ∷ late_text ends
kept_text (bar.Undisturbed ends) = 32 ∷ late_text ends
kept_text (bar.SixDays run need) = 32 ∷ decimal run ++ 32 ∷ decimal need
kept_text (bar.SevenDays run need) = 32 ∷ decimal run ++ 32 ∷ decimal need
kept_text (bar.MonthHours month total) = 32 ∷ month_text month ++ 32 ∷ decimal total
kept_text (bar.LimboHours month total) = 32 ∷ month_text month ++ 32 ∷ decimal total

-- a bar: its name, and what it keeps
abbrev pub bar_text : Bar → List ℕ
bar_text b = name_of b ++ kept_text b
