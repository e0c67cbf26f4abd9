-- How a generator is kept.
use Rattle.std.specs.Prelude.{◌≡◌, ◌≤◌}
use Rattle.day_gen.specs.declared.numbers.TheConstants.{SET_UP}
use Rattle.day_gen.specs.declared.day_gen.DayGen.TheInside.{Inside}
use Rattle.day_gen.specs.Due.{planned_last}
use Rattle.day_gen.specs.Day.{day_after, generated_day}
use Rattle.day_gen.specs.Generator.{GeneratorValue, generator_of, most_commands}

abbrev pub generator_value : Inside → GeneratorValue
generator_value g = generator_of g.edition g.number g.commands g.given

-- the course and the job are those of the day so far
pub record KeepsGenerator (g : Inside) : Type 0 where
  pub some : SET_UP ≤ g.commands
  pub most : g.commands ≤ most_commands g.edition
  pub given : g.given ≤ g.commands
  pub course : g.course ≡ (day_after g.edition g.number g.given).course
  pub job : g.job ≡ planned_last (generated_day g.edition g.number g.given)
