-- Generators of days.
use Rattle.std.specs.Prelude.{ℕ, ◌+◌}
use Rattle.desk_model.specs.declared.edition.Edition.{Edition}
use Rattle.desk_model.specs.declared.edition.Edition.TheVariants as edition
use Rattle.day_gen.specs.declared.numbers.TheConstants.{COMMANDS, COMMANDS_OF_TWO}

-- the edition and the number that a day is made from, how many commands it is to have, and how many were given
pub record GeneratorValue : Type 0 where
  pub edition : Edition
  pub number : ℕ
  pub commands : ℕ
  pub given : ℕ

abbrev pub generator_of : Edition → ℕ → ℕ → ℕ → GeneratorValue
generator_of edition number commands given = record { edition = edition; number = number; commands = commands; given = given }

-- how many commands a day may have
abbrev pub most_commands : Edition → ℕ
most_commands edition.One = COMMANDS
most_commands edition.Two = COMMANDS_OF_TWO

-- a generator that gave one command more
abbrev pub one_more : GeneratorValue → GeneratorValue
one_more g = record g { given = g.given + 1 }
