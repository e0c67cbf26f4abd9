-- How a generated day sets the desk up: four boards, and thirty persons who are enrolled and listed. The desk's own rule.
use Rattle.std.specs.Prelude.{ℕ, ◌%◌, Bool, true, false, nat_eq, nat_le, if◌then◌else◌, List, [], ◌∷◌, codes, flat_map}
use Rattle.std.specs.List.{range_with_len}
use Rattle.qualifications.specs.declared.craft.Craft.{Craft}
use Rattle.qualifications.specs.declared.craft.Craft.TheVariants as craft
use Rattle.desk_model.specs.declared.command.Cmd.{Cmd}
use Rattle.desk_model.specs.declared.command.Cmd.TheVariants as cmd
use Rattle.day_gen.specs.declared.numbers.TheConstants.{PERSONS, POOL_PERSONS}

-- the one place: each board stands there, it is everybody's home, and each tour begins and ends there
abbrev pub HOME : List ℕ
HOME = codes "HOM"

-- the pool and the extra board of engineers, and those of conductors
abbrev pub pool_of : Craft → List ℕ
pool_of craft.E = codes "PE"
pool_of other = codes "PC"

abbrev pub extra_of : Craft → List ℕ
extra_of craft.E = codes "XE"
extra_of other = codes "XC"

-- engineers have odd numbers, and conductors even ones
abbrev pub craft_of : ℕ → Craft
craft_of person = if nat_eq (person % 2) 1 then craft.E else craft.C

-- the first 24 persons are listed on the pool of their craft, and the others on its extra board
abbrev pub listed_on : ℕ → List ℕ
listed_on person = if nat_le person POOL_PERSONS then pool_of (craft_of person) else extra_of (craft_of person)

-- a board is set up there; a person is enrolled without qualifications, and listed
abbrev pub sets_up_board : List ℕ → Bool → Cmd
sets_up_board board extra = cmd.Board board extra HOME

abbrev pub enrols_person : ℕ → Cmd
enrols_person person = cmd.Enrol person (craft_of person) HOME 0

abbrev pub lists_person : ℕ → Cmd
lists_person person = cmd.List person (listed_on person)

-- the first command by which a person joins, and the second
abbrev pub join_command : ℕ → Bool → Cmd
join_command person true = enrols_person person
join_command person false = lists_person person

-- the commands that set the desk up, in their order: the two pools, the two extra boards, and then each person is enrolled and listed
unfoldable pub set_up : List Cmd
set_up =
    sets_up_board (pool_of craft.E) false
    ∷ sets_up_board (pool_of craft.C) false
    ∷ sets_up_board (extra_of craft.E) true
    ∷ sets_up_board (extra_of craft.C) true
    ∷ flat_map (λ person. join_command person true ∷ join_command person false ∷ []) (range_with_len 1 PERSONS)
