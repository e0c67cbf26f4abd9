-- The commands that set the desk up, by their places.
use Rattle.std.proofs.Common.{◌≡◌, ℕ, zero, suc, ◌+◌, ◌-◌, ◌/◌, ◌%◌, ◌≤◌, ◌<◌, true, false, nat_eq, Some, map, length, refl, ap, ◌∙◌, arith}
use Rattle.std.specs.Option.{option_map}
use Rattle.std.specs.List.{slice_get, range_with_len}
use Rattle.std.proofs.lemmas.Option.{slice_get-map, slice_get-get_or}
use Rattle.std.proofs.lemmas.List.FromFn.{length-range_with_len, get_or-range_with_len}
use Rattle.qualifications.specs.declared.craft.Craft.TheVariants as craft
use Rattle.desk_model.specs.declared.command.Cmd.{Cmd}
use Rattle.day_gen.specs.SetUp.{pool_of, extra_of, sets_up_board, join_command, set_up}

-- the command at a place
abbrev pub command_at : ℕ → Cmd
command_at zero = sets_up_board (pool_of craft.E) false
command_at (suc zero) = sets_up_board (pool_of craft.C) false
command_at (suc (suc zero)) = sets_up_board (extra_of craft.E) true
command_at (suc (suc (suc zero))) = sets_up_board (extra_of craft.C) true
command_at (suc (suc (suc (suc place)))) = join_command (place / 2 + 1) (nat_eq (place % 2) 0)

-- from the fourth on persons join
pub command_at-join : (place : ℕ) → 4 ≤ place → command_at place ≡ join_command (place / 2 - 1) (nat_eq (place % 2) 0)
command_at-join zero h = absurd (omega (arith, h))
command_at-join (suc zero) h = absurd (omega (arith, h))
command_at-join (suc (suc zero)) h = absurd (omega (arith, h))
command_at-join (suc (suc (suc zero))) h = absurd (omega (arith, h))
command_at-join (suc (suc (suc (suc place)))) h =
    let person : place / 2 + 1 ≡ suc (suc (suc (suc place))) / 2 - 1 = omega arith in
    let side : place % 2 ≡ suc (suc (suc (suc place))) % 2 = omega arith in
    ap (λ p. join_command p (nat_eq (place % 2) 0)) person ∙ ap (λ r. join_command (suc (suc (suc (suc place))) / 2 - 1) (nat_eq r 0)) side

set_up-map : set_up ≡ map command_at (range_with_len 0 64)
unfolding set_up
set_up-map = refl

range-get : (n place : ℕ) → place < n → slice_get (range_with_len 0 n) place ≡ Some place
range-get n place below =
    slice_get-get_or (range_with_len 0 n) place 0 (omega (arith, length-range_with_len 0 n, below))
    ∙ ap Some (get_or-range_with_len 0 n place 0 below ∙ omega arith)

pub set_up-at : (place : ℕ) → place < 64 → slice_get set_up place ≡ Some (command_at place)
set_up-at place below =
    ap (λ all. slice_get all place) set_up-map
    ∙ slice_get-map command_at (range_with_len 0 64) place
    ∙ ap (option_map command_at) (range-get 64 place below)

pub length-set_up : length set_up ≡ 64
unfolding set_up
length-set_up = refl
