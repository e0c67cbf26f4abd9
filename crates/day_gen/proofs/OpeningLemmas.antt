-- The opening of a generated day, and its chains of boards.
use Rattle.std.proofs.Common.{◌≡◌, ◌≢◌, ℕ, zero, suc, ◌≤◌, List, [], ◌∷◌, get_or, refl, ap, arith}
use Rattle.std.specs.List.{AllPairs}
use Rattle.std.proofs.lemmas.List.Elements.{All-nil, All-cons}
use Rattle.desk_base.specs.Code.{IsCode}
use Rattle.desk_base.proofs.MonthLemmas.{first_day_mono, first_day-2000, first_day-2100}
use Rattle.qualifications.specs.declared.craft.Craft.{Craft}
use Rattle.qualifications.specs.declared.craft.Craft.TheVariants as craft
use Rattle.desk_model.specs.declared.edition.Edition.{Edition}
use Rattle.desk_model.specs.statements.Chain.{IsChain}
use Rattle.desk_model.specs.statements.Opening.{IsOpening}
use Rattle.day_gen.specs.SetUp.{HOME, pool_of, extra_of}
use Rattle.day_gen.specs.Rules.{chain_of}
use Rattle.day_gen.specs.Day.{start, day_opening}

-- where in the years 2000 to 2099 the day begins
pub start_from : 15_778_080 ≤ start
start_from = omega (arith, first_day_mono 360 648 (omega arith), first_day-2000)

pub start_to : start ≤ 31_602_240
start_to = omega (arith, first_day_mono 648 1560 (omega arith), first_day-2100)

pub opening_valid : (edition : Edition) → IsOpening (day_opening edition)
opening_valid edition = record {
  window = record { some = omega arith; most = omega arith; begins = omega arith; ends = omega arith };
  start = (omega arith, omega (arith, first_day_mono 648 672 (omega arith)));
  some = omega arith;
  most = omega arith;
}

pub home_code : IsCode HOME
home_code = record { some = omega arith; most = omega arith; bytes = refl }

pub pool_code : (this : Craft) → IsCode (pool_of this)
pool_code craft.E = record { some = omega arith; most = omega arith; bytes = refl }
pool_code craft.C = record { some = omega arith; most = omega arith; bytes = refl }
pool_code craft.B = record { some = omega arith; most = omega arith; bytes = refl }

pub extra_code : (this : Craft) → IsCode (extra_of this)
extra_code craft.E = record { some = omega arith; most = omega arith; bytes = refl }
extra_code craft.C = record { some = omega arith; most = omega arith; bytes = refl }
extra_code craft.B = record { some = omega arith; most = omega arith; bytes = refl }

two_differ : (a b : List ℕ) → a ≢ b → AllPairs (λ x y. x ≢ y) (a ∷ b ∷ [])
two_differ a b differ zero zero d below most = absurd (omega (arith, below))
two_differ a b differ zero (suc zero) d below most = differ
two_differ a b differ zero (suc (suc j)) d below most = absurd (omega (arith, most))
two_differ a b differ (suc i) zero d below most = absurd (omega (arith, below))
two_differ a b differ (suc i) (suc zero) d below most = absurd (omega (arith, below))
two_differ a b differ (suc i) (suc (suc j)) d below most = absurd (omega (arith, most))

first_apart : ◌≡◌ {A = ℕ} 80 88 → ⊥
first_apart same = omega (arith, same)

apart : (this : Craft) → pool_of this ≢ extra_of this
apart craft.E = λ same. first_apart (ap (λ (b : List ℕ). get_or b 0 0) same)
apart craft.C = λ same. first_apart (ap (λ (b : List ℕ). get_or b 0 0) same)
apart craft.B = λ same. first_apart (ap (λ (b : List ℕ). get_or b 0 0) same)

pub chain_valid : (this : Craft) → IsChain (chain_of this)
chain_valid this = record {
  some = omega arith;
  most = omega arith;
  codes = All-cons IsCode (pool_of this) (extra_of this ∷ []) (pool_code this) (All-cons IsCode (extra_of this) [] (extra_code this) (All-nil IsCode));
  distinct = two_differ (pool_of this) (extra_of this) (apart this);
}
