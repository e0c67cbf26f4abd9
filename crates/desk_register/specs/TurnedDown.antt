-- Who is kept as having turned which vacancy down, beside what a history says of it.
use Rattle.std.specs.Prelude.{◌≡◌, ℕ, ◌+◌, ◌*◌, ◌≤◌, Bool, false, ◌&&◌, ◌||◌, nat_lt, Option, Some, List, length}
use Rattle.std.specs.Option.{option_and_then}
use Rattle.desk_model.specs.declared.command.Cmd.{Cmd}
use Rattle.desk_model.specs.histories.History.{History}
use Rattle.desk_model.specs.histories.Register.{persons, vacancies}
use Rattle.desk_model.specs.offers.Offers.{is_of}
use Rattle.desk_model.specs.offers.TurnedDown.{has_turned_down}
use Rattle.desk_register.specs.Words.{has_index}
use Rattle.desk_register.specs.Among.{index_among}
use Rattle.desk_register.specs.Vacancies.{target, turner, had_by}
use Rattle.desk_register.specs.declared.turned_down.TurnedDown.{TurnedDown}
use Rattle.desk_register.specs.declared.turned_down.TheConstants.{PERSON_BITS}

-- the bit of the person at an index and the vacancy at an index: each vacancy has one of each of 1,024 persons, behind those of the
-- vacancy before it
abbrev pub bit_of : ℕ → ℕ → ℕ
bit_of person vacancy = vacancy * PERSON_BITS + person

-- the one has turned down the other; who has no such index has turned nothing down
abbrev pub turned_in : List ℕ → ℕ → ℕ → Bool
turned_in words person vacancy = nat_lt person PERSON_BITS && has_index words (bit_of person vacancy)

abbrev pub turned_at : TurnedDown → ℕ → ℕ → Bool
turned_at x person vacancy = turned_in x.words.items person vacancy

-- so for a person and a vacancy that may have no index: who has none has turned nothing down, and nobody what has none
abbrev pub turned_for : (ℕ → ℕ → Bool) → Option ℕ → Option ℕ → Bool
turned_for at (Some person) (Some vacancy) = at person vacancy
turned_for at person vacancy = false

-- that is what the history says of each person and each vacancy, and nothing is kept at an index behind the last person's or the last
-- vacancy's
pub record AreTurned (at : ℕ → ℕ → Bool) (h : History) : Type 0 where
  pub each : (p v : ℕ) → turned_for at (index_among (persons h) p) (index_among (vacancies h) v) ≡ has_turned_down h v p
  pub behind : (person vacancy : ℕ) → length (persons h) ≤ person → at person vacancy ≡ false
  pub beyond : (person vacancy : ℕ) → length (vacancies h) ≤ vacancy → at person vacancy ≡ false

abbrev pub KeepsTurned : TurnedDown → History → Type 0
KeepsTurned x h = AreTurned (turned_at x) h

-- ---- what an accepted command makes of it

-- the vacancy that is turned down by the command
abbrev pub turned_vac : History → Cmd → Option ℕ
turned_vac h c = option_and_then (λ p. target c (had_by h c)) (turner c)

-- the person at this index turns down the vacancy at that one, where there are both; for all others it stays
abbrev pub TurnsDown : Option ℕ → Option ℕ → (ℕ → ℕ → Bool) → (ℕ → ℕ → Bool) → Type 0
TurnsDown person vacancy at later = (i j : ℕ) → later i j ≡ (at i j || (is_of i person && is_of j vacancy))
