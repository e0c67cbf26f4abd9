-- A gauge of the longest stretch so far: how stretches are looked for, and no rule.
use Rattle.std.specs.Prelude.{◌≡◌, ℕ, ◌-◌, ◌<◌, ◌≤◌, ◌⊎◌, Bool, true, false, nat_le}
use Rattle.std.specs.Bool.{Decides}
use Rattle.duty_events.specs.Stretch.{Stretch}

-- where the stretch begins that isn't over, the length of the longest, and the first minute that was not looked at
pub record GaugeValue : Type 0 where
  pub since : ℕ
  pub longest : ℕ
  pub until : ℕ

-- the stretch that isn't over begins at the first minute of all, or behind one that is not of the kind
abbrev pub BeginsAt : (ℕ → Bool) → ℕ → GaugeValue → Type 0
BeginsAt asked from g = (g.since ≡ from) ⊎ ((from < g.since) × (g.since ≤ g.until) × (asked (g.since - 1) ≡ false))

-- what a gauge tells of the minutes from one on: those from `since` on and before `until` are of the kind; it begins
-- there; and a stretch of so many lies before `until` just where the longest has as many
pub record Tells (asked : ℕ → Bool) (from : ℕ) (g : GaugeValue) : Type 0 where
  pub since : from ≤ g.since
  pub begins : BeginsAt asked from g
  pub each : (t : ℕ) → g.since ≤ t → t < g.until → asked t ≡ true
  pub longest : (many : ℕ) → 0 < many → Decides (nat_le many g.longest) (Stretch asked many from g.until)
