-- What is kept of assignments, where one is accepted, given up or annulled.
use Rattle.std.proofs.Common.{◌≡◌, ℕ, ◌+◌, ◌≤◌, Bool, true, false, cond, nat_eq, Option, None, Some, unwrap_or, refl, sym, ap, ◌∙◌, subst, arith}
use Rattle.std.proofs.lemmas.Bool.Decides.{nat_tests}
use Rattle.desk_model.specs.declared.command.Cmd.TheVariants as cmd
use Rattle.desk_model.specs.offers.Offers.{is_of}
use Rattle.desk_model.specs.laws.Comes.{assigned_by}
use Rattle.duty_record.specs.declared.assignments.Acceptance.{Acceptance}
use Rattle.duty_record.specs.Kept.{still, IsBehind, AreHeld}

same : (n : ℕ) → nat_eq n n ≡ true
same n = grind (arith, nat_tests)

pub same_number : (a b : ℕ) → nat_eq a b ≡ true → a ≡ b
same_number a b is = grind (arith, nat_tests, is)

-- ---- accepted

pub held-accept : (times : ℕ → ℕ) (under later : ℕ → Option Acceptance) (has : ℕ → Option ℕ) (vac person : ℕ)
    → ((p : ℕ) → later p ≡ cond (nat_eq person p) (Some (record { vac = vac; annulled = times vac })) (under p))
    → AreHeld times under has → AreHeld times later (λ p. assigned_by p (cmd.Accept vac person) (has p))
held-accept times under later has vac person is held = record {
  each = λ p. ap (still times) (is p) ∙ each p (nat_eq person p);
  behind = λ p. subst (IsBehind times) (sym (is p)) (behind p (nat_eq person p));
}
  where
    each : (p : ℕ) (here : Bool) → still times (cond here (Some (record { vac = vac; annulled = times vac })) (under p)) ≡ cond here (Some vac) (has p)
    each p true = rw (same (times vac)) refl
    each p false = held.each p

    behind : (p : ℕ) (here : Bool) → IsBehind times (cond here (Some (record { vac = vac; annulled = times vac })) (under p))
    behind p true = omega arith
    behind p false = held.behind p

-- ---- given up

pub held-free : (times : ℕ → ℕ) (under later : ℕ → Option Acceptance) (has : ℕ → Option ℕ) (person : ℕ)
    → ((p : ℕ) → later p ≡ cond (nat_eq person p) None (under p))
    → AreHeld times under has → AreHeld times later (λ p. assigned_by p (cmd.Drop person) (has p))
held-free times under later has person is held = record {
  each = λ p. ap (still times) (is p) ∙ each p (nat_eq person p);
  behind = λ p. subst (IsBehind times) (sym (is p)) (behind p (nat_eq person p));
}
  where
    each : (p : ℕ) (here : Bool) → still times (cond here None (under p)) ≡ cond here None (has p)
    each p true = refl
    each p false = held.each p

    behind : (p : ℕ) (here : Bool) → IsBehind times (cond here None (under p))
    behind p true = tt
    behind p false = held.behind p

-- ---- annulled

above : (a b : ℕ) → a ≤ b → nat_eq (b + 1) a ≡ false
above a b le = grind (arith, nat_tests, le)

-- whose vacancy was another keeps it, and nobody has the one that is annulled
left : (vac w a : ℕ) (here fresh : Bool) → nat_eq w vac ≡ here → cond here None (cond fresh (Some w) None) ≡ cond (is_of vac (cond fresh (Some w) None)) None (cond fresh (Some w) None)
left vac w a here true is = rw is refl
left vac w a true false is = refl
left vac w a false false is = refl

pub held-annul : (times later : ℕ → ℕ) (under : ℕ → Option Acceptance) (has : ℕ → Option ℕ) (vac : ℕ)
    → ((v : ℕ) → later v ≡ cond (nat_eq vac v) (times vac + 1) (times v))
    → AreHeld times under has → AreHeld later under (λ p. assigned_by p (cmd.Annul vac) (has p))
held-annul times later under has vac is held = record {
  each = λ p. each p (under p) (held.behind p) ∙ ap (λ was. cond (is_of vac was) None was) (held.each p);
  behind = λ p. behind (under p) (held.behind p);
}
  where
    counted : (w : ℕ) (a : ℕ) (here : Bool) → nat_eq vac w ≡ here → a ≤ times w → cond (nat_eq (later w) a) (Some w) None ≡ cond here None (cond (nat_eq (times w) a) (Some w) None)
    counted w a true at le =
        let e : later w ≡ times w + 1 = is w ∙ ap (λ b. cond b (times vac + 1) (times w)) at ∙ ap (λ v. times v + 1) (same_number vac w at) in
        rw (e, above a (times w) le) refl
    counted w a false at le =
        let e : later w ≡ times w = is w ∙ ap (λ b. cond b (times vac + 1) (times w)) at in
        rw e refl

    turned : (w : ℕ) → nat_eq w vac ≡ nat_eq vac w
    turned w = grind (arith, nat_tests)

    each : (p : ℕ) (k : Option Acceptance) → IsBehind times k → still later k ≡ cond (is_of vac (still times k)) None (still times k)
    each p None le = refl
    each p (Some k) le = counted k.vac k.annulled (nat_eq vac k.vac) refl le ∙ left vac k.vac k.annulled (nat_eq vac k.vac) (nat_eq (times k.vac) k.annulled) (turned k.vac)

    grown : (w : ℕ) (here : Bool) → nat_eq vac w ≡ here → times w ≤ later w
    grown w true at = let e : later w ≡ times w + 1 = is w ∙ ap (λ b. cond b (times vac + 1) (times w)) at ∙ ap (λ v. times v + 1) (same_number vac w at) in omega (arith, e)
    grown w false at = let e : later w ≡ times w = is w ∙ ap (λ b. cond b (times vac + 1) (times w)) at in omega (arith, e)

    behind : (k : Option Acceptance) → IsBehind times k → IsBehind later k
    behind None le = tt
    behind (Some k) le = let more = grown k.vac (nat_eq vac k.vac) refl in omega (arith, le, more)

pub counted-once : (under later : ℕ → Option ℕ) (vac times : ℕ) → times ≡ unwrap_or (under vac) 0 + 1
    → ((v : ℕ) → later v ≡ cond (nat_eq vac v) (Some times) (under v))
    → (v : ℕ) → unwrap_or (later v) 0 ≡ cond (nat_eq vac v) (unwrap_or (under vac) 0 + 1) (unwrap_or (under v) 0)
counted-once under later vac times one is v = ap (λ o. unwrap_or o 0) (is v) ∙ go (nat_eq vac v)
  where
    go : (here : Bool) → unwrap_or (cond here (Some times) (under v)) 0 ≡ cond here (unwrap_or (under vac) 0 + 1) (unwrap_or (under v) 0)
    go true = one
    go false = refl
