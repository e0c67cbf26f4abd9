-- How many members of a board a search passes over, in the history's words.
use Rattle.std.proofs.Common.{◌≡◌, ◌<◌, ℕ, suc, Bool, true, false, not, ◌||◌, ◌&&◌, cond, nat_eq, nat_le, filter, Option, Some, is_some, List, [], ◌∷◌, length, refl, sym, ap, subst, ◌∙◌, arith}
use Rattle.std.specs.List.{list_any, slice_get}
use Rattle.std.proofs.lemmas.Bool.{false≢true, lt-leb}
use Rattle.std.proofs.lemmas.Bool.Decides.{nat_tests}
use Rattle.rest_rules.specs.Rest.{rest_end}
use Rattle.denial_rules.specs.declared.bar.Bar.{Bar}
use Rattle.slot_tree.specs.declared.slot.Slot.{Slot}
use Rattle.pool_board.specs.Board.{BoardValue}
use Rattle.pool_board.specs.Members.{persons as members_in, ready_of}
use Rattle.vacancy_fill.specs.Chain.{members_at, is_passed_over, passed_over}
use Rattle.desk_model.specs.statements.Job.{JobValue}
use Rattle.desk_model.specs.histories.History.{History}
use Rattle.desk_model.specs.histories.Register.{boards}
use Rattle.desk_model.specs.boards.Boards.{order}
use Rattle.desk_model.specs.boards.Rank.{IsOnce}
use Rattle.desk_model.specs.histories.Duty.{events, in_tour}
use Rattle.desk_model.specs.histories.Legal.{IsLegal}
use Rattle.desk_model.proofs.OrderLemmas.{nat_eq-same}
use Rattle.desk_model.proofs.PlanLemmas.{vacancy-in_years}
use Rattle.desk_answers.specs.Asked.{IsAsked}
use Rattle.desk_state.specs.declared.named_indexes.TheConstants.{NEVER}
use Rattle.desk_state.specs.Lists.{ready_minute, KeepsLists}
use Rattle.fast_core.specs.Search.{bar_for, is_rested, is_barred_though_rested}

-- who is ready from a minute on is a member
ready-listed : (p r : ℕ) (members : List Slot) → ready_of p members ≡ Some r → list_any (nat_eq p) (members_in members) ≡ true
ready-listed p r [] at = absurd (let e = at in cc)
ready-listed p r (s ∷ members) at = go (nat_eq p s.person) at (λ later. ready-listed p r members later)
  where
    go : (here : Bool) → cond here (Some s.ready) (ready_of p members) ≡ Some r → (ready_of p members ≡ Some r → list_any (nat_eq p) (members_in members) ≡ true)
        → (here || list_any (nat_eq p) (members_in members)) ≡ true
    go true at rest = refl
    go false at rest = rest at

-- ready from a minute that the person tells, and barred
abbrev passes : (ℕ → ℕ) → (ℕ → Option Bar) → ℕ → ℕ → Bool
passes ready barred m p = nat_le (ready p) m && is_some (barred p)

-- where each member is, as many are passed over
over-persons : (ready : ℕ → ℕ) (barred : ℕ → Option Bar) (m : ℕ) (members : List Slot) → IsOnce (members_in members) → ((p r : ℕ) → ready_of p members ≡ Some r → r ≡ ready p)
    → passed_over barred m members ≡ length (filter (passes ready barred m) (members_in members))
over-persons ready barred m [] once same = refl
over-persons ready barred m (s ∷ members) once same =
    ap (λ r. length (cond (nat_le r m && is_some (barred s.person)) (s ∷ filter (is_passed_over barred m) members) (filter (is_passed_over barred m) members))) this
    ∙ step (passes ready barred m s.person) (over-persons ready barred m members once.1 (λ p r at. later p r at (nat_eq p s.person) refl))
  where
    later : (p r : ℕ) → ready_of p members ≡ Some r → (here : Bool) → nat_eq p s.person ≡ here → r ≡ ready p
    later p r at true is =
        let own : p ≡ s.person = grind (arith, nat_tests, is) in
        absurd (false≢true (sym once.0 ∙ ap (λ q. list_any (nat_eq q) (members_in members)) (sym own) ∙ ready-listed p r members at))
    later p r at false is = same p r (ap (λ here. cond here (Some s.ready) (ready_of p members)) is ∙ at)

    this : s.ready ≡ ready s.person
    this = same s.person s.ready (ap (λ here. cond here (Some s.ready) (ready_of s.person members)) (nat_eq-same s.person))

    step : (t : Bool) → passed_over barred m members ≡ length (filter (passes ready barred m) (members_in members))
        → length (cond t (s ∷ filter (is_passed_over barred m) members) (filter (is_passed_over barred m) members))
        ≡ length (cond t (s.person ∷ filter (passes ready barred m) (members_in members)) (filter (passes ready barred m) (members_in members)))
    step true rest = ap suc rest
    step false rest = rest

-- who is ready at a minute that is not the last is out of tour and rested
ready-rested : (h : History) (m p : ℕ) → m < NEVER → nat_le (ready_minute h p) m ≡ is_rested h m p
ready-rested h m p early = go (in_tour h p)
  where
    go : (tour : Bool) → nat_le (cond tour NEVER (rest_end (events h p))) m ≡ (not tour && nat_le (rest_end (events h p)) m)
    go true = lt-leb NEVER m early
    go false = refl

filter-same : (f g : ℕ → Bool) → ((p : ℕ) → f p ≡ g p) → (ps : List ℕ) → filter f ps ≡ filter g ps
filter-same f g same [] = refl
filter-same f g same (p ∷ ps) = ap (λ t. cond t (p ∷ filter f ps) (filter f ps)) (same p) ∙ ap (λ rest. cond (g p) (p ∷ rest) rest) (filter-same f g same ps)

-- so of the members that are kept of a board as many are passed over as the history has there who are rested and barred
pub over-kept : (h : History) (m : ℕ) (job : JobValue) (kept : List BoardValue) (on : ℕ → ℕ → Bool) (b : List ℕ) (j : ℕ) → KeepsLists kept on h → m < NEVER → IsOnce (order h b)
    → slice_get (boards h) j ≡ Some b → passed_over (bar_for h m job) m (members_at kept j) ≡ length (filter (is_barred_though_rested h m job) (order h b))
over-kept h m job kept on b j lists early once at =
    let order_is = lists.order j b at in
    over-persons (ready_minute h) (bar_for h m job) m (members_at kept j) (subst IsOnce (sym order_is) once) (λ p r is. lists.ready j p r is)
    ∙ ap (λ ps. length (filter (passes (ready_minute h) (bar_for h m job) m) ps)) order_is
    ∙ ap length (filter-same (passes (ready_minute h) (bar_for h m job) m) (is_barred_though_rested h m job) (λ p. ap (λ t. t && is_some (bar_for h m job p)) (ready-rested h m p early)) (order h b))

-- and a moment at which a vacancy is asked about is not the last minute
pub asked-early : (h : History) (m : ℕ) (job : JobValue) → IsLegal h → IsAsked h m job → m < NEVER
asked-early h m job legal asked = omega (arith, asked.to, vacancy-in_years h legal asked.made.0 job asked.made.1)
