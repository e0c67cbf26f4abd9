-- What the state of a vacancy tells, and what commands do to that.
use Rattle.std.proofs.Common.{◌≡◌, ℕ, Bool, true, false, cond, ◌||◌, nat_eq, Option, None, Some, unwrap_or, refl, sym, ap, ◌∙◌}
use Rattle.std.specs.Option.{option_map, option_or}
use Rattle.std.proofs.lemmas.Bool.{false≢true}
use Rattle.desk_model.specs.declared.vac_state.VacState.{VacState}
use Rattle.desk_model.specs.declared.vac_state.VacState.TheVariants as state
use Rattle.desk_model.specs.declared.offer.Offer.{Offer}
use Rattle.desk_model.specs.histories.History.{History, said, last_of}
use Rattle.desk_model.specs.offers.Offers.{open_offer, is_to}
use Rattle.desk_model.specs.offers.Assigned.{is_assigned, accepted_by, only_if, holder, begun, is_annulled}
use Rattle.desk_model.specs.offers.States.{open_state, state_of}
use Rattle.desk_model.proofs.SaidLemmas.{or_none}
use Rattle.desk_model.proofs.OrderLemmas.{same_number, nat_eq-same}

-- ---- what a state tells

abbrev pub is_over : VacState → Bool
is_over state.Annulled = true
is_over other = false

abbrev pub begun_in : VacState → Option ℕ
begun_in (state.Begun p) = Some p
begun_in other = None

abbrev pub offered_in : VacState → Option ℕ
offered_in (state.OnOffer p) = Some p
offered_in other = None

abbrev pub taken_in : ℕ → VacState → Bool
taken_in p (state.Taken q) = nat_eq q p
taken_in p other = false

abbrev pub offered_person : Option Offer → Option ℕ
offered_person o = option_map (λ (offer : Offer). offer.person) o

-- whether it was annulled, who has begun it, to whom it is on offer, whose it is and who accepted it last are told by the state
pub record Tells (over : Bool) (begun_is : Option ℕ) (offer : Option Offer) (has : ℕ → Bool) (last : Option ℕ) (how : VacState) : Type 0 where
  pub annulled : over ≡ is_over how
  pub started_by : begun_is ≡ begun_in how
  pub offered_to : offered_person offer ≡ offered_in how
  pub mine : (p : ℕ) → has p ≡ taken_in p how
  pub accepter : (p : ℕ) → taken_in p how ≡ true → last ≡ Some p

abbrev pub last_accepter : History → ℕ → Option ℕ
last_accepter h v = last_of (said (accepted_by v)) h.entries

abbrev pub Tracks : History → ℕ → VacState → Type 0
Tracks h v how = Tells (is_annulled h v) (begun h v) (open_offer h v) (λ p. is_assigned h p v) (last_accepter h v) how

-- a state that tells so is the vacancy's
pub state-is : (h : History) (v : ℕ) (how : VacState) → Tracks h v how → state_of h v ≡ how
state-is h v state.Annulled t = rw t.annulled refl
state-is h v (state.Begun p) t = rw (t.annulled, t.started_by) refl
state-is h v (state.Taken q) t =
    let held : holder h v ≡ Some q = ap (only_if (λ p. is_assigned h p v)) (t.accepter q (nat_eq-same q)) ∙ rw (t.mine q, nat_eq-same q) refl in
    rw (t.annulled, t.started_by, held) refl
state-is h v (state.OnOffer q) t = rw (t.annulled, t.started_by, nobody (last_accepter h v)) (by_offer (open_offer h v) t.offered_to)
  where
    nobody : (last : Option ℕ) → only_if (λ p. is_assigned h p v) last ≡ None
    nobody None = refl
    nobody (Some p) = rw (t.mine p) refl

    by_offer : (o : Option Offer) → offered_person o ≡ Some q → open_state o ≡ state.OnOffer q
    by_offer None is = cc
    by_offer (Some offer) is = let same : offer.person ≡ q = cc in ap state.OnOffer same
state-is h v state.Vacant t = rw (t.annulled, t.started_by, nobody (last_accepter h v)) (by_offer (open_offer h v) t.offered_to)
  where
    nobody : (last : Option ℕ) → only_if (λ p. is_assigned h p v) last ≡ None
    nobody None = refl
    nobody (Some p) = rw (t.mine p) refl

    by_offer : (o : Option Offer) → offered_person o ≡ None → open_state o ≡ state.Vacant
    by_offer None is = refl
    by_offer (Some offer) is = cc

-- ---- what a command does

pub or_false : (b : Bool) → (b || false) ≡ b
or_false true = refl
or_false false = refl

-- nothing
pub same-tells : (over : Bool) (b : Option ℕ) (o : Option Offer) (has : ℕ → Bool) (last : Option ℕ) (how : VacState) → Tells over b o has last how
    → Tells (over || false) (option_or b None) o has last how
same-tells over b o has last how t = record {
  annulled = or_false over ∙ t.annulled;
  started_by = or_none b ∙ t.started_by;
  offered_to = t.offered_to;
  mine = t.mine;
  accepter = t.accepter;
}

-- a vacancy that is on offer to a person is in that state
pub on-offer : (h : History) (v p : ℕ) (how : VacState) → Tracks h v how → is_to p (open_offer h v) ≡ true → how ≡ state.OnOffer p
on-offer h v p how t to = by_offer (open_offer h v) t.offered_to to
  where
    by_state : (how : VacState) (q : ℕ) → Some q ≡ offered_in how → nat_eq q p ≡ true → how ≡ state.OnOffer p
    by_state (state.OnOffer r) q is same = let told : q ≡ r = cc in ap state.OnOffer (sym told ∙ same_number q p same)
    by_state other q is same = cc

    by_offer : (o : Option Offer) → offered_person o ≡ offered_in how → is_to p o ≡ true → how ≡ state.OnOffer p
    by_offer None is to = absurd (false≢true to)
    by_offer (Some offer) is to = by_state how offer.person is to

-- a settled offer leaves the vacancy vacant, or taken by who accepts it
pub settled-tells : (over : Bool) (b : Option ℕ) (o : Option Offer) (has : ℕ → Bool) (last : Option ℕ) (p : ℕ) → Tells over b o has last (state.OnOffer p)
    → Tells (over || false) (option_or b None) None has last state.Vacant
settled-tells over b o has last p t = record {
  annulled = or_false over ∙ t.annulled;
  started_by = or_none b ∙ t.started_by;
  offered_to = refl;
  mine = t.mine;
  accepter = λ q no. absurd (false≢true no);
}

pub taken-tells : (over : Bool) (b : Option ℕ) (o : Option Offer) (has : ℕ → Bool) (last : Option ℕ) (p : ℕ) → Tells over b o has last (state.OnOffer p)
    → Tells (over || false) (option_or b None) None (λ q. unwrap_or (cond (nat_eq p q) (Some true) None) (has q)) (Some p) (state.Taken p)
taken-tells over b o has last p t = record {
  annulled = or_false over ∙ t.annulled;
  started_by = or_none b ∙ t.started_by;
  offered_to = refl;
  mine = λ q. go q (nat_eq p q);
  accepter = λ q mine. ap Some (same_number p q mine);
}
  where
    go : (q : ℕ) (same : Bool) → unwrap_or (cond same (Some true) None) (has q) ≡ same
    go q true = refl
    go q false = t.mine q

-- what a person has not is not lost
pub kept-tells : (over : Bool) (b : Option ℕ) (o : Option Offer) (has : ℕ → Bool) (last : Option ℕ) (p : ℕ) (how : VacState) → Tells over b o has last how → taken_in p how ≡ false
    → Tells (over || false) (option_or b None) o (λ q. unwrap_or (cond (nat_eq p q) (Some false) None) (has q)) last how
kept-tells over b o has last p how t other = record {
  annulled = or_false over ∙ t.annulled;
  started_by = or_none b ∙ t.started_by;
  offered_to = t.offered_to;
  mine = λ q. go q (nat_eq p q) refl;
  accepter = t.accepter;
}
  where
    go : (q : ℕ) (same : Bool) → nat_eq p q ≡ same → unwrap_or (cond same (Some false) None) (has q) ≡ taken_in q how
    go q true is = sym other ∙ ap (λ n. taken_in n how) (same_number p q is)
    go q false is = t.mine q

-- what a person has they lose: it is vacant, or begun
pub lost-tells : (over : Bool) (b : Option ℕ) (o : Option Offer) (has : ℕ → Bool) (last : Option ℕ) (p : ℕ) → Tells over b o has last (state.Taken p)
    → Tells (over || false) (option_or b None) o (λ q. unwrap_or (cond (nat_eq p q) (Some false) None) (has q)) last state.Vacant
lost-tells over b o has last p t = record {
  annulled = or_false over ∙ t.annulled;
  started_by = or_none b ∙ t.started_by;
  offered_to = t.offered_to;
  mine = λ q. go q (nat_eq p q) (t.mine q);
  accepter = λ q no. absurd (false≢true no);
}
  where
    go : (q : ℕ) (same : Bool) → has q ≡ same → unwrap_or (cond same (Some false) None) (has q) ≡ false
    go q true is = refl
    go q false is = is

pub begun-tells : (over : Bool) (b : Option ℕ) (o : Option Offer) (has : ℕ → Bool) (last : Option ℕ) (p : ℕ) → Tells over b o has last (state.Taken p)
    → Tells (over || false) (option_or b (Some p)) o (λ q. unwrap_or (cond (nat_eq p q) (Some false) None) (has q)) last (state.Begun p)
begun-tells over b o has last p t = record {
  annulled = or_false over ∙ t.annulled;
  started_by = rw t.started_by refl;
  offered_to = t.offered_to;
  mine = λ q. go q (nat_eq p q) (t.mine q);
  accepter = λ q no. absurd (false≢true no);
}
  where
    go : (q : ℕ) (same : Bool) → has q ≡ same → unwrap_or (cond same (Some false) None) (has q) ≡ false
    go q true is = refl
    go q false is = is
