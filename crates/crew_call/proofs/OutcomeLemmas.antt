-- What the outcome of a crew call says of the history that its entries stand in.
use Rattle.std.proofs.Common.{◌≡◌, ◌≢◌, ℕ, Bool, true, false, cond, nat_eq, Option, None, Some, unwrap_or, List, [], ◌∷◌, ◌++◌, refl, sym, ap, subst, ◌∙◌, append-nil, append_assoc}
use mathlib.Core.List.{IsPrefix}
use Rattle.std.specs.List.{All}
use Rattle.std.proofs.Math.Seq.{append_snoc}
use Rattle.std.proofs.lemmas.Bool.{false≢true}
use Rattle.std.proofs.lemmas.List.Elements.{All-nil, All-cons}
use Rattle.desk_model.specs.declared.command.Cmd.TheVariants as cmd
use Rattle.desk_model.specs.declared.reply.Reply.{Reply}
use Rattle.desk_model.specs.declared.reply.Reply.TheVariants as reply
use Rattle.desk_model.specs.declared.offer.Offer.{Offer}
use Rattle.desk_model.specs.statements.Opening.{OpeningValue}
use Rattle.desk_model.specs.statements.Statement.{StatedValue, stated_of}
use Rattle.desk_model.specs.statements.Entry.{EntryValue}
use Rattle.desk_model.specs.histories.History.{History, history_of, with_entry}
use Rattle.desk_model.specs.offers.Offers.{asks_for, offer_in, offer_said, open_offer, is_to}
use Rattle.desk_model.specs.histories.Legal.{is_within, moment, answer_to, IsNext, IsLegal}
use Rattle.desk_model.proofs.OrderLemmas.{nat_eq-same}
use Rattle.desk_model.proofs.OpensLemmas.{offer-comes}
use Rattle.crew_call.specs.declared.crew_outcome.CrewOutcome.{CrewOutcome}
use Rattle.crew_call.specs.declared.crew_outcome.CrewOutcome.TheVariants as outcome
use Rattle.crew_call.specs.CrewCalls.{person_offered, CrewCall, the_first_is_not_offered, both_are_offered, the_first_is_withdrawn, the_first_was_closed}
use Rattle.crew_call.specs.Ended.{EndedBetween}
use Rattle.crew_call.specs.Outcomes.{StandIn, IsClosedAt, EndedIn, Says, OutcomesInWords}
use Rattle.crew_call.proofs.EndedLemmas.{Begins, IsNextAt, next-at}

some : {X : Type 0} {x y : X} → Some x ≡ Some y → x ≡ y
some is = cc

none-some : {X : Type 0} {x : X} → None ≡ Some x → ⊥
none-some is = cc

-- ---- entries that open an offer, and that close it

opened-to : (h : History) (e : EntryValue) (v p : ℕ) → e.stated.cmd ≡ cmd.Next v → person_offered e.reply ≡ Some p → is_to p (open_offer (with_entry h e) v) ≡ true
opened-to h e v p stated offered = ap (is_to p) (offer-comes h e v) ∙ go e.reply refl offered
  where
    go : (r : Reply) → e.reply ≡ r → person_offered r ≡ Some p → is_to p (unwrap_or (offer_said v e) (open_offer h v)) ≡ true
    go (reply.Offered q b k) told is = rw (told, stated, nat_eq-same v, some is) (nat_eq-same p)
    go other told is = absurd (cc)

closed-by : (h : History) (e : EntryValue) (v p : ℕ) → e.stated.cmd ≡ cmd.Withdraw v p → e.reply ≡ reply.Done → open_offer (with_entry h e) v ≡ None
closed-by h e v p stated replied = offer-comes h e v ∙ rw (stated, replied, nat_eq-same v) refl

-- the minute of an entry that offers lies in the window
within-of : (h : History) (e : EntryValue) (p : ℕ) → IsNext h e → person_offered e.reply ≡ Some p → is_within h.opening.window e.stated.minute ≡ true
within-of h e p is offered = go (is_within h.opening.window e.stated.minute) refl
  where
    go : (within : Bool) → is_within h.opening.window e.stated.minute ≡ within → within ≡ true
    go true so = refl
    go false so = absurd (none-some (sym (ap person_offered (is.reply ∙ ap (λ b. cond b (answer_to h (moment h e.stated.minute) e.stated.cmd) reply.OutsideWindow) so)) ∙ offered))

-- ---- by the ways in which a call may end

offers-none : (o : OpeningValue) (later : List EntryValue) (e : EntryValue) → person_offered e.reply ≡ None → IsClosedAt o later e
offers-none o later e none u q asks offered = absurd (none-some (sym none ∙ offered))

parts-of : (xs ys zs : List EntryValue) (f g : EntryValue) → (((xs ++ ys) ++ f ∷ []) ++ zs) ++ g ∷ [] ≡ xs ++ ((ys ++ f ∷ zs) ++ g ∷ [])
parts-of xs ys zs f g = simp append_assoc

pub outcomes : Begins → EndedBetween → OutcomesInWords
outcomes begins ended o known _ later t v w _ legal stand (the_first_is_not_offered e one) =
    All-cons (IsClosedAt o later) e [] (offers-none o later e one.1) (All-nil (IsClosedAt o later))
outcomes begins ended o known _ later t v w _ legal stand (both_are_offered e f p q one two) = tt
outcomes begins ended o known _ later t v w _ legal stand (the_first_is_withdrawn e f g p one two stated replied) =
    All-cons (IsClosedAt o later) e (f ∷ g ∷ []) first
    (All-cons (IsClosedAt o later) f (g ∷ []) (offers-none o later f two.1) (All-cons (IsClosedAt o later) g [] (offers-none o later g (ap person_offered replied)) (All-nil (IsClosedAt o later))))
  where
    front : List EntryValue
    front = (((known ++ stand.0) ++ e ∷ []) ++ stand.1.0) ++ f ∷ []

    first : IsClosedAt o later e
    first u q asks offered =
        let same : v ≡ u = some (sym (ap (λ (s : StatedValue). asks_for s.cmd) one.0) ∙ asks) in
        subst (λ es. open_offer (history_of o es) u ≡ None) (sym stand.1.1.1)
        (subst (λ x. open_offer (history_of o ((front ++ stand.1.1.0) ++ g ∷ [])) x ≡ None) same
        (closed-by (history_of o (front ++ stand.1.1.0)) g v p (ap (λ (s : StatedValue). s.cmd) stated) replied))
outcomes begins ended o known _ later t v w _ legal stand (the_first_was_closed e f g p one two stated replied) =
    record {
      before = known ++ stand.0;
      knew = (stand.0, refl);
      first = e;
      between = stand.1.0 ++ f ∷ stand.1.1.0;
      last = g;
      parts = is;
      ours = f ∷ [];
      entries = refl;
      offered = one.1;
      ended = ended o front (stand.1.0 ++ f ∷ stand.1.1.0) g v p fine (opened-to (history_of o (known ++ stand.0)) e v p (ap (λ (s : StatedValue). s.cmd) one.0) one.1)
          (ap (λ (s : StatedValue). s.cmd) stated)
          (ap (is_within o.window) (ap (λ (s : StatedValue). s.minute) stated ∙ sym (ap (λ (s : StatedValue). s.minute) one.0)) ∙ within-of (history_of o (known ++ stand.0)) e p at.next one.1)
          replied;
    }
  where
    front : List EntryValue
    front = (known ++ stand.0) ++ e ∷ []

    is : later ≡ ((known ++ stand.0) ++ e ∷ []) ++ ((stand.1.0 ++ f ∷ stand.1.1.0) ++ g ∷ [])
    is = stand.1.1.1 ∙ parts-of ((known ++ stand.0) ++ e ∷ []) stand.1.0 stand.1.1.0 f g

    fine : IsLegal (history_of o (((known ++ stand.0) ++ e ∷ []) ++ ((stand.1.0 ++ f ∷ stand.1.1.0) ++ g ∷ [])))
    fine = subst (λ es. IsLegal (history_of o es)) is legal

    at : IsNextAt o (known ++ stand.0) e
    at = next-at begins o (known ++ stand.0) e ((stand.1.0 ++ f ∷ stand.1.1.0) ++ g ∷ [])
        (subst (λ es. IsLegal (history_of o es)) (append_snoc (known ++ stand.0) e ((stand.1.0 ++ f ∷ stand.1.1.0) ++ g ∷ [])) fine)
