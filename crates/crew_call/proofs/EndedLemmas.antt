-- Which entry has ended an offer that was open.
use Rattle.std.proofs.Common.{◌≡◌, ◌⊎◌, inl, inr, ℕ, Bool, true, false, cond, nat_eq, Option, None, Some, unwrap_or, List, [], ◌∷◌, ◌++◌, refl, sym, ap, subst, ◌∙◌, append-nil, append_assoc}
use mathlib.Core.List.{IsPrefix}
use Rattle.std.specs.List.{All}
use Rattle.std.proofs.Math.Seq.{append_snoc}
use Rattle.std.proofs.lemmas.Bool.{false≢true}
use Rattle.std.proofs.lemmas.List.Elements.{All-nil, All-cons, All-pop}
use Rattle.desk_model.specs.declared.command.Cmd.{Cmd}
use Rattle.desk_model.specs.declared.command.Cmd.TheVariants as cmd
use Rattle.desk_model.specs.declared.reply.Reply.{Reply}
use Rattle.desk_model.specs.declared.reply.Reply.TheVariants as reply
use Rattle.desk_model.specs.declared.offer.Offer.{Offer}
use Rattle.desk_model.specs.statements.Opening.{OpeningValue}
use Rattle.desk_model.specs.statements.Entry.{EntryValue}
use Rattle.desk_model.specs.histories.History.{History, history_of, with_entry, step_of, steps, is_done, said}
use Rattle.desk_model.specs.offers.Offers.{is_of, offer_in, settles, open_offer, is_to}
use Rattle.desk_model.specs.laws.RestsOn.{RestsOn}
use Rattle.desk_model.specs.answers.SettleAnswer.{decline_answer}
use Rattle.desk_model.specs.histories.Legal.{is_within, moment, answer_to, IsNext, IsLegal}
use Rattle.desk_model.proofs.SaidLemmas.{steps-snoc}
use Rattle.desk_model.proofs.LegalLemmas.{IsRight}
use Rattle.desk_model.proofs.OrderLemmas.{same_number, nat_eq-same}
use Rattle.desk_model.proofs.OpensLemmas.{Opens, next-says, said-ends, offer-comes, stays}
use Rattle.desk_model.proofs.RestsOnLemmas.{done-rests}
use Rattle.crew_call.specs.Ended.{Ends, by_accept, by_decline, by_no_answer, by_withdrawal, by_annulment, HasEnded, WasEnded, EndedBetween}

-- the laws of histories and of offers that this rests on
abbrev pub Begins : Type 0
Begins = (o : OpeningValue) (front whole : List EntryValue) → IsPrefix front whole → IsLegal (history_of o whole) → IsLegal (history_of o front)

abbrev pub MayDecline : Type 0
MayDecline = (h : History) → IsLegal h → (v p : ℕ) → is_to p (open_offer h v) ≡ true → decline_answer h v p ≡ reply.Done

-- ---- the entries of a legal history

next-of : (h : History) (e : EntryValue) → IsLegal (with_entry h e) → IsNext h e
next-of h e legal = (All-pop IsRight _ (steps h) (Some (step_of h e)) (steps-snoc h e) legal.each).1

-- each is next after those before it, which are legal
pub record IsNextAt (o : OpeningValue) (front : List EntryValue) (e : EntryValue) : Type 0 where
  pub legal : IsLegal (history_of o front)
  pub next : IsNext (history_of o front) e

pub next-at : Begins → (o : OpeningValue) (front : List EntryValue) (e : EntryValue) (rest : List EntryValue) → IsLegal (history_of o (front ++ e ∷ rest)) → IsNextAt o front e
next-at begins o front e rest legal = record {
  legal = begins o front (front ++ e ∷ rest) (e ∷ rest, refl) legal;
  next = next-of (history_of o front) e (begins o (front ++ e ∷ []) (front ++ e ∷ rest) (rest, append_snoc front e rest) legal);
}

-- ---- what settles an offer to a person

one-person : (o : Option Offer) (p q : ℕ) → is_to p o ≡ true → is_to q o ≡ true → q ≡ p
one-person None p q to of = absurd (false≢true to)
one-person (Some offer) p q to of = sym (same_number offer.person q of) ∙ same_number offer.person p to

names : (v p u q : ℕ) (makes : ℕ → ℕ → Cmd) → Ends v p (makes v p) → u ≡ v → q ≡ p → Ends v p (makes u q)
names v p u q makes ends vac person = subst (λ x. Ends v p (makes x q)) (sym vac) (subst (λ x. Ends v p (makes v x)) (sym person) ends)

settled-by : (h : History) (v p : ℕ) (c : Cmd) → is_to p (open_offer h v) ≡ true → RestsOn h c → is_of v (settles c) ≡ true → Ends v p c
settled-by h v p (cmd.Accept u q) to rests of =
    let vac = same_number u v of in names v p u q (λ x y. cmd.Accept x y) by_accept vac (one-person (open_offer h v) p q to (subst (λ x. is_to q (open_offer h x) ≡ true) vac rests.to))
settled-by h v p (cmd.Decline u q) to rests of =
    let vac = same_number u v of in names v p u q (λ x y. cmd.Decline x y) by_decline vac (one-person (open_offer h v) p q to (subst (λ x. is_to q (open_offer h x) ≡ true) vac rests.to))
settled-by h v p (cmd.NoAnswer u q) to rests of =
    let vac = same_number u v of in names v p u q (λ x y. cmd.NoAnswer x y) by_no_answer vac (one-person (open_offer h v) p q to (subst (λ x. is_to q (open_offer h x) ≡ true) vac rests.to))
settled-by h v p (cmd.Withdraw u q) to rests of =
    let vac = same_number u v of in names v p u q (λ x y. cmd.Withdraw x y) by_withdrawal vac (one-person (open_offer h v) p q to (subst (λ x. is_to q (open_offer h x) ≡ true) vac rests.to))
settled-by h v p (cmd.Annul u) to rests of = subst (λ x. Ends v p (cmd.Annul x)) (sym (same_number u v of)) by_annulment
settled-by h v p other to rests of = absurd (false≢true of)

ends-settles : (v p : ℕ) (c : Cmd) → Ends v p c → is_of v (settles c) ≡ true
ends-settles v p _ by_accept = nat_eq-same v
ends-settles v p _ by_decline = nat_eq-same v
ends-settles v p _ by_no_answer = nat_eq-same v
ends-settles v p _ by_withdrawal = nat_eq-same v
ends-settles v p _ by_annulment = nat_eq-same v

-- ---- one entry

-- it has ended the offer, and then it is closed; or it hasn't, and then it is open as before
abbrev EndsOrStays : History → EntryValue → ℕ → ℕ → Type 0
EndsOrStays h e v p = (HasEnded v p e × (open_offer (with_entry h e) v ≡ None)) ⊎ ((HasEnded v p e → ⊥) × (is_to p (open_offer (with_entry h e) v) ≡ true))

was-done : (r : Reply) → is_done r ≡ true → r ≡ reply.Done
was-done reply.Done done = refl
was-done other done = absurd (false≢true done)

is-done : (e : EntryValue) → e.reply ≡ reply.Done → is_done e.reply ≡ true
is-done e told = rw told refl

said-of : (v p : ℕ) (e : EntryValue) → HasEnded v p e → is_of v (said settles e) ≡ true
said-of v p e has = rw has.done (ends-settles v p e.stated.cmd has.by)

one-more : (h : History) (e : EntryValue) (v p : ℕ) → IsLegal h → IsNext h e → is_to p (open_offer h v) ≡ true → EndsOrStays h e v p
one-more h e v p legal is to = elim (next-says h e is) [
  | inl none ↦ by_end none (is_of v (said settles e)) refl
  | inr new ↦ inr ((λ has. false≢true (sym new.undone ∙ is-done e has.done)), by_vacancy new (nat_eq new.vac v) refl)
]
  where
    by_end : (offer_in e.moment e.reply ≡ None) → (over : Bool) → is_of v (said settles e) ≡ over → EndsOrStays h e v p
    by_end none true over =
        let closed : open_offer (with_entry h e) v ≡ None = offer-comes h e v ∙ ap (λ o. unwrap_or o (open_offer h v)) (said-ends v e none ∙ ap (λ b. cond b (Some None) None) over) in
        by_reply (is_done e.reply) refl over closed
      where
        by_reply : (done : Bool) → is_done e.reply ≡ done → is_of v (cond (is_done e.reply) (settles e.stated.cmd) None) ≡ true → open_offer (with_entry h e) v ≡ None → EndsOrStays h e v p
        by_reply true done of closed =
            inl (record { done = was-done e.reply done; by = settled-by h v p e.stated.cmd to (done-rests h e is done) (subst (λ b. is_of v (cond b (settles e.stated.cmd) None) ≡ true) done of) }, closed)
        by_reply false done of closed = absurd (false≢true (subst (λ b. is_of v (cond b (settles e.stated.cmd) None) ≡ true) done of))
    by_end none false over =
        let same : open_offer (with_entry h e) v ≡ open_offer h v = stays h e v (said-ends v e none ∙ ap (λ b. cond b (Some None) None) over) in
        inr ((λ has. false≢true (sym over ∙ said-of v p e has)), ap (is_to p) same ∙ to)

    by_vacancy : (new : Opens h e) → (this : Bool) → nat_eq new.vac v ≡ this → is_to p (open_offer (with_entry h e) v) ≡ true
    by_vacancy new true this = absurd (false≢true (sym (ap (is_to p) (ap (open_offer h) (sym (same_number new.vac v this)) ∙ new.closed)) ∙ to))
    by_vacancy new false this = ap (is_to p) (stays h e v (new.no_other v this)) ∙ to

-- ---- all that come before the withdrawal

-- a withdrawal of an open offer is done
withdraws : MayDecline → (h : History) (e : EntryValue) (v p : ℕ) → IsLegal h → IsNext h e → is_to p (open_offer h v) ≡ true → e.stated.cmd ≡ cmd.Withdraw v p
    → is_within h.opening.window e.stated.minute ≡ true → e.reply ≡ reply.Done
withdraws may h e v p legal is to stated within =
    is.reply ∙ ap (λ b. cond b (answer_to h (moment h e.stated.minute) e.stated.cmd) reply.OutsideWindow) within
    ∙ ap (answer_to h (moment h e.stated.minute)) stated ∙ may h legal v p to

abbrev HasNotEnded : ℕ → ℕ → EntryValue → Type 0
HasNotEnded v p e = HasEnded v p e → ⊥

pub ended-between : Begins → MayDecline → EndedBetween
ended-between begins may o front [] last v p legal to stated within vain =
    let at = next-at begins o front last [] legal in
    absurd (vain (withdraws may (history_of o front) last v p at.legal at.next to stated within))
ended-between begins may o front (e ∷ rest) last v p legal to stated within vain =
    let at = next-at begins o front e (rest ++ last ∷ []) legal in
    elim (one-more (history_of o front) e v p at.legal at.next to) [
      | inl now ↦ record {
        before = [];
        entry = e;
        behind = rest;
        parts = refl;
        ended = now.0;
        first = All-nil (HasNotEnded v p);
        was_open = subst (λ es. is_to p (open_offer (history_of o es) v) ≡ true) (sym (append-nil front)) to;
        is_closed = subst (λ es. open_offer (history_of o (es ++ e ∷ [])) v ≡ None) (sym (append-nil front)) now.1;
      }
      | inr still ↦ later still.0 (ended-between begins may o (front ++ e ∷ []) rest last v p
          (subst (λ es. IsLegal (history_of o es)) (sym (append_snoc front e (rest ++ last ∷ []))) legal) still.1 stated within vain)
    ]
  where
    later : HasNotEnded v p e → WasEnded o (front ++ e ∷ []) rest v p → WasEnded o front (e ∷ rest) v p
    later not was = record {
      before = e ∷ was.before;
      entry = was.entry;
      behind = was.behind;
      parts = ap (λ es. e ∷ es) was.parts;
      ended = was.ended;
      first = All-cons (HasNotEnded v p) e was.before not was.first;
      was_open = subst (λ es. is_to p (open_offer (history_of o es) v) ≡ true) (append_snoc front e was.before) was.was_open;
      is_closed = subst (λ es. open_offer (history_of o (es ++ was.entry ∷ [])) v ≡ None) (append_snoc front e was.before) was.is_closed;
    }
