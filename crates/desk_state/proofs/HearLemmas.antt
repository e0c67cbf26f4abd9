-- What an entry says of offers and of declines.
use Rattle.std.proofs.Common.{◌≡◌, ℕ, ◌+◌, Bool, true, false, ◌&&◌, ◌||◌, cond, nat_eq, Option, None, Some, is_some, unwrap_or, List, [], ◌∷◌, refl, sym, ap, ◌∙◌, subst, ◌⊎◌, inl, inr}
use Rattle.std.specs.Option.{option_or, option_map}
use Rattle.std.specs.Str.{bytes_eq}
use Rattle.std.proofs.lemmas.Bool.{false≢true}
use Rattle.desk_model.specs.declared.limits.TheConstants.{HOLD}
use Rattle.desk_model.specs.declared.command.Cmd.{Cmd}
use Rattle.desk_model.specs.declared.command.Cmd.TheVariants as cmd
use Rattle.desk_model.specs.declared.reply.Reply.{Reply}
use Rattle.desk_model.specs.declared.reply.Reply.TheVariants as reply
use Rattle.desk_model.specs.declared.offer.Offer.{Offer}
use Rattle.desk_model.specs.statements.Entry.{EntryValue}
use Rattle.desk_model.specs.histories.History.{History, with_entry, is_done, said}
use Rattle.desk_model.specs.offers.Offers.{is_of, is_to, asks_for, offer_in, settles, open_offer}
use Rattle.desk_model.specs.offers.Held.{hold_told}
use Rattle.desk_model.specs.laws.Comes.{Comes, left_open, on_offer_after}
use Rattle.desk_model.specs.laws.RestsOn.{RestsOn, MaySettle}
use Rattle.desk_model.proofs.SaidLemmas.{said-some}
use Rattle.desk_state.specs.OfferTold.{decliner, offered_from, offered_person}

-- ---- offers

done-offers : (m : ℕ) (r : Reply) → is_done r ≡ true → offer_in m r ≡ None
done-offers m reply.Done done = refl
done-offers m other done = absurd (false≢true done)

settled-offers : (e : EntryValue) (vac : ℕ) → said settles e ≡ Some vac → offer_in e.moment e.reply ≡ None
settled-offers e vac settled = done-offers e.moment e.reply (said-some settles e vac settled).0

-- an entry that settles ends the offer of that vacancy, and of no other
pub settled-offer : (h : History) (e : EntryValue) (vac v : ℕ) → Comes h e → said settles e ≡ Some vac → open_offer (with_entry h e) v ≡ cond (nat_eq vac v) None (open_offer h v)
settled-offer h e vac v comes settled = comes.offer v ∙ rw (settled-offers e vac settled, settled) (go (is_of v (asks_for e.stated.cmd)) (nat_eq vac v))
  where
    go : (asked here : Bool) → unwrap_or (option_or (cond asked None None) (cond here (Some None) None)) (open_offer h v) ≡ cond here None (open_offer h v)
    go true true = refl
    go true false = refl
    go false true = refl
    go false false = refl

pub settled-to : (e : EntryValue) (vac p : ℕ) (was : Option ℕ) → said settles e ≡ Some vac → on_offer_after p e was ≡ left_open (Some vac) was
settled-to e vac p was settled = rw (settled-offers e vac settled, settled) refl

-- one that offers opens the offer of the vacancy that was asked for, and changes no other
module _ (e : EntryValue) (vac : ℕ) (offer : Offer) (none : said settles e ≡ None) (asked : asks_for e.stated.cmd ≡ Some vac) (made : offer_in e.moment e.reply ≡ Some offer) where
  pub made-offer : (h : History) (v : ℕ) → Comes h e → open_offer (with_entry h e) v ≡ cond (nat_eq vac v) (Some offer) (open_offer h v)
  made-offer h v comes = comes.offer v ∙ rw (made, asked, none) (go (nat_eq vac v))
    where
      go : (here : Bool) → unwrap_or (option_or (cond here (Some (Some offer)) None) None) (open_offer h v) ≡ cond here (Some offer) (open_offer h v)
      go true = refl
      go false = refl

  pub made-to : (p : ℕ) (was : Option ℕ) → on_offer_after p e was ≡ option_or (cond (nat_eq offer.person p) (Some vac) None) was
  made-to p was = rw (made, asked, none) (ap (option_or (cond (nat_eq offer.person p) (Some vac) None)) (kept was))
    where
      kept : (was : Option ℕ) → left_open None was ≡ was
      kept None = refl
      kept (Some v) = refl

-- and any other leaves all
abbrev pub OffersNothing : EntryValue → Type 0
OffersNothing e = (asks_for e.stated.cmd ≡ None) ⊎ (offer_in e.moment e.reply ≡ None)

pub silent-offer : (h : History) (e : EntryValue) (v : ℕ) → Comes h e → said settles e ≡ None → OffersNothing e → open_offer (with_entry h e) v ≡ open_offer h v
silent-offer h e v comes none silent = comes.offer v ∙ elim silent [
  | inl unasked ↦ rw (unasked, none) refl
  | inr unmade ↦ rw (unmade, none) (go (is_of v (asks_for e.stated.cmd)))
]
  where
    go : (asked : Bool) → unwrap_or (option_or (cond asked None None) None) (open_offer h v) ≡ open_offer h v
    go true = refl
    go false = refl

pub silent-to : (e : EntryValue) (p : ℕ) (was : Option ℕ) → said settles e ≡ None → OffersNothing e → on_offer_after p e was ≡ was
silent-to e p was none silent = elim silent [
  | inl unasked ↦ rw (unasked, none) (unasked_to (is_to p (offer_in e.moment e.reply)) was)
  | inr unmade ↦ rw (unmade, none) (kept was)
]
  where
    kept : (was : Option ℕ) → left_open None was ≡ was
    kept None = refl
    kept (Some v) = refl

    unasked_to : (to : Bool) (was : Option ℕ) → option_or (cond to None None) (left_open None was) ≡ was
    unasked_to true was = kept was
    unasked_to false was = kept was

-- who is told to have an offer has it by the reply
pub no-offer : (e : EntryValue) → offered_person e ≡ None → offer_in e.moment e.reply ≡ None
no-offer e none = go (offer_in e.moment e.reply) none
  where
    go : (offer : Option Offer) → option_map (λ o. o.person) offer ≡ None → offer ≡ None
    go None none = refl
    go (Some offer) none = absurd (false≢true (sym (ap is_some none)))

pub record IsMadeTo (e : EntryValue) (p : ℕ) : Type 0 where
  pub offer : Offer
  pub is : offer_in e.moment e.reply ≡ Some offer
  pub person : offer.person ≡ p
  pub board : offered_from e ≡ Some offer.board
  pub at : offer.made ≡ e.moment
  pub position : ℕ
  pub reply_is : e.reply ≡ reply.Offered offer.person offer.board position

pub made-to_person : (e : EntryValue) (p : ℕ) → offered_person e ≡ Some p → IsMadeTo e p
made-to_person e p to = go e.reply refl to
  where
    go : (r : Reply) → e.reply ≡ r → option_map (λ o. o.person) (offer_in e.moment r) ≡ Some p → IsMadeTo e p
    go (reply.Offered q b k) is to = record {
      offer = record { person = q; board = b; made = e.moment };
      is = ap (offer_in e.moment) is;
      person = ap (λ o. unwrap_or o 0) to;
      board = ap (λ r. option_map (λ o. o.board) (offer_in e.moment r)) is;
      at = refl;
      position = k;
      reply_is = is;
    }
    go other is to = absurd (false≢true (ap is_some to))

-- ---- declines

declines-none : (c : Cmd) → settles c ≡ None → decliner c ≡ None
declines-none (cmd.Decline vac p) none = absurd (false≢true (sym (ap is_some none)))
declines-none other none = refl

pub settled-none : (e : EntryValue) → said settles e ≡ None → said decliner e ≡ None
settled-none e none = go (is_done e.reply) none
  where
    go : (done : Bool) → cond done (settles e.stated.cmd) None ≡ None → cond done (decliner e.stated.cmd) None ≡ None
    go true none = declines-none e.stated.cmd none
    go false none = refl

no-hold_told : (codes : List (List ℕ)) (p : ℕ) (h : History) (m : ℕ) (c : Cmd) → decliner c ≡ None → hold_told codes p h m c ≡ None
no-hold_told codes p h m (cmd.Decline vac q) none = absurd (false≢true (sym (ap is_some none)))
no-hold_told codes p h m other none = refl

pub no-hold : (codes : List (List ℕ)) (p : ℕ) (h : History) (m : ℕ) (e : EntryValue) → said decliner e ≡ None → said (hold_told codes p h m) e ≡ None
no-hold codes p h m e none = go (is_done e.reply) none
  where
    go : (done : Bool) → cond done (decliner e.stated.cmd) None ≡ None → cond done (hold_told codes p h m e.stated.cmd) None ≡ None
    go true none = no-hold_told codes p h m e.stated.cmd none
    go false none = refl

-- the command by which a person declines
pub record Declines (e : EntryValue) (p : ℕ) : Type 0 where
  pub vac : ℕ
  pub done : is_done e.reply ≡ true
  pub told : e.stated.cmd ≡ cmd.Decline vac p
  pub settled : said settles e ≡ Some vac

pub declines : (e : EntryValue) (p : ℕ) → said decliner e ≡ Some p → Declines e p
declines e p is = let parts = said-some decliner e p is in go e.stated.cmd refl parts.0 parts.1
  where
    go : (c : Cmd) → e.stated.cmd ≡ c → is_done e.reply ≡ true → decliner c ≡ Some p → Declines e p
    go (cmd.Decline vac q) told done is = record {
      vac = vac;
      done = done;
      told = told ∙ ap (cmd.Decline vac) (ap (λ o. unwrap_or o 0) is);
      settled = rw (done, told) refl;
    }
    go other told done is = absurd (false≢true (ap is_some is))

-- what it tells of a hold by one board
pub hold-told : (h : History) (e : EntryValue) (p q : ℕ) (b : List ℕ) (offer : Offer) → (is : Declines e p) → open_offer h is.vac ≡ Some offer
    → unwrap_or (said (hold_told (b ∷ []) q h e.moment) e) 0 ≡ cond (nat_eq p q && bytes_eq offer.board b) (e.moment + HOLD) 0
hold-told h e p q b offer is was = rw (is.done, is.told, was) (go (nat_eq p q) (bytes_eq offer.board b))
  where
    go : (mine here : Bool) → unwrap_or (cond (mine && (here || false)) (Some (e.moment + HOLD)) None) 0 ≡ cond (mine && here) (e.moment + HOLD) 0
    go true true = refl
    go true false = refl
    go false here = refl

-- who declines is enrolled, and the vacancy is on offer to them
pub may-decline : (h : History) (e : EntryValue) (p : ℕ) → (is : Declines e p) → (is_done e.reply ≡ true → RestsOn h e.stated.cmd) → MaySettle h is.vac p
may-decline h e p is rests = subst (RestsOn h) is.told (rests is.done)
