-- What the entry that the rules give says of offers.
use Rattle.std.proofs.Common.{◌≡◌, ℕ, ◌⊎◌, inl, inr, Bool, true, false, cond, nat_eq, Option, None, Some, is_none, unwrap_or, refl, sym, ap, ◌∙◌}
use Rattle.std.specs.Option.{option_or, option_map}
use Rattle.std.specs.List.{list_any}
use Rattle.std.proofs.lemmas.Bool.{false≢true}
use Rattle.denial_rules.specs.declared.bar.Bar.{Bar}
use Rattle.denial_rules.specs.declared.bar.Bar.TheVariants as bar
use Rattle.denial_rules.specs.declared.facts.Facts.{Facts}
use Rattle.denial_rules.specs.Table.{marked_off_row, busy_row, on_offer_row, first_bar}
use Rattle.denial_rules.proofs.TableLemmas.{both-none}
use Rattle.desk_model.specs.declared.reply.Reply.{Reply}
use Rattle.desk_model.specs.declared.reply.Reply.TheVariants as reply
use Rattle.desk_model.specs.declared.vac_state.VacState.TheVariants as state
use Rattle.desk_model.specs.declared.person.Person.{Person}
use Rattle.desk_model.specs.declared.link.Link.{Link}
use Rattle.desk_model.specs.declared.offer.Offer.{Offer}
use Rattle.desk_model.specs.statements.Entry.{EntryValue}
use Rattle.desk_model.specs.statements.Job.{JobValue}
use Rattle.desk_model.specs.histories.History.{History, with_entry, is_done, said}
use Rattle.desk_model.specs.histories.Register.{person_of, vacancy_of, vacancies}
use Rattle.desk_model.specs.boards.Boards.{chain}
use Rattle.desk_model.specs.offers.Offers.{asks_for, offer_in, is_of, settles, ends, offer_said, open_offer, is_to, offered_to, on_offer}
use Rattle.desk_model.specs.offers.Assigned.{assigned, holder, begun, is_annulled}
use Rattle.desk_model.specs.offers.States.{open_state, taken_state, begun_state, state_of}
use Rattle.desk_model.specs.offers.Bars.{facts_of, bar_of, may_have, is_free}
use Rattle.desk_model.specs.answers.SettleAnswer.{offered_answer, made_answer, settle_answer}
use Rattle.desk_model.specs.histories.Legal.{IsNext}
use Rattle.desk_model.proofs.SaidLemmas.{last_of-or}
use Rattle.desk_model.proofs.OfferedLemmas.{find-passes, link_of, entry-offered}
use Rattle.desk_model.proofs.MadeLemmas.{made-among}

-- ---- who is free has no vacancy and no open offer

busy-idle : (tour : Bool) (has : Option ℕ) → cond tour (Some bar.InTour) (option_map (λ v. bar.Assigned v) has) ≡ None → has ≡ None
busy-idle true has none = cc
busy-idle false None none = refl
busy-idle false (Some v) none = cc

offer-none : (offer : Option ℕ) → option_map (λ v. bar.OnOffer v) offer ≡ None → offer ≡ None
offer-none None none = refl
offer-none (Some v) none = cc

clear-idle : (facts : Facts) → first_bar facts ≡ None → (facts.assigned ≡ None) × (facts.on_offer ≡ None)
clear-idle facts none =
    let one = both-none (marked_off_row facts) _ none in
    let two = both-none (busy_row facts) _ one.1 in
    let three = both-none (on_offer_row facts) _ two.1 in (busy-idle facts.in_tour facts.assigned two.0, offer-none facts.on_offer three.0)

pub free-idle : (h : History) (m : ℕ) (job : JobValue) (p : ℕ) → is_free h m job p ≡ true → (assigned h p ≡ None) × (on_offer h p ≡ None)
free-idle h m job p free = go (person_of h p) free
  where
    by_bar : (person : Person) (first : Option Bar) → bar_of h m job p person ≡ first → is_none first ≡ true → (assigned h p ≡ None) × (on_offer h p ≡ None)
    by_bar person None none free = clear-idle (facts_of h m job p person) none
    by_bar person (Some b) some free = absurd (false≢true free)

    go : (known : Option Person) → may_have h m job p known ≡ true → (assigned h p ≡ None) × (on_offer h p ≡ None)
    go None free = absurd (false≢true free)
    go (Some person) free = by_bar person (bar_of h m job p person) refl free

-- ---- what the entry that the rules give says of offers

-- a vacancy that is vacant has no open offer
pub vacant-closed : (h : History) (v : ℕ) → state_of h v ≡ state.Vacant → open_offer h v ≡ None
vacant-closed h v is = go (is_annulled h v) (begun h v) (holder h v) (open_offer h v) is
  where
    go : (over : Bool) (b held : Option ℕ) (o : Option Offer) → cond over state.Annulled (begun_state b (taken_state held (open_state o))) ≡ state.Vacant → o ≡ None
    go true b held o is = cc
    go false (Some p) held o is = cc
    go false None (Some p) o is = cc
    go false None None (Some offer) is = cc
    go false None None None is = refl

-- it opens this offer of this vacancy, which was made, to a person without one and without a vacancy, and says nothing of others
pub record Opens (h : History) (e : EntryValue) : Type 0 where
  pub vac : ℕ
  pub offer : Offer
  pub this : (v : ℕ) → nat_eq vac v ≡ true → offer_said v e ≡ Some (Some offer)
  pub no_other : (v : ℕ) → nat_eq vac v ≡ false → offer_said v e ≡ None
  pub to : (p : ℕ) → nat_eq offer.person p ≡ true → offered_to p e ≡ Some vac
  pub to_other : (p : ℕ) → nat_eq offer.person p ≡ false → offered_to p e ≡ None
  pub asks : asks_for e.stated.cmd ≡ Some vac
  pub makes : offer_in e.moment e.reply ≡ Some offer
  pub undone : is_done e.reply ≡ false
  pub made : list_any (nat_eq vac) (vacancies h) ≡ true
  pub closed : open_offer h vac ≡ None
  pub vacant : state_of h vac ≡ state.Vacant
  pub idle : assigned h offer.person ≡ None
  pub free : on_offer h offer.person ≡ None

pub next-says : (h : History) (e : EntryValue) → IsNext h e → (offer_in e.moment e.reply ≡ None) ⊎ Opens h e
next-says h e is = go e.reply refl
  where
    go : (r : Reply) → e.reply ≡ r → (offer_in e.moment e.reply ≡ None) ⊎ Opens h e
    go (reply.Offered p b k) told =
        let offered = entry-offered h e p k b is told in
        let was = offered.1.1 in
        let idle = free-idle h e.moment was.job p (find-passes (λ (l : Link). is_free h e.moment was.job l.person) (chain h was.job.chain) (link_of b k p) was.first) in
        inr (record {
          vac = offered.0;
          offer = record { person = p; board = b; made = e.moment };
          this = λ v same. rw (told, offered.1.0, same) refl;
          no_other = λ v other. rw (told, offered.1.0, other) refl;
          to = λ q same. ap (λ r. cond (is_to q (offer_in e.moment r)) (asks_for e.stated.cmd) None) told ∙ ap (λ mine. cond mine (asks_for e.stated.cmd) None) same ∙ offered.1.0;
          to_other = λ q other. ap (λ r. cond (is_to q (offer_in e.moment r)) (asks_for e.stated.cmd) None) told ∙ ap (λ mine. cond mine (asks_for e.stated.cmd) None) other;
          asks = offered.1.0;
          makes = rw told refl;
          undone = rw told refl;
          made = made-among h offered.0 was.job was.made;
          closed = vacant-closed h offered.0 was.vacant;
          vacant = was.vacant;
          idle = idle.0;
          free = idle.1;
        })
    go other told = inl (rw told refl)

-- an entry that makes no offer offers nothing to anybody
pub none-offered : (e : EntryValue) → offer_in e.moment e.reply ≡ None → (p : ℕ) → offered_to p e ≡ None
none-offered e none p = ap (λ o. cond (is_to p o) (asks_for e.stated.cmd) None) none

-- and what it says of a vacancy's offer is that it settles it
pub said-ends : (v : ℕ) (e : EntryValue) → offer_in e.moment e.reply ≡ None → offer_said v e ≡ ends v e
said-ends v e none = ap (λ o. option_or (cond (is_of v (asks_for e.stated.cmd)) (option_map (λ offer. Some offer) o) None) (ends v e)) none ∙ go (is_of v (asks_for e.stated.cmd))
  where
    go : (mine : Bool) → option_or (cond mine None None) (ends v e) ≡ ends v e
    go true = refl
    go false = refl

pub offer-comes : (h : History) (e : EntryValue) (v : ℕ) → open_offer (with_entry h e) v ≡ unwrap_or (offer_said v e) (open_offer h v)
offer-comes h e v = last_of-or (offer_said v) h.entries e None

-- so what is open after it was open before
pub still-open : (h : History) (e : EntryValue) (v p : ℕ) → offer_in e.moment e.reply ≡ None → is_to p (open_offer (with_entry h e) v) ≡ true → is_to p (open_offer h v) ≡ true
still-open h e v p none to = go (is_of v (said settles e)) (sym (ap (is_to p) (offer-comes h e v ∙ ap (λ o. unwrap_or o (open_offer h v)) (said-ends v e none))) ∙ to)
  where
    go : (mine : Bool) → is_to p (unwrap_or (cond mine (Some None) None) (open_offer h v)) ≡ true → is_to p (open_offer h v) ≡ true
    go true to = absurd (false≢true to)
    go false to = to

pub stays : (h : History) (e : EntryValue) (v : ℕ) → offer_said v e ≡ None → open_offer (with_entry h e) v ≡ open_offer h v
stays h e v none = offer-comes h e v ∙ ap (λ o. unwrap_or o (open_offer h v)) none

pub opens-this : (h : History) (e : EntryValue) (new : Opens h e) (v : ℕ) → nat_eq new.vac v ≡ true → open_offer (with_entry h e) v ≡ Some new.offer
opens-this h e new v this = offer-comes h e v ∙ ap (λ o. unwrap_or o (open_offer h v)) (new.this v this)

-- where a command that settles an offer is done, the offer was open, to the person
pub settle-open : (h : History) (v p : ℕ) (rest : JobValue → Offer → Reply) → is_done (settle_answer h v p rest) ≡ true → is_to p (open_offer h v) ≡ true
settle-open h v p rest done = known (vacancy_of h v) done
  where
    by_offer : (job : JobValue) (offer : Option Offer) → is_done (offered_answer p (rest job) offer) ≡ true → is_to p offer ≡ true
    by_offer job None done = absurd (false≢true done)
    by_offer job (Some offer) done = go (nat_eq offer.person p) done
      where
        go : (mine : Bool) → is_done (cond mine (rest job offer) reply.NoOffer) ≡ true → mine ≡ true
        go true done = refl
        go false done = absurd (false≢true done)

    known : (made : Option JobValue) → is_done (made_answer h v p rest made) ≡ true → is_to p (open_offer h v) ≡ true
    known None done = absurd (false≢true done)
    known (Some job) done = by_person (is_none (person_of h p)) done
      where
        by_person : (unknown : Bool) → is_done (cond unknown reply.UnknownPerson (offered_answer p (rest job) (open_offer h v))) ≡ true → is_to p (open_offer h v) ≡ true
        by_person true done = absurd (false≢true done)
        by_person false done = by_offer job (open_offer h v) done
