-- All that is kept goes on as the history does.
use Rattle.std.proofs.Common.{◌≡◌, ◌≤◌, ◌<◌, ◌+◌, ◌^◌, ℕ, true, nat_eq, List, [], ◌∷◌, ◌++◌, length, Option, None, Some, is_some, unwrap_or, refl, sym, ap, ◌∙◌, subst, length-append, arith}
use Rattle.std.specs.Prelude.{if◌then◌else◌}
use Rattle.std.specs.Option.{option_map}
use Rattle.std.specs.List.{cons_option, IsDistinct}
use Rattle.std.specs.Str.{bytes_eq}
use Rattle.std.proofs.lemmas.Bool.{false≢true}
use Rattle.desk_base.specs.Window.{WindowValue, IsWindow, Holds}
use Rattle.desk_base.proofs.MonthLemmas.{first_day_mono, first_day-2100}
use Rattle.offer_flight.specs.declared.in_flight.InFlight.{InFlight}
use Rattle.offer_flight.specs.Flight.{of_vacancy, of_person, persons_of}
use Rattle.desk_model.specs.declared.limits.TheConstants.{PERSON_LIMIT, BOARD_LIMIT, HOLD}
use Rattle.desk_model.specs.declared.command.Cmd.{Cmd}
use Rattle.desk_model.specs.declared.command.Cmd.TheVariants as cmd
use Rattle.desk_model.specs.declared.offer.Offer.{Offer}
use Rattle.desk_model.specs.statements.Opening.{OpeningValue}
use Rattle.desk_model.specs.statements.Entry.{EntryValue}
use Rattle.desk_model.specs.histories.History.{History, opened, with_entry, steps, is_done, said}
use Rattle.desk_model.specs.histories.Register.{enrols_any, sets_up_any, person_of, board_of, persons, boards}
use Rattle.desk_model.specs.offers.Offers.{is_to, asks_for, settles, open_offer, on_offer}
use Rattle.desk_model.specs.offers.Held.{hold_end}
use Rattle.desk_model.specs.laws.Comes.{Comes, on_offer_after}
use Rattle.desk_model.specs.laws.RestsOn.{RestsOn, MayOffer}
use Rattle.desk_model.specs.histories.Legal.{IsLegal}
use Rattle.desk_model.proofs.SaidLemmas.{said-some}
use Rattle.desk_register.specs.Among.{index_among, board_index}
use Rattle.desk_register.proofs.IndexAmongLemmas.{position-lt}
use Rattle.desk_state.specs.OfferTold.{decliner, offered_from}
use Rattle.desk_state.specs.OpenOffers.{IsSame, IsOffer, AreOffers, CanStart}
use Rattle.desk_state.specs.Holds.{AreHolds}
use Rattle.desk_state.specs.Keeps.{AreFew}
use Rattle.desk_state.proofs.HearLemmas.{Declines, declines, may-decline, IsMadeTo}
use Rattle.desk_state.proofs.HoldLemmas.{Raises, holds-raised}
use Rattle.desk_state.proofs.FlightLemmas.{closed-vacancy, offers-few, offers-made}

-- ---- no more than a desk takes

grown-few : {X : Type 0} (xs : List X) (more : Option X) (limit : ℕ) → length xs ≤ limit → ((x : X) → more ≡ Some x → length xs < limit) → length (xs ++ cons_option more []) ≤ limit
grown-few xs None limit most room = omega (arith, length-append xs [], most)
grown-few xs (Some x) limit most room = omega (arith, length-append xs (x ∷ []), room x refl)

enrols-room : (h : History) (c : Cmd) (p : ℕ) → enrols_any c ≡ Some p → RestsOn h c → length (persons h) < PERSON_LIMIT
enrols-room h (cmd.Enrol q craft home quals) p is rests = rests.1
enrols-room h other p is rests = cc

sets_up-room : (h : History) (c : Cmd) (b : List ℕ) → sets_up_any c ≡ Some b → RestsOn h c → length (boards h) < BOARD_LIMIT
sets_up-room h (cmd.Board x extra place) b is rests = rests.1
sets_up-room h other b is rests = cc

pub few-stay : (h : History) (e : EntryValue) → Comes h e → (is_done e.reply ≡ true → RestsOn h e.stated.cmd) → AreFew h → AreFew (with_entry h e)
few-stay h e comes rests few = record {
  enrolled = subst (λ ns. length ns ≤ PERSON_LIMIT) (sym comes.persons) (grown-few (persons h) (said enrols_any e) PERSON_LIMIT few.enrolled
      (λ p is. let parts = said-some enrols_any e p is in enrols-room h e.stated.cmd p parts.1 (rests parts.0)));
  set_up = subst (λ codes. length codes ≤ BOARD_LIMIT) (sym comes.boards) (grown-few (boards h) (said sets_up_any e) BOARD_LIMIT few.set_up
      (λ b is. let parts = said-some sets_up_any e b is in sets_up-room h e.stated.cmd b parts.1 (rests parts.0)));
}

-- a minute of the desk's window has one behind it for an answer or a hold
minute-fits : (w : WindowValue) (moment minutes : ℕ) → IsWindow w → Holds w moment → minutes ≤ 480 → moment + minutes < 2 ^ 28
minute-fits w moment minutes is lies few = omega (arith, first_day-2100, first_day_mono (w.first + w.months) 1560 is.ends, lies.1, few)

-- ---- what is settled

-- the open offer that is kept
open-of : (codes : List (List ℕ)) (minutes : ℕ) (kept : InFlight) (offer : Option Offer) → IsOffer codes minutes (Some kept) offer → (o : Offer) × ((offer ≡ Some o) × IsSame codes minutes kept o)
open-of codes minutes kept (Some o) is = (o, (refl, is))
open-of codes minutes kept None is = absurd is

closed-of : (codes : List (List ℕ)) (minutes : ℕ) (kept : Option InFlight) → IsOffer codes minutes kept None → kept ≡ None
closed-of codes minutes None is = refl
closed-of codes minutes (Some kept) is = absurd is

same_vac : (e : EntryValue) (vac p : ℕ) → said settles e ≡ Some vac → (is : Declines e p) → vac ≡ is.vac
same_vac e vac p settled is = ap (λ o. unwrap_or o 0) (sym settled ∙ is.settled)

-- nobody declines where the vacancy has no open offer
pub idle-none : (h : History) (e : EntryValue) (flight : List InFlight) (minutes vac : ℕ) → (is_done e.reply ≡ true → RestsOn h e.stated.cmd) → said settles e ≡ Some vac
    → of_vacancy flight vac ≡ None → AreOffers flight minutes h → said decliner e ≡ None
idle-none h e flight minutes vac rests settled found are = go (said decliner e) refl
  where
    go : (who : Option ℕ) → said decliner e ≡ who → who ≡ None
    go None is = refl
    go (Some p) is =
        let by = declines e p is in
        absurd (false≢true (sym (ap (is_to p) (ap (open_offer h) (sym (same_vac e vac p settled by)) ∙ closed-vacancy h flight minutes vac are found)) ∙ (may-decline h e p by rests).to))

-- who declines has an index
pub decliner-indexed : (h : History) (e : EntryValue) (p : ℕ) → (is_done e.reply ≡ true → RestsOn h e.stated.cmd)
    → ((q : ℕ) → is_some (index_among (persons h) q) ≡ is_some (person_of h q)) → said decliner e ≡ Some p → None ≡ index_among (persons h) p → ⊥
decliner-indexed h e p rests indexes told none = false≢true (ap is_some none ∙ indexes p ∙ (may-decline h e p (declines e p told) rests).enrolled)

-- who declines is held
pub declined-held : (h : History) (e : EntryValue) (ends later : ℕ → ℕ → ℕ) (flight : List InFlight) (minutes vac who index board until : ℕ) (done : InFlight) → Comes h e → IsLegal h
    → Holds h.opening.window e.moment → (is_done e.reply ≡ true → RestsOn h e.stated.cmd) → said settles e ≡ Some vac → said decliner e ≡ Some who → Some done ≡ of_vacancy flight vac
    → Some index ≡ index_among (persons h) who → board ≡ done.board → (e.moment + HOLD < 2 ^ 28 → until ≡ e.moment + HOLD)
    → Raises index board until ends later → AreOffers flight minutes h → AreFew h → AreHolds ends h → AreHolds later (with_entry h e)
declined-held h e ends later flight minutes vac who index board until done comes legal lies rests settled told found indexed board_is until_is raises offers few are =
    let by = declines e who told in
    let kept = open-of (boards h) minutes done (open_offer h vac) (subst (λ o. IsOffer (boards h) minutes o (open_offer h vac)) (sym found) (offers.each vac)) in
    let from : board_index (boards h) kept.0.board ≡ Some board = kept.1.1.board ∙ ap Some (sym board_is) in
    holds-raised h e ends later who index board until kept.0 comes by (ap (open_offer h) (sym (same_vac e vac who settled by)) ∙ kept.1.0) (sym indexed) from
    (until_is (minute-fits h.opening.window e.moment HOLD legal.opening.window lies (omega arith)))
    raises are

-- ---- what is offered

-- the board that an offer is made from has an index, among the first 64
pub from-indexed : (h : History) (e : EntryValue) (vac p : ℕ) (board : Option ℕ) → (made : IsMadeTo e p) → MayOffer h vac made.offer.person made.offer.board
    → ((b : List ℕ) → is_some (board_index (boards h) b) ≡ is_some (board_of h b)) → ((b : List ℕ) → offered_from e ≡ Some b → board ≡ board_index (boards h) b) → is_some board ≡ true
from-indexed h e vac p board made may indexes from = ap is_some (from made.offer.board made.board) ∙ indexes made.offer.board ∙ may.listed.board

free-of : (theirs : Option InFlight) → option_map (λ offer. offer.vac) theirs ≡ None → theirs ≡ None
free-of None none = refl
free-of (Some f) none = absurd (false≢true (sym (ap is_some none)))

-- the offer may be opened
can-start : (h : History) (flight : List InFlight) (minutes vac p : ℕ) (b : List ℕ) (made : InFlight) → ((q : ℕ) → is_some (index_among (persons h) q) ≡ is_some (person_of h q))
    → IsDistinct nat_eq (persons_of flight) → MayOffer h vac p b → made.vac ≡ vac → made.person ≡ p → AreOffers flight minutes h → AreFew h → CanStart flight made
can-start h flight minutes vac p b made indexes apart may vac_is person_is are few =
    let free = free-of (of_person flight p) (are.to p ∙ may.free) in
    record {
      vacancy = ap (of_vacancy flight) vac_is ∙ closed-of (boards h) minutes (of_vacancy flight vac) (subst (IsOffer (boards h) minutes (of_vacancy flight vac)) may.closed (are.each vac));
      person = ap (of_person flight) person_is ∙ free;
      room = omega (arith, offers-few h flight minutes p indexes apart are free may.listed.enrolled, few.enrolled);
    }

pub offers-started : (h : History) (e : EntryValue) (flight later : List InFlight) (minutes vac p : ℕ) (made : InFlight) (is : IsMadeTo e p) → Comes h e → IsLegal h
    → ((q : ℕ) → on_offer (with_entry h e) q ≡ on_offer_after q e (on_offer h q)) → Holds h.opening.window e.moment → MayOffer h vac is.offer.person is.offer.board
    → ((q : ℕ) → is_some (index_among (persons h) q) ≡ is_some (person_of h q)) → IsDistinct nat_eq (persons_of flight) → said settles e ≡ None → asks_for e.stated.cmd ≡ Some vac
    → minutes ≡ h.opening.answer → made.vac ≡ vac → made.person ≡ p → Some made.board ≡ board_index (boards h) is.offer.board
    → (e.moment + minutes < 2 ^ 28 → made.deadline ≡ e.moment + minutes)
    → (CanStart flight made → (v : ℕ) → of_vacancy later v ≡ (if nat_eq made.vac v then Some made else of_vacancy flight v))
    → (CanStart flight made → (q : ℕ) → of_person later q ≡ (if nat_eq made.person q then Some made else of_person flight q)) → AreFew h
    → AreOffers flight minutes h → AreOffers later minutes (with_entry h e)
offers-started h e flight later minutes vac p made is comes legal to lies may indexes apart none asked minutes_is vac_is person_is board_is deadline vacancies_are persons_are few are =
    let can = can-start h flight minutes vac is.offer.person is.offer.board made indexes apart may vac_is (person_is ∙ sym is.person) are few in
    let most : minutes ≤ 480 = omega (arith, legal.opening.most, minutes_is) in
    offers-made h e flight later minutes vac made is.offer comes to none asked is.is vac_is
    (record {
      person = person_is ∙ sym is.person;
      board = sym board_is;
      deadline = deadline (minute-fits h.opening.window e.moment minutes legal.opening.window lies most) ∙ ap (λ m. m + minutes) (sym is.at);
    })
    may.listed.enrolled (vacancies_are can) (persons_are can) are

-- ---- where nothing has happened yet

pub offers-none : (o : OpeningValue) (flight : List InFlight) (minutes : ℕ) → flight ≡ [] → AreOffers flight minutes (opened o)
offers-none o flight minutes empty = subst (λ f. AreOffers f minutes (opened o)) (sym empty) record {
  each = λ v. tt;
  to = λ p. refl;
  enrolled = λ p has. absurd (false≢true has);
}

pub holds-none : (o : OpeningValue) (ends : ℕ → ℕ → ℕ) → ((i j : ℕ) → ends i j ≡ 0) → AreHolds ends (opened o)
unfolding hold_end steps
holds-none o ends none = record {
  each = λ p b. refl;
  behind = λ i j above. none i j;
  beyond = λ i j above. none i j;
}
