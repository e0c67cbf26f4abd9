-- At most 500 persons are on a board in a legal history, and at most 2,000 positions in a chain.
use Rattle.std.proofs.Common.{◌≡◌, ℕ, ◌+◌, ◌*◌, ◌<◌, ◌≤◌, ◌⊎◌, inl, inr, Bool, true, false, cond, nat_eq, nat_le, Option, None, Some, is_none, List, [], ◌∷◌, length, refl, subst, arith, length-append}
use Rattle.std.specs.Str.{bytes_eq}
use Rattle.std.proofs.lemmas.Bool.{cases_Bool, false≢true}
use Rattle.std.proofs.lemmas.Bool.Decides.{nat_tests}
use Rattle.std.proofs.lemmas.Slice.Eq.{bytes_eq-Decides}
use Rattle.duty_events.specs.declared.event.Event.{Event}
use Rattle.duty_events.specs.declared.event.Event.TheVariants as event
use Rattle.desk_model.specs.declared.limits.TheConstants.{CHAIN_LIMIT, LIST_LIMIT, MEMBER_LIMIT}
use Rattle.desk_model.specs.declared.command.Cmd.{Cmd}
use Rattle.desk_model.specs.declared.command.Cmd.TheVariants as cmd
use Rattle.desk_model.specs.declared.reply.Reply.TheVariants as reply
use Rattle.desk_model.specs.declared.offer.Offer.{Offer}
use Rattle.desk_model.specs.statements.Opening.{OpeningValue}
use Rattle.desk_model.specs.statements.Entry.{EntryValue}
use Rattle.desk_model.specs.histories.History.{History, opened, with_entry, steps, is_done, said}
use Rattle.desk_model.specs.histories.Register.{person_of, board_of}
use Rattle.desk_model.specs.offers.Offers.{open_offer}
use Rattle.desk_model.specs.boards.Boards.{puts, is_on, boards_of, is_at, released, declined, sends, order, links, chain}
use Rattle.desk_model.specs.answers.ListAnswer.{list_answer}
use Rattle.desk_model.specs.histories.Legal.{answer_to, IsNext, IsLegal}
use Rattle.desk_model.proofs.OrderLemmas.{nat_eq-same, length-without, order-silent, order-sent, order-taken, length-order-sent}
use Rattle.desk_model.proofs.OnBoardLemmas.{length-order-moved}
use Rattle.desk_model.proofs.LegalLemmas.{legal-induction, done-answer}

-- where `list` is done there was room
list_room : (h : History) (p : ℕ) (b : List ℕ) → is_done (list_answer h p b) ≡ true → length (order h b) < MEMBER_LIMIT
list_room h p b done =
    go (is_none (person_of h p)) (is_none (board_of h b)) (is_on h p b) (nat_le LIST_LIMIT (length (boards_of h p))) (nat_le MEMBER_LIMIT (length (order h b))) refl done
  where
    go : (unknown none on many full : Bool) → nat_le MEMBER_LIMIT (length (order h b)) ≡ full
        → is_done (cond unknown reply.UnknownPerson (cond none (reply.UnknownBoard b) (cond on reply.Used (cond many reply.ListsFull (cond full reply.MembersFull reply.Done))))) ≡ true
        → length (order h b) < MEMBER_LIMIT
    go true none on many full e done = absurd (false≢true done)
    go false true on many full e done = absurd (false≢true done)
    go false false true many full e done = absurd (false≢true done)
    go false false false true full e done = absurd (false≢true done)
    go false false false false true e done = absurd (false≢true done)
    go false false false false false e done = grind (arith, nat_tests, e)

-- what is done to a board: nothing; a person is put at its bottom, and there is room; one is sent there and nobody is put on it;
-- or one is taken off
abbrev SaysNothing : Option ℕ → (ℕ → Option Bool) → Type 0
SaysNothing sent put = (sent ≡ None) × ((p : ℕ) → put p ≡ None)

abbrev PutsOne : History → List ℕ → Option ℕ → (ℕ → Option Bool) → Type 0
PutsOne h b sent put =
    (length (order h b) < MEMBER_LIMIT) × ((p : ℕ) × ((sent ≡ Some p) × ((put p ≡ Some true) × ((q : ℕ) → nat_eq p q ≡ false → put q ≡ None))))

abbrev MovesOne : Option ℕ → (ℕ → Option Bool) → Type 0
MovesOne sent put = (p : ℕ) × ((sent ≡ Some p) × ((q : ℕ) → put q ≡ None))

abbrev TakesOne : Option ℕ → (ℕ → Option Bool) → Type 0
TakesOne sent put = (sent ≡ None) × ((p : ℕ) × ((put p ≡ Some false) × ((q : ℕ) → nat_eq p q ≡ false → put q ≡ None)))

abbrev DoesToBoard : History → List ℕ → Option ℕ → (ℕ → Option Bool) → Type 0
DoesToBoard h b sent put = SaysNothing sent put ⊎ (PutsOne h b sent put ⊎ (MovesOne sent put ⊎ TakesOne sent put))

-- a final release moves one at most
releases : (h : History) (b : List ℕ) (p : ℕ) (e : Event) → DoesToBoard h b (released (board_of h b) p e) (λ q. None)
releases h b p (event.Final t place) = elim (cases_Bool (is_at place (board_of h b))) [
  | inl here ↦ inr (inr (inl (p, (rw here refl, λ q. refl))))
  | inr elsewhere ↦ inl (rw elsewhere refl, λ q. refl)
]
releases h b p other = inl (refl, λ q. refl)

-- so does declining
declines : (h : History) (b : List ℕ) (p : ℕ) (offer : Option Offer) → DoesToBoard h b (declined b offer p) (λ q. None)
declines h b p None = inl (refl, λ q. refl)
declines h b p (Some offer) = elim (cases_Bool (bytes_eq offer.board b)) [
  | inl here ↦ inr (inr (inl (p, (rw here refl, λ q. refl))))
  | inr elsewhere ↦ inl (rw elsewhere refl, λ q. refl)
]

command_does : (h : History) (m : ℕ) (c : Cmd) (b : List ℕ) → is_done (answer_to h m c) ≡ true → DoesToBoard h b (sends b h c) (λ p. puts b p c)
command_does h m (cmd.List person board) b done =
    elim (cases_Bool (bytes_eq board b)) [
      | inl same ↦ inr (inl (
        subst (λ code. length (order h code) < MEMBER_LIMIT) ((bytes_eq-Decides board b).0 same) (list_room h person board done),
        (person, (rw same refl, (rw (same, nat_eq-same person) refl, λ q other. rw (same, other) refl))),
      ))
      | inr other ↦ inl (rw other refl, λ p. rw other refl)
    ]
command_does h m (cmd.Unlist person board) b done =
    elim (cases_Bool (bytes_eq board b)) [
      | inl same ↦ inr (inr (inr (refl, (person, (rw (same, nat_eq-same person) refl, λ q other. rw (same, other) refl)))))
      | inr other ↦ inl (refl, λ p. rw other refl)
    ]
command_does h m (cmd.MarkOn person) b done = inr (inr (inl (person, (refl, λ q. refl))))
command_does h m (cmd.Decline v person) b done = declines h b person (open_offer h v)
command_does h m (cmd.Happened person event) b done = releases h b person event
command_does h m other b done = inl (refl, λ p. refl)

entry_does : (h : History) (e : EntryValue) (b : List ℕ) → IsNext h e → DoesToBoard h b (said (sends b h) e) (λ p. said (puts b p) e)
entry_does h e b is = elim (cases_Bool (is_done e.reply)) [
  | inl done ↦ rw done (command_does h e.moment e.stated.cmd b (done-answer h e is done))
  | inr undone ↦ inl (rw undone refl, λ p. rw undone refl)
]

abbrev HasRoom : History → Type 0
HasRoom h = (b : List ℕ) → length (order h b) ≤ MEMBER_LIMIT

grown : (h : History) (e : EntryValue) → IsLegal h → IsNext h e → HasRoom h → HasRoom (with_entry h e)
grown h e legal is most b = elim (entry_does h e b is) [
  | inl nothing ↦ rw (order-silent h e b nothing.0 nothing.1) (most b)
  | inr (inl (room, (p, (sent, (put, others))))) ↦ omega (arith, room, length-order-sent h e b p (order-sent h e b p sent put others))
  | inr (inr (inl (p, (sent, unput)))) ↦ omega (arith, most b, length-order-moved h e b p sent unput)
  | inr (inr (inr (unsent, (p, (put, others))))) ↦ rw (order-taken h e b p unsent put others) (omega (arith, most b, length-without p (order h b)))
]

order-opened : (o : OpeningValue) (b : List ℕ) → order (opened o) b ≡ []
unfolding steps
order-opened o b = refl

pub length-order : (h : History) (b : List ℕ) → IsLegal h → length (order h b) ≤ MEMBER_LIMIT
length-order h b legal = legal-induction HasRoom (λ o valid code. rw (order-opened o code) (omega arith)) grown h legal b

length-links : (b : List ℕ) (k : ℕ) (ps : List ℕ) → length (links b k ps) ≡ length ps
length-links b k [] = refl
length-links b k (p ∷ ps) = omega (arith, length-links b (k + 1) ps)

length-chain : (h : History) (codes : List (List ℕ)) → IsLegal h → length (chain h codes) ≤ MEMBER_LIMIT * length codes
length-chain h [] legal = omega arith
length-chain h (b ∷ codes) legal =
    omega (arith, length-append (links b 1 (order h b)) (chain h codes), length-links b 1 (order h b), length-order h b legal, length-chain h codes legal)

pub length-chain-most : (h : History) (codes : List (List ℕ)) → IsLegal h → length codes ≤ CHAIN_LIMIT → length (chain h codes) ≤ 2_000
length-chain-most h codes legal few = omega (arith, length-chain h codes legal, few)
