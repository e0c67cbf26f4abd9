-- The order of a board that is shown, after a command that was done, is that of the history.
use Rattle.std.proofs.Common.{◌≡◌, ℕ, ◌≤◌, Bool, true, false, cond, ◌||◌, nat_eq, nat_lt, Option, None, Some, unwrap_or, List, [], ◌∷◌, ◌++◌, length, refl, sym, ap, ◌∙◌, arith, length-append}
use Rattle.std.proofs.lemmas.Bool.Decides.{nat_tests}
use Rattle.std.specs.Str.{bytes_eq}
use Rattle.std.specs.List.{list_any}
use Rattle.std.specs.Option.{option_map}
use Rattle.duty_events.specs.declared.event.Event.{Event}
use Rattle.duty_events.specs.declared.event.Event.TheVariants as event
use Rattle.desk_model.specs.declared.board_setup.BoardSetup.{BoardSetup}
use Rattle.desk_model.specs.declared.command.Cmd.{Cmd}
use Rattle.desk_model.specs.declared.command.Cmd.TheVariants as cmd
use Rattle.desk_model.specs.declared.limits.TheConstants.{MEMBER_LIMIT}
use Rattle.desk_model.specs.declared.offer.Offer.{Offer}
use Rattle.desk_model.specs.boards.Boards.{puts, declined, released, sends, order}
use Rattle.desk_model.specs.laws.Comes.{Comes, takes_off, without, left_by, sent_last, order_by}
use Rattle.desk_model.specs.statements.Entry.{EntryValue}
use Rattle.desk_model.specs.histories.History.{History, with_entry, is_done}
use Rattle.desk_model.specs.offers.Offers.{open_offer}
use Rattle.desk_model.specs.histories.Register.{board_of}
use Rattle.desk_model.proofs.OrderLemmas.{nat_eq-same}
use Rattle.board_window.specs.Becomes.{declined_from, released_at, bottom_of, is_put, set_last, moved, declines_from}

-- the order of a board after a command, where it stood so before, and by whom the command sends to the bottom
abbrev pub order_by_cmd : Bool → List ℕ → Cmd → Option ℕ → List ℕ → List ℕ
order_by_cmd done b c None ps = left_by (cond done (takes_off b c) None) ps
order_by_cmd done b c (Some p) ps = sent_last (unwrap_or (cond done (puts b p c) None) false) p ps

by-cmd : (e : EntryValue) (b : List ℕ) (sent : Option ℕ) (ps : List ℕ) → order_by e b sent ps ≡ order_by_cmd (is_done e.reply) b e.stated.cmd sent ps
by-cmd e b None ps = refl
by-cmd e b (Some p) ps = refl

order-told : (h : History) (e : EntryValue) (b : List ℕ) (done : Bool) → Comes h e → is_done e.reply ≡ done
    → order (with_entry h e) b ≡ order_by_cmd done b e.stated.cmd (cond done (sends b h e.stated.cmd) None) (order h b)
order-told h e b done comes is =
    comes.order b ∙ by-cmd e b (cond (is_done e.reply) (sends b h e.stated.cmd) None) (order h b)
    ∙ ap (λ d. order_by_cmd d b e.stated.cmd (cond d (sends b h e.stated.cmd) None) (order h b)) is

-- after an entry whose command was done, and after one whose wasn't
pub order-done : (h : History) (e : EntryValue) (b : List ℕ) → Comes h e → is_done e.reply ≡ true
    → order (with_entry h e) b ≡ order_by_cmd true b e.stated.cmd (sends b h e.stated.cmd) (order h b)
order-done h e b comes done = order-told h e b true comes done

pub order-refused : (h : History) (e : EntryValue) (b : List ℕ) → Comes h e → is_done e.reply ≡ false → order (with_entry h e) b ≡ order h b
order-refused h e b comes refused = order-told h e b false comes refused

-- ---- whom a command sends to the bottom

declined-is : (b : List ℕ) (p : ℕ) (offer : Option Offer) → declined_from b (option_map (λ o. o.board) offer) p ≡ declined b offer p
declined-is b p None = refl
declined-is b p (Some offer) = refl

released-is : (setup : Option BoardSetup) (place : List ℕ) (p : ℕ) (t : Event) → option_map (λ s. s.place) setup ≡ Some place → released_at place p t ≡ released setup p t
released-is None place p t at = cc
released-is (Some setup) place p (event.Final t where_) at =
    let same : setup.place ≡ place = cc in
    ap (λ q. cond (bytes_eq q where_) (Some p) None) (sym same)
released-is (Some setup) place p other at = refl

bottom-sends : (h : History) (b place : List ℕ) (c : Cmd) → option_map (λ s. s.place) (board_of h b) ≡ Some place → bottom_of (declines_from h c) c b place ≡ sends b h c
bottom-sends h b place (cmd.List person board) at = refl
bottom-sends h b place (cmd.MarkOn person) at = refl
bottom-sends h b place (cmd.Decline vac person) at = declined-is b person (open_offer h vac)
bottom-sends h b place (cmd.Happened person t) at = released-is (board_of h b) place person t at
bottom-sends h b place other at = refl

-- who is sent there is put on the board where the command lists them
put-is : (h : History) (b : List ℕ) (c : Cmd) (p : ℕ) → sends b h c ≡ Some p → is_put b c ≡ unwrap_or (puts b p c) false
put-is h b (cmd.List person board) p is = go (bytes_eq board b) is
  where
    go : (same : Bool) → cond same (Some person) None ≡ Some p → same ≡ unwrap_or (cond same (cond (nat_eq person p) (Some true) None) None) false
    go true is =
        let them : person ≡ p = cc in
        sym (ap (λ t. unwrap_or (cond t (Some true) None) false) (ap (λ q. nat_eq q p) them ∙ nat_eq-same p))
    go false is = refl
put-is h b (cmd.Unlist person board) p is = cc
put-is h b other p is = refl

-- ---- the order

set-last : (put : Bool) (p : ℕ) (ps : List ℕ) → length (sent_last put p ps) ≤ MEMBER_LIMIT → set_last put p ps ≡ sent_last put p ps
set-last put p ps few = go (put || list_any (nat_eq p) ps) few
  where
    go : (goes : Bool) → length (cond goes (without p ps ++ p ∷ []) ps) ≤ MEMBER_LIMIT
        → cond goes (cond (nat_lt (length (without p ps)) MEMBER_LIMIT) (without p ps ++ p ∷ []) (without p ps)) ps ≡ cond goes (without p ps ++ p ∷ []) ps
    go true few =
        let many = length-append (without p ps) (p ∷ []) in
        let room : nat_lt (length (without p ps)) MEMBER_LIMIT ≡ true = grind (arith, nat_tests, many, few) in
        ap (λ t. cond t (without p ps ++ p ∷ []) (without p ps)) room
    go false few = refl

pub moved-order : (h : History) (b place : List ℕ) (c : Cmd) (ps : List ℕ) → option_map (λ s. s.place) (board_of h b) ≡ Some place
    → length (order_by_cmd true b c (sends b h c) ps) ≤ MEMBER_LIMIT
    → moved (is_put b c) (takes_off b c) (bottom_of (declines_from h c) c b place) ps ≡ order_by_cmd true b c (sends b h c) ps
moved-order h b place c ps at few = ap (λ sent. moved (is_put b c) (takes_off b c) sent ps) (bottom-sends h b place c at) ∙ go (sends b h c) refl few
  where
    go : (sent : Option ℕ) → sends b h c ≡ sent → length (order_by_cmd true b c sent ps) ≤ MEMBER_LIMIT
        → moved (is_put b c) (takes_off b c) sent ps ≡ order_by_cmd true b c sent ps
    go None is few = refl
    go (Some p) is few = ap (λ put. set_last put p ps) (put-is h b c p is) ∙ set-last (unwrap_or (puts b p c) false) p ps few
