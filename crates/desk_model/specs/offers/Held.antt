-- Who is held after a decline, and until when: the second edition's own rule.
use Rattle.std.specs.Prelude.{◌≡◌, ℕ, ◌+◌, Bool, true, false, ◌&&◌, nat_eq, nat_lt, max, Option, None, Some, if◌then◌else◌, List, [], ◌∷◌}
use Rattle.std.specs.Str.{bytes_eq}
use Rattle.std.specs.List.{list_any, filter_map}
use Rattle.desk_model.specs.declared.limits.TheConstants.{HOLD}
use Rattle.desk_model.specs.declared.command.Cmd.{Cmd}
use Rattle.desk_model.specs.declared.command.Cmd.TheVariants as cmd
use Rattle.desk_model.specs.declared.reply.Reply.TheVariants as reply
use Rattle.desk_model.specs.declared.offer.Offer.{Offer}
use Rattle.desk_model.specs.declared.edition.Edition.{Edition}
use Rattle.desk_model.specs.declared.edition.Edition.TheVariants as edition
use Rattle.desk_model.specs.histories.History.{History, Step, steps, said}
use Rattle.desk_model.specs.offers.Offers.{open_offer}

-- the offer was made from a board of this chain
abbrev pub is_from : List (List ℕ) → Option Offer → Bool
is_from codes None = false
is_from codes (Some offer) = list_any (bytes_eq offer.board) codes

-- until when a command at a moment, after this history, would hold this person from vacancies of this chain: for 480 minutes,
-- where they decline an offer that was made from one of its boards
abbrev pub hold_told : List (List ℕ) → ℕ → History → ℕ → Cmd → Option ℕ
hold_told codes p h m (cmd.Decline vac person) = if nat_eq person p && is_from codes (open_offer h vac) then Some (m + HOLD) else None
hold_told codes p h m other = None

abbrev pub held_by : List (List ℕ) → ℕ → Step → Option ℕ
held_by codes p s = said (hold_told codes p s.before s.entry.moment) s.entry

-- the greatest of some minutes, and 0 where there are none
abbrev pub greatest : List ℕ → ℕ
greatest [] = 0
greatest (m ∷ ms) = max m (greatest ms)

-- 480 minutes after the latest of the person's declines of an offer from a board of this chain; 0 where there is none. That they
-- have left a board since changes nothing. It is told in either edition, and holds in the second alone, as follows
unfoldable pub hold_end : History → List (List ℕ) → ℕ → ℕ
hold_end h codes p = greatest (filter_map (held_by codes p) (steps h))

-- the end of a hold that is not over at this moment; in the first edition nobody is held
abbrev pub held_in : Edition → ℕ → ℕ → Option ℕ
held_in edition.One m until = None
held_in edition.Two m until = if nat_lt m until then Some until else None

-- until when the person is held, at this moment, from vacancies of this chain
abbrev pub held : History → ℕ → List (List ℕ) → ℕ → Option ℕ
held h m codes p = held_in h.opening.edition m (hold_end h codes p)

-- at this step the person declined an offer that was made from a board of this chain
pub record HasDeclined (codes : List (List ℕ)) (p : ℕ) (s : Step) : Type 0 where
  pub vac : ℕ
  pub offer : Offer
  pub done : s.entry.reply ≡ reply.Done
  pub told : s.entry.stated.cmd ≡ cmd.Decline vac p
  pub was_open : open_offer s.before vac ≡ Some offer
  pub from : list_any (bytes_eq offer.board) codes ≡ true
