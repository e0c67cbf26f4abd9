-- Which entry ended an open offer.
use Rattle.std.specs.Prelude.{◌≡◌, ◌≢◌, ℕ, true, None, List, [], ◌∷◌, ◌++◌}
use Rattle.std.specs.List.{All}
use Rattle.desk_model.specs.declared.command.Cmd.{Cmd}
use Rattle.desk_model.specs.declared.command.Cmd.TheVariants as cmd
use Rattle.desk_model.specs.declared.reply.Reply.TheVariants as reply
use Rattle.desk_model.specs.statements.Opening.{OpeningValue}
use Rattle.desk_model.specs.statements.Entry.{EntryValue}
use Rattle.desk_model.specs.histories.History.{history_of}
use Rattle.desk_model.specs.offers.Offers.{open_offer, is_to}
use Rattle.desk_model.specs.histories.Legal.{IsLegal, is_within}

-- the commands that end an offer of this vacancy to this person
pub data Ends (v p : ℕ) : Cmd → Type 0 where
  by_accept : Ends v p (cmd.Accept v p)
  by_decline : Ends v p (cmd.Decline v p)
  by_no_answer : Ends v p (cmd.NoAnswer v p)
  by_withdrawal : Ends v p (cmd.Withdraw v p)
  by_annulment : Ends v p (cmd.Annul v)

-- an entry with such a command, which was accepted
pub record HasEnded (v p : ℕ) (e : EntryValue) : Type 0 where
  pub done : e.reply ≡ reply.Done
  pub by : Ends v p e.stated.cmd

-- of the later entries, behind those at the front, this is the first that has ended the offer: it was open before it, and isn't after it
pub record WasEnded (o : OpeningValue) (front later : List EntryValue) (v p : ℕ) : Type 0 where
  pub before : List EntryValue
  pub entry : EntryValue
  pub behind : List EntryValue
  pub parts : later ≡ before ++ entry ∷ behind
  pub ended : HasEnded v p entry
  pub first : All (λ e. HasEnded v p e → ⊥) before
  pub was_open : is_to p (open_offer (history_of o (front ++ before)) v) ≡ true
  pub is_closed : open_offer (history_of o ((front ++ before) ++ entry ∷ [])) v ≡ None

-- where an offer is open to a person, and it is withdrawn some entries later in vain, one of those entries has ended it
abbrev pub EndedBetween : Type 0
EndedBetween = (o : OpeningValue) (front later : List EntryValue) (last : EntryValue) (v p : ℕ) → IsLegal (history_of o (front ++ (later ++ last ∷ [])))
    → is_to p (open_offer (history_of o front) v) ≡ true → last.stated.cmd ≡ cmd.Withdraw v p → is_within o.window last.stated.minute ≡ true
    → last.reply ≢ reply.Done → WasEnded o front later v p
