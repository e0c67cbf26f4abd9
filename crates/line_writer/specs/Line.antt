-- Lines of a journal.
use Rattle.std.specs.Prelude.{◌≡◌, ℕ, true, nat_le, List, [], ◌∷◌, ◌++◌, codes, decimal}
use Rattle.std.specs.List.{list_all}
use Rattle.desk_base.specs.Minute.{minute_text}
use Rattle.desk_model.specs.declared.reply.Reply.{Reply}
use Rattle.desk_model.specs.texts.ReplyTexts.{reply_text}

-- each byte is 32 or above, so that none is a line feed or a carriage return
pub record IsPlain (text : List ℕ) : Type 0 where
  pub above : list_all (λ b. nat_le 32 b) text ≡ true

-- such a text, and a line feed behind it
pub record IsLine (line : List ℕ) : Type 0 where
  pub text : List ℕ
  pub plain : IsPlain text
  pub is : line ≡ text ++ 10 ∷ []

-- the line that says which field of which record is the first wrong one
abbrev pub wrong_line : ℕ → ℕ → List ℕ
wrong_line record_no field = codes "unreadable " ++ decimal record_no ++ codes " " ++ decimal field ++ 10 ∷ []

-- the line of what the desk answered: the moment at which it took a command, and its reply
abbrev pub outcome_line : ℕ → Reply → List ℕ
outcome_line moment reply = minute_text moment ++ 124 ∷ reply_text reply ++ 10 ∷ []
