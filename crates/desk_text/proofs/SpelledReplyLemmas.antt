-- Replies taken apart into what they keep.
use Rattle.std.proofs.Common.{◌≡◌, ℕ, ◌≤◌, List, ◌∷◌, ◌++◌, codes, decimal, drop, refl, ap, ◌∙◌, append_assoc}
use Rattle.desk_model.specs.declared.limits.TheConstants.{POSITION_LIMIT}
use Rattle.desk_base.specs.Number.{IsNumber}
use Rattle.desk_base.specs.Code.{IsCode}
use Rattle.duty_events.specs.declared.event_fault.EventFault.TheVariants as fault
use Rattle.desk_model.specs.declared.reply.Reply.{Reply}
use Rattle.desk_model.specs.declared.reply.Reply.TheVariants as reply
use Rattle.desk_model.specs.texts.ReplyTexts.{fault_text, reply_text}
use Rattle.desk_text.specs.declared.reply_head.ReplyHead.TheVariants as head
use Rattle.desk_text.specs.SpelledReply.{TellsReply}
use Rattle.command_parser.proofs.SpelledLemmas.{apart}

-- an offer, and what stands behind its word
pub record IsOffered (kept : List ℕ) (r : Reply) : Type 0 where
  pub person : ℕ
  pub board : List ℕ
  pub position : ℕ
  pub is : r ≡ reply.Offered person board position
  pub person_in : IsNumber person
  pub board_in : IsCode board
  pub some : 1 ≤ position
  pub most : position ≤ POSITION_LIMIT
  pub kept_is : kept ≡ decimal person ++ 32 ∷ (board ++ 32 ∷ decimal position)

pub offered : (kept : List ℕ) (r : Reply) → TellsReply head.Offered kept r → IsOffered kept r
offered kept (reply.Offered person board position) tells = record {
  person = person;
  board = board;
  position = position;
  is = refl;
  person_in = tells.valid.0;
  board_in = tells.valid.1;
  some = tells.valid.2;
  most = tells.valid.3;
  kept_is = ap (drop 8) tells.text_is ∙ append_assoc (decimal person) (32 ∷ board) (32 ∷ decimal position);
}
offered kept (reply.Event (fault.WrongStage s)) tells = absurd (apart (codes "offered " ++ kept) (fault_text (fault.WrongStage s)) refl tells.text_is)
offered kept (reply.Event (fault.Behind t)) tells = absurd (apart (codes "offered " ++ kept) (fault_text (fault.Behind t)) refl tells.text_is)
offered kept (reply.Event (fault.InterimTooLong n)) tells = absurd (apart (codes "offered " ++ kept) (fault_text (fault.InterimTooLong n)) refl tells.text_is)
offered kept (reply.Event (fault.OtherPlace p)) tells = absurd (apart (codes "offered " ++ kept) (fault_text (fault.OtherPlace p)) refl tells.text_is)
offered kept other tells = absurd (apart (codes "offered " ++ kept) (reply_text other) refl tells.text_is)
