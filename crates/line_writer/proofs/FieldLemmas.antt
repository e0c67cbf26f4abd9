-- Lines built piece by piece.
use Rattle.std.proofs.Common.{◌≡◌, List, ℕ, [], ◌∷◌, ◌++◌, ◌∙◌, refl, sym, codes, decimal, append_assoc, append-nil}
use Rattle.std.specs.List.{join_with_byte}
use Rattle.desk_base.specs.Minute.{minute_text}
use Rattle.desk_base.specs.Month.{month_text}
use Rattle.desk_model.specs.declared.edition.Edition.{Edition}
use Rattle.desk_model.specs.declared.edition.Edition.TheVariants as edition
use Rattle.desk_model.specs.statements.Opening.{OpeningValue, edition_fields}
use Rattle.desk_model.specs.texts.Journal.{opening_line}
use Rattle.desk_model.specs.statements.Entry.{EntryValue}
use Rattle.desk_model.specs.texts.StatedTexts.{stated_fields}
use Rattle.desk_model.specs.declared.reply.Reply.{Reply}
use Rattle.desk_model.specs.texts.ReplyTexts.{reply_text}
use Rattle.desk_model.specs.texts.Journal.{entry_line}
use Rattle.line_writer.specs.Line.{outcome_line}
use Rattle.line_writer.specs.Marked.{marked}

-- a line to which these fields were added, each behind a comma
abbrev pub added : List ℕ → List (List ℕ) → List ℕ
added line [] = line
added line (field ∷ fields) = added (line ++ 44 ∷ field) fields

pub added-marked : (line : List ℕ) (fields : List (List ℕ)) → added line fields ≡ line ++ marked fields
added-marked line [] = sym (append-nil line)
added-marked line (field ∷ fields) = added-marked (line ++ 44 ∷ field) fields ∙ append_assoc line (44 ∷ field) (marked fields)

pub entry_line-pieces : (e : EntryValue) → entry_line e
    ≡ (((decimal e.caller ++ 124 ∷ []) ++ join_with_byte 44 (stated_fields e.stated)) ++ 124 ∷ []) ++ outcome_line e.moment e.reply
unfolding entry_line
entry_line-pieces e = simp append_assoc

-- what stands behind a statement, added to a text piece by piece
pub outcome_line-added : (text : List ℕ) (moment : ℕ) (r : Reply) → (text ++ (124 ∷ minute_text moment ++ 124 ∷ [])) ++ (reply_text r ++ 10 ∷ []) ≡ text ++ 124 ∷ outcome_line moment r
outcome_line-added text moment r = simp append_assoc

pub outcome_line-pieces : (front : List ℕ) (moment : ℕ) (r : Reply) → front ++ outcome_line moment r ≡ (((front ++ minute_text moment) ++ 124 ∷ []) ++ reply_text r) ++ 10 ∷ []
outcome_line-pieces front moment r = simp append_assoc

-- a field, and what names an edition behind it
joined-last : (field : List ℕ) (e : Edition) → join_with_byte 44 (field ∷ edition_fields e) ≡ field ++ marked (edition_fields e)
joined-last field edition.One = sym (append-nil field)
joined-last field edition.Two = refl

pub opening_line-pieces : (o : OpeningValue) → opening_line o
    ≡ (((((((minute_text o.start ++ codes ",open,") ++ month_text o.window.first) ++ 44 ∷ []) ++ decimal o.window.months) ++ 44 ∷ []) ++ decimal o.answer) ++ marked (edition_fields o.edition)) ++ 10 ∷ []
unfolding opening_line
opening_line-pieces o = rw (joined-last (decimal o.answer) o.edition) (simp append_assoc)
