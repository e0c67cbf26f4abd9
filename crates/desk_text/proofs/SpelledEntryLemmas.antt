-- The parts of an entry's line, and the fields of what it states.
use Rattle.std.proofs.Common.{◌≡◌, ◌∙◌, ℕ, suc, ◌<◌, ◌≤◌, ◌==◌, Bool, true, false, not, List, [], ◌∷◌, ◌++◌, length, get_or, take, decimal, refl, sym, ap, arith, append_assoc}
use Rattle.std.specs.List.{All, join_with_byte}
use Rattle.std.proofs.lemmas.Bool.Decides.{nat_tests}
use Rattle.std.proofs.lemmas.List.{take_all, append_cancel_right}
use Rattle.std.proofs.lemmas.List.Splits.{join_with_byte-slice_split}
use Rattle.std.proofs.lemmas.List.Sums.{AllPass-from_list_all}
use Rattle.desk_base.specs.Minute.{IsInYears, minute_text}
use Rattle.desk_base.specs.Parts.{parts_by}
use Rattle.desk_base.proofs.PartsLemmas.{AreUnmarked, parts_by-join}
use Rattle.duty_events.specs.declared.event.Event.{Event}
use Rattle.desk_model.specs.declared.command.Cmd.{Cmd}
use Rattle.desk_model.specs.statements.Entry.{EntryValue}
use Rattle.desk_model.specs.statements.Fits.{IsStated, Fits}
use Rattle.desk_model.specs.texts.Journal.{entry_line}
use Rattle.desk_model.specs.texts.ReplyTexts.{reply_text}
use Rattle.desk_model.specs.texts.StatedTexts.{event_fields, command_fields, stated_fields}
use Rattle.desk_model.specs.statements.Statement.{StatedValue}
use Rattle.desk_model.specs.declared.limits.TheConstants.{LAST_CALLER}
use Rattle.desk_model.specs.declared.reply.Reply.{Reply}
use Rattle.desk_text.specs.declared.statement.Statement.{Statement}
use Rattle.line_writer.specs.Line.{outcome_line}
use Rattle.command_parser.specs.Spelled.{SpellsStated}
use Rattle.desk_text.specs.SpelledEntry.{IsEntryLine, BeginsEntry, statement_of}
use Rattle.desk_text.specs.SpelledReply.{SpellsReply}
use Rattle.desk_text.proofs.FirstFieldsLemmas.{take-short}
use Rattle.desk_text.proofs.PlainLemmas.{Passes, IsInner, is_inner, join, weaker, number, minute_in}
use Rattle.desk_text.proofs.LineLemmas.{stated_inner}

-- ---- the fields of what is stated

few_event : (e : Event) → length (event_fields e) < 5
few_event e = grind arith

few_command : (c : Cmd) → length (command_fields c) < 11
few_command c = grind (arith, few_event)

AreUnmarked-inner : (fields : List (List ℕ)) → All IsInner fields → AreUnmarked 44 fields
AreUnmarked-inner [] all = tt
AreUnmarked-inner (field ∷ fields) all = (no_comma field (all 0 field (omega arith)), AreUnmarked-inner fields (λ k d within. all (suc k) d (omega arith)))
  where
    other : (b : ℕ) → is_inner b ≡ true → (b == 44) ≡ false
    other b h = grind (arith, nat_tests, h)

    no_comma : (xs : List ℕ) → IsInner xs → All (λ b. (b == 44) ≡ false) xs
    no_comma xs is k d within = other (get_or xs k d) (AllPass-from_list_all is_inner xs is.all k d within)

-- what is joined by commas is split into those fields
pub fields-split : (first : List ℕ) (fields : List (List ℕ)) → All IsInner (first ∷ fields) → parts_by 44 (join_with_byte 44 (first ∷ fields)) ≡ first ∷ fields
fields-split first fields all = parts_by-join 44 first fields (AreUnmarked-inner (first ∷ fields) all)

-- where the first fields of a text are these few, it is they with commas between them
pub text-of-fields : (text : List ℕ) (front fields : List (List ℕ)) → front ≡ take 12 (parts_by 44 text) → front ≡ fields → length fields < 12
    → text ≡ join_with_byte 44 fields
text-of-fields text front fields is same few =
    sym (join_with_byte-slice_split 44 text) ∙ ap (join_with_byte 44) (take-short (parts_by 44 text) fields (sym is ∙ same) few)

-- and of such a text they are the first fields
pub fields-of-text : (text : List ℕ) (front : List (List ℕ)) (first : List ℕ) (fields : List (List ℕ)) → All IsInner (first ∷ fields)
    → front ≡ take 12 (parts_by 44 text) → text ≡ join_with_byte 44 (first ∷ fields) → length (first ∷ fields) < 12 → front ≡ first ∷ fields
fields-of-text text front first fields all is e few =
    is ∙ ap (λ l. take 12 l) (ap (parts_by 44) e ∙ fields-split first fields all) ∙ take_all 12 (first ∷ fields) (omega (arith, few))

pub few_stated : (s : StatedValue) → length (stated_fields s) < 12
few_stated s = omega (arith, few_command s.cmd)

-- ---- the parts of a line

-- what stands before the line feed
abbrev pub parts_text : EntryValue → List ℕ
parts_text e = decimal e.caller ++ 124 ∷ (join_with_byte 44 (stated_fields e.stated) ++ 124 ∷ (minute_text e.moment ++ 124 ∷ reply_text e.reply))

pub entry_line-parts : (e : EntryValue) → entry_line e ≡ parts_text e ++ 10 ∷ []
unfolding entry_line
entry_line-parts e = simp append_assoc

-- no byte is the mark between the parts
abbrev no_bar : ℕ → Bool
no_bar b = not (b == 124)

unbarred : (xs : List ℕ) → Passes no_bar xs → All (λ b. (b == 124) ≡ false) xs
unbarred xs is k d within = other (get_or xs k d) (AllPass-from_list_all no_bar xs is.all k d within)
  where
    other : (b : ℕ) → no_bar b ≡ true → (b == 124) ≡ false
    other b h = grind (arith, nat_tests, h)

inner_no_bar : (xs : List ℕ) → IsInner xs → Passes no_bar xs
inner_no_bar xs is = weaker no_bar xs (λ b h. grind (arith, nat_tests, h)) is

pub caller-unbarred : (e : EntryValue) → Fits e → All (λ b. (b == 124) ≡ false) (decimal e.caller)
caller-unbarred e is = unbarred _ (inner_no_bar _ (number e.caller (omega (arith, is.caller))))

pub joined-unbarred : (fields : List (List ℕ)) → All IsInner fields → All (λ b. (b == 124) ≡ false) (join_with_byte 44 fields)
joined-unbarred fields all = unbarred _ (join 44 refl fields (λ k d within. inner_no_bar _ (all k d within)))

pub statement-unbarred : (s : StatedValue) → IsStated s → All (λ b. (b == 124) ≡ false) (join_with_byte 44 (stated_fields s))
statement-unbarred s is = joined-unbarred (stated_fields s) (stated_inner s is)

pub stated-unbarred : (e : EntryValue) → Fits e → All (λ b. (b == 124) ≡ false) (join_with_byte 44 (stated_fields e.stated))
stated-unbarred e is = statement-unbarred e.stated is.stated

pub moment-unbarred : (e : EntryValue) → Fits e → All (λ b. (b == 124) ≡ false) (minute_text e.moment)
moment-unbarred e is = unbarred _ (inner_no_bar _ (minute_in e.moment is.moment))

-- what stands before a line's line feed
pub before-line_feed : (line front text : List ℕ) → line ≡ front ++ 10 ∷ [] → line ≡ text ++ 10 ∷ [] → front ≡ text
before-line_feed line front text is same = append_cancel_right front text (10 ∷ []) (sym is ∙ same)

-- a caller and what is stated, spelled in a line's first parts, are who stated what by it
pub BeginsEntry-parts : (line caller rest stated outcome : List ℕ) (s : Statement) → s.caller ≤ LAST_CALLER → line ≡ caller ++ 124 ∷ rest → rest ≡ stated ++ 124 ∷ outcome
    → caller ≡ decimal s.caller → SpellsStated stated s.stated → BeginsEntry line outcome s
BeginsEntry-parts line caller rest stated outcome s is a b c spells = record {
  caller_in = is;
  valid = spells.valid;
  line_is = rw (a, b, c, spells.text_is) refl;
}

entry_line-parts-outcome : (e : EntryValue) → entry_line e ≡ decimal e.caller ++ 124 ∷ (join_with_byte 44 (stated_fields e.stated) ++ 124 ∷ outcome_line e.moment e.reply)
unfolding entry_line
entry_line-parts-outcome e = simp append_assoc

-- a line that is an entry's begins with who stated what, and its outcome is behind it
pub IsEntryLine-begins : (line : List ℕ) (e : EntryValue) → IsEntryLine line e → BeginsEntry line (outcome_line e.moment e.reply) (statement_of e)
IsEntryLine-begins line e is = record { caller_in = is.valid.caller; valid = is.valid.stated; line_is = is.line_is ∙ entry_line-parts-outcome e }

-- such a line is that of an entry by the same caller, of the same command, with this outcome
pub entry_line-outcome : (line outcome : List ℕ) (s : Statement) (e : EntryValue) → BeginsEntry line outcome s → s ≡ statement_of e → outcome ≡ outcome_line e.moment e.reply → line ≡ entry_line e
entry_line-outcome line outcome s e begins same is =
    begins.line_is ∙ ap (λ t. decimal t.caller ++ 124 ∷ (join_with_byte 44 (stated_fields t.stated) ++ 124 ∷ outcome)) same
    ∙ ap (λ x. decimal e.caller ++ 124 ∷ (join_with_byte 44 (stated_fields e.stated) ++ 124 ∷ x)) is ∙ sym (entry_line-parts-outcome e)

-- an outcome's line is its moment, and behind a bar its reply
pub outcome_line-parts : (moment : ℕ) (reply : Reply) → outcome_line moment reply ≡ minute_text moment ++ 124 ∷ (reply_text reply ++ 10 ∷ [])
outcome_line-parts moment reply = append_assoc (minute_text moment) (124 ∷ reply_text reply) (10 ∷ [])

-- a line that begins with who stated what by an entry, behind which its moment and its reply are spelled, is that entry's
pub IsEntryLine-parts : (line outcome moment back reply : List ℕ) (e : EntryValue) → BeginsEntry line outcome (statement_of e) → outcome ≡ moment ++ 124 ∷ back
    → IsInYears e.moment × (moment ≡ minute_text e.moment) → back ≡ reply ++ 10 ∷ [] → SpellsReply reply e.reply → IsEntryLine line e
IsEntryLine-parts line outcome moment back reply e begins outcome_is moment_is back_is spells = record {
  valid = record { caller = begins.caller_in; stated = begins.valid; moment = moment_is.0; reply = spells.valid };
  line_is = entry_line-outcome line outcome (statement_of e) e begins refl
      (rw (outcome_is, moment_is.1, back_is, spells.text_is) (sym (outcome_line-parts e.moment e.reply)));
}
