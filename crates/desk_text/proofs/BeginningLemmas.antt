-- Of two lines neither begins the other.
use Rattle.std.proofs.Common.{◌≡◌, ◌≢◌, ◌∙◌, ℕ, ◌==◌, true, false, nat_le, List, [], ◌∷◌, ◌++◌, get_or, drop, decimal, refl, sym, ap, arith, append_assoc, append-nil}
use Rattle.std.specs.List.{All, join_with_byte}
use Rattle.std.proofs.lemmas.Bool.Decides.{nat_tests}
use Rattle.std.proofs.lemmas.Fmt.{decimal_injective}
use Rattle.std.proofs.lemmas.List.{append_cancel_right}
use Rattle.std.proofs.lemmas.List.Splits.{slice_split_none}
use Rattle.std.proofs.lemmas.List.Sums.{AllPass-from_list_all}
use Rattle.desk_base.specs.Minute.{minute_text}
use Rattle.desk_base.specs.Parts.{parts_by}
use Rattle.desk_model.specs.statements.Entry.{EntryValue, entry_of}
use Rattle.desk_model.specs.statements.Fits.{Fits}
use Rattle.desk_model.specs.texts.Journal.{entry_line, opening_line}
use Rattle.desk_model.specs.statements.Opening.{OpeningValue, IsOpening, opening_fields}
use Rattle.desk_model.specs.texts.ReplyTexts.{reply_text}
use Rattle.desk_model.specs.statements.Statement.{StatedValue}
use Rattle.desk_model.specs.declared.reply.Reply.{Reply}
use Rattle.desk_model.specs.texts.StatedTexts.{stated_fields}
use Rattle.line_writer.specs.Line.{IsPlain, IsLine}
use Rattle.record_rows.proofs.MinuteLemmas.{minute_text-one}
use Rattle.command_parser.proofs.ApartLemmas.{stated_fields-one}
use Rattle.desk_text.proofs.CutLemmas.{cut-one, text-parts, some-parts}
use Rattle.desk_text.proofs.LineLemmas.{stated_inner, opening_inner, entry_line-IsLine, opening_line-IsLine}
use Rattle.command_parser.proofs.OpeningLemmas.{opening_fields-one}
use Rattle.desk_text.proofs.ReplyApartLemmas.{reply_text-one}
use Rattle.desk_text.proofs.SpelledEntryLemmas.{fields-split, parts_text, entry_line-parts, caller-unbarred, stated-unbarred, moment-unbarred, joined-unbarred}

-- ---- lines

-- a line's text has no line feed
pub unfed : (text : List ℕ) → IsPlain text → All (λ b. (b == 10) ≡ false) text
unfed text is k d within = other (get_or text k d) (AllPass-from_list_all (λ b. nat_le 32 b) text is.above k d within)
  where
    other : (b : ℕ) → nat_le 32 b ≡ true → (b == 10) ≡ false
    other b h = grind (arith, nat_tests, h)

-- where two texts that begin with lines are one, so are the lines, and what is behind them
pub lines-two : (a b x y : List ℕ) → IsLine a → IsLine b → a ++ x ≡ b ++ y → (a ≡ b) × (x ≡ y)
lines-two a b x y one other e =
    let both : one.text ++ 10 ∷ x ≡ other.text ++ 10 ∷ y =
    sym (append_assoc one.text (10 ∷ []) x) ∙ ap (λ t. t ++ x) (sym one.is) ∙ e ∙ ap (λ t. t ++ y) other.is ∙ append_assoc other.text (10 ∷ []) y in
    let cut = cut-one 10 one.text other.text x y (unfed one.text one.plain) (unfed other.text other.plain) both in
    (one.is ∙ ap (λ t. t ++ 10 ∷ []) cut.0 ∙ sym other.is, cut.1)

-- where a line begins a line, they are one
line-one : (a b rest : List ℕ) → IsLine a → IsLine b → b ≡ a ++ rest → (a ≡ b) × (rest ≡ [])
line-one a b rest one other e = lines-two a b rest [] one other (sym e ∙ sym (append-nil b))

-- ---- entries

-- different entries have different lines
entry-of : (e : EntryValue) (caller : ℕ) (stated : StatedValue) (moment : ℕ) (reply : Reply) → caller ≡ e.caller → stated ≡ e.stated → moment ≡ e.moment → reply ≡ e.reply
    → entry_of caller stated moment reply ≡ e
entry-of e caller stated moment reply a b c d = rw (a, b, c, d) refl

pub entry_line-one : (a b : EntryValue) → Fits a → Fits b → entry_line a ≡ entry_line b → a ≡ b
entry_line-one a b ha hb e =
    let text = append_cancel_right (parts_text a) (parts_text b) (10 ∷ []) (sym (entry_line-parts a) ∙ e ∙ entry_line-parts b) in
    let caller = cut-one 124 _ _ _ _ (caller-unbarred a ha) (caller-unbarred b hb) text in
    let stated = cut-one 124 _ _ _ _ (stated-unbarred a ha) (stated-unbarred b hb) caller.1 in
    let moment = cut-one 124 _ _ _ _ (moment-unbarred a ha) (moment-unbarred b hb) stated.1 in
    let fields : stated_fields a.stated ≡ stated_fields b.stated =
    sym (fields-split _ _ (stated_inner a.stated ha.stated)) ∙ ap (parts_by 44) stated.0 ∙ fields-split _ _ (stated_inner b.stated hb.stated) in
    entry-of b a.caller a.stated a.moment a.reply
    (decimal_injective a.caller b.caller (omega (arith, ha.caller)) (omega (arith, hb.caller)) caller.0)
    (stated_fields-one a.stated b.stated ha.stated hb.stated fields)
    (minute_text-one a.moment b.moment moment.0)
    (reply_text-one a.reply b.reply ha.reply hb.reply moment.1)

pub entry-begins : (a b : EntryValue) (rest : List ℕ) → Fits a → Fits b → entry_line b ≡ entry_line a ++ rest → (a ≡ b) × (rest ≡ [])
entry-begins a b rest ha hb e =
    let line = line-one (entry_line a) (entry_line b) rest (entry_line-IsLine a ha) (entry_line-IsLine b hb) e in
    (entry_line-one a b ha hb line.0, line.1)

-- ---- openings

pub opening_line-one : (a b : OpeningValue) → IsOpening a → IsOpening b → opening_line a ≡ opening_line b → a ≡ b
unfolding opening_line
opening_line-one a b ha hb e =
    let text = append_cancel_right (join_with_byte 44 (opening_fields a)) (join_with_byte 44 (opening_fields b)) (10 ∷ []) e in
    let fields : opening_fields a ≡ opening_fields b = sym (fields-split _ _ (opening_inner a ha)) ∙ ap (parts_by 44) text ∙ fields-split _ _ (opening_inner b hb) in
    opening_fields-one a b ha hb fields

pub opening-begins : (a b : OpeningValue) (rest : List ℕ) → IsOpening a → IsOpening b → opening_line b ≡ opening_line a ++ rest → (a ≡ b) × (rest ≡ [])
opening-begins a b rest ha hb e =
    let line = line-one (opening_line a) (opening_line b) rest (opening_line-IsLine a ha) (opening_line-IsLine b hb) e in
    (opening_line-one a b ha hb line.0, line.1)

-- ---- an opening and an entry

-- an opening's line has no mark between parts
apart-lines : (o : OpeningValue) (e : EntryValue) → IsOpening o → Fits e → opening_line o ≡ entry_line e → ⊥
unfolding opening_line
apart-lines o e ho he same =
    let text = append_cancel_right (join_with_byte 44 (opening_fields o)) (parts_text e) (10 ∷ []) (same ∙ entry_line-parts e) in
    let whole = slice_split_none (λ b. b == 124) (join_with_byte 44 (opening_fields o)) (joined-unbarred (opening_fields o) (opening_inner o ho)) in
    let behind = join_with_byte 44 (stated_fields e.stated) ++ 124 ∷ (minute_text e.moment ++ 124 ∷ reply_text e.reply) in
    some-parts 124 behind (ap (λ ps. drop 1 ps) (sym whole ∙ text-parts 124 _ (decimal e.caller) behind (caller-unbarred e he) text))

pub entry-begins_opening : (o : OpeningValue) (e : EntryValue) (rest : List ℕ) → IsOpening o → Fits e → opening_line o ≢ entry_line e ++ rest
entry-begins_opening o e rest ho he same =
    apart-lines o e ho he (sym (line-one (entry_line e) (opening_line o) rest (entry_line-IsLine e he) (opening_line-IsLine o ho) same).0)

pub opening-begins_entry : (o : OpeningValue) (e : EntryValue) (rest : List ℕ) → IsOpening o → Fits e → entry_line e ≢ opening_line o ++ rest
opening-begins_entry o e rest ho he same =
    apart-lines o e ho he (line-one (opening_line o) (entry_line e) rest (opening_line-IsLine o ho) (entry_line-IsLine e he) same).0
