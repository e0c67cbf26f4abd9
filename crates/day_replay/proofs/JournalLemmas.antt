-- The journal of a day grows by the lines of the entries, one after another.
use Rattle.std.proofs.Common.{◌≡◌, ◌≢◌, ℕ, ◌+◌, ◌<◌, ◌≤◌, ◌-◌, ◌==◌, true, false, Option, None, Some, List, [], ◌∷◌, ◌++◌, length, get_or, map, take, drop, take-append-drop, refl, sym, ap, subst, ◌∙◌, arith, append-nil, length-append, append_assoc, codes, decimal, ◌⊎◌, inl, inr}
use Rattle.std.specs.Io.KnownBytes.{Appends, Keeps}
use Rattle.std.proofs.KnownBytes.{Appends-trans, Appends-nil}
use Rattle.std.proofs.lemmas.Bool.{cond-true, cond-false, lt-ltb, le-ltb, eqb-true, false≢true}
use Rattle.std.proofs.lemmas.List.{take_at, take-append-le, drop-append-le, drop_more, drop_all, take_all, take_more, length-drop, nil_from_length, flat_map_more}
use Rattle.std.specs.List.{join_with_byte}
use Rattle.std.proofs.lemmas.Fmt.{decimal_digit}
use Rattle.std.proofs.lemmas.Grind.{flat_map-append}
use Rattle.std.proofs.Math.Seq.{take-append-add}
use Rattle.desk_io.specs.Giving.{AddsFront}
use Rattle.line_writer.proofs.JournalLemmas.{journal-next}
use Rattle.desk_model.specs.statements.Entry.{EntryValue}
use Rattle.desk_model.specs.statements.Opening.{OpeningValue}
use Rattle.desk_model.specs.statements.Statement.{StatedValue}
use Rattle.desk_model.specs.histories.History.{History, history_of, with_entry}
use Rattle.desk_model.specs.histories.Legal.{next, history_from}
use Rattle.desk_model.specs.texts.Journal.{opening_line, entry_line, entry_lines, journal}
use Rattle.day_replay.specs.declared.held_line.HeldLine.{HeldLine}
use Rattle.day_replay.specs.Gathered.{Gathers}
use Rattle.desk_base.specs.Minute.{minute_text}
use Rattle.desk_model.specs.declared.reply.Reply.TheVariants.{Done}
use Rattle.desk_model.specs.texts.ReplyTexts.{reply_text}
use Rattle.desk_model.specs.texts.StatedTexts.{stated_fields, command_fields}
use Rattle.record_rows.proofs.MinuteLemmas.{length-minute_text}
use Rattle.line_writer.specs.Line.{outcome_line}
use Rattle.command_parser.specs.Spelled.{SpellsStated}
use Rattle.day_replay.specs.Held.{AddsLine, done_when_stated, held_behind, held_bytes, held_line, held_lines}
use Rattle.day_replay.specs.Replay.{by_the_day_file, goes_on}
use Rattle.day_replay.proofs.HistoryLemmas.{goes_on-behind}

-- ---- text that is gathered

-- after all of one text, a front of the next is a front of both
pub AddsFront-after : (a b c : Option (List ℕ)) (text more : List ℕ) → Appends a b text → AddsFront b c more → AddsFront a c (text ++ more)
AddsFront-after a b c text more before front = record {
  count = length text + front.count;
  within = omega (arith, front.within, length-append text more);
  added = subst (Appends a c) (sym (take-append-add text more front.count)) (Appends-trans a b c text (take front.count more) before front.added);
}

-- a front of a text is one of a longer text
pub AddsFront-longer : (a b : Option (List ℕ)) (text more : List ℕ) → AddsFront a b text → AddsFront a b (text ++ more)
AddsFront-longer a b text more front = record {
  count = front.count;
  within = omega (arith, front.within, length-append text more);
  added = subst (Appends a b) (sym (take-append-le front.count text more (omega (arith, front.within)))) front.added;
}

-- what is gathered behind what waits is gathered behind all
pub Gathers-more : (a b c : Option (List ℕ)) (text waiting line later : List ℕ) → Gathers a b text waiting → Gathers b c (waiting ++ line) later → Gathers a c (text ++ line) later
Gathers-more a b c text waiting line later before next = record {
  put = before.put ++ next.put;
  added = Appends-trans a b c before.put next.put before.added next.added;
  parts = ap (λ t. t ++ line) before.parts ∙ append_assoc before.put waiting line ∙ ap (λ t. before.put ++ t) next.parts ∙ sym (append_assoc before.put next.put later);
}

-- where what waits was put, all was
pub Appends-gathered : (a b c : Option (List ℕ)) (text waiting : List ℕ) → Gathers a b text waiting → Appends b c waiting → Appends a c text
Appends-gathered a b c text waiting before put =
    subst (Appends a c) (sym before.parts) (Appends-trans a b c before.put waiting before.added put)

-- and where a front of it was, a front of all was
pub AddsFront-gathered : (a b c : Option (List ℕ)) (text waiting : List ℕ) → Gathers a b text waiting → AddsFront b c waiting → AddsFront a c text
AddsFront-gathered a b c text waiting before front =
    subst (AddsFront a c) (sym before.parts) (AddsFront-after a b c before.put waiting before.added front)

-- and where a front of it and of more was, a front of all and of that was
pub AddsFront-more : (a b c : Option (List ℕ)) (text waiting more : List ℕ) → Gathers a b text waiting → AddsFront b c (waiting ++ more) → AddsFront a c (text ++ more)
AddsFront-more a b c text waiting more before front =
    subst (AddsFront a c) (sym (ap (λ t. t ++ more) before.parts ∙ append_assoc before.put waiting more)) (AddsFront-after a b c before.put (waiting ++ more) before.added front)

-- where what waits was put, and a text behind it, nothing waits
pub Gathers-put : (a b c : Option (List ℕ)) (waiting text none : List ℕ) → none ≡ [] → Appends a b waiting → Appends b c text → Gathers a c (waiting ++ text) none
Gathers-put a b c waiting text none empty before after = record {
  put = waiting ++ text;
  added = Appends-trans a b c waiting text before after;
  parts = subst (λ n. waiting ++ text ≡ (waiting ++ text) ++ n) (sym empty) (sym (append-nil (waiting ++ text)));
}

-- ---- lines of entries

-- no line was gathered yet
pub Gathers-no_lines : (a : Option (List ℕ)) (waiting : List ℕ) (entries : List EntryValue) → Gathers a a (waiting ++ entry_lines (take 0 entries)) waiting
Gathers-no_lines a waiting entries = record { put = []; added = Appends-nil a; parts = append-nil waiting }

-- what was gathered with the line of the next entry are the lines of one entry more
pub Gathers-line : (a b c : Option (List ℕ)) (front : List ℕ) (entries : List EntryValue) (index : ℕ) (e : EntryValue) (line waiting gathered : List ℕ)
    → index < length entries → e ≡ get_or entries index e → line ≡ entry_line e
    → Gathers a b (front ++ entry_lines (take index entries)) waiting → Gathers b c (waiting ++ line) gathered
    → Gathers a c (front ++ entry_lines (take (index + 1) entries)) gathered
Gathers-line a b c front entries index e line waiting gathered within at spelled before next =
    subst (λ t. Gathers a c t gathered)
    (ap (λ l. (front ++ entry_lines (take index entries)) ++ l) spelled
    ∙ flat_map_more entry_line front (take index entries) e
    ∙ ap (λ es. front ++ entry_lines es) (ap (λ x. take index entries ++ x ∷ []) at ∙ sym (take_more entries index e within)))
    (Gathers-more a b c (front ++ entry_lines (take index entries)) waiting line gathered before next)

-- a front of the lines of the first entries is one of those of all
pub AddsFront-lines : (a b : Option (List ℕ)) (front : List ℕ) (entries : List EntryValue) (index : ℕ)
    → AddsFront a b (front ++ entry_lines (take index entries)) → AddsFront a b (front ++ entry_lines entries)
AddsFront-lines a b front entries index put =
    subst (AddsFront a b)
    (append_assoc front (entry_lines (take index entries)) (entry_lines (drop index entries))
    ∙ ap (λ t. front ++ t) (sym (flat_map-append entry_line (take index entries) (drop index entries)) ∙ ap entry_lines (take-append-drop index entries)))
    (AddsFront-longer a b (front ++ entry_lines (take index entries)) (entry_lines (drop index entries)) put)

-- what was gathered where nothing waited with the line of an opening, and then with those of entries, is a journal
pub Gathers-history : (a b c : Option (List ℕ)) (none line first waiting : List ℕ) (o : OpeningValue) (entries : List EntryValue) → none ≡ [] → line ≡ opening_line o
    → Gathers a b (none ++ line) first → Gathers b c (first ++ entry_lines entries) waiting → Gathers a c (journal (history_of o entries)) waiting
Gathers-history a b c none line first waiting o entries empty spelled before next =
    subst (λ t. Gathers a c t waiting)
    (ap (λ l. (none ++ l) ++ entry_lines entries) spelled ∙ ap (λ n. (n ++ opening_line o) ++ entry_lines entries) empty)
    (Gathers-more a b c (none ++ line) first (entry_lines entries) waiting before next)

-- and where a front of the lines of the entries was put, a front of that
pub AddsFront-history : (a b c : Option (List ℕ)) (none line first : List ℕ) (o : OpeningValue) (entries : List EntryValue) → none ≡ [] → line ≡ opening_line o
    → Gathers a b (none ++ line) first → AddsFront b c (first ++ entry_lines entries) → AddsFront a c (journal (history_of o entries))
AddsFront-history a b c none line first o entries empty spelled before put =
    subst (AddsFront a c)
    (ap (λ l. (none ++ l) ++ entry_lines entries) spelled ∙ ap (λ n. (n ++ opening_line o) ++ entry_lines entries) empty)
    (AddsFront-more a b c (none ++ line) first (entry_lines entries) before put)

-- what is put into a sink that holds what it held
pub Appends-kept : (a b c : Option (List ℕ)) (text : List ℕ) → Keeps a b → Appends b c text → Appends a c text
Appends-kept None b c text kept put = tt
Appends-kept (Some x) None c text kept put = absurd kept
Appends-kept (Some x) (Some y) c text kept put = subst (λ z. Appends (Some z) c text) kept put

pub AddsFront-kept : (a b c : Option (List ℕ)) (text : List ℕ) → Keeps a b → AddsFront b c text → AddsFront a c text
AddsFront-kept a b c text kept front = record { count = front.count; within = front.within; added = Appends-kept a b c (take front.count text) kept front.added }

-- ---- the journal

-- commands more are lines more
journal-grows : (h : History) (commands : List (ℕ × StatedValue)) → (later : List ℕ) × (journal (history_from h commands) ≡ journal h ++ later)
unfolding history_from
journal-grows h [] = ([], sym (append-nil (journal h)))
journal-grows h ((caller, s) ∷ rest) =
    let e = next h caller s in
    let more = journal-grows (with_entry h e) rest in (
      entry_line e ++ more.0,
      more.1 ∙ ap (λ t. t ++ more.0) (journal-next h e) ∙ append_assoc (journal h) (entry_line e) more.0,
    )

-- the desk stands for a history whose journal was put into the sink, or waits
pub record Written (Stands : History → Type 0) (a b : Option (List ℕ)) (h : History) (waiting : List ℕ) : Type 0 where
  pub stands : Stands h
  pub gathered : Gathers a b (journal h) waiting

-- what was gathered with the line of the entry that comes next is the journal of one command more
pub Gathers-journal : (a b c : Option (List ℕ)) (h later : History) (e : EntryValue) (line waiting gathered : List ℕ)
    → with_entry h e ≡ later → line ≡ entry_line e
    → Gathers a b (journal h) waiting → Gathers b c (waiting ++ line) gathered → Gathers a c (journal later) gathered
Gathers-journal a b c h later e line waiting gathered goes spelled before next =
    subst (λ t. Gathers a c t gathered)
    (ap (λ l. journal h ++ l) spelled ∙ sym (journal-next h e) ∙ ap journal goes)
    (Gathers-more a b c (journal h) waiting line gathered before next)

-- a front of the journal of the first commands is one of that of all
pub AddsFront-journal : (a b : Option (List ℕ)) (h : History) (commands : List StatedValue) (index : ℕ)
    → AddsFront a b (journal (goes_on h (take index commands))) → AddsFront a b (journal (goes_on h commands))
AddsFront-journal a b h commands index front =
    let first = goes_on h (take index commands) in
    let more = journal-grows first (map by_the_day_file (drop index commands)) in
    subst (AddsFront a b) (sym more.1 ∙ ap journal (goes_on-behind h commands index)) (AddsFront-longer a b (journal first) more.0 front)

-- ---- lines that are held

-- a line more, and its text behind the others
pub held_lines-more : (lines : List HeldLine) (texts : List ℕ) (line : HeldLine) (text : List ℕ) → held_bytes lines ≡ length texts → line.bytes ≡ length text
    → held_lines (lines ++ line ∷ []) (texts ++ text) ≡ held_lines lines texts ++ held_line line.stated.now text
held_lines-more [] texts line text whole bytes =
    let none : texts ≡ [] = nil_from_length texts (omega (arith, whole)) in
    let all : take line.bytes text ≡ text = take_all line.bytes text (omega (arith, bytes)) in
    rw none (rw all (append-nil (held_line line.stated.now text)))
held_lines-more (first ∷ rest) texts line text whole bytes =
    let within : first.bytes ≤ length texts = omega (arith, whole) in
    let behind : held_bytes rest ≡ length (drop first.bytes texts) = omega (arith, whole, length-drop first.bytes texts) in
    rw (take-append-le first.bytes texts text within, drop-append-le first.bytes texts text within, held_lines-more rest (drop first.bytes texts) line text behind bytes)
    (sym (append_assoc (held_line first.stated.now (take first.bytes texts)) (held_lines rest (drop first.bytes texts)) (held_line line.stated.now text)))

pub held_bytes-more : (lines : List HeldLine) (line : HeldLine) → held_bytes (lines ++ line ∷ []) ≡ held_bytes lines + line.bytes
held_bytes-more [] line = omega arith
held_bytes-more (first ∷ rest) line = omega (arith, held_bytes-more rest line)

-- what was gathered where nothing waited
pub Gathers-first : (a b : Option (List ℕ)) (none line text waiting : List ℕ) → none ≡ [] → line ≡ text → Gathers a b (none ++ line) waiting → Gathers a b text waiting
Gathers-first a b none line text waiting empty is gathered = subst (λ t. Gathers a b t waiting) (ap (λ n. n ++ line) empty ∙ is) gathered

-- the three parts of a line, gathered one behind another
three-parts : (front first second third : List ℕ) → ((front ++ first) ++ second) ++ third ≡ front ++ (first ++ second ++ third)
three-parts front first second third = simp append_assoc

pub Gathers-three : (a b c d : Option (List ℕ)) (front first second third one two gathered : List ℕ)
    → Gathers a b (front ++ first) one → Gathers b c (one ++ second) two → Gathers c d (two ++ third) gathered
    → Gathers a d (front ++ (first ++ second ++ third)) gathered
Gathers-three a b c d front first second third one two gathered x y z =
    subst (λ t. Gathers a d t gathered) (three-parts front first second third)
    (Gathers-more a c d ((front ++ first) ++ second) two third gathered (Gathers-more a b c (front ++ first) one second two x y) z)

first-part : (front first second third : List ℕ) → (front ++ first) ++ (second ++ third) ≡ front ++ (first ++ second ++ third)
first-part front first second third = simp append_assoc

-- a front of them was put, where the first, the second or the third was not
pub AddsFront-first : (a b : Option (List ℕ)) (front first second third : List ℕ) → AddsFront a b (front ++ first) → AddsFront a b (front ++ (first ++ second ++ third))
AddsFront-first a b front first second third put =
    subst (AddsFront a b) (first-part front first second third) (AddsFront-longer a b (front ++ first) (second ++ third) put)

pub AddsFront-second : (a b c : Option (List ℕ)) (front first second third one : List ℕ) → Gathers a b (front ++ first) one → AddsFront b c (one ++ second)
    → AddsFront a c (front ++ (first ++ second ++ third))
AddsFront-second a b c front first second third one x put =
    subst (AddsFront a c) (three-parts front first second third)
    (AddsFront-longer a c ((front ++ first) ++ second) third (AddsFront-more a b c (front ++ first) one second x put))

pub AddsFront-third : (a b c d : Option (List ℕ)) (front first second third one two : List ℕ)
    → Gathers a b (front ++ first) one → Gathers b c (one ++ second) two → AddsFront c d (two ++ third)
    → AddsFront a d (front ++ (first ++ second ++ third))
AddsFront-third a b c d front first second third one two x y put =
    subst (AddsFront a d) (three-parts front first second third)
    (AddsFront-more a c d ((front ++ first) ++ second) two third (Gathers-more a b c (front ++ first) one second two x y) put)

-- what waits behind it, where nothing was put
pub Gathers-waiting : (a : Option (List ℕ)) (text waiting : List ℕ) → waiting ≡ text → Gathers a a text waiting
Gathers-waiting a text waiting is = record { put = []; added = Appends-nil a; parts = sym is }

-- of the lines that are held these were gathered, and those from this one on are left, of which that is held as text
pub record GathersHeld (a b : Option (List ℕ)) (all : List ℕ) (left : List HeldLine) (texts waiting : List ℕ) : Type 0 where
  pub done : List ℕ
  pub gathered : Gathers a b done waiting
  pub parts : all ≡ done ++ held_lines left texts
  pub bytes : held_bytes left ≡ length texts

pub GathersHeld-none : (a : Option (List ℕ)) (waiting : List ℕ) (lines : List HeldLine) (texts : List ℕ) → held_bytes lines ≡ length texts
    → GathersHeld a a (waiting ++ held_lines lines texts) lines texts waiting
GathersHeld-none a waiting lines texts bytes = record {
  done = waiting;
  gathered = record { put = []; added = Appends-nil a; parts = refl };
  parts = refl;
  bytes = bytes;
}

-- the next line's text is within what is left
pub GathersHeld-within : (a b : Option (List ℕ)) (all : List ℕ) (lines : List HeldLine) (index : ℕ) (line d : HeldLine) (texts waiting : List ℕ)
    → index < length lines → line ≡ get_or lines index d → GathersHeld a b all (drop index lines) texts waiting → line.bytes ≤ length texts
GathersHeld-within a b all lines index line d texts waiting within at so =
    let next : drop index lines ≡ line ∷ drop (index + 1) lines = drop_more lines index d within ∙ ap (λ x. x ∷ drop (index + 1) lines) (sym at) in
    omega (arith, sym so.bytes ∙ ap held_bytes next)

-- what was gathered with the next line
pub GathersHeld-line : (a b c : Option (List ℕ)) (all : List ℕ) (lines : List HeldLine) (index : ℕ) (line d : HeldLine) (texts text behind waiting gathered : List ℕ)
    → index < length lines → line ≡ get_or lines index d → text ≡ take line.bytes texts → behind ≡ drop line.bytes texts
    → GathersHeld a b all (drop index lines) texts waiting → Gathers b c (waiting ++ held_line line.stated.now text) gathered
    → GathersHeld a c all (drop (index + 1) lines) behind gathered
GathersHeld-line a b c all lines index line d texts text behind waiting gathered within at cut rest so put =
    let next : drop index lines ≡ line ∷ drop (index + 1) lines = drop_more lines index d within ∙ ap (λ x. x ∷ drop (index + 1) lines) (sym at) in
    record {
      done = so.done ++ held_line line.stated.now text;
      gathered = Gathers-more a b c so.done waiting (held_line line.stated.now text) gathered so.gathered put;
      parts = so.parts ∙ ap (λ ls. so.done ++ held_lines ls texts) next
          ∙ sym (append_assoc so.done (held_line line.stated.now (take line.bytes texts)) (held_lines (drop (index + 1) lines) (drop line.bytes texts)))
          ∙ ap (λ t. (so.done ++ held_line line.stated.now t) ++ held_lines (drop (index + 1) lines) (drop line.bytes texts)) (sym cut)
          ∙ ap (λ t. (so.done ++ held_line line.stated.now text) ++ held_lines (drop (index + 1) lines) t) (sym rest);
      bytes = omega (arith, sym so.bytes ∙ ap held_bytes next, ap length rest, length-drop line.bytes texts);
    }

-- where a front of it was put, a front of all was
pub GathersHeld-front : (a b c : Option (List ℕ)) (all : List ℕ) (lines : List HeldLine) (index : ℕ) (line d : HeldLine) (texts text waiting : List ℕ)
    → index < length lines → line ≡ get_or lines index d → text ≡ take line.bytes texts
    → GathersHeld a b all (drop index lines) texts waiting → AddsFront b c (waiting ++ held_line line.stated.now text) → AddsFront a c all
GathersHeld-front a b c all lines index line d texts text waiting within at cut so put =
    let next : drop index lines ≡ line ∷ drop (index + 1) lines = drop_more lines index d within ∙ ap (λ x. x ∷ drop (index + 1) lines) (sym at) in
    let is : all ≡ (so.done ++ held_line line.stated.now text) ++ held_lines (drop (index + 1) lines) (drop line.bytes texts) =
    so.parts ∙ ap (λ ls. so.done ++ held_lines ls texts) next
    ∙ sym (append_assoc so.done (held_line line.stated.now (take line.bytes texts)) (held_lines (drop (index + 1) lines) (drop line.bytes texts)))
    ∙ ap (λ t. (so.done ++ held_line line.stated.now t) ++ held_lines (drop (index + 1) lines) (drop line.bytes texts)) (sym cut) in
    subst (AddsFront a c) (sym is)
    (AddsFront-longer a c (so.done ++ held_line line.stated.now text) (held_lines (drop (index + 1) lines) (drop line.bytes texts))
    (AddsFront-more a b c so.done waiting (held_line line.stated.now text) so.gathered put))

-- where none is left, all was gathered
pub GathersHeld-all : (a b : Option (List ℕ)) (all : List ℕ) (lines : List HeldLine) (index : ℕ) (texts waiting : List ℕ) → length lines ≤ index
    → GathersHeld a b all (drop index lines) texts waiting → Gathers a b all waiting
GathersHeld-all a b all lines index texts waiting past so =
    let none : drop index lines ≡ [] = drop_all index lines past in
    subst (λ t. Gathers a b t waiting) (sym (so.parts ∙ ap (λ ls. so.done ++ held_lines ls texts) none ∙ append-nil so.done)) so.gathered

-- caller 0, the text of the statement, and what stands behind it, are the entry's line
spelled-line : (text : List ℕ) (e : EntryValue) → e.caller ≡ 0 → text ≡ join_with_byte 44 (stated_fields e.stated)
    → codes "0|" ++ text ++ (124 ∷ outcome_line e.moment e.reply) ≡ entry_line e
unfolding entry_line
spelled-line text e zero spelled =
    let caller : decimal e.caller ≡ 48 ∷ [] = ap decimal zero ∙ decimal_digit 0 (omega arith) in
    rw (spelled, caller) (simp append_assoc)

-- whether a text has bytes, by its length
pub some-bytes : (text : List ℕ) → false ≡ (length text == 0) → text ≢ []
some-bytes [] e none = false≢true e
some-bytes (byte ∷ text) e none = omega (arith, ap length none)

pub no-bytes : (text : List ℕ) → true ≡ (length text == 0) → text ≡ []
no-bytes text e = nil_from_length text (eqb-true _ _ (sym e))

-- the line of a statement that has bytes
pub held_line-stated : (stated text : List ℕ) → stated ≢ [] → held_line stated text ≡ codes "0|" ++ stated ++ held_behind stated text
held_line-stated [] text some = absurd (some refl)
held_line-stated (byte ∷ stated) text some = refl

-- where something is held of what stands behind it, or it has fewer than 16 bytes, that stands there
pub held_line-text : (stated text : List ℕ) → stated ≢ [] → (length stated < 16) ⊎ (text ≢ []) → held_line stated text ≡ codes "0|" ++ stated ++ text
held_line-text stated [] some (inl short) = held_line-stated stated [] some ∙ ap (λ t. codes "0|" ++ stated ++ t) (cond-true _ [] (done_when_stated stated) (lt-ltb _ _ short))
held_line-text stated [] some (inr text) = absurd (text refl)
held_line-text stated (byte ∷ text) some is = held_line-stated stated (byte ∷ text) some

-- and where nothing is, it was done when it was stated
pub held_line-done : (stated text minute : List ℕ) → stated ≢ [] → text ≡ [] → 16 ≤ length stated → minute ≡ take 16 stated
    → held_line stated text ≡ codes "0|" ++ stated ++ (124 ∷ minute ++ codes "|done\n")
held_line-done stated text minute some none long is =
    ap (held_line stated) none ∙ held_line-stated stated [] some
    ∙ ap (λ t. codes "0|" ++ stated ++ t) (cond-false _ [] (done_when_stated stated) (le-ltb _ _ long))
    ∙ ap (λ m. codes "0|" ++ stated ++ (124 ∷ m ++ codes "|done\n")) (sym is)

-- so what stands behind the statement may be held of it
pub AddsLine-outcome : (stated before after : List ℕ) (e : EntryValue) → stated ≢ []
    → after ≡ before ++ 124 ∷ outcome_line e.moment e.reply → AddsLine stated before after e
AddsLine-outcome stated before after e some added = record {
  text = 124 ∷ outcome_line e.moment e.reply;
  added = added;
  line = λ zero spelled. held_line-stated stated _ some ∙ spelled-line stated e zero (spelled some).text_is;
}

-- the text of a statement begins with that of its minute
stated-begins : (text : List ℕ) (s : StatedValue) → text ≡ join_with_byte 44 (stated_fields s) → (take 16 text ≡ minute_text s.minute) × (16 ≤ length text)
stated-begins text s spelled = go (command_fields s.cmd) spelled
  where
    begins : (rest : List ℕ) → text ≡ minute_text s.minute ++ rest → (take 16 text ≡ minute_text s.minute) × (16 ≤ length text)
    begins rest is = (
      ap (take 16) is ∙ take_at (minute_text s.minute) rest 16 (length-minute_text s.minute),
      omega (arith, ap length is, length-append (minute_text s.minute) rest, length-minute_text s.minute),
    )

    go : (fields : List (List ℕ)) → text ≡ join_with_byte 44 (minute_text s.minute ∷ fields) → (take 16 text ≡ minute_text s.minute) × (16 ≤ length text)
    go [] is = begins [] (is ∙ sym (append-nil (minute_text s.minute)))
    go (field ∷ fields) is = begins (44 ∷ join_with_byte 44 (field ∷ fields)) is

-- the end of the line of what was done
done-one : codes "|done\n" ≡ 124 ∷ reply_text Done ++ 10 ∷ []
done-one = refl

done-line : (m : ℕ) → 124 ∷ minute_text m ++ codes "|done\n" ≡ 124 ∷ outcome_line m Done
done-line m = ap (λ t. 124 ∷ t) (ap (λ t. minute_text m ++ t) done-one ∙ sym (append_assoc (minute_text m) (124 ∷ reply_text Done) (10 ∷ [])))

-- or nothing, where it was done when it was stated
pub AddsLine-done : (stated before : List ℕ) (e : EntryValue) → stated ≢ [] → e.reply ≡ Done → e.moment ≡ e.stated.minute → AddsLine stated before before e
AddsLine-done stated before e some done when = record {
  text = [];
  added = sym (append-nil before);
  line = λ zero spelled.
      let is = (spelled some).text_is in
      let begins = stated-begins stated e.stated is in
      held_line-done stated [] (minute_text e.moment) some refl begins.1 (ap minute_text when ∙ sym begins.0)
      ∙ ap (λ t. codes "0|" ++ stated ++ t) (done-line e.moment)
      ∙ ap (λ reply. codes "0|" ++ stated ++ (124 ∷ outcome_line e.moment reply)) (sym done)
      ∙ spelled-line stated e zero is;
}

-- or its whole line, where no bytes of it are at hand
pub AddsLine-whole : (stated before after : List ℕ) (e : EntryValue) → stated ≡ [] → after ≡ before ++ entry_line e → AddsLine stated before after e
AddsLine-whole stated before after e none added = record {
  text = entry_line e;
  added = added;
  line = λ zero spelled. ap (λ s. held_line s (entry_line e)) none;
}

-- the journal that is held of one entry more
pub HoldsJournal-line : (opening : List ℕ) (lines more : List HeldLine) (texts after : List ℕ) (line : HeldLine) (h : History) (e : EntryValue)
    → more ≡ lines ++ line ∷ [] → AddsLine line.stated.now texts after e → line.bytes ≡ length after - length texts → e.caller ≡ 0 → (line.stated.now ≢ [] → SpellsStated line.stated.now e.stated)
    → opening ++ held_lines lines texts ≡ journal h → held_bytes lines ≡ length texts
    → (opening ++ held_lines more after ≡ journal (with_entry h e)) × (held_bytes more ≡ length after)
HoldsJournal-line opening lines more texts after line h e next added bytes zero spelled text whole =
    let size : line.bytes ≡ length added.text = omega (arith, bytes, ap length added.added, length-append texts added.text) in (
      ap (λ ls. opening ++ held_lines ls after) next
          ∙ ap (λ t. opening ++ held_lines (lines ++ line ∷ []) t) added.added
          ∙ ap (λ t. opening ++ t) (held_lines-more lines texts line added.text whole size)
          ∙ sym (append_assoc opening (held_lines lines texts) (held_line line.stated.now added.text))
          ∙ ap (λ t. t ++ held_line line.stated.now added.text) text
          ∙ ap (λ t. journal h ++ t) (added.line zero spelled)
          ∙ sym (journal-next h e),
      omega (arith, ap held_bytes next, held_bytes-more lines line, whole, size, ap length added.added, length-append texts added.text),
    )
