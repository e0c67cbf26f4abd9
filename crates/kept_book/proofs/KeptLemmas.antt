-- What a device has of a journal, as the history goes on.
use Rattle.std.proofs.Common.{◌≡◌, ℕ, ◌+◌, ◌<◌, get_or, Bool, true, false, None, Some, List, [], ◌∷◌, ◌++◌, length, take, drop, arith, refl, sym, ap, subst, ◌∙◌, append_assoc}
use Rattle.std.specs.declared.option.Option.{Option}
use Rattle.std.specs.Bool.{OnTrue, OnFalse}
use Rattle.std.proofs.Props.{props}
use Rattle.std.proofs.lemmas.List.{append-nil, take_all, take_more, take-append-drop}
use Rattle.std.proofs.lemmas.Bool.{false≢true}
use Rattle.std.specs.Io.KnownBytes.{append_known}
use Rattle.std.proofs.Math.Logic.{∥∥₁_elim}
use Rattle.desk_model.specs.statements.Entry.{EntryValue}
use Rattle.desk_model.specs.statements.Opening.{OpeningValue}
use Rattle.desk_model.specs.histories.History.{History, history_of, with_entry}
use Rattle.desk_model.specs.texts.Journal.{opening_line, entry_line, journal}
use Rattle.line_writer.proofs.JournalLemmas.{journal-next}
use Rattle.journal_device.specs.Device.{AddsSome, Begins, Tells}
use Rattle.kept_book.specs.Kept.{TellsFront, KeepsFront, Stands}

-- what is known begins itself
pub begins_same : (known : Option (List ℕ)) → Begins known known
begins_same None = tt
begins_same (Some known) = ([], append-nil known)

-- and what it begins, with more bytes behind that
pub begins_more : (front known : Option (List ℕ)) (bytes : List ℕ) → Begins front known → Begins front (append_known known bytes)
begins_more None known bytes begins = tt
begins_more (Some front) None bytes begins = absurd begins
begins_more (Some front) (Some known) bytes begins = (begins.0 ++ bytes, sym (append_assoc front begins.0 bytes) ∙ ap (λ t. t ++ bytes) begins.1)

-- nothing that is added is some of any bytes
pub adds_none : (known : Option (List ℕ)) (bytes : List ℕ) → AddsSome known known bytes
adds_none None bytes = record { count = 0; added = refl }
adds_none (Some known) bytes = record { count = 0; added = ap Some (sym (append-nil known)) }

-- all of them are
pub adds_all : (known after : Option (List ℕ)) (bytes : List ℕ) → after ≡ append_known known bytes → AddsSome known after bytes
adds_all known after bytes is = record { count = length bytes; added = is ∙ ap (append_known known) (sym (take_all (length bytes) bytes (omega arith))) }

-- that a device tells just these bytes is a proposition
tells-IsProp : (known : Option (List ℕ)) (bytes : List ℕ) → IsProp (Tells known bytes)
tells-IsProp None bytes = hlevel props
tells-IsProp (Some known) bytes = hlevel props

whole-IsProp : (sound : Bool) (known : Option (List ℕ)) (bytes : List ℕ) → IsProp (OnTrue sound (Tells known bytes))
whole-IsProp true known bytes = tells-IsProp known bytes
whole-IsProp false known bytes = hlevel props

-- the journal of one entry more
tells-next : (known : Option (List ℕ)) (h : History) (e : EntryValue) → Tells known (journal h) → Tells (append_known known (entry_line e)) (journal (with_entry h e))
tells-next None h e tells = tt
tells-next (Some known) h e tells = ap (λ t. t ++ entry_line e) tells ∙ sym (journal-next h e)

-- some bytes of its line behind it
front-some : (known after : Option (List ℕ)) (h : History) (e : EntryValue) → Tells known (journal h) → AddsSome known after (entry_line e) → TellsFront after (with_entry h e)
front-some None after h e tells some = subst (λ w. TellsFront w (with_entry h e)) (sym some.added) tt
front-some (Some known) after h e tells some =
    let line = entry_line e in
    subst (λ w. TellsFront w (with_entry h e)) (sym some.added) (
      drop some.count line,
      append_assoc known (take some.count line) (drop some.count line) ∙ ap (λ t. known ++ t) (take-append-drop some.count line)
          ∙ ap (λ t. t ++ line) tells ∙ sym (journal-next h e),
    )

-- a front of a journal is one of a longer journal
front-next : (known : Option (List ℕ)) (h : History) (e : EntryValue) → TellsFront known h → TellsFront known (with_entry h e)
front-next None h e front = tt
front-next (Some known) h e front =
    (front.0 ++ entry_line e, sym (append_assoc known front.0 (entry_line e)) ∙ ap (λ t. t ++ entry_line e) front.1 ∙ sym (journal-next h e))

-- what is kept of the first entries is so of a longer history
keeps-next : (known : Option (List ℕ)) (h : History) (e : EntryValue) → KeepsFront known h → KeepsFront known (with_entry h e)
keeps-next known h e keeps = record {
  entries = keeps.entries;
  later = keeps.later ++ e ∷ [];
  begins = sym (append_assoc keeps.entries keeps.later (e ∷ [])) ∙ ap (λ es. es ++ e ∷ []) keeps.begins;
  tells = keeps.tells;
}

-- all of a history is its first entries
pub keeps-all : (known : Option (List ℕ)) (h : History) → Tells known (journal h) → KeepsFront known h
keeps-all known h tells = record { entries = h.entries; later = []; begins = append-nil h.entries; tells = tells }

-- a whole journal is a front of itself
front-all : (known : Option (List ℕ)) (h : History) → Tells known (journal h) → TellsFront known h
front-all None h tells = tt
front-all (Some known) h tells = ([], append-nil known ∙ tells)

-- whatever came of an append, what the device has stands so to the history with one entry more
stands-next : (sound done : Bool) (written kept after : Option (List ℕ)) (h : History) (e : EntryValue) → Stands sound written kept h
    → OnTrue done (after ≡ append_known written (entry_line e)) → OnFalse done (AddsSome written after (entry_line e)) → OnFalse sound (done ≡ false) → OnFalse sound (after ≡ written)
    → Stands done after kept (with_entry h e)
stands-next true true written kept after h e stands all front unsound stays = (subst (λ w. Tells w (journal (with_entry h e))) (sym all) (tells-next written h e stands.0), keeps-next kept h e stands.1)
stands-next true false written kept after h e stands all front unsound stays = (front-some written after h e stands.0 front, keeps-next kept h e stands.1)
stands-next false true written kept after h e stands all front unsound stays = absurd (false≢true (sym unsound))
stands-next false false written kept after h e stands all front unsound stays =
    (subst (λ w. TellsFront w (with_entry h e)) (sym stays) (front-next written h e stands.0), keeps-next kept h e stands.1)

-- and of a sync
stands-synced : (sound done : Bool) (written kept later : Option (List ℕ)) (h : History) → Stands sound written kept h → OnTrue done (later ≡ written) → OnFalse done (later ≡ kept) → OnFalse sound (done ≡ false)
    → Stands done written later h
stands-synced true true written kept later h stands synced same unsound = (stands.0, keeps-all later h (subst (λ k. Tells k (journal h)) (sym synced) stands.0))
stands-synced true false written kept later h stands synced same unsound = (front-all written h stands.0, subst (λ k. KeepsFront k h) (sym same) stands.1)
stands-synced false true written kept later h stands synced same unsound = absurd (false≢true (sym unsound))
stands-synced false false written kept later h stands synced same unsound = (stands.0, subst (λ k. KeepsFront k h) (sym same) stands.1)

-- where it was done, the whole journal is kept
synced-whole : (sound done : Bool) (written kept later : Option (List ℕ)) (h : History) → Stands sound written kept h → OnTrue done (later ≡ written) → OnFalse sound (done ≡ false)
    → OnTrue done (Tells later (journal h))
synced-whole true true written kept later h stands synced unsound = subst (λ k. Tells k (journal h)) (sym synced) stands.0
synced-whole true false written kept later h stands synced unsound = tt
synced-whole false true written kept later h stands synced unsound = absurd (false≢true (sym unsound))
synced-whole false false written kept later h stands synced unsound = tt

-- the entries that are kept are a front
keeps-first : (sound : Bool) (written kept : Option (List ℕ)) (h : History) → Stands sound written kept h → KeepsFront kept h
keeps-first true written kept h stands = stands.1
keeps-first false written kept h stands = stands.1

-- the same where how it stands is only known to be so
pub stands-kept : (sound : Bool) (written kept : Option (List ℕ)) (h : History) → Tells written (journal h) → Tells kept (journal h) → ∥ Stands true written kept h ∥₁
stands-kept sound written kept h written_all kept_all = ∣ (written_all, keeps-all kept h kept_all) ∣₁

pub keeps-front : (sound : Bool) (written kept : Option (List ℕ)) (h : History) → ∥ Stands sound written kept h ∥₁ → ∥ KeepsFront kept h ∥₁
keeps-front sound written kept h stands = ∥∥₁_elim stands squash₁ (λ so. ∣ keeps-first sound written kept h so ∣₁)

pub stands-after : (sound done : Bool) (written kept after later : Option (List ℕ)) (h g : History) (e : EntryValue) (line : List ℕ) → ∥ Stands sound written kept h ∥₁ → g ≡ with_entry h e → line ≡ entry_line e
    → OnTrue done (after ≡ append_known written line) → OnFalse done (AddsSome written after line) → OnFalse sound (done ≡ false) → OnFalse sound (after ≡ written) → later ≡ kept
    → ∥ Stands done after later g ∥₁
stands-after sound done written kept after later h g e line stands next is all front unsound stays same =
    ∥∥₁_elim stands squash₁ (λ so. ∣ subst (λ k. Stands done after k g) (sym same) (subst (Stands done after kept) (sym next) (stands-next sound done written kept after h e so
    (subst (λ l. OnTrue done (after ≡ append_known written l)) is all) (subst (λ l. OnFalse done (AddsSome written after l)) is front) unsound stays)) ∣₁)

pub stands-sync : (sound done : Bool) (written kept after later : Option (List ℕ)) (h : History) → ∥ Stands sound written kept h ∥₁ → after ≡ written → OnTrue done (later ≡ written) → OnFalse done (later ≡ kept)
    → OnFalse sound (done ≡ false) → ∥ Stands done after later h ∥₁
stands-sync sound done written kept after later h stands same synced unkept unsound =
    ∥∥₁_elim stands squash₁ (λ so. ∣ subst (λ w. Stands done w later h) (sym same) (stands-synced sound done written kept later h so synced unkept unsound) ∣₁)

pub sync-whole : (sound done : Bool) (written kept later : Option (List ℕ)) (h : History) → ∥ Stands sound written kept h ∥₁ → OnTrue done (later ≡ written) → OnFalse sound (done ≡ false)
    → OnTrue done (Tells later (journal h))
sync-whole sound done written kept later h stands synced unsound =
    ∥∥₁_elim stands (whole-IsProp done later (journal h)) (λ so. synced-whole sound done written kept later h so synced unsound)

-- ---- a journal that is written as a whole

-- that of an opening alone, behind nothing
pub tells-opening : (known after : Option (List ℕ)) (o : OpeningValue) (line : List ℕ) → Tells known [] → after ≡ append_known known line → line ≡ opening_line o
    → Tells after (journal (history_of o []))
tells-opening None after o line tells is same = rw is tt
tells-opening (Some known) after o line tells is same = rw is (ap (λ t. t ++ line) tells ∙ same ∙ sym (append-nil (opening_line o)))

-- with the line of the entry that stands next
pub tells-one-more : (known after : Option (List ℕ)) (o : OpeningValue) (entries : List EntryValue) (at : ℕ) (e : EntryValue) (line : List ℕ) → at < length entries → e ≡ get_or entries at e
    → Tells known (journal (history_of o (take at entries))) → after ≡ append_known known line → line ≡ entry_line e → Tells after (journal (history_of o (take (at + 1) entries)))
tells-one-more known after o entries at e line within item tells is same =
    let front : take (at + 1) entries ≡ take at entries ++ e ∷ [] = take_more entries at e within ∙ ap (λ y. take at entries ++ y ∷ []) (sym item) in
    subst (λ es. Tells after (journal (history_of o es))) (sym front)
    (subst (λ a. Tells a (journal (with_entry (history_of o (take at entries)) e))) (sym (is ∙ ap (append_known known) same)) (tells-next known (history_of o (take at entries)) e tells))
