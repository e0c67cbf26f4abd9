-- Texts that are put one behind the other.
use Rattle.std.proofs.Common.{◌≡◌, ◌≢◌, ℕ, zero, suc, ◌+◌, ◌<◌, true, false, List, [], ◌∷◌, ◌++◌, length, take, drop, get_or, None, Some, is_some, map, refl, sym, ap, ◌∙◌, subst, append_assoc}
use Rattle.std.specs.declared.option.Option.{Option}
use Rattle.std.proofs.lemmas.List.{map-append, take_more}
use Rattle.std.proofs.lemmas.List.Elements.{filter_map-append}
use Rattle.caller_lines.specs.LineCalls.{LineCall, PutText}
use Rattle.crew_call.specs.CrewCalls.{somes}
use Rattle.desk_model.specs.statements.Entry.{EntryValue}
use Rattle.desk_model.specs.texts.Journal.{entry_line}
use Rattle.serve_desk.specs.declared.why.Why.{Why}
use Rattle.serve_desk.specs.declared.why.Why.TheVariants as why
use Rattle.serve_desk.specs.Answers.{PutsOn}
use Rattle.serve_desk.specs.Follows.{Puts, it_is_put, it_is_not_put, it_is_not_written}
use Rattle.serve_desk.specs.Told.{with_all}
use Rattle.serve_desk.specs.WatchAnswers.{PutsAllOn}
use Rattle.serve_desk.specs.WatchFollows.{PutsAll, all_are_put, one_is_not_put}
use Rattle.serve_desk.proofs.ToldLemmas.{with_all-none, with_all-more}

-- where the session goes on, all were put
all-put : (all texts : List (List ℕ)) (ends : Option Why) → PutsAll all texts ends → ends ≡ None → texts ≡ all
all-put _ _ _ (all_are_put texts) on = refl
all-put _ _ _ (one_is_not_put before text behind) on = absurd (cc)

-- some, and then more
then-more : (first all texts : List (List ℕ)) (ends : Option Why) → PutsAll all texts ends → PutsAll (first ++ all) (first ++ texts) ends
then-more first _ _ _ (all_are_put texts) = all_are_put (first ++ texts)
then-more first _ _ _ (one_is_not_put before text behind) =
    subst (λ l. PutsAll l (first ++ before) (Some why.LineFault)) (append_assoc first before (text ∷ behind)) (one_is_not_put (first ++ before) text behind)

-- some, of which one isn't taken, and no more
no-more : (all more texts : List (List ℕ)) (ends : Option Why) → PutsAll all texts ends → is_some ends ≡ true → PutsAll (all ++ more) texts ends
no-more _ more _ _ (all_are_put texts) some = absurd (cc)
no-more _ more _ _ (one_is_not_put before text behind) some =
    subst (λ l. PutsAll l before (Some why.LineFault)) (sym (append_assoc before (text ∷ behind) more)) (one_is_not_put before text (behind ++ more))

pub PutsAllOn-none : (before : Option (List LineCall)) → PutsAllOn [] before before None
PutsAllOn-none before = record { texts = []; puts = all_are_put []; told = sym (with_all-none before) }

pub PutsAllOn-one : (text : List ℕ) (before now : Option (List LineCall)) (ends : Option Why) → PutsOn text None before now ends → PutsAllOn (text ∷ []) before now ends
PutsAllOn-one text before now ends one = record { texts = one.texts; puts = go one.texts ends one.puts; told = one.told }
  where
    go : (texts : List (List ℕ)) (e : Option Why) → Puts text None texts e → PutsAll (text ∷ []) texts e
    go _ _ it_is_put = all_are_put (text ∷ [])
    go _ _ it_is_not_put = one_is_not_put [] text []
    go _ _ (it_is_not_written ends) = absurd (ends refl)

pub PutsAllOn-then : (all more : List (List ℕ)) (before between now : Option (List LineCall)) (took ends : Option Why) → took ≡ None → PutsAllOn all before between took
    → PutsAllOn more between now ends → PutsAllOn (all ++ more) before now ends
PutsAllOn-then all more before between now took ends on one other = record {
  texts = all ++ other.texts;
  puts = then-more all more other.texts ends other.puts;
  told = other.told
      ∙ ap (λ xs. with_all xs (map PutText other.texts)) (one.told ∙ ap (λ ts. with_all before (map PutText ts)) (all-put all one.texts took one.puts on))
      ∙ with_all-more before (map PutText all) (map PutText other.texts) ∙ ap (with_all before) (sym (map-append PutText all other.texts));
}

pub PutsAllOn-stops : (all more : List (List ℕ)) (before now : Option (List LineCall)) (ends : Option Why) → is_some ends ≡ true → PutsAllOn all before now ends → PutsAllOn (all ++ more) before now ends
PutsAllOn-stops all more before now ends some one = record { texts = one.texts; puts = no-more all more one.texts ends one.puts some; told = one.told }

-- where it doesn't end, it ends by no fault
pub none-of : (ends : Option Why) → is_some ends ≡ false → ends ≡ None
none-of None not = refl
none-of (Some why) not = absurd (cc)

pub no-fault-of : (ends : Option Why) → ends ≡ None → ends ≢ Some why.LineFault
no-fault-of ends on = λ faulty. absurd (cc)

-- ---- the lines of entries that are there

texts-append : (xs ys : List (Option EntryValue)) → map entry_line (somes (xs ++ ys)) ≡ map entry_line (somes xs) ++ map entry_line (somes ys)
texts-append xs ys = ap (map entry_line) (filter_map-append (λ entry. entry) xs ys) ∙ map-append entry_line (somes xs) (somes ys)

parts-at : (xs : List (Option EntryValue)) (i : ℕ) → take i xs ++ drop i xs ≡ xs
parts-at xs zero = refl
parts-at [] (suc i) = refl
parts-at (y ∷ xs) (suc i) = ap (λ l. y ∷ l) (parts-at xs i)

pub entries-next : (xs : List (Option EntryValue)) (i : ℕ) (d : Option EntryValue) (before between now : Option (List LineCall)) (ends : Option Why) → i < length xs
    → PutsAllOn (map entry_line (somes (take i xs))) before between None → PutsAllOn (map entry_line (somes (get_or xs i d ∷ []))) between now ends
    → PutsAllOn (map entry_line (somes (take (i + 1) xs))) before now ends
entries-next xs i d before between now ends within was one =
    subst (λ l. PutsAllOn l before now ends) (sym (ap (λ l. map entry_line (somes l)) (take_more xs i d within) ∙ texts-append (take i xs) (get_or xs i d ∷ [])))
    (PutsAllOn-then (map entry_line (somes (take i xs))) (map entry_line (somes (get_or xs i d ∷ []))) before between now None ends refl was one)

pub entries-stop : (xs : List (Option EntryValue)) (i : ℕ) (before now : Option (List LineCall)) (ends : Option Why) → is_some ends ≡ true
    → PutsAllOn (map entry_line (somes (take i xs))) before now ends → PutsAllOn (map entry_line (somes xs)) before now ends
entries-stop xs i before now ends some put =
    subst (λ l. PutsAllOn l before now ends) (sym (texts-append (take i xs) (drop i xs)) ∙ ap (λ l. map entry_line (somes l)) (parts-at xs i))
    (PutsAllOn-stops (map entry_line (somes (take i xs))) (map entry_line (somes (drop i xs))) before now ends some put)
