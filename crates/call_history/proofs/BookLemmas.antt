-- What a desk stands for, as it answers.
use Rattle.std.proofs.Common.{◌≡◌, ℕ, ◌+◌, Some, List, [], ◌∷◌, ◌++◌, take, sym, ap, subst, ◌∙◌}
use Rattle.std.specs.List.{slice_get}
use Rattle.std.proofs.Math.Logic.{∥∥₁_elim}
use Rattle.std.proofs.lemmas.List.{take_more}
use Rattle.std.proofs.lemmas.Option.{slice_get_within, slice_get-get_or, same_Some}
use Rattle.desk_model.specs.statements.Entry.{EntryValue}
use Rattle.desk_model.specs.histories.History.{History, history_of, with_entry}
use Rattle.desk_model.specs.histories.Legal.{next, history_from}
use Rattle.desk_model.specs.statements.Opening.{OpeningValue}
use Rattle.desk_model.specs.statements.Statement.{StatedValue}

-- it stands for one entry more
pub stands-next : (Old New : History → Type 0) (h : History) (o : OpeningValue) (e : EntryValue) → ∥ Old h ∥₁ → ((i : History) → Old i → New (with_entry i e)) → h.opening ≡ o
    → ∥ New (history_of o (with_entry h e).entries) ∥₁
stands-next Old New h o e old step opening =
    subst (λ p. ∥ New (history_of p (with_entry h e).entries) ∥₁) opening (∥∥₁_elim old squash₁ (λ stands. ∣ step h stands ∣₁))

-- ---- commands one after another

take-there : {X : Type 0} (xs : List X) (index : ℕ) (x : X) → slice_get xs index ≡ Some x → take (index + 1) xs ≡ take index xs ++ x ∷ []
take-there xs index x there =
    let within = slice_get_within xs index x there in
    take_more xs index x within ∙ ap (λ y. take index xs ++ y ∷ []) (same_Some _ x (sym (slice_get-get_or xs index x within) ∙ there))

-- a history that went on with the first commands goes on with the next one
pub goes-on : ((h : History) (commands : List (ℕ × StatedValue)) (caller : ℕ) (s : StatedValue)
    → history_from h (commands ++ (caller, s) ∷ []) ≡ with_entry (history_from h commands) (next (history_from h commands) caller s))
    → (h was later : History) (commands : List (ℕ × StatedValue)) (index caller : ℕ) (s : StatedValue) (e : EntryValue) → slice_get commands index ≡ Some (caller, s)
    → was ≡ history_from h (take index commands) → e ≡ next was caller s → later ≡ with_entry was e → later ≡ history_from h (take (index + 1) commands)
goes-on law h was later commands index caller s e there so answer kept =
    kept ∙ ap (with_entry was) answer ∙ ap (λ x. with_entry x (next x caller s)) so ∙ sym (law h (take index commands) caller s)
    ∙ ap (history_from h) (sym (take-there commands index (caller, s) there))
