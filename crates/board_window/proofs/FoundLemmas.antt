-- Elements that a search finds, and a board among all that were set up.
use Rattle.std.proofs.Common.{◌≡◌, ℕ, zero, suc, Bool, true, false, cond, Option, None, Some, List, [], ◌∷◌, refl, sym, ap, ◌∙◌}
use Rattle.std.proofs.lemmas.Slice.Eq.{bytes_eq-Decides}
use Rattle.std.specs.Str.{bytes_eq}
use Rattle.std.specs.Option.{option_or}
use Rattle.std.specs.List.{slice_get, find, cons_option, filter_map}
use Rattle.desk_model.specs.declared.board_setup.BoardSetup.{BoardSetup}
use Rattle.desk_model.specs.declared.command.Cmd.{Cmd}
use Rattle.desk_model.specs.declared.command.Cmd.TheVariants as cmd
use Rattle.desk_model.specs.statements.Entry.{EntryValue}
use Rattle.desk_model.specs.histories.History.{History, said, first_of}
use Rattle.desk_model.specs.histories.Register.{sets_up, sets_up_any, board_of, boards}
use Rattle.desk_model.proofs.SaidLemmas.{said-some}

pub find-none : {X : Type 0} (test : X → Bool) (xs : List X) (j : ℕ) (x : X) → find test xs ≡ None → slice_get xs j ≡ Some x → test x ≡ false
find-none test [] j x none at = cc
find-none test (y ∷ ys) j x none at = go j (test y) refl (λ k. find-none test ys k x) none at
  where
    go : (k : ℕ) (passes : Bool) → test y ≡ passes → ((i : ℕ) → find test ys ≡ None → slice_get ys i ≡ Some x → test x ≡ false)
        → cond passes (Some y) (find test ys) ≡ None → slice_get (y ∷ ys) k ≡ Some x → test x ≡ false
    go k true is rest none at = cc
    go zero false is rest none at = let same : y ≡ x = cc in ap test (sym same) ∙ is
    go (suc k) false is rest none at = rest k none at

-- ---- a board that was set up

-- an element with maybe one before it
later-at : {X : Type 0} (one : Option X) (xs : List X) (x : X) → (j : ℕ) × (slice_get xs j ≡ Some x) → (j : ℕ) × (slice_get (cons_option one xs) j ≡ Some x)
later-at None xs x at = at
later-at (Some y) xs x at = (suc at.0, at.1)

set_up-any : (b : List ℕ) (c : Cmd) (setup : BoardSetup) → sets_up b c ≡ Some setup → sets_up_any c ≡ Some b
set_up-any b (cmd.Board board extra place) setup is = go (bytes_eq board b) refl is
  where
    go : (same : Bool) → bytes_eq board b ≡ same → cond same (Some (record { extra = extra; place = place })) None ≡ Some setup → Some board ≡ Some b
    go true same is = ap Some ((bytes_eq-Decides board b).0 same)
    go false same is = cc
set_up-any b other setup is = cc

said-set_up-any : (b : List ℕ) (e : EntryValue) (setup : BoardSetup) → said (sets_up b) e ≡ Some setup → said sets_up_any e ≡ Some b
said-set_up-any b e setup is =
    let parts = said-some (sets_up b) e setup is in
    ap (λ done. cond done (sets_up_any e.stated.cmd) None) parts.0 ∙ set_up-any b e.stated.cmd setup parts.1

among-entries : (es : List EntryValue) (b : List ℕ) (setup : BoardSetup) → first_of (said (sets_up b)) es ≡ Some setup → (j : ℕ) × (slice_get (filter_map (said sets_up_any) es) j ≡ Some b)
among-entries [] b setup is = cc
among-entries (e ∷ later) b setup is = go (said (sets_up b) e) refl (among-entries later b setup) is
  where
    go : (this : Option BoardSetup) → said (sets_up b) e ≡ this
        → (first_of (said (sets_up b)) later ≡ Some setup → (j : ℕ) × (slice_get (filter_map (said sets_up_any) later) j ≡ Some b))
        → option_or this (first_of (said (sets_up b)) later) ≡ Some setup → (j : ℕ) × (slice_get (filter_map (said sets_up_any) (e ∷ later)) j ≡ Some b)
    go None this rest is = later-at (said sets_up_any e) (filter_map (said sets_up_any) later) b (rest is)
    go (Some here) this rest is = (zero, ap (λ one. slice_get (cons_option one (filter_map (said sets_up_any) later)) zero) (said-set_up-any b e here this))

pub board-among : (h : History) (b : List ℕ) (setup : BoardSetup) → board_of h b ≡ Some setup → (j : ℕ) × (slice_get (boards h) j ≡ Some b)
board-among h b setup is = among-entries h.entries b setup is
