-- A vacancy that was made is among the vacancies.
use Rattle.std.proofs.Common.{◌≡◌, ℕ, Bool, true, false, cond, ◌||◌, nat_eq, Option, None, Some, List, [], ◌∷◌, refl, ap, ◌∙◌}
use Rattle.std.specs.Option.{option_or}
use Rattle.std.specs.List.{list_any, cons_option, filter_map}
use Rattle.std.proofs.lemmas.List.Folds.{list_any-append}
use Rattle.desk_model.specs.declared.command.Cmd.{Cmd}
use Rattle.desk_model.specs.declared.command.Cmd.TheVariants as cmd
use Rattle.desk_model.specs.statements.Entry.{EntryValue}
use Rattle.desk_model.specs.statements.Job.{JobValue}
use Rattle.desk_model.specs.histories.History.{History, with_entry, said, first_of}
use Rattle.desk_model.specs.histories.Register.{makes, makes_any, vacancy_of, vacancies}
use Rattle.desk_model.proofs.SaidLemmas.{filter_map-snoc, said-some}
use Rattle.desk_model.proofs.OrderLemmas.{same_number, nat_eq-same}

makes-makes_any : (v : ℕ) (c : Cmd) (job : JobValue) → makes v c ≡ Some job → makes_any c ≡ Some v
makes-makes_any v (cmd.Vacancy other) job made = go (nat_eq other.vac v) refl made
  where
    go : (same : Bool) → nat_eq other.vac v ≡ same → cond same (Some other) None ≡ Some job → Some other.vac ≡ Some v
    go true is made = ap Some (same_number other.vac v is)
    go false is made = cc
makes-makes_any v other job made = cc

said-makes_any : (v : ℕ) (e : EntryValue) (job : JobValue) → said (makes v) e ≡ Some job → said makes_any e ≡ Some v
said-makes_any v e job made =
    let parts = said-some (makes v) e job made in
    ap (λ done. cond done (makes_any e.stated.cmd) None) parts.0 ∙ makes-makes_any v e.stated.cmd job parts.1

any-more : (v : ℕ) (one : Option ℕ) (rest : List ℕ) → list_any (nat_eq v) rest ≡ true → list_any (nat_eq v) (cons_option one rest) ≡ true
any-more v None rest any = any
any-more v (Some w) rest any = rw any (go (nat_eq v w))
  where
    go : (same : Bool) → (same || true) ≡ true
    go true = refl
    go false = refl

made-among_entries : (es : List EntryValue) (v : ℕ) (job : JobValue) → first_of (said (makes v)) es ≡ Some job → list_any (nat_eq v) (filter_map (said makes_any) es) ≡ true
made-among_entries [] v job made = cc
made-among_entries (e ∷ later) v job made = go (said (makes v) e) refl made (made-among_entries later v job)
  where
    go : (this : Option JobValue) → said (makes v) e ≡ this → option_or this (first_of (said (makes v)) later) ≡ Some job
        → (first_of (said (makes v)) later ≡ Some job → list_any (nat_eq v) (filter_map (said makes_any) later) ≡ true)
        → list_any (nat_eq v) (cons_option (said makes_any e) (filter_map (said makes_any) later)) ≡ true
    go None is made rest = any-more v (said makes_any e) (filter_map (said makes_any) later) (rest made)
    go (Some other) is made rest = rw (said-makes_any v e other is, nat_eq-same v) refl

pub made-among : (h : History) (v : ℕ) (job : JobValue) → vacancy_of h v ≡ Some job → list_any (nat_eq v) (vacancies h) ≡ true
made-among h v job made = made-among_entries h.entries v job made

pub still-among : (h : History) (e : EntryValue) (v : ℕ) → list_any (nat_eq v) (vacancies h) ≡ true → list_any (nat_eq v) (vacancies (with_entry h e)) ≡ true
still-among h e v any =
    ap (list_any (nat_eq v)) (filter_map-snoc (said makes_any) h.entries e)
    ∙ list_any-append (nat_eq v) (vacancies h) (cons_option (said makes_any e) [])
    ∙ ap (λ b. b || list_any (nat_eq v) (cons_option (said makes_any e) [])) any
