-- Who has turned which vacancy down is kept as the history goes on.
use Rattle.std.proofs.Common.{append-nil, cond, ◌++◌, [], ◌≡◌, length-append, ◌≤◌, ℕ, Bool, true, false, ◌||◌, ◌&&◌, nat_eq, List, length, Option, None, Some, is_some, is_none, refl, sym, ap, ◌∙◌, subst, arith}
use Rattle.std.proofs.lemmas.Bool.{false≢true}
use Rattle.std.proofs.lemmas.Bool.Decides.{nat_tests}
use Rattle.std.specs.List.{cons_option}
use Rattle.std.specs.Option.{option_or, option_and_then}
use Rattle.desk_model.specs.declared.command.Cmd.{Cmd}
use Rattle.desk_model.specs.declared.command.Cmd.TheVariants as cmd
use Rattle.desk_model.specs.statements.Entry.{EntryValue}
use Rattle.desk_model.specs.histories.History.{History, with_entry}
use Rattle.desk_model.specs.histories.Register.{enrols_any, makes_any, persons, vacancies}
use Rattle.desk_model.specs.offers.Offers.{is_of}
use Rattle.desk_model.specs.offers.Assigned.{is_assigned, assigned}
use Rattle.desk_model.specs.offers.TurnedDown.{turns_down, has_turned_down}
use Rattle.desk_model.specs.laws.Comes.{Comes}
use Rattle.desk_register.specs.Done.{IsDone}
use Rattle.desk_register.specs.Among.{index_among}
use Rattle.desk_register.specs.Vacancies.{turner, turner_index}
use Rattle.desk_register.specs.TurnedDown.{turned_for, turned_vac, AreTurned, TurnsDown}
use Rattle.desk_register.proofs.IndexAmongLemmas.{index-lt, indexes-apart, index-grown}
use Rattle.desk_register.proofs.PersonLemmas.{same_number}
use Rattle.desk_register.proofs.WordLemmas.{and-false}
use Rattle.desk_register.proofs.AgreeLemmas.{said-done}
use Rattle.desk_register.proofs.SaidLemmas.{HasIsAssigned}

-- ---- indexes

-- somebody, or a vacancy, has an index
abbrev pub HasIndex : List ℕ → Option ℕ → Type 0
HasIndex numbers None = Unit
HasIndex numbers (Some p) = is_none (index_among numbers p) ≡ false

-- the index of somebody, who has one, is this person's just where it is them
turner-is : (numbers : List ℕ) (who : Option ℕ) (q j : ℕ) → HasIndex numbers who → index_among numbers q ≡ Some j → is_of j (option_and_then (index_among numbers) who) ≡ is_of q who
turner-is numbers None q j has at = refl
turner-is numbers (Some p) q j has at = go (index_among numbers p) refl has
  where
    go : (index : Option ℕ) → index_among numbers p ≡ index → is_none index ≡ false → is_of j index ≡ nat_eq p q
    go None is has = absurd (false≢true (sym has))
    go (Some i) is has = indexes-apart numbers p q i j is at

-- and who has no index isn't them
turner-other : (numbers : List ℕ) (who : Option ℕ) (q : ℕ) → HasIndex numbers who → index_among numbers q ≡ None → is_of q who ≡ false
turner-other numbers None q has at = refl
turner-other numbers (Some p) q has at = go (nat_eq p q) refl
  where
    go : (here : Bool) → nat_eq p q ≡ here → here ≡ false
    go true here = absurd (false≢true (sym has ∙ ap (λ x. is_none (index_among numbers x)) (same_number p q here) ∙ ap is_none at))
    go false here = refl

-- and it is not behind the last
turner-within : (numbers : List ℕ) (who : Option ℕ) (i : ℕ) → length numbers ≤ i → is_of i (option_and_then (index_among numbers) who) ≡ false
turner-within numbers None i above = refl
turner-within numbers (Some p) i above = go (index_among numbers p) refl
  where
    go : (index : Option ℕ) → index_among numbers p ≡ index → is_of i index ≡ false
    go None is = refl
    go (Some j) is = let low = index-lt numbers p j is in grind (arith, nat_tests, low, above)

-- ---- one person more, or one vacancy, of which nothing is kept yet

persons-grown : (at : ℕ → ℕ → Bool) (numbers : List ℕ) (who : Option ℕ) (q : ℕ) (vacancy : Option ℕ) → ((i j : ℕ) → length numbers ≤ i → at i j ≡ false)
    → turned_for at (index_among (numbers ++ cons_option who []) q) vacancy ≡ turned_for at (index_among numbers q) vacancy
persons-grown at numbers None q vacancy behind = ap (λ ns. turned_for at (index_among ns q) vacancy) (append-nil numbers)
persons-grown at numbers (Some p) q vacancy behind = ap (λ o. turned_for at o vacancy) (index-grown numbers p q) ∙ go (index_among numbers q) (nat_eq q p) vacancy
  where
    go : (index : Option ℕ) (them : Bool) (vacancy : Option ℕ) → turned_for at (option_or index (cond them (Some (length numbers)) None)) vacancy ≡ turned_for at index vacancy
    go (Some i) them vacancy = refl
    go None true None = refl
    go None true (Some j) = behind (length numbers) j (omega arith)
    go None false vacancy = refl

vacancies-grown : (at : ℕ → ℕ → Bool) (numbers : List ℕ) (made : Option ℕ) (v : ℕ) (person : Option ℕ) → ((i j : ℕ) → length numbers ≤ j → at i j ≡ false)
    → turned_for at person (index_among (numbers ++ cons_option made []) v) ≡ turned_for at person (index_among numbers v)
vacancies-grown at numbers made v None beyond = refl
vacancies-grown at numbers None v (Some i) beyond = ap (λ ns. turned_for at (Some i) (index_among ns v)) (append-nil numbers)
vacancies-grown at numbers (Some w) v (Some i) beyond = ap (turned_for at (Some i)) (index-grown numbers w v) ∙ go (index_among numbers v) (nat_eq v w)
  where
    go : (index : Option ℕ) (it : Bool) → turned_for at (Some i) (option_or index (cond it (Some (length numbers)) None)) ≡ turned_for at (Some i) index
    go (Some j) it = refl
    go None true = beyond i (length numbers) (omega arith)
    go None false = refl

within-grown : (numbers ns : List ℕ) (who : Option ℕ) (i : ℕ) → ns ≡ numbers ++ cons_option who [] → length ns ≤ i → length numbers ≤ i
within-grown numbers ns who i is above = omega (arith, ap length is, length-append numbers (cons_option who []), above)

-- ---- a command

some-if : (b : Bool) (q : ℕ) → is_some (cond b (Some q) None) ≡ b
some-if true q = refl
some-if false q = refl

and-turned : (a b : Bool) → (a && b) ≡ (b && a)
and-turned true true = refl
and-turned true false = refl
and-turned false b = sym (and-false b)

-- who turns down what by it is whom it names, and the vacancy that they turn down
turned-said : (h : History) (c : Cmd) (v q : ℕ) → HasIsAssigned h → is_some (turns_down v q h c) ≡ (is_of q (turner c) && is_of v (turned_vac h c))
turned-said h (cmd.Decline vac p) v q has = some-if (nat_eq vac v && nat_eq p q) q ∙ and-turned (nat_eq vac v) (nat_eq p q)
turned-said h (cmd.NoAnswer vac p) v q has = some-if (nat_eq vac v && nat_eq p q) q ∙ and-turned (nat_eq vac v) (nat_eq p q)
turned-said h (cmd.Drop p) v q has = some-if (nat_eq p q && is_assigned h q v) q ∙ go (nat_eq p q) refl
  where
    go : (mine : Bool) → nat_eq p q ≡ mine → (mine && is_assigned h q v) ≡ (mine && is_of v (assigned h p))
    go true mine = has v q ∙ ap (λ x. is_of v (assigned h x)) (sym (same_number p q mine))
    go false mine = refl
turned-said h other v q has = refl

module _
    (h : History) (c : Cmd) (at later : ℕ → ℕ → Bool) (indexed : HasIndex (persons h) (turner c)) (there : HasIndex (vacancies h) (turned_vac h c))
    (turns : TurnsDown (turner_index (persons h) c) (option_and_then (index_among (vacancies h)) (turned_vac h c)) at later) (are : AreTurned at h) where
  turned : (p v : ℕ) (i j : Option ℕ) → index_among (persons h) p ≡ i → index_among (vacancies h) v ≡ j
      → turned_for later i j ≡ (turned_for at i j || (is_of p (turner c) && is_of v (turned_vac h c)))
  turned p v (Some i) (Some j) x y = turns i j ∙ rw (turner-is (persons h) (turner c) p i indexed x, turner-is (vacancies h) (turned_vac h c) v j there y) refl
  turned p v (Some i) None x y = rw (turner-other (vacancies h) (turned_vac h c) v there y) (sym (and-false (is_of p (turner c))))
  turned p v None j x y = rw (turner-other (persons h) (turner c) p indexed x) refl

  behind : (i j : ℕ) → length (persons h) ≤ i → later i j ≡ false
  behind i j above = turns i j ∙ rw (are.behind i j above, turner-within (persons h) (turner c) i above) refl

  beyond : (i j : ℕ) → length (vacancies h) ≤ j → later i j ≡ false
  beyond i j above = turns i j ∙ rw (are.beyond i j above, turner-within (vacancies h) (turned_vac h c) j above) (and-false (is_of i (turner_index (persons h) c)))

-- after a command that was done
pub turned-keeps : (h : History) (e : EntryValue) (c : Cmd) (person vacancy : Option ℕ) (at later : ℕ → ℕ → Bool) → Comes h e → HasIsAssigned h → IsDone e c
    → person ≡ turner_index (persons h) c → vacancy ≡ option_and_then (index_among (vacancies h)) (turned_vac h c)
    → HasIndex (persons h) (turner c) → HasIndex (vacancies h) (turned_vac h c) → TurnsDown person vacancy at later → AreTurned at h → AreTurned later (with_entry h e)
turned-keeps h e c person vacancy at later comes has is person_is vacancy_is indexed there turns_it are =
    let turns : TurnsDown (turner_index (persons h) c) (option_and_then (index_among (vacancies h)) (turned_vac h c)) at later =
    subst (λ x. TurnsDown x (option_and_then (index_among (vacancies h)) (turned_vac h c)) at later) person_is (subst (λ x. TurnsDown person x at later) vacancy_is turns_it) in
    let more_persons : persons (with_entry h e) ≡ persons h ++ cons_option (enrols_any c) [] = comes.persons ∙ ap (λ o. persons h ++ cons_option o []) (said-done enrols_any e c is) in
    let more_vacancies : vacancies (with_entry h e) ≡ vacancies h ++ cons_option (makes_any c) [] = comes.vacancies ∙ ap (λ o. vacancies h ++ cons_option o []) (said-done makes_any e c is) in
    let late = behind h c at later indexed there turns are in
    let last = beyond h c at later indexed there turns are in
    record {
      each = λ p v.
          ap (λ ns. turned_for later (index_among ns p) (index_among (vacancies (with_entry h e)) v)) more_persons
          ∙ persons-grown later (persons h) (enrols_any c) p (index_among (vacancies (with_entry h e)) v) late
          ∙ ap (λ ns. turned_for later (index_among (persons h) p) (index_among ns v)) more_vacancies
          ∙ vacancies-grown later (vacancies h) (makes_any c) v (index_among (persons h) p) last
          ∙ turned h c at later indexed there turns are p v (index_among (persons h) p) (index_among (vacancies h) v) refl refl
          ∙ ap (λ x. x || (is_of p (turner c) && is_of v (turned_vac h c))) (are.each p v)
          ∙ ap (λ x. has_turned_down h v p || x) (sym (turned-said h c v p has))
          ∙ ap (λ x. has_turned_down h v p || is_some x) (sym (said-done (turns_down v p h) e c is)) ∙ sym (comes.turned_down v p);
      behind = λ i j above. late i j (within-grown (persons h) (persons (with_entry h e)) (enrols_any c) i more_persons above);
      beyond = λ i j above. last i j (within-grown (vacancies h) (vacancies (with_entry h e)) (makes_any c) j more_vacancies above);
    }
