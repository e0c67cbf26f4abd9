-- The register keeps on what a history says.
use Rattle.std.proofs.Common.{◌≡◌, ℕ, Bool, true, false, List, [], Option, None, Some, is_some, is_none, refl, sym, ap, ◌∙◌}
use Rattle.std.proofs.lemmas.Bool.{false≢true}
use Rattle.std.specs.Option.{option_and_then}
use Rattle.desk_model.specs.declared.command.Cmd.{Cmd}
use Rattle.desk_model.specs.declared.board_setup.BoardSetup.{BoardSetup}
use Rattle.desk_model.specs.statements.Opening.{OpeningValue}
use Rattle.desk_model.specs.statements.Entry.{EntryValue}
use Rattle.desk_model.specs.histories.History.{History, opened, steps}
use Rattle.desk_model.specs.histories.Register.{person_of, persons, vacancies}
use Rattle.desk_model.specs.offers.Offers.{is_of}
use Rattle.desk_model.specs.histories.Legal.{IsNext}
use Rattle.desk_register.specs.Done.{IsDone}
use Rattle.desk_register.specs.Persons.{ArePersons}
use Rattle.desk_register.specs.Boards.{AreBoards}
use Rattle.desk_register.specs.Among.{index_among}
use Rattle.desk_register.specs.Vacancies.{target, turner, turner_index, had_by, AreVacancies}
use Rattle.desk_register.specs.TurnedDown.{turned_vac, AreTurned}
use Rattle.desk_register.specs.declared.kept_person.KeptPerson.{KeptPerson}
use Rattle.desk_register.specs.declared.kept_vacancy.KeptVacancy.{KeptVacancy}
use Rattle.desk_register.proofs.ChangeLemmas.{OfNumber}
use Rattle.desk_register.proofs.AnswerLemmas.{turner-known, done-answer}
use Rattle.desk_register.proofs.PersonLemmas.{same}
use Rattle.desk_register.proofs.RosterLemmas.{TakenIsAssigned, unknown-is}
use Rattle.desk_register.proofs.KeepLemmas.{target-made}
use Rattle.desk_register.proofs.TurnedLemmas.{HasIndex}

-- who turns a vacancy down by a command that is done has an index
pub turner-indexed : (h : History) (e : EntryValue) (c : Cmd) (under : ℕ → Option KeptPerson) (numbers : List ℕ) (index : Option ℕ) → IsNext h e → IsDone e c
    → ArePersons under numbers h → index ≡ turner_index (persons h) c → ((p : ℕ) → turner c ≡ Some p → is_none index ≡ is_none (under p)) → HasIndex (persons h) (turner c)
turner-indexed h e c under numbers index next is are index_is found = go (turner c) refl (turner-known h e.moment c (done-answer h e c next is))
  where
    go : (who : Option ℕ) → turner c ≡ who → OfNumber (λ p. is_none (person_of h p) ≡ false) who → HasIndex (persons h) who
    go None is known = tt
    go (Some p) is known = ap is_none (sym (index_is ∙ ap (option_and_then (index_among (persons h))) is)) ∙ found p is ∙ unknown-is (under p) h p (are.each p) ∙ known

-- the vacancy that is turned down is the one whose state is changed
turned-target : (h : History) (c : Cmd) (v : ℕ) → turned_vac h c ≡ Some v → is_of v (target c (had_by h c)) ≡ true
turned-target h c v is = go (turner c) is
  where
    go : (who : Option ℕ) → option_and_then (λ p. target c (had_by h c)) who ≡ Some v → is_of v (target c (had_by h c)) ≡ true
    go None is = absurd (false≢true (ap is_some is))
    go (Some p) is = ap (is_of v) is ∙ same v

-- and one that is turned down by a command that is done has an index
pub turned-indexed : (h : History) (e : EntryValue) (c : Cmd) (under : ℕ → Option KeptVacancy) (numbers : List ℕ) (index : Option ℕ) → TakenIsAssigned h → IsNext h e → IsDone e c
    → AreVacancies under numbers h → index ≡ option_and_then (index_among (vacancies h)) (turned_vac h c)
    → ((v : ℕ) → turned_vac h c ≡ Some v → is_none index ≡ is_none (under v)) → HasIndex (vacancies h) (turned_vac h c)
turned-indexed h e c under numbers index law next is are index_is found = go (turned_vac h c) refl
  where
    go : (vac : Option ℕ) → turned_vac h c ≡ vac → HasIndex (vacancies h) vac
    go None is_it = tt
    go (Some v) is_it =
        ap is_none (sym (index_is ∙ ap (option_and_then (index_among (vacancies h))) is_it)) ∙ found v is_it
        ∙ target-made h e.moment c v (under v) law (are.each v) (done-answer h e c next is) (turned-target h c v is_it)

-- where nothing has happened yet nothing is kept
pub persons-none : (o : OpeningValue) (under : ℕ → Option KeptPerson) (numbers : List ℕ) → ((p : ℕ) → under p ≡ None) → numbers ≡ [] → ArePersons under numbers (opened o)
persons-none o under numbers none empty = record {
  each = λ p. rw (none p) record { person = refl; quals = refl; marked_off = refl; closed = refl; assigned = refl; on_offer = refl };
  order = empty;
}

pub boards-none : (o : OpeningValue) (under : List ℕ → Option BoardSetup) (codes : List (List ℕ)) → ((b : List ℕ) → under b ≡ None) → codes ≡ [] → AreBoards under codes (opened o)
boards-none o under codes none empty = record { each = none; order = empty }

pub vacancies-none : (o : OpeningValue) (under : ℕ → Option KeptVacancy) (numbers : List ℕ) → ((v : ℕ) → under v ≡ None) → numbers ≡ [] → AreVacancies under numbers (opened o)
unfolding steps
vacancies-none o under numbers none empty = record {
  each = λ v. rw (none v) record { job = refl; state = refl };
  order = empty;
}

pub turned-none : (o : OpeningValue) (at : ℕ → ℕ → Bool) → ((i j : ℕ) → at i j ≡ false) → AreTurned at (opened o)
unfolding steps
turned-none o at none = record {
  each = λ p v. refl;
  behind = λ i j above. none i j;
  beyond = λ i j above. none i j;
}
