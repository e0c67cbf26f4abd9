-- In a legal history as many persons, boards and vacancies are there as a desk takes, at most.
use Rattle.std.proofs.Common.{◌≡◌, ℕ, ◌<◌, ◌≤◌, Option, None, Some, [], ◌∷◌, ◌++◌, length, refl, sym, subst, arith, length-append}
use Rattle.std.specs.List.{cons_option, filter_map}
use Rattle.desk_model.specs.declared.limits.TheConstants.{PERSON_LIMIT, BOARD_LIMIT, VACANCY_LIMIT}
use Rattle.desk_model.specs.declared.command.Cmd.{Cmd}
use Rattle.desk_model.specs.declared.command.Cmd.TheVariants as cmd
use Rattle.desk_model.specs.statements.Entry.{EntryValue}
use Rattle.desk_model.specs.histories.History.{History, said}
use Rattle.desk_model.specs.histories.Register.{enrols_any, sets_up_any, makes_any, persons, boards, vacancies}
use Rattle.desk_model.specs.laws.RestsOn.{RestsOn}
use Rattle.desk_model.specs.histories.Legal.{IsNext, IsLegal}
use Rattle.desk_model.proofs.SaidLemmas.{filter_map-snoc, said-some}
use Rattle.desk_model.proofs.LegalLemmas.{legal-induction}
use Rattle.desk_model.proofs.RestsOnLemmas.{done-rests}

-- there is room for what a command brings that is done
abbrev HasRoom : {X : Type 0} → (Cmd → Option X) → ℕ → History → Type 0
HasRoom f limit h = (c : Cmd) (x : _) → f c ≡ Some x → RestsOn h c → length (filter_map (said f) h.entries) < limit

counted : {X : Type 0} (f : Cmd → Option X) (limit : ℕ) (h : History) (e : EntryValue) → HasRoom f limit h → IsNext h e
    → length (filter_map (said f) h.entries) ≤ limit → length (filter_map (said f) (h.entries ++ e ∷ [])) ≤ limit
counted f limit h e room is most = subst (λ xs. length xs ≤ limit) (sym (filter_map-snoc (said f) h.entries e)) (go (said f e) refl)
  where
    go : (this : Option _) → said f e ≡ this → length (filter_map (said f) h.entries ++ cons_option this []) ≤ limit
    go None told = omega (arith, most, length-append (filter_map (said f) h.entries) [])
    go (Some x) told =
        let parts = said-some f e x told in
        omega (arith, room e.stated.cmd x parts.1 (done-rests h e is parts.0), length-append (filter_map (said f) h.entries) (x ∷ []))

enrol-room : (h : History) → HasRoom enrols_any PERSON_LIMIT h
enrol-room h (cmd.Enrol person craft home quals) p named rests = rests.1
enrol-room h other p named rests = cc

board-room : (h : History) → HasRoom sets_up_any BOARD_LIMIT h
board-room h (cmd.Board board extra place) b named rests = rests.1
board-room h other b named rests = cc

vacancy-room : (h : History) → HasRoom makes_any VACANCY_LIMIT h
vacancy-room h (cmd.Vacancy job) v named rests = rests.1
vacancy-room h other v named rests = cc

pub persons-few : (h : History) → IsLegal h → length (persons h) ≤ PERSON_LIMIT
persons-few h legal =
    legal-induction (λ past. length (persons past) ≤ PERSON_LIMIT) (λ o valid. omega arith)
    (λ past e fine is most. counted enrols_any PERSON_LIMIT past e (enrol-room past) is most) h legal

pub boards-few : (h : History) → IsLegal h → length (boards h) ≤ BOARD_LIMIT
boards-few h legal =
    legal-induction (λ past. length (boards past) ≤ BOARD_LIMIT) (λ o valid. omega arith)
    (λ past e fine is most. counted sets_up_any BOARD_LIMIT past e (board-room past) is most) h legal

pub vacancies-few : (h : History) → IsLegal h → length (vacancies h) ≤ VACANCY_LIMIT
vacancies-few h legal =
    legal-induction (λ past. length (vacancies past) ≤ VACANCY_LIMIT) (λ o valid. omega arith)
    (λ past e fine is most. counted makes_any VACANCY_LIMIT past e (vacancy-room past) is most) h legal
