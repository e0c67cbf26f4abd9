-- What a command rests on that is done, and what an offer rests on.
use Rattle.std.proofs.Common.{◌≡◌, ℕ, ◌<◌, Bool, true, false, cond, ◌&&◌, nat_le, Option, None, Some, is_none, is_some, List, length, refl, sym, ap, ◌∙◌, arith}
use Rattle.std.proofs.lemmas.Bool.{false≢true}
use Rattle.std.proofs.lemmas.Bool.Decides.{nat_tests}
use Rattle.desk_model.specs.declared.limits.TheConstants.{PERSON_LIMIT, BOARD_LIMIT, LIST_LIMIT, MEMBER_LIMIT, VACANCY_LIMIT}
use Rattle.desk_model.specs.declared.command.Cmd.{Cmd}
use Rattle.desk_model.specs.declared.command.Cmd.TheVariants as cmd
use Rattle.desk_model.specs.declared.reply.Reply.{Reply}
use Rattle.desk_model.specs.declared.reply.Reply.TheVariants as reply
use Rattle.desk_model.specs.declared.offer.Offer.{Offer}
use Rattle.desk_model.specs.statements.Job.{JobValue}
use Rattle.desk_model.specs.statements.Entry.{EntryValue}
use Rattle.desk_model.specs.histories.History.{History, is_done}
use Rattle.desk_model.specs.histories.Register.{person_of, board_of, vacancy_of, persons, boards, vacancies}
use Rattle.desk_model.specs.boards.Boards.{is_on, boards_of, order}
use Rattle.desk_model.specs.offers.Assigned.{assigned}
use Rattle.desk_model.specs.answers.EnrolAnswer.{enrol_answer}
use Rattle.desk_model.specs.answers.BoardAnswer.{board_answer}
use Rattle.desk_model.specs.answers.ListAnswer.{list_answer}
use Rattle.desk_model.specs.answers.UnlistAnswer.{unlist_answer}
use Rattle.desk_model.specs.answers.VacancyAnswer.{vacancy_answer}
use Rattle.desk_model.specs.answers.SettleAnswer.{made_answer, settle_answer}
use Rattle.desk_model.specs.answers.GiveUpAnswer.{drop_answer}
use Rattle.desk_model.specs.laws.RestsOn.{MayEnrol, MaySetUp, MayMake, MayList, IsListed, MaySettle, MayDrop, RestsOn}
use Rattle.desk_model.specs.histories.Legal.{answer_to, IsNext}
use Rattle.desk_model.proofs.LegalLemmas.{done-answer}
use Rattle.desk_model.proofs.OpensLemmas.{settle-open}

-- ---- answers in order

-- where it comes to be done, a case that refuses doesn't hold, and the rest is done
past : (case : Bool) (refusal rest : Reply) → is_done refusal ≡ false → is_done (cond case refusal rest) ≡ true → (case ≡ false) × (is_done rest ≡ true)
past true refusal rest refused done = absurd (false≢true (sym refused ∙ done))
past false refusal rest refused done = (refl, done)

-- and one that has to hold does
reached : (case : Bool) (rest refusal : Reply) → is_done refusal ≡ false → is_done (cond case rest refusal) ≡ true → case ≡ true
reached true rest refusal refused done = refl
reached false rest refusal refused done = absurd (false≢true (sym refused ∙ done))

there : {X : Type 0} (o : Option X) → is_none o ≡ false → is_some o ≡ true
there None is = absurd (false≢true (sym is))
there (Some x) is = refl

nothing : {X : Type 0} (o : Option X) → is_some o ≡ false → o ≡ None
nothing None is = refl
nothing (Some x) is = absurd (false≢true (sym is))

room : (most many : ℕ) → nat_le most many ≡ false → many < most
room most many is = grind (arith, nat_tests, is)

-- ---- by the command

enrol-rests : (h : History) (p : ℕ) → is_done (enrol_answer h p) ≡ true → MayEnrol h p
enrol-rests h p done =
    let known = past (is_some (person_of h p)) reply.Used _ refl done in
    let full = past (nat_le PERSON_LIMIT (length (persons h))) reply.PersonsFull _ refl known.1 in
    (nothing (person_of h p) known.0, room PERSON_LIMIT (length (persons h)) full.0)

board-rests : (h : History) (b : List ℕ) → is_done (board_answer h b) ≡ true → MaySetUp h b
board-rests h b done =
    let known = past (is_some (board_of h b)) reply.Used _ refl done in
    let full = past (nat_le BOARD_LIMIT (length (boards h))) reply.BoardsFull _ refl known.1 in
    (nothing (board_of h b) known.0, room BOARD_LIMIT (length (boards h)) full.0)

vacancy-rests : (h : History) (m : ℕ) (job : JobValue) → is_done (vacancy_answer h m job) ≡ true → MayMake h job.vac
vacancy-rests h m job done =
    let ordinary = past (job.relief && _) reply.OtherEdition _ refl done in
    let known = past (is_some (vacancy_of h job.vac)) reply.Used _ refl ordinary.1 in
    let full = past (nat_le VACANCY_LIMIT (length (vacancies h))) reply.VacanciesFull _ refl known.1 in
    (nothing (vacancy_of h job.vac) known.0, room VACANCY_LIMIT (length (vacancies h)) full.0)

list-rests : (h : History) (p : ℕ) (b : List ℕ) → is_done (list_answer h p b) ≡ true → MayList h p b
list-rests h p b done =
    let enrolled = past (is_none (person_of h p)) reply.UnknownPerson _ refl done in
    let board = past (is_none (board_of h b)) (reply.UnknownBoard b) _ refl enrolled.1 in
    let off = past (is_on h p b) reply.Used _ refl board.1 in
    let few = past (nat_le LIST_LIMIT (length (boards_of h p))) reply.ListsFull _ refl off.1 in
    let full = past (nat_le MEMBER_LIMIT (length (order h b))) reply.MembersFull _ refl few.1 in
    record {
      enrolled = there (person_of h p) enrolled.0;
      board = there (board_of h b) board.0;
      off = off.0;
      room = room MEMBER_LIMIT (length (order h b)) full.0;
    }

unlist-rests : (h : History) (p : ℕ) (b : List ℕ) → is_done (unlist_answer h p b) ≡ true → IsListed h p b
unlist-rests h p b done =
    let enrolled = past (is_none (person_of h p)) reply.UnknownPerson _ refl done in
    let board = past (is_none (board_of h b)) (reply.UnknownBoard b) _ refl enrolled.1 in
    record {
      enrolled = there (person_of h p) enrolled.0;
      board = there (board_of h b) board.0;
      on = reached (is_on h p b) _ reply.NotListed refl board.1;
    }

enrolled-rests : (h : History) (p : ℕ) (rest : Reply) → is_done (cond (is_none (person_of h p)) reply.UnknownPerson rest) ≡ true → is_some (person_of h p) ≡ true
enrolled-rests h p rest done = there (person_of h p) (past (is_none (person_of h p)) reply.UnknownPerson rest refl done).0

settle-rests : (h : History) (v p : ℕ) (rest : JobValue → Offer → Reply) → is_done (settle_answer h v p rest) ≡ true → MaySettle h v p
settle-rests h v p rest done = go (vacancy_of h v) refl done
  where
    go : (made : Option JobValue) → vacancy_of h v ≡ made → is_done (made_answer h v p rest made) ≡ true → MaySettle h v p
    go None is known = absurd (false≢true known)
    go (Some job) is known = record {
      made = ap is_some is;
      enrolled = enrolled-rests h p _ known;
      to = settle-open h v p rest done;
    }

drop-rests : (h : History) (p : ℕ) → is_done (drop_answer h p) ≡ true → MayDrop h p
drop-rests h p done =
    let enrolled = past (is_none (person_of h p)) reply.UnknownPerson _ refl done in
    record {
      enrolled = there (person_of h p) enrolled.0;
      has = there (assigned h p) (past (is_none (assigned h p)) reply.NotAssigned _ refl enrolled.1).0;
    }

command-rests : (h : History) (m : ℕ) (c : Cmd) → is_done (answer_to h m c) ≡ true → RestsOn h c
command-rests h m (cmd.Enrol p craft home quals) done = enrol-rests h p done
command-rests h m (cmd.Board b extra place) done = board-rests h b done
command-rests h m (cmd.List p b) done = list-rests h p b done
command-rests h m (cmd.Unlist p b) done = unlist-rests h p b done
command-rests h m (cmd.MarkOff p) done = enrolled-rests h p _ done
command-rests h m (cmd.MarkOn p) done = enrolled-rests h p _ done
command-rests h m (cmd.Qualify p quals) done = enrolled-rests h p _ done
command-rests h m (cmd.Past p e) done = enrolled-rests h p _ done
command-rests h m (cmd.Happened p e) done = enrolled-rests h p _ done
command-rests h m (cmd.Vacancy job) done = vacancy-rests h m job done
command-rests h m (cmd.Accept v p) done = settle-rests h v p _ done
command-rests h m (cmd.Decline v p) done = settle-rests h v p _ done
command-rests h m (cmd.NoAnswer v p) done = settle-rests h v p _ done
command-rests h m (cmd.Withdraw v p) done = settle-rests h v p _ done
command-rests h m (cmd.Annul v) done = there (vacancy_of h v) (past (is_none (vacancy_of h v)) reply.UnknownVacancy _ refl done).0
command-rests h m (cmd.Drop p) done = drop-rests h p done
command-rests h m other done = tt

pub done-rests : (h : History) (e : EntryValue) → IsNext h e → is_done e.reply ≡ true → RestsOn h e.stated.cmd
done-rests h e is done = command-rests h e.moment e.stated.cmd (done-answer h e is done)
