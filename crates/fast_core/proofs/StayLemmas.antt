-- What is kept of a history is what another says where both have the same desk.
use Rattle.std.proofs.Common.{◌≡◌, ◌≤◌, ℕ, cond, not, Bool, Option, None, Some, is_none, is_some, List, [], ◌∷◌, length, refl, sym, ap, subst, ◌∙◌}
use Rattle.std.specs.List.{slice_get}
use Rattle.std.specs.Option.{option_map}
use Rattle.duty_events.specs.Lists.{stage_of}
use Rattle.duty_events.specs.MinuteKind.{is_off}
use Rattle.rest_rules.specs.Rest.{rest_end}
use Rattle.person_clock.specs.Clock.{ClockValue, Stands}
use Rattle.pool_board.specs.Board.{BoardValue}
use Rattle.offer_flight.specs.declared.in_flight.InFlight.{InFlight}
use Rattle.offer_flight.specs.Flight.{of_vacancy}
use Rattle.desk_model.specs.declared.board_setup.BoardSetup.{BoardSetup}
use Rattle.desk_model.specs.declared.limits.TheConstants.{PERSON_LIMIT, BOARD_LIMIT}
use Rattle.desk_model.specs.histories.History.{History}
use Rattle.desk_model.specs.histories.Register.{person_of, persons, boards, vacancies}
use Rattle.desk_model.specs.offers.Offers.{open_offer}
use Rattle.desk_model.specs.laws.Refusal.{IsSameDesk}
use Rattle.desk_model.specs.offers.Bars.{may_have, is_free}
use Rattle.desk_model.specs.declared.person.Person.{Person}
use Rattle.desk_model.specs.statements.Job.{JobValue}
use Rattle.desk_register.specs.declared.kept_person.KeptPerson.{KeptPerson}
use Rattle.desk_register.specs.declared.kept_vacancy.KeptVacancy.{KeptVacancy}
use Rattle.desk_register.specs.Among.{index_among, board_index}
use Rattle.desk_register.specs.Persons.{ArePersons}
use Rattle.desk_register.specs.Boards.{AreBoards}
use Rattle.desk_register.specs.Vacancies.{AreVacancies}
use Rattle.desk_register.specs.TurnedDown.{turned_for, AreTurned}
use Rattle.desk_state.specs.declared.named_indexes.TheConstants.{NEVER}
use Rattle.desk_state.specs.Clocks.{AreClocks}
use Rattle.desk_state.specs.OpenOffers.{IsOffer, AreOffers}
use Rattle.desk_state.specs.Holds.{end_for, AreHolds}
use Rattle.desk_state.specs.declared.offers.Offers.{Offers}
use Rattle.desk_state.specs.declared.lists.Lists.{Lists}
use Rattle.desk_state.specs.Keeps.{Keeps as KeepsOffers}
use Rattle.desk_state.specs.Lists.{KeepsLists, Keeps as KeepsBoth}
use Rattle.fast_core.specs.declared.people.People.{People}
use Rattle.fast_core.specs.People.{KeepsPeople}

-- the history of which something is kept, and another that was opened so and has the same desk
module _ (h later : History) (opening : later.opening ≡ h.opening) (same : IsSameDesk h later) where
  -- ---- persons, boards and vacancies

  persons-stay : (under : ℕ → Option KeptPerson) (numbers : List ℕ) → ArePersons under numbers h → ArePersons under numbers later
  persons-stay under numbers was = record {
    each = λ p. record {
      person = (was.each p).person ∙ sym (same.person p);
      quals = (was.each p).quals ∙ sym (same.quals p);
      marked_off = (was.each p).marked_off ∙ sym (same.marked p);
      closed = (was.each p).closed ∙ sym (same.closed p);
      assigned = (was.each p).assigned ∙ sym (same.assigned p);
      on_offer = (was.each p).on_offer ∙ sym (same.on_offer p);
    };
    order = was.order ∙ sym same.persons;
  }

  boards-stay : (under : List ℕ → Option BoardSetup) (codes : List (List ℕ)) → AreBoards under codes h → AreBoards under codes later
  boards-stay under codes was = record { each = λ b. was.each b ∙ sym (same.board b); order = was.order ∙ sym same.boards }

  vacancies-stay : (under : ℕ → Option KeptVacancy) (numbers : List ℕ) → AreVacancies under numbers h → AreVacancies under numbers later
  vacancies-stay under numbers was = record {
    each = λ v. record { job = (was.each v).job ∙ sym (same.vacancy v); state = (was.each v).state ∙ sym (same.state v) };
    order = was.order ∙ sym same.vacancies;
  }

  turned-stays : (at : ℕ → ℕ → Bool) → AreTurned at h → AreTurned at later
  turned-stays at was = record {
    each = λ p v.
        ap (λ ns. turned_for at (index_among ns p) (index_among (vacancies later) v)) same.persons
        ∙ ap (λ ns. turned_for at (index_among (persons h) p) (index_among ns v)) same.vacancies ∙ was.each p v ∙ sym (same.turned_down v p);
    behind = λ i j above. was.behind i j (subst (λ ns. length ns ≤ i) same.persons above);
    beyond = λ i j above. was.beyond i j (subst (λ ns. length ns ≤ j) same.vacancies above);
  }

  -- ---- clocks

  clocks-stay : (clocks : List ClockValue) → AreClocks clocks h → AreClocks clocks later
  clocks-stay clocks was = record {
    each = λ p i at.
        let clock = was.each p i (ap (λ ns. index_among ns p) (sym same.persons) ∙ at) in (
          clock.0,
          (
            clock.1.0,
            record {
              stands = subst (Stands clock.0) (sym (same.events p)) clock.1.1.stands;
              window = clock.1.1.window ∙ ap (λ o. o.window) (sym opening);
              home = ap (option_map (λ x. x.home)) (same.person p) ∙ clock.1.1.home;
            },
          ),
        );
    none = λ p at. same.events p ∙ was.none p (ap (λ ns. index_among ns p) (sym same.persons) ∙ at);
    many = was.many ∙ ap length (sym same.persons);
  }

  pub people-stay : (people : People) → KeepsPeople people h → KeepsPeople people later
  people-stay people was = record {
    register = record {
      persons = persons-stay _ _ was.register.persons;
      boards = boards-stay _ _ was.register.boards;
      vacancies = vacancies-stay _ _ was.register.vacancies;
      turned_down = turned-stays _ was.register.turned_down;
    };
    clocks = clocks-stay _ was.clocks;
    window = was.window ∙ ap (λ o. o.window) (sym opening);
  }

  -- ---- offers and holds

  offers-same : (flight : List InFlight) (minutes : ℕ) → AreOffers flight minutes h → AreOffers flight minutes later
  offers-same flight minutes was = record {
    each = λ v.
        subst (λ bs. IsOffer bs minutes (of_vacancy flight v) (open_offer later v)) (sym same.boards)
        (subst (IsOffer (boards h) minutes (of_vacancy flight v)) (sym (same.offer v)) (was.each v));
    to = λ p. was.to p ∙ sym (same.on_offer p);
    enrolled = λ p has. ap is_some (same.person p) ∙ was.enrolled p has;
  }

  holds-stay : (ends : ℕ → ℕ → ℕ) → AreHolds ends h → AreHolds ends later
  holds-stay ends was = record {
    each = λ p b.
        ap (λ ns. end_for ends (index_among ns p) (board_index (boards later) b)) same.persons
        ∙ ap (λ bs. end_for ends (index_among (persons h) p) (board_index bs b)) same.boards ∙ was.each p b ∙ sym (same.hold_end (b ∷ []) p);
    behind = λ i j above. was.behind i j (subst (λ ns. length ns ≤ i) same.persons above);
    beyond = λ i j above. was.beyond i j (subst (λ bs. length bs ≤ j) same.boards above);
  }

  pub offers-stay : (offers : Offers) → KeepsOffers offers h → KeepsOffers offers later
  offers-stay offers was = record {
    offers = offers-same _ _ was.offers;
    holds = holds-stay _ was.holds;
    answer = was.answer ∙ ap (λ o. o.answer) (sym opening);
    few = record {
      enrolled = subst (λ ns. length ns ≤ PERSON_LIMIT) (sym same.persons) was.few.enrolled;
      set_up = subst (λ bs. length bs ≤ BOARD_LIMIT) (sym same.boards) was.few.set_up;
    };
  }

  -- ---- lists

  board-at : (j : ℕ) (b : List ℕ) → slice_get (boards later) j ≡ Some b → slice_get (boards h) j ≡ Some b
  board-at j b at = ap (λ bs. slice_get bs j) (sym same.boards) ∙ at

  lists-same : (kept : List BoardValue) (listed : ℕ → ℕ → Bool) → KeepsLists kept listed h → KeepsLists kept listed later
  lists-same kept listed was = record {
    many = was.many;
    few_persons = subst (λ ns. length ns ≤ PERSON_LIMIT) (sym same.persons) was.few_persons;
    few_boards = subst (λ bs. length bs ≤ BOARD_LIMIT) (sym same.boards) was.few_boards;
    order = λ j b at. was.order j b (board-at j b at) ∙ sym (same.order b);
    empty = λ j above. was.empty j (subst (λ bs. length bs ≤ j) same.boards above);
    ready = λ j p r is. was.ready j p r is ∙ ap (λ es. cond (not (is_off (stage_of es))) NEVER (rest_end es)) (sym (same.events p));
    setup = λ j b at. same.board b ∙ was.setup j b (board-at j b at);
    on = λ p i j b index at. was.on p i j b (ap (λ ns. index_among ns p) (sym same.persons) ∙ index) (board-at j b at) ∙ sym (same.on p b);
    nobody = λ i j above. was.nobody i j (subst (λ ns. length ns ≤ i) same.persons above);
    nowhere = λ i j above. was.nowhere i j (subst (λ bs. length bs ≤ j) same.boards above);
    apart = λ i j b x y. was.apart i j b (board-at i b x) (board-at j b y);
  }

  pub lists-stay : (lists : Lists) → KeepsBoth lists h → KeepsBoth lists later
  lists-stay lists was = record { lists = lists-same _ _ was.lists; words = was.words }

  -- ---- bars

  pub free-stays : (m : ℕ) (job : JobValue) (p : ℕ) → is_free later m job p ≡ is_free h m job p
  free-stays m job p = ap (may_have later m job p) (same.person p) ∙ go (person_of h p)
    where
      go : (known : Option Person) → may_have later m job p known ≡ may_have h m job p known
      go None = refl
      go (Some person) = ap is_none (same.bar m job p person)
