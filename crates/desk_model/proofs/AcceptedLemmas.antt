-- What each command of persons and boards changes where it is accepted.
use Rattle.std.proofs.Common.{◌≡◌, ℕ, Bool, true, false, cond, ◌||◌, ◌&&◌, nat_eq, Option, None, Some, is_some, is_none, unwrap_or, List, [], ◌∷◌, ◌++◌, nat_le, length, refl, sym, ap, ◌∙◌, append-nil}
use Rattle.std.specs.Option.{option_or}
use Rattle.std.specs.Str.{bytes_eq}
use Rattle.std.specs.List.{cons_option}
use Rattle.std.proofs.lemmas.Bool.{false≢true}
use Rattle.std.proofs.lemmas.Slice.Eq.{bytes_eq-Decides}
use Rattle.desk_model.specs.declared.limits.TheConstants.{PERSON_LIMIT, BOARD_LIMIT}
use Rattle.qualifications.specs.declared.craft.Craft.{Craft}
use Rattle.duty_events.specs.declared.event.Event.{Event}
use Rattle.desk_model.specs.declared.command.Cmd.{Cmd}
use Rattle.desk_model.specs.declared.command.Cmd.TheVariants as cmd
use Rattle.desk_model.specs.declared.reply.Reply.{Reply}
use Rattle.desk_model.specs.declared.reply.Reply.TheVariants as reply
use Rattle.desk_model.specs.declared.person.Person.{Person}
use Rattle.desk_model.specs.declared.board_setup.BoardSetup.{BoardSetup}
use Rattle.desk_model.specs.statements.Statement.{stated_of}
use Rattle.desk_model.specs.statements.Entry.{EntryValue, entry_of}
use Rattle.desk_model.specs.histories.History.{History, with_entry, is_done, said}
use Rattle.desk_model.specs.histories.Register.{person_of, quals_of, board_of, persons, boards}
use Rattle.desk_model.specs.boards.Boards.{is_on, released, order}
use Rattle.desk_model.specs.histories.Duty.{tells, events, is_closed}
use Rattle.desk_model.specs.boards.Marks.{is_marked_off}
use Rattle.desk_model.specs.answers.EnrolAnswer.{enrol_answer}
use Rattle.desk_model.specs.answers.BoardAnswer.{board_answer}
use Rattle.desk_model.specs.laws.Comes.{without, left_by, order_by}
use Rattle.desk_model.specs.laws.Accepted.{Accepted, Enrols, SetsUp, Lists, Unlists, MarksOff, MarksOn, Qualifies, TellsPast, to_bottom, Happens}
use Rattle.desk_model.specs.histories.Legal.{IsNext, IsLegal}
use Rattle.desk_model.proofs.SaidLemmas.{filter_map-snoc}
use Rattle.desk_model.proofs.OrderLemmas.{same_number, nat_eq-same}
use Rattle.desk_model.proofs.LegalLemmas.{legal-with, done-answer}
use Rattle.desk_model.proofs.EventLemmas.{events-all}
use Rattle.desk_model.proofs.ComesLemmas.{comes}
use Rattle.desk_model.proofs.StateStepLemmas.{state-comes}

-- the entry
abbrev pub entry : ℕ → ℕ → Cmd → ℕ → Reply → EntryValue
entry caller minute c moment r = entry_of caller (stated_of minute c) moment r

-- ---- what is said, by a test

pub put : {X : Type 0} (b : Bool) (x y : X) → unwrap_or (cond b (Some x) None) y ≡ cond b x y
put true x y = refl
put false x y = refl

put-both : {X : Type 0} (b c : Bool) (x y : X) → unwrap_or (cond b (cond c (Some x) None) None) y ≡ cond (b && c) x y
put-both true c x y = put c x y
put-both false c x y = refl

pub any : {X : Type 0} (b : Bool) (x : X) → is_some (cond b (Some x) None) ≡ b
any true x = refl
any false x = refl

-- what comes first where nothing was there
pub new : {X : Type 0} (b : Bool) (x : X) (was : Option X) → (b ≡ true → is_none was ≡ true) → option_or was (cond b (Some x) None) ≡ cond b (Some x) was
new true x None none = refl
new true x (Some y) none = absurd (false≢true (none refl))
new false x None none = refl
new false x (Some y) none = refl

-- ---- persons and boards

enrol-new : (h : History) (p q : ℕ) → is_done (enrol_answer h p) ≡ true → nat_eq p q ≡ true → is_none (person_of h q) ≡ true
enrol-new h p q done same = ap (λ n. is_none (person_of h n)) (sym (same_number p q same)) ∙ go (person_of h p) done
  where
    go : (known : Option Person) → is_done (cond (is_some known) reply.Used (cond (nat_le PERSON_LIMIT (length (persons h))) reply.PersonsFull reply.Done)) ≡ true → is_none known ≡ true
    go None done = refl
    go (Some person) done = absurd (false≢true done)

pub enrols : (p : ℕ) (craft : Craft) (home : List ℕ) (able : ℕ) → Accepted (cmd.Enrol p craft home able) (Enrols p craft home able)
enrols p craft home able h caller minute moment legal is =
    let e = entry caller minute (cmd.Enrol p craft home able) moment reply.Done in record {
      person = λ q. (comes h e).person q ∙ new (nat_eq p q) _ (person_of h q) (enrol-new h p q (done-answer h e is refl));
      among = (comes h e).persons;
      quals = λ q. (comes h e).quals q ∙ put (nat_eq p q) able (quals_of h q);
      marked = λ q. (comes h e).marked q ∙ put (nat_eq p q) false (is_marked_off h q);
    }

board-new : (h : History) (b c : List ℕ) → is_done (board_answer h b) ≡ true → bytes_eq b c ≡ true → is_none (board_of h c) ≡ true
board-new h b c done same = ap (λ code. is_none (board_of h code)) (sym ((bytes_eq-Decides b c).0 same)) ∙ go (board_of h b) done
  where
    go : (known : Option BoardSetup) → is_done (cond (is_some known) reply.Used (cond (nat_le BOARD_LIMIT (length (boards h))) reply.BoardsFull reply.Done)) ≡ true → is_none known ≡ true
    go None done = refl
    go (Some setup) done = absurd (false≢true done)

pub sets-up : (b : List ℕ) (extra : Bool) (place : List ℕ) → Accepted (cmd.Board b extra place) (SetsUp b extra place)
sets-up b extra place h caller minute moment legal is =
    let e = entry caller minute (cmd.Board b extra place) moment reply.Done in record {
      board = λ c. (comes h e).board c ∙ new (bytes_eq b c) _ (board_of h c) (board-new h b c (done-answer h e is refl));
      among = (comes h e).boards;
    }

pub lists : (p : ℕ) (b : List ℕ) → Accepted (cmd.List p b) (Lists p b)
lists p b h caller minute moment legal is = record {
  on = λ q c. (comes h e).on q c ∙ put-both (bytes_eq b c) (nat_eq p q) true (is_on h q c);
  closed = λ q. (comes h e).closed q ∙ ap (λ o. is_closed h q || o) (any (nat_eq p q) p);
  bottom = λ c. (comes h e).order c ∙ go c (bytes_eq b c) refl;
}
  where
    e : EntryValue
    e = entry caller minute (cmd.List p b) moment reply.Done

    go : (c : List ℕ) (here : Bool) → bytes_eq b c ≡ here → order_by (entry caller minute (cmd.List p b) moment reply.Done) c (cond here (Some p) None) (order h c)
        ≡ cond here (without p (order h c) ++ p ∷ []) (order h c)
    go c true here = rw (here, nat_eq-same p) refl
    go c false here = refl

pub unlists : (p : ℕ) (b : List ℕ) → Accepted (cmd.Unlist p b) (Unlists p b)
unlists p b h caller minute moment legal is =
    let e = entry caller minute (cmd.Unlist p b) moment reply.Done in record {
      on = λ q c. (comes h e).on q c ∙ put-both (bytes_eq b c) (nat_eq p q) false (is_on h q c);
      closes_up = λ c. (comes h e).order c ∙ go c (bytes_eq b c);
    }
  where
    go : (c : List ℕ) (here : Bool) → left_by (cond here (Some p) None) (order h c) ≡ cond here (without p (order h c)) (order h c)
    go c true = refl
    go c false = refl

pub marks-off : (p : ℕ) → Accepted (cmd.MarkOff p) (MarksOff p)
marks-off p h caller minute moment legal is = record { marked = λ q. (comes h (entry caller minute (cmd.MarkOff p) moment reply.Done)).marked q ∙ put (nat_eq p q) true (is_marked_off h q) }

pub marks-on : (p : ℕ) → Accepted (cmd.MarkOn p) (MarksOn p)
marks-on p h caller minute moment legal is =
    let e = entry caller minute (cmd.MarkOn p) moment reply.Done in record {
      marked = λ q. (comes h e).marked q ∙ put (nat_eq p q) false (is_marked_off h q);
      bottom = (comes h e).order;
    }

pub qualifies : (p able : ℕ) → Accepted (cmd.Qualify p able) (Qualifies p able)
qualifies p able h caller minute moment legal is =
    record { quals = λ q. (comes h (entry caller minute (cmd.Qualify p able) moment reply.Done)).quals q ∙ put (nat_eq p q) able (quals_of h q) }

-- ---- what persons do

told-done : (h : History) (e : EntryValue) (p q : ℕ) (t : Event) → IsLegal h → IsNext h e → said (tells q) e ≡ cond (nat_eq p q) (Some t) None
    → events (with_entry h e) q ≡ cond (nat_eq p q) (events h q ++ t ∷ []) (events h q)
told-done h e p q t legal is told =
    events-all (with_entry h e) q (legal-with h e legal is) ∙ filter_map-snoc (said (tells q)) h.entries e
    ∙ ap (λ front. front ++ cons_option (said (tells q) e) []) (sym (events-all h q legal)) ∙ ap (λ one. events h q ++ cons_option one []) told ∙ go (nat_eq p q)
  where
    go : (mine : Bool) → events h q ++ cons_option (cond mine (Some t) None) [] ≡ cond mine (events h q ++ t ∷ []) (events h q)
    go true = refl
    go false = append-nil (events h q)

pub tells-past : (p : ℕ) (t : Event) → Accepted (cmd.Past p t) (TellsPast p t)
tells-past p t h caller minute moment legal is = record { done = λ q. told-done h (entry caller minute (cmd.Past p t) moment reply.Done) p q t legal is refl }

pub happens : (p : ℕ) (t : Event) → Accepted (cmd.Happened p t) (Happens p t)
happens p t h caller minute moment legal is = record {
  done = λ q. told-done h e p q t legal is refl;
  closed = λ q. (comes h e).closed q ∙ ap (λ o. is_closed h q || o) (any (nat_eq p q) p);
  bottom = λ b. (comes h e).order b ∙ go b (released (board_of h b) p t);
  has = (comes h e).assigned;
  stands = λ v. state-comes h e v legal is;
}
  where
    e : EntryValue
    e = entry caller minute (cmd.Happened p t) moment reply.Done

    go : (b : List ℕ) (sent : Option ℕ) → order_by (entry caller minute (cmd.Happened p t) moment reply.Done) b sent (order h b) ≡ to_bottom sent (order h b)
    go b None = refl
    go b (Some q) = refl
