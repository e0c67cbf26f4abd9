-- What is kept where one entry more is read.
use Rattle.std.proofs.Common.{◌≡◌, ℕ, Bool, true, false, cond, ◌&&◌, nat_eq, Option, None, Some, List, [], ◌++◌, fold, refl, sym, ap, ◌∙◌, append-nil}
use Rattle.std.specs.Option.{option_map, option_or}
use Rattle.std.specs.List.{cons_option, filter_map}
use Rattle.std.proofs.lemmas.List.Sums.{fold_push}
use Rattle.duty_events.specs.declared.event.Event.{Event}
use Rattle.desk_model.specs.declared.command.Cmd.{Cmd}
use Rattle.desk_model.specs.declared.command.Cmd.TheVariants as cmd
use Rattle.desk_model.specs.statements.Job.{JobValue}
use Rattle.desk_model.specs.statements.Opening.{OpeningValue}
use Rattle.desk_model.specs.statements.Entry.{EntryValue}
use Rattle.desk_model.specs.histories.History.{History, opened, with_entry, step_of, steps, is_done, said}
use Rattle.desk_model.specs.histories.Register.{makes, vacancy_of}
use Rattle.desk_model.specs.offers.Assigned.{assigned}
use Rattle.desk_model.specs.offers.Assigned as duty
use Rattle.desk_model.specs.laws.Comes.{Comes, assigned_by, assigned_after}
use Rattle.desk_model.proofs.SaidLemmas.{or_none, steps-snoc, filter_map-snoc}
use Rattle.duty_record.specs.declared.assignments.Acceptance.{Acceptance}
use Rattle.duty_record.specs.declared.assignments.Assignments.{Assignments}
use Rattle.duty_record.specs.declared.tour_book.TourBook.{TourBook}
use Rattle.duty_record.specs.declared.relief_marks.ReliefMarks.{ReliefMarks}
use Rattle.duty_record.specs.declared.duty_records.DutyRecords.{DutyRecords}
use Rattle.duty_record.specs.Deeds.{Deed, deed_of, deed_told, deed_by, keep, deeds}
use Rattle.duty_record.specs.Kept.{AreTours, AreHeld, AreAssigned, AreMarks, Keeps}
use Rattle.duty_record.proofs.BookLemmas.{tours-same}
use Rattle.duty_record.proofs.AssignmentLemmas.{same_number}

-- ---- what the entry tells

abbrev pub kept_with : List Deed → Option Deed → List Deed
kept_with ds None = ds
kept_with ds (Some r) = keep ds r

pub deeds-push : (h : History) (e : EntryValue) (p : ℕ) → deeds (with_entry h e) p ≡ kept_with (deeds h p) (said (deed_told p h) e)
unfolding deeds
deeds-push h e p = ap (fold keep []) (ap (filter_map (deed_by p)) (steps-snoc h e) ∙ filter_map-snoc (deed_by p) (steps h) (step_of h e)) ∙ go (said (deed_told p h) e)
  where
    so_far : List Deed
    so_far = filter_map (deed_by p) (steps h)

    go : (this : Option Deed) → fold keep [] (so_far ++ cons_option this []) ≡ kept_with (fold keep [] so_far) this
    go None = ap (fold keep []) (append-nil so_far)
    go (Some r) = fold_push keep [] so_far r

-- ---- the same of everybody

same-held : (times : ℕ → ℕ) (under : ℕ → Option Acceptance) (one other : ℕ → Option ℕ) → ((p : ℕ) → one p ≡ other p) → AreHeld times under one → AreHeld times under other
same-held times under one other is are = record {
  each = λ p. are.each p ∙ is p;
  behind = are.behind;
}

same-marks : (m : ReliefMarks) (one other : ℕ → Option JobValue) → ((v : ℕ) → one v ≡ other v) → AreMarks m one → AreMarks m other
same-marks m one other is are = λ v. are v ∙ ap (option_map (λ job. job.relief)) (is v)

-- ---- a command that was accepted

said-is : {X : Type 0} (f : Cmd → Option X) (e : EntryValue) (c : Cmd) → is_done e.reply ≡ true → e.stated.cmd ≡ c → said f e ≡ f c
said-is f e c done is = rw (done, is) refl

after-is : (p : ℕ) (e : EntryValue) (c : Cmd) (was : Option ℕ) → is_done e.reply ≡ true → e.stated.cmd ≡ c → assigned_after p e was ≡ assigned_by p c was
after-is p e c was done is = rw (done, is) refl

-- what is kept then is what the command says
pub record Follows (r : DutyRecords) (h : History) (c : Cmd) : Type 0 where
  pub tours : AreTours r.book (λ p. kept_with (deeds h p) (deed_told p h c))
  pub has : AreAssigned r.assignments (λ p. assigned_by p c (assigned h p))
  pub relief : AreMarks r.relief (λ v. option_or (vacancy_of h v) (makes v c))

pub keeps-done : (r : DutyRecords) (h : History) (e : EntryValue) (c : Cmd) → is_done e.reply ≡ true → e.stated.cmd ≡ c → Comes h e → Follows r h c → Keeps r (with_entry h e)
keeps-done r h e c done is comes follows = record {
  tours = tours-same r.book _ (deeds (with_entry h e)) (λ p. ap (kept_with (deeds h p)) (sym (said-is (deed_told p h) e c done is)) ∙ sym (deeds-push h e p)) follows.tours;
  assigned = same-held _ _ _ (assigned (with_entry h e)) (λ p. sym (after-is p e c (assigned h p) done is) ∙ sym (comes.assigned p)) follows.has;
  relief = same-marks r.relief _ (vacancy_of (with_entry h e)) (λ v. ap (option_or (vacancy_of h v)) (sym (said-is (makes v) e c done is)) ∙ sym (comes.vacancy v)) follows.relief;
}

-- ---- one that was not

said-none : {X : Type 0} (f : Cmd → Option X) (e : EntryValue) → is_done e.reply ≡ false → said f e ≡ None
said-none f e refused = rw refused refl

pub keeps-refused : (r : DutyRecords) (h : History) (e : EntryValue) → is_done e.reply ≡ false → Comes h e → Keeps r h → Keeps r (with_entry h e)
keeps-refused r h e refused comes keeps = record {
  tours = tours-same r.book (deeds h) (deeds (with_entry h e)) (λ p. ap (kept_with (deeds h p)) (sym (said-none (deed_told p h) e refused)) ∙ sym (deeds-push h e p)) keeps.tours;
  assigned = same-held _ _ (assigned h) (assigned (with_entry h e)) (λ p. sym (comes.assigned p ∙ after p)) keeps.assigned;
  relief = same-marks r.relief (vacancy_of h) (vacancy_of (with_entry h e))
      (λ v. sym (or_none (vacancy_of h v)) ∙ ap (option_or (vacancy_of h v)) (sym (said-none (makes v) e refused)) ∙ sym (comes.vacancy v)) keeps.relief;
}
  where
    after : (p : ℕ) → assigned_after p e (assigned h p) ≡ assigned h p
    after p = rw refused refl

-- ---- one that tells something

-- of this person, and of nobody else
told-is : (h : History) (person : ℕ) (e : Event) (v : Option ℕ) (p : ℕ) (here : Bool) → cond here (keep (deeds h p) (deed_of e v)) (deeds h p) ≡ kept_with (deeds h p) (cond here (Some (deed_of e v)) None)
told-is h person e v p true = refl
told-is h person e v p false = refl

pub tours-past : (book : TourBook) (h : History) (person : ℕ) (e : Event) → AreTours book (λ p. cond (nat_eq person p) (keep (deeds h p) (deed_of e None)) (deeds h p))
    → AreTours book (λ p. kept_with (deeds h p) (deed_told p h (cmd.Past person e)))
tours-past book h person e are = tours-same book _ _ (λ p. told-is h person e None p (nat_eq person p)) are

pub tours-event : (book : TourBook) (h : History) (person : ℕ) (e : Event) (v : Option ℕ) → v ≡ assigned h person
    → AreTours book (λ p. cond (nat_eq person p) (keep (deeds h p) (deed_of e v)) (deeds h p))
    → AreTours book (λ p. kept_with (deeds h p) (deed_told p h (cmd.Happened person e)))
tours-event book h person e v has are = tours-same book _ _ (λ p. go p (nat_eq person p) refl) are
  where
    go : (p : ℕ) (here : Bool) → nat_eq person p ≡ here
        → cond here (keep (deeds h p) (deed_of e v)) (deeds h p) ≡ kept_with (deeds h p) (cond here (Some (deed_of e (assigned h p))) None)
    go p true here = ap (λ w. keep (deeds h p) (deed_of e w)) (has ∙ ap (assigned h) (same_number person p here))
    go p false here = refl

-- ---- nothing was read yet

deeds-none : (o : OpeningValue) (p : ℕ) → [] ≡ deeds (opened o) p
unfolding deeds steps
deeds-none o p = refl

pub keeps-none : (o : OpeningValue) (r : DutyRecords) → AreTours r.book (λ p. []) → AreAssigned r.assignments (λ p. None) → AreMarks r.relief (λ v. None) → Keeps r (opened o)
keeps-none o r tours has relief = record {
  tours = tours-same r.book (λ p. []) (deeds (opened o)) (deeds-none o) tours;
  assigned = has;
  relief = relief;
}

-- ---- by each command

relief-same : (r : DutyRecords) (h : History) → Keeps r h → AreMarks r.relief (λ v. option_or (vacancy_of h v) None)
relief-same r h keeps = same-marks r.relief (vacancy_of h) _ (λ v. sym (or_none (vacancy_of h v))) keeps.relief

pub follows-past : (r : DutyRecords) (h : History) (person : ℕ) (e : Event) (book : TourBook) → Keeps r h
    → AreTours book (λ p. cond (nat_eq person p) (keep (deeds h p) (deed_of e None)) (deeds h p))
    → Follows (record r { book = book }) h (cmd.Past person e)
follows-past r h person e book keeps are = record {
  tours = tours-past book h person e are;
  has = keeps.assigned;
  relief = relief-same r h keeps;
}

has-begun : (here rep : Bool) (was : Option ℕ) → rep ≡ true → cond here None was ≡ cond (here && rep) None was
has-begun true rep was is = rw is refl
has-begun false rep was is = refl

has-other : (here rep : Bool) (was : Option ℕ) → rep ≡ false → was ≡ cond (here && rep) None was
has-other true rep was is = rw is refl
has-other false rep was is = refl

pub follows-report : (r : DutyRecords) (h : History) (person : ℕ) (e : Event) (v : Option ℕ) (book : TourBook) (a : Assignments) → duty.reports e ≡ true → v ≡ assigned h person → Keeps r h
    → AreTours book (λ p. cond (nat_eq person p) (keep (deeds h p) (deed_of e v)) (deeds h p))
    → AreAssigned a (λ p. assigned_by p (cmd.Drop person) (assigned h p))
    → Follows (record r { book = book; assignments = a }) h (cmd.Happened person e)
follows-report r h person e v book a is has keeps are held = record {
  tours = tours-event book h person e v has are;
  has = same-held _ _ _ _ (λ p. has-begun (nat_eq person p) (duty.reports e) (assigned h p) is) held;
  relief = relief-same r h keeps;
}

pub follows-event : (r : DutyRecords) (h : History) (person : ℕ) (e : Event) (v : Option ℕ) (book : TourBook) → duty.reports e ≡ false → v ≡ assigned h person → Keeps r h
    → AreTours book (λ p. cond (nat_eq person p) (keep (deeds h p) (deed_of e v)) (deeds h p))
    → Follows (record r { book = book }) h (cmd.Happened person e)
follows-event r h person e v book is has keeps are = record {
  tours = tours-event book h person e v has are;
  has = same-held _ _ (assigned h) _ (λ p. has-other (nat_eq person p) (duty.reports e) (assigned h p) is) keeps.assigned;
  relief = relief-same r h keeps;
}

pub follows-accept : (r : DutyRecords) (h : History) (vac person : ℕ) (a : Assignments) → Keeps r h → AreAssigned a (λ p. assigned_by p (cmd.Accept vac person) (assigned h p))
    → Follows (record r { assignments = a }) h (cmd.Accept vac person)
follows-accept r h vac person a keeps held = record { tours = keeps.tours; has = held; relief = relief-same r h keeps }

pub follows-drop : (r : DutyRecords) (h : History) (person : ℕ) (a : Assignments) → Keeps r h → AreAssigned a (λ p. assigned_by p (cmd.Drop person) (assigned h p))
    → Follows (record r { assignments = a }) h (cmd.Drop person)
follows-drop r h person a keeps held = record { tours = keeps.tours; has = held; relief = relief-same r h keeps }

pub follows-annul : (r : DutyRecords) (h : History) (vac : ℕ) (a : Assignments) → Keeps r h → AreAssigned a (λ p. assigned_by p (cmd.Annul vac) (assigned h p))
    → Follows (record r { assignments = a }) h (cmd.Annul vac)
follows-annul r h vac a keeps held = record { tours = keeps.tours; has = held; relief = relief-same r h keeps }

pub follows-made : (r : DutyRecords) (h : History) (job : JobValue) (m : ReliefMarks) → Keeps r h → AreMarks m (λ v. option_or (vacancy_of h v) (makes v (cmd.Vacancy job)))
    → Follows (record r { relief = m }) h (cmd.Vacancy job)
follows-made r h job m keeps are = record { tours = keeps.tours; has = keeps.assigned; relief = are }

-- any other
pub follows-other : (r : DutyRecords) (h : History) (c : Cmd) → Keeps r h → ((p : ℕ) (e : Event) → c ≡ cmd.Past p e → ⊥) → ((p : ℕ) (e : Event) → c ≡ cmd.Happened p e → ⊥)
    → ((job : JobValue) → c ≡ cmd.Vacancy job → ⊥) → ((v p : ℕ) → c ≡ cmd.Accept v p → ⊥) → ((v : ℕ) → c ≡ cmd.Annul v → ⊥) → ((p : ℕ) → c ≡ cmd.Drop p → ⊥)
    → Follows r h c
follows-other r h (cmd.Past p e) keeps past event made accept annul drop = absurd (past p e refl)
follows-other r h (cmd.Happened p e) keeps past event made accept annul drop = absurd (event p e refl)
follows-other r h (cmd.Vacancy job) keeps past event made accept annul drop = absurd (made job refl)
follows-other r h (cmd.Accept v p) keeps past event made accept annul drop = absurd (accept v p refl)
follows-other r h (cmd.Annul v) keeps past event made accept annul drop = absurd (annul v refl)
follows-other r h (cmd.Drop p) keeps past event made accept annul drop = absurd (drop p refl)
follows-other r h other keeps past event made accept annul drop = record { tours = keeps.tours; has = keeps.assigned; relief = relief-same r h keeps }
