-- What an entry tells of what somebody did.
use Rattle.std.proofs.Common.{◌≡◌, ℕ, Bool, true, false, nat_eq, Option, None, Some, List, refl, ◌∙◌, ◌⊎◌, inl, inr}
use Rattle.std.specs.Prelude.{if◌then◌else◌}
use Rattle.qualifications.specs.declared.craft.Craft.{Craft}
use Rattle.duty_events.specs.declared.event.Event.{Event}
use Rattle.desk_model.specs.declared.command.Cmd.{Cmd}
use Rattle.desk_model.specs.declared.command.Cmd.TheVariants as cmd
use Rattle.desk_model.specs.statements.Entry.{EntryValue}
use Rattle.desk_model.specs.histories.History.{is_done, said}
use Rattle.desk_model.specs.histories.Register.{enrols, enrols_any}
use Rattle.desk_model.specs.histories.Duty.{tells}
use Rattle.desk_state.specs.DutyTold.{home_of, teller, told_event}

-- it enrols somebody, tells an event of somebody, or neither
pub record EnrolsOne (e : EntryValue) : Type 0 where
  pub person : ℕ
  pub craft : Craft
  pub home : List ℕ
  pub home_is : said home_of e ≡ Some home
  pub any : said enrols_any e ≡ Some person
  pub who : (q : ℕ) → said (enrols q) e ≡ (if nat_eq person q then Some (record { craft = craft; home = home }) else None)
  pub event : said told_event e ≡ None
  pub tells_none : (q : ℕ) → said (tells q) e ≡ None

pub record TellsOne (e : EntryValue) : Type 0 where
  pub person : ℕ
  pub event : Event
  pub home_none : said home_of e ≡ None
  pub any : said enrols_any e ≡ None
  pub who : (q : ℕ) → said (enrols q) e ≡ None
  pub teller_is : said teller e ≡ Some person
  pub event_is : said told_event e ≡ Some event
  pub tells_is : (q : ℕ) → said (tells q) e ≡ (if nat_eq person q then Some event else None)

pub record TellsNothing (e : EntryValue) : Type 0 where
  pub home_none : said home_of e ≡ None
  pub any : said enrols_any e ≡ None
  pub who : (q : ℕ) → said (enrols q) e ≡ None
  pub event : said told_event e ≡ None
  pub tells_none : (q : ℕ) → said (tells q) e ≡ None

said-is : {X : Type 0} (f : Cmd → Option X) (e : EntryValue) (c : Cmd) → is_done e.reply ≡ true → e.stated.cmd ≡ c → said f e ≡ f c
said-is f e c done is = rw (done, is) refl

said-none : {X : Type 0} (f : Cmd → Option X) (e : EntryValue) → is_done e.reply ≡ false → said f e ≡ None
said-none f e refused = rw refused refl

idle : (e : EntryValue) (c : Cmd) → is_done e.reply ≡ true → e.stated.cmd ≡ c → home_of c ≡ None → enrols_any c ≡ None → ((q : ℕ) → enrols q c ≡ None)
    → told_event c ≡ None → ((q : ℕ) → tells q c ≡ None) → EnrolsOne e ⊎ (TellsOne e ⊎ TellsNothing e)
idle e c done is home any who event tells_none = inr (inr (record {
  home_none = said-is home_of e c done is ∙ home;
  any = said-is enrols_any e c done is ∙ any;
  who = λ q. said-is (enrols q) e c done is ∙ who q;
  event = said-is told_event e c done is ∙ event;
  tells_none = λ q. said-is (tells q) e c done is ∙ tells_none q;
}))

one-told : (e : EntryValue) (c : Cmd) (p : ℕ) (t : Event) → is_done e.reply ≡ true → e.stated.cmd ≡ c → home_of c ≡ None → enrols_any c ≡ None → ((q : ℕ) → enrols q c ≡ None)
    → teller c ≡ Some p → told_event c ≡ Some t → ((q : ℕ) → tells q c ≡ (if nat_eq p q then Some t else None)) → EnrolsOne e ⊎ (TellsOne e ⊎ TellsNothing e)
one-told e c p t done is home any who of event tells_is = inr (inl (record {
  person = p;
  event = t;
  home_none = said-is home_of e c done is ∙ home;
  any = said-is enrols_any e c done is ∙ any;
  who = λ q. said-is (enrols q) e c done is ∙ who q;
  teller_is = said-is teller e c done is ∙ of;
  event_is = said-is told_event e c done is ∙ event;
  tells_is = λ q. said-is (tells q) e c done is ∙ tells_is q;
}))

pub heard : (e : EntryValue) → EnrolsOne e ⊎ (TellsOne e ⊎ TellsNothing e)
heard e = go (is_done e.reply) e.stated.cmd refl refl
  where
    go : (done : Bool) (c : Cmd) → is_done e.reply ≡ done → e.stated.cmd ≡ c → EnrolsOne e ⊎ (TellsOne e ⊎ TellsNothing e)
    go false c refused is = inr (inr (record {
      home_none = said-none home_of e refused;
      any = said-none enrols_any e refused;
      who = λ q. said-none (enrols q) e refused;
      event = said-none told_event e refused;
      tells_none = λ q. said-none (tells q) e refused;
    }))
    go true (cmd.Enrol p craft home able) done is = inl (record {
      person = p;
      craft = craft;
      home = home;
      home_is = said-is home_of e (cmd.Enrol p craft home able) done is;
      any = said-is enrols_any e (cmd.Enrol p craft home able) done is;
      who = λ q. said-is (enrols q) e (cmd.Enrol p craft home able) done is;
      event = said-is told_event e (cmd.Enrol p craft home able) done is;
      tells_none = λ q. said-is (tells q) e (cmd.Enrol p craft home able) done is;
    })
    go true (cmd.Past p t) done is = one-told e (cmd.Past p t) p t done is refl refl (λ q. refl) refl refl (λ q. refl)
    go true (cmd.Happened p t) done is = one-told e (cmd.Happened p t) p t done is refl refl (λ q. refl) refl refl (λ q. refl)
    go true other done is = idle e other done is refl refl (λ q. refl) refl (λ q. refl)
