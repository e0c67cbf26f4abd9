-- What is answered of a vacancy that is open, told by bars: it is unfilled where all of its chain are barred, and else offered
-- to the first who isn't; and what a denial and a run around say.
use Rattle.std.specs.Prelude.{◌≡◌, ◌≢◌, ◌⊎◌, ℕ, ◌≤◌, true, nat_eq, None, Some, List, ◌∷◌, ◌++◌, length}
use Rattle.std.specs.List.{All, list_any}
use Rattle.denial_rules.specs.declared.bar.Bar.{Bar}
use Rattle.desk_model.specs.declared.person.Person.{Person}
use Rattle.desk_model.specs.declared.link.Link.{Link}
use Rattle.desk_model.specs.declared.reply.Reply.{Reply}
use Rattle.desk_model.specs.declared.reply.Reply.TheVariants as reply
use Rattle.desk_model.specs.declared.vac_state.VacState.TheVariants as state
use Rattle.desk_model.specs.declared.command.Cmd.{Cmd}
use Rattle.desk_model.specs.declared.command.Cmd.TheVariants as cmd
use Rattle.desk_model.specs.histories.History.{History, Step}
use Rattle.desk_model.specs.statements.Job.{JobValue}
use Rattle.desk_model.specs.histories.Register.{person_of, vacancy_of}
use Rattle.desk_model.specs.boards.Boards.{chain}
use Rattle.desk_model.specs.offers.Offers.{asks_for}
use Rattle.desk_model.specs.offers.States.{state_of}
use Rattle.desk_model.specs.offers.Bars.{bar_of}
use Rattle.desk_model.specs.histories.Duty.{events}
use Rattle.law_bars.specs.Law.{KeepsLaw, WasOffTenHours}

-- the vacancy was made, as this job; it is vacant; and the moment is not after its report
pub record IsOpen (h : History) (m v : ℕ) (job : JobValue) : Type 0 where
  pub made : vacancy_of h v ≡ Some job
  pub vacant : state_of h v ≡ state.Vacant
  pub in_time : m ≤ job.report

-- the person is enrolled, and this bar is the first that keeps them from the job
pub record IsBarred (h : History) (m : ℕ) (job : JobValue) (p : ℕ) : Type 0 where
  pub person : Person
  pub bar : Bar
  pub enrolled : person_of h p ≡ Some person
  pub barred : bar_of h m job p person ≡ Some bar

-- the person is enrolled, and no bar keeps them from the job
pub record IsClear (h : History) (m : ℕ) (job : JobValue) (p : ℕ) : Type 0 where
  pub person : Person
  pub enrolled : person_of h p ≡ Some person
  pub clear : bar_of h m job p person ≡ None

-- all who stand at these positions are barred
abbrev pub AreBarred : History → ℕ → JobValue → List Link → Type 0
AreBarred h m job links = All (λ link. IsBarred h m job link.person) links

-- one of these positions is the person's
abbrev pub Stands : ℕ → List Link → Type 0
Stands p links = list_any (λ link. nat_eq link.person p) links ≡ true

-- the reply says that the vacancy is unfilled, with as many as stand in its chain
abbrev pub IsUnfilled : History → JobValue → Reply → Type 0
IsUnfilled h job r = r ≡ reply.Unfilled (length (chain h job.chain))

-- this position is in the chain; who stands there is clear, and all who stand before it are barred
pub record IsFirstClear (h : History) (m : ℕ) (job : JobValue) (link : Link) : Type 0 where
  pub before : List Link
  pub behind : List Link
  pub chain_is : chain h job.chain ≡ before ++ link ∷ behind
  pub barred : AreBarred h m job before
  pub clear : IsClear h m job link.person

-- the vacancy that was asked for is open, and offered to who stands first of its chain without a bar; no section of the law keeps them
-- from it, by the events that were told so far, and by these they are off in each of the ten hours before its report
pub record IsRightOffer (h : History) (m v : ℕ) (link : Link) : Type 0 where
  pub job : JobValue
  pub is_open : IsOpen h m v job
  pub first : IsFirstClear h m job link
  pub law : KeepsLaw (events h link.person) first.clear.person.home m job.report job.duty job.limbo
  pub ten_hours : WasOffTenHours (events h link.person) job.report

-- where the entry's reply makes an offer, it is right
pub record OffersRightly (s : Step) : Type 0 where
  pub each : (p k : ℕ) (b : List ℕ) → s.entry.reply ≡ reply.Offered p b k
      → (v : ℕ) × ((asks_for s.entry.stated.cmd ≡ Some v) × IsRightOffer s.before s.entry.moment v (record { board = b; position = k; person = p }))

-- the vacancy that was asked for is open, so many positions are in its chain, and all who stand there are barred
pub record IsRightlyUnfilled (h : History) (m v listed : ℕ) : Type 0 where
  pub job : JobValue
  pub is_open : IsOpen h m v job
  pub barred : AreBarred h m job (chain h job.chain)
  pub positions : listed ≡ length (chain h job.chain)

-- where the entry's reply says that a vacancy is unfilled, it is
pub record IsUnfilledRightly (s : Step) : Type 0 where
  pub each : (n : ℕ) → s.entry.reply ≡ reply.Unfilled n
      → (v : ℕ) × ((asks_for s.entry.stated.cmd ≡ Some v) × IsRightlyUnfilled s.before s.entry.moment v n)

-- the person was judged for the vacancy: `explain` or `offer` named both
abbrev pub Names : Cmd → ℕ → ℕ → Type 0
Names c v p = (c ≡ cmd.Explain v p) ⊎ (c ≡ cmd.Offer v p)

-- the vacancy was made, the moment is not after its report, the person stands in its chain, and this bar is the first that keeps
-- them from it
pub record IsRightDenial (h : History) (m v p : ℕ) (bar : Bar) : Type 0 where
  pub job : JobValue
  pub person : Person
  pub made : vacancy_of h v ≡ Some job
  pub in_time : m ≤ job.report
  pub listed : Stands p (chain h job.chain)
  pub enrolled : person_of h p ≡ Some person
  pub barred : bar_of h m job p person ≡ Some bar

-- where the entry's reply denies, it names the first bar
pub record DeniesRightly (s : Step) : Type 0 where
  pub each : (bar : Bar) → s.entry.reply ≡ reply.Denied bar
      → (v p : ℕ) × (Names s.entry.stated.cmd v p × IsRightDenial s.before s.entry.moment v p bar)

-- the vacancy is open; the person who was named stands in its chain and is clear, but another, this one, is the first who is
pub record IsRightRunAround (h : History) (m v p q : ℕ) : Type 0 where
  pub job : JobValue
  pub first : Link
  pub is_open : IsOpen h m v job
  pub listed : Stands p (chain h job.chain)
  pub clear : IsClear h m job p
  pub comes_first : IsFirstClear h m job first
  pub is : first.person ≡ q
  pub other : q ≢ p

-- where the entry's reply tells who would be run around, it is the first who is clear
pub record RunsAroundRightly (s : Step) : Type 0 where
  pub each : (q : ℕ) → s.entry.reply ≡ reply.RunAround q
      → (v p : ℕ) × ((s.entry.stated.cmd ≡ cmd.Offer v p) × IsRightRunAround s.before s.entry.moment v p q)
