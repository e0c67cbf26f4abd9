-- What is kept while entries are read, beside what the history says.
use Rattle.std.specs.Prelude.{◌≡◌, ℕ, ◌≤◌, Bool, true, false, nat_eq, Option, None, Some, unwrap_or, if◌then◌else◌, List, []}
use Rattle.std.specs.Option.{option_map}
use Rattle.std.specs.List.{list_any}
use Rattle.std.specs.List.Sorted.{IsStrictlySortedBy}
use Rattle.std.specs.Option.{is_some}
use Rattle.std.specs.Ordering.{nat_cmp}
use Rattle.indexmap.specs.IndexMap.{get}
use Rattle.desk_base.specs.Number.{IsNumber}
use Rattle.desk_model.specs.statements.Job.{JobValue}
use Rattle.desk_model.specs.histories.History.{History}
use Rattle.desk_model.specs.histories.Register.{vacancy_of}
use Rattle.desk_model.specs.offers.Assigned.{assigned}
use Rattle.duty_events.specs.declared.tour.Tour.{Tour}
use Rattle.tour_build.specs.Runs.{TotalsValue, AreTotals}
use Rattle.duty_record.specs.declared.ended_tour.EndedTour.{EndedTour}
use Rattle.duty_record.specs.declared.assignments.Acceptance.{Acceptance}
use Rattle.duty_record.specs.declared.assignments.Assignments.{Assignments}
use Rattle.duty_record.specs.declared.person_tours.PersonTours.{PersonTours}
use Rattle.duty_record.specs.declared.tour_book.TourBook.{TourBook}
use Rattle.duty_record.specs.declared.relief_marks.ReliefMarks.{ReliefMarks}
use Rattle.duty_record.specs.declared.duty_records.DutyRecords.{DutyRecords}
use Rattle.duty_record.specs.declared.tour_record.TourRecord.{TourRecord}
use Rattle.duty_record.specs.Tours.{relief_in, record_of}
use Rattle.duty_record.specs.Deeds.{Deed, events_in, keep, deeds}
use Rattle.duty_record.specs.EndedTours.{last_vacancy, ended_tours}

-- ---- tours

-- what is kept of a person, by what they did
pub record IsOf (k : PersonTours) (ds : List Deed) : Type 0 where
  pub totals : AreTotals k.totals (events_in ds)
  pub vacancy : k.vacancy ≡ last_vacancy ds
  pub ended : k.ended.items ≡ ended_tours ds

-- a tour that has ended, begun for this vacancy, and with the minutes that are kept
abbrev pub with_sums : Option ℕ → TotalsValue → Tour → EndedTour
with_sums vacancy kept t = record { tour = t; vacancy = vacancy; on_duty = kept.on_duty; limbo = kept.limbo; capped = kept.capped }

-- one deed more is taken in; where memory was wanting, all stays
abbrev pub Takes : Bool → Deed → PersonTours → PersonTours → Type 0
Takes done d k later = (ds : List Deed) → IsOf k ds → IsOf later (if done then keep ds d else ds)

-- so it is at one person, of whom something is kept, and others stay
abbrev pub TakesBy : Bool → Deed → Option PersonTours → Option PersonTours → Type 0
TakesBy done d None later = later ≡ None
TakesBy done d (Some k) later = (x : PersonTours) × ((later ≡ Some x) × Takes done d k x)

abbrev pub TakesAt : Bool → Bool → Deed → Option PersonTours → Option PersonTours → Type 0
TakesAt false done d k later = later ≡ k
TakesAt true done d k later = TakesBy done d k later

-- who did nothing may be one of whom nothing is kept
abbrev pub IsUnder : Option PersonTours → List Deed → Type 0
IsUnder None ds = ds ≡ []
IsUnder (Some k) ds = IsOf k ds

-- what is kept of all persons; those of whom something is kept have a number
pub record AreTours (book : TourBook) (did : ℕ → List Deed) : Type 0 where
  pub each : (p : ℕ) → IsUnder (get nat_eq book.people p) (did p)
  pub numbered : (p : ℕ) (k : PersonTours) → get nat_eq book.people p ≡ Some k → IsNumber p

-- those of whom something is kept, by rising number
pub record AreRising (book : TourBook) (all : List ℕ) : Type 0 where
  pub rising : IsStrictlySortedBy nat_cmp all
  pub each : (p : ℕ) → is_some (get nat_eq book.people p) ≡ list_any (nat_eq p) all

-- ---- assignments

-- the vacancy that was accepted, where it was not annulled since: it was as often then as it was so far
abbrev pub still : (ℕ → ℕ) → Option Acceptance → Option ℕ
still times None = None
still times (Some k) = if nat_eq (times k.vac) k.annulled then Some k.vac else None

abbrev pub IsBehind : (ℕ → ℕ) → Option Acceptance → Type 0
IsBehind times None = Unit
IsBehind times (Some k) = k.annulled ≤ times k.vac

-- that is the vacancy that each person has
pub record AreHeld (times : ℕ → ℕ) (under : ℕ → Option Acceptance) (has : ℕ → Option ℕ) : Type 0 where
  pub each : (p : ℕ) → still times (under p) ≡ has p
  pub behind : (p : ℕ) → IsBehind times (under p)

-- how often a vacancy was annulled
abbrev pub annulments : Assignments → ℕ → ℕ
annulments a v = unwrap_or (get nat_eq a.annulled v) 0

abbrev pub AreAssigned : Assignments → (ℕ → Option ℕ) → Type 0
AreAssigned a has = AreHeld (annulments a) (get nat_eq a.accepted) has

-- ---- vacancies

-- of each vacancy that was made is kept whether it is for a relief crew
abbrev pub AreMarks : ReliefMarks → (ℕ → Option JobValue) → Type 0
AreMarks m made = (v : ℕ) → get nat_eq m.kept v ≡ option_map (λ job. job.relief) (made v)

-- the record of a person's tour, where these vacancies were made
abbrev pub marked_record : ℕ → (ℕ → Option JobValue) → EndedTour → TourRecord
marked_record p made t = record_of p (relief_in made t.vacancy) t

-- ---- all of it

pub record Keeps (r : DutyRecords) (h : History) : Type 0 where
  pub tours : AreTours r.book (deeds h)
  pub assigned : AreAssigned r.assignments (assigned h)
  pub relief : AreMarks r.relief (vacancy_of h)
