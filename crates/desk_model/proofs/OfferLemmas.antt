-- Whom the desk offers a vacancy stands first of its chain without a bar, and no section of the law keeps them from it.
use Rattle.std.proofs.Common.{◌≡◌, ℕ, false, not, None, List, refl}
use Rattle.duty_events.specs.declared.event.Event.{Event}
use Rattle.duty_events.specs.declared.stage.Stage.{Stage}
use Rattle.duty_events.specs.declared.stage.Stage.TheVariants as stage
use Rattle.duty_events.specs.Lists.{IsLawful, stage_of}
use Rattle.duty_events.specs.MinuteKind.{is_off}
use Rattle.denial_rules.proofs.TableLemmas.{first_bar-none}
use Rattle.law_bars.specs.Law.{law_bar, LawInWords, WasOffTenHours}
use Rattle.desk_model.specs.declared.person.Person.{Person}
use Rattle.desk_model.specs.declared.link.Link.{Link}
use Rattle.desk_model.specs.statements.Entry.{EntryValue}
use Rattle.desk_model.specs.statements.Job.{JobValue}
use Rattle.desk_model.specs.histories.History.{History, step_of}
use Rattle.desk_model.specs.histories.Duty.{events}
use Rattle.desk_model.specs.offers.Bars.{facts_of, bar_of}
use Rattle.desk_model.specs.laws.Denials.{IsRightOffer, OffersRightly}
use Rattle.desk_model.specs.histories.Legal.{IsNext, IsLegal}
use Rattle.desk_model.proofs.EventLemmas.{lawful-events}
use Rattle.desk_model.proofs.OfferedLemmas.{link_of, WasOffered, entry-offered}
use Rattle.desk_model.proofs.DenialLemmas.{found-clear}

off_stage : (s : Stage) → not (is_off s) ≡ false → s ≡ stage.Off
off_stage stage.Off none = refl
off_stage other none = cc

-- whom nothing bars is in no tour, and no section of the law bars them
clear-off : (h : History) (m : ℕ) (job : JobValue) (p : ℕ) (person : Person) → bar_of h m job p person ≡ None → stage_of (events h p) ≡ stage.Off
clear-off h m job p person none = off_stage (stage_of (events h p)) (first_bar-none (facts_of h m job p person) none).0

clear-lawful : (h : History) (m : ℕ) (job : JobValue) (p : ℕ) (person : Person) → bar_of h m job p person ≡ None
    → law_bar (events h p) person.home m job.report job.duty job.limbo ≡ None
clear-lawful h m job p person none = let facts = first_bar-none (facts_of h m job p person) none in rw facts.0 at facts.2

-- the law of whom no bar keeps: each of their ten hours before the report is off
abbrev pub IsTenHours : Type 0
IsTenHours = (es : List Event) (home : List ℕ) (moment report duty limbo : ℕ) → IsLawful es → stage_of es ≡ stage.Off
    → law_bar es home moment report duty limbo ≡ None → WasOffTenHours es report

right-offer : LawInWords → IsTenHours → (h : History) (m v : ℕ) (link : Link) → IsLegal h → WasOffered h m v link → IsRightOffer h m v link
right-offer in_words ten_hours h m v link legal was =
    let first = found-clear h m was.job link legal was.first in
    let person = first.clear.person in
    let es = events h link.person in
    let lawful = clear-lawful h m was.job link.person person first.clear.clear in
    record {
      job = was.job;
      is_open = record { made = was.made; vacant = was.vacant; in_time = was.in_time };
      first = first;
      law = (in_words es person.home m was.job.report was.job.duty was.job.limbo (lawful-events h link.person)).0 lawful;
      ten_hours = ten_hours es person.home m was.job.report was.job.duty was.job.limbo (lawful-events h link.person) (clear-off h m was.job link.person person first.clear.clear) lawful;
    }

pub offers-rightly : LawInWords → IsTenHours → (h : History) (e : EntryValue) → IsLegal h → IsNext h e → OffersRightly (step_of h e)
offers-rightly in_words ten_hours h e legal is = record {
  each = λ p k b told.
      let offered = entry-offered h e p k b is told in
      (offered.0, (offered.1.0, right-offer in_words ten_hours h e.moment offered.0 (link_of b k p) legal offered.1.1));
}
