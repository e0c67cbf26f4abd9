-- Who is barred from a vacancy, and the first who isn't.
use Rattle.std.specs.Prelude.{ℕ, Bool, false, Option, None, Some, is_none, if◌then◌else◌}
use Rattle.std.specs.List.{find}
use Rattle.denial_rules.specs.declared.bar.Bar.{Bar}
use Rattle.denial_rules.specs.declared.facts.Facts.{Facts}
use Rattle.denial_rules.specs.Table.{first_bar}
use Rattle.law_bars.specs.Law.{law_bar}
use Rattle.desk_model.specs.declared.person.Person.{Person}
use Rattle.desk_model.specs.declared.link.Link.{Link}
use Rattle.desk_model.specs.histories.History.{History}
use Rattle.desk_model.specs.statements.Job.{JobValue}
use Rattle.desk_model.specs.histories.Register.{person_of, quals_of}
use Rattle.desk_model.specs.boards.Boards.{chain}
use Rattle.desk_model.specs.histories.Duty.{events, in_tour, place_at}
use Rattle.desk_model.specs.offers.Offers.{on_offer}
use Rattle.desk_model.specs.boards.Marks.{is_marked_off}
use Rattle.desk_model.specs.offers.Assigned.{assigned}
use Rattle.desk_model.specs.offers.TurnedDown.{has_turned_down}
use Rattle.desk_model.specs.offers.Held.{held}

-- the first section of the law that keeps an enrolled person from the job, for a call at a moment. It is asked only of
-- who is in no tour: who is in one is barred by that before
abbrev pub law_of : History → ℕ → JobValue → ℕ → Person → Option Bar
law_of h m job p person = if in_tour h p then None else law_bar (events h p) person.home m job.report job.duty job.limbo

-- what bears at a moment on whether an enrolled person may have the job
abbrev pub facts_of : History → ℕ → JobValue → ℕ → Person → Facts
facts_of h m job p person = record {
  marked_off = is_marked_off h p;
  in_tour = in_tour h p;
  assigned = assigned h p;
  on_offer = on_offer h p;
  place_is = place_at h m p person;
  place_asked = job.place;
  craft_is = person.craft;
  craft_asked = job.craft;
  quals_has = quals_of h p;
  quals_asked = job.quals;
  answered = has_turned_down h job.vac p;
  held = held h m job.chain p;
  law = law_of h m job p person;
}

-- the first bar that keeps an enrolled person from the job at a moment
abbrev pub bar_of : History → ℕ → JobValue → ℕ → Person → Option Bar
bar_of h m job p person = first_bar (facts_of h m job p person)

-- the person is enrolled, and no bar holds
abbrev pub may_have : History → ℕ → JobValue → ℕ → Option Person → Bool
may_have h m job p None = false
may_have h m job p (Some person) = is_none (bar_of h m job p person)

abbrev pub is_free : History → ℕ → JobValue → ℕ → Bool
is_free h m job p = may_have h m job p (person_of h p)

-- the first of the chain whom nothing bars at a moment
abbrev pub first_free : History → ℕ → JobValue → Option Link
first_free h m job = find (λ link. is_free h m job link.person) (chain h job.chain)
