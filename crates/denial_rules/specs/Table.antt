-- The table of bars: its rows, in order, and the first that holds.
use Rattle.std.specs.Prelude.{◌≡◌, ℕ, Bool, IsTrue, IsNone, Option, None, Some, if◌then◌else◌, List, [], ◌∷◌}
use Rattle.std.specs.Option.{option_map, option_or}
use Rattle.std.specs.Str.{bytes_eq}
use Rattle.qualifications.specs.Craft.{craft_eq}
use Rattle.qualifications.specs.Quals.{HasAll, lowest_missing}
use Rattle.denial_rules.specs.declared.bar.Bar.{Bar}
use Rattle.denial_rules.specs.declared.bar.Bar.TheVariants as bar
use Rattle.denial_rules.specs.declared.facts.Facts.{Facts}

-- B1: marked off
abbrev pub marked_off_row : Facts → Option Bar
marked_off_row facts = if facts.marked_off then Some bar.MarkedOff else None

-- B2: in a tour, else assigned
abbrev pub busy_row : Facts → Option Bar
busy_row facts = if facts.in_tour then Some bar.InTour else option_map (λ vacancy. bar.Assigned vacancy) facts.assigned

-- B3: an offer is open
abbrev pub on_offer_row : Facts → Option Bar
on_offer_row facts = option_map (λ vacancy. bar.OnOffer vacancy) facts.on_offer

-- B4: the person's place isn't the one asked
abbrev pub place_row : Facts → Option Bar
place_row facts = if bytes_eq facts.place_is facts.place_asked then None else Some (bar.Elsewhere facts.place_is)

-- B5: the person's craft isn't the one asked
abbrev pub craft_row : Facts → Option Bar
craft_row facts = if craft_eq facts.craft_is facts.craft_asked then None else Some (bar.OtherCraft facts.craft_is)

-- B6: the lowest asked qualification that the person lacks
abbrev pub quals_row : Facts → Option Bar
quals_row facts = option_map (λ number. bar.Lacks number) (lowest_missing facts.quals_has facts.quals_asked)

-- B7: declined, not answered or dropped
abbrev pub answered_row : Facts → Option Bar
answered_row facts = if facts.answered then Some bar.Answered else None

-- B8: held after a decline
abbrev pub held_row : Facts → Option Bar
held_row facts = option_map (λ until. bar.Held until) facts.held

-- 49 USC 21103: the first bar of the law
abbrev pub law_row : Facts → Option Bar
law_row facts = facts.law

-- the rows in order
abbrev pub rows : Facts → List (Option Bar)
rows facts =
    marked_off_row facts
    ∷ busy_row facts
    ∷ on_offer_row facts
    ∷ place_row facts
    ∷ craft_row facts
    ∷ quals_row facts
    ∷ answered_row facts
    ∷ held_row facts
    ∷ law_row facts
    ∷ []

-- the first that there is
abbrev pub first_some : List (Option Bar) → Option Bar
first_some [] = None
first_some (Some first ∷ rest) = Some first
first_some (None ∷ rest) = first_some rest

-- the first row that holds
abbrev pub first_bar : Facts → Option Bar
first_bar facts = first_some (rows facts)

-- the first bar of who is marked off, in a tour, assigned or on offer
abbrev pub busy_bar : Bool → Bool → Option ℕ → Option ℕ → Option Bar
busy_bar marked_off in_tour assigned on_offer =
    if marked_off then Some bar.MarkedOff
    else if in_tour then Some bar.InTour
    else option_or (option_map (λ vacancy. bar.Assigned vacancy) assigned) (option_map (λ vacancy. bar.OnOffer vacancy) on_offer)

-- the same facts, where the law bars nobody
abbrev pub without_law : Facts → Facts
without_law facts = record facts { law = None }

-- no row holds
pub record IsFree (facts : Facts) : Type 0 where
  pub marked_on : ¬ IsTrue facts.marked_off
  pub off_duty : ¬ IsTrue facts.in_tour
  pub unassigned : IsNone facts.assigned
  pub no_offer : IsNone facts.on_offer
  pub at_the_place : facts.place_is ≡ facts.place_asked
  pub of_the_craft : facts.craft_is ≡ facts.craft_asked
  pub qualified : HasAll facts.quals_has facts.quals_asked
  pub not_answered : ¬ IsTrue facts.answered
  pub not_held : IsNone facts.held
  pub lawful : IsNone facts.law
