-- Where no row holds.
use Rattle.std.proofs.Common.{◌≡◌, ℕ, Bool, true, false, if◌then◌else◌, List, [], ◌∷◌, ◌++◌, Option, None, Some, refl, sym, ap, ◌∙◌}
use Rattle.std.specs.Option.{option_map, option_or}
use Rattle.denial_rules.specs.declared.bar.Bar.{Bar}
use Rattle.denial_rules.specs.declared.bar.Bar.TheVariants as bar
use Rattle.denial_rules.specs.declared.facts.Facts.{Facts}
use Rattle.denial_rules.specs.Table.{marked_off_row, busy_row, on_offer_row, place_row, craft_row, quals_row, answered_row, held_row, law_row, first_some, first_bar, without_law}

-- the first of some rows, else of those behind them
pub first_some-append : (xs ys : List (Option Bar)) → first_some (xs ++ ys) ≡ option_or (first_some xs) (first_some ys)
first_some-append [] ys = refl
first_some-append (None ∷ xs) ys = first_some-append xs ys
first_some-append (Some x ∷ xs) ys = refl

-- where no row holds, neither the first nor those behind it do
pub both-none : (row : Option Bar) (rest : List (Option Bar)) → first_some (row ∷ rest) ≡ None → (row ≡ None) × (first_some rest ≡ None)
both-none None rest none = (refl, none)
both-none (Some b) rest none = cc

busy-none : (facts : Facts) → busy_row facts ≡ None → facts.in_tour ≡ false
busy-none facts none = go facts.in_tour none
  where
    go : (tour : Bool) → (if tour then Some bar.InTour else option_map (λ vacancy. bar.Assigned vacancy) facts.assigned) ≡ None → tour ≡ false
    go true none = cc
    go false none = refl

held-none : (facts : Facts) → held_row facts ≡ None → facts.held ≡ None
held-none facts none = go facts.held none
  where
    go : (held : Option ℕ) → option_map (λ until. bar.Held until) held ≡ None → held ≡ None
    go None none = refl
    go (Some until) none = cc

-- and then no tour runs, no hold, and the law gives no bar
pub first_bar-none : (facts : Facts) → first_bar facts ≡ None → (facts.in_tour ≡ false) × (facts.held ≡ None) × (facts.law ≡ None)
first_bar-none facts none =
    let busy = (both-none (marked_off_row facts) _ none).1 in
    let offer = both-none (busy_row facts) _ busy in
    let place = (both-none (on_offer_row facts) _ offer.1).1 in
    let craft = (both-none (place_row facts) _ place).1 in
    let quals = (both-none (craft_row facts) _ craft).1 in
    let answered = (both-none (quals_row facts) _ quals).1 in
    let held = (both-none (answered_row facts) _ answered).1 in
    let law = both-none (held_row facts) _ held in (busy-none facts offer.0, held-none facts law.0, (both-none (law_row facts) [] law.1).0)

-- the rows but the last
own_rows : Facts → List (Option Bar)
own_rows facts =
    marked_off_row facts
    ∷ busy_row facts
    ∷ on_offer_row facts
    ∷ place_row facts
    ∷ craft_row facts
    ∷ quals_row facts
    ∷ answered_row facts
    ∷ held_row facts
    ∷ []

option_or-none : (o : Option Bar) → option_or o None ≡ o
option_or-none None = refl
option_or-none (Some b) = refl

first_some-one : (o : Option Bar) → first_some (o ∷ []) ≡ o
first_some-one None = refl
first_some-one (Some b) = refl

-- the law's row is the last
pub first_bar-law : (facts : Facts) → first_bar facts ≡ option_or (first_bar (without_law facts)) facts.law
unfolding own_rows
first_bar-law facts =
    let own = first_some (own_rows facts) in
    let without : first_bar (without_law facts) ≡ own = first_some-append (own_rows facts) (None ∷ []) ∙ option_or-none own in
    first_some-append (own_rows facts) (facts.law ∷ []) ∙ ap (option_or own) (first_some-one facts.law) ∙ ap (λ o. option_or o facts.law) (sym without)
