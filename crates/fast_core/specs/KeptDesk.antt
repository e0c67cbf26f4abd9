-- What a desk keeps, beside what a history says.
use Rattle.std.specs.Prelude.{◌≡◌}
use Rattle.desk_model.specs.histories.History.{History}
use Rattle.desk_model.specs.histories.Legal.{last_moment, IsLegal}
use Rattle.desk_state.specs.Keeps.{Keeps as KeepsOffers}
use Rattle.desk_state.specs.Lists.{Keeps as KeepsLists}
use Rattle.fast_core.specs.People.{KeepsPeople}
use Rattle.fast_core.specs.Unfilled.{KeepsUnfilled}
use Rattle.fast_core.specs.declared.kept_desk.KeptDesk.{KeptDesk}

-- all that is kept is what a legal history says
pub record Tells (d : KeptDesk) (h : History) : Type 0 where
  pub legal : IsLegal h
  pub opening : d.opening ≡ h.opening
  pub last : d.last ≡ last_moment h
  pub people : KeepsPeople d.people h
  pub offers : KeepsOffers d.offers h
  pub lists : KeepsLists d.lists h
  pub unfilled : KeepsUnfilled d.unfilled h
