-- Who may have a vacancy, for a search of its chain, and how much of the boards that reads.
use Rattle.std.specs.Prelude.{◌≡◌, ℕ, ◌+◌, ◌*◌, ◌<◌, ◌^◌, Bool, true, false, not, ◌&&◌, nat_le, filter, length, is_some, Option, None, Some, List, [], ◌∷◌}
use Rattle.std.specs.Option.{option_map_or}
use Rattle.rest_rules.specs.Rest.{rest_end}
use Rattle.denial_rules.specs.declared.bar.Bar.{Bar}
use Rattle.denial_rules.specs.declared.bar.Bar.TheVariants as bar
use Rattle.desk_model.specs.declared.person.Person.{Person}
use Rattle.desk_model.specs.statements.Job.{JobValue}
use Rattle.desk_model.specs.histories.History.{History}
use Rattle.desk_model.specs.histories.Register.{person_of, persons}
use Rattle.desk_model.specs.boards.Boards.{order}
use Rattle.desk_model.specs.histories.Duty.{events, in_tour}
use Rattle.desk_model.specs.offers.Bars.{bar_of}
use Rattle.desk_register.specs.Among.{index_among}
use Rattle.desk_state.specs.Lists.{is_on_one, IsOnOne}
use Rattle.fast_core.specs.KeptDesk.{Tells}
use Rattle.fast_core.specs.Candidates.{IsJobAsked}
use Rattle.fast_core.specs.declared.kept_desk.KeptDesk.{KeptDesk}
use Rattle.fast_core.specs.declared.job_asked.JobAsked.{JobAsked}

-- what bars somebody from the job at a moment; nobody has it who isn't enrolled
abbrev pub bar_by : History → ℕ → JobValue → ℕ → Option Person → Option Bar
bar_by h m job p None = Some bar.MarkedOff
bar_by h m job p (Some person) = bar_of h m job p person

abbrev pub bar_for : History → ℕ → JobValue → ℕ → Option Bar
bar_for h m job p = bar_by h m job p (person_of h p)

-- the person is kept as on one of the boards that were searched, each a bit by its index among all
abbrev pub was_searched : KeptDesk → History → ℕ → ℕ → Bool
was_searched d h searched p = option_map_or (λ i. is_on_one d.lists i searched) (index_among (persons h) p) false

-- who is on one of them is barred
pub record HasSearched (h : History) (m : ℕ) (job : JobValue) (searched : ℕ) : Type 0 where
  pub fits : searched < 2 ^ 64
  pub barred : (p : ℕ) → IsOnOne h p searched → is_some (bar_for h m job p) ≡ true

-- so they need not be judged again
abbrev pub bar_unless : Bool → Option Bar → Option Bar
bar_unless true other = Some bar.MarkedOff
bar_unless false other = other

-- the desk tells of a history in which the vacancy is asked about, and each person is barred so
pub record Judges (d : KeptDesk) (a : JobAsked) (searched : ℕ) (barred : ℕ → Option Bar) : Type 0 where
  pub history : History
  pub tells : Tells d history
  pub asked : IsJobAsked a history
  pub bars : (p : ℕ) → barred p ≡ bar_unless (was_searched d history searched p) (bar_for history a.moment a.job.now p)

-- out of tour, and rested at the moment
abbrev pub is_rested : History → ℕ → ℕ → Bool
is_rested h m p = not (in_tour h p) && nat_le (rest_end (events h p)) m

-- so, and barred from the job all the same
abbrev pub is_barred_though_rested : History → ℕ → JobValue → ℕ → Bool
is_barred_though_rested h m job p = is_rested h m p && is_some (bar_for h m job p)

-- a search of a board reads at most 4 * (10 + 1) nodes for each of them who is on it, and as many once more: a board has 2^10 slots
abbrev pub board_steps : History → ℕ → JobValue → List ℕ → ℕ
board_steps h m job b = (length (filter (is_barred_though_rested h m job) (order h b)) + 1) * (4 * (10 + 1))

-- and one of a chain as many as of each of its boards
abbrev pub chain_steps : History → ℕ → JobValue → List (List ℕ) → ℕ
chain_steps h m job [] = 0
chain_steps h m job (b ∷ chain) = board_steps h m job b + chain_steps h m job chain

-- for a job at a moment
abbrev pub search_steps : History → ℕ → JobValue → ℕ
search_steps h m job = chain_steps h m job job.chain
