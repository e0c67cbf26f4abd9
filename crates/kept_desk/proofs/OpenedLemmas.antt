-- Desks that are opened.
use Rattle.std.proofs.Common.{◌≡◌, ◌∙◌, ℕ, ◌+◌, ◌*◌, ◌≤◌, true, List, [], length, refl, sym, ap, subst, arith, Option}
use Rattle.audit_desk.specs.Found.{Begins}
use Rattle.day_replay.specs.Replay.{day_history, IsReplay}
use Rattle.day_replay.proofs.HistoryLemmas.{goes_on-length}
use Rattle.desk_model.specs.histories.History.{History, opened}
use Rattle.desk_model.specs.histories.Legal.{IsLegal}
use Rattle.desk_model.specs.statements.Opening.{OpeningValue}
use Rattle.desk_model.specs.statements.Statement.{StatedValue}
use Rattle.desk_model.specs.texts.Journal.{journal}
use Rattle.journal_device.specs.Device.{Tells}
use Rattle.serve_desk.specs.declared.limits.TheConstants.{CALLS_PER_LINE}
use Rattle.board_window.specs.Walls.{FrontValue}
use Rattle.kept_desk.specs.Opened.{IsOpened}
use Rattle.kept_desk.specs.Walls.{HasAll}

-- by a day file
pub IsOpened-day : (o : OpeningValue) (commands : List StatedValue) (h : History) (wall : FrontValue) (most callers : ℕ) (found : Option (List ℕ)) → h ≡ day_history o commands → IsReplay o commands (day_history o commands)
    → most ≡ length commands + callers * 5000 → Tells found (journal h) → wall.wall.opening ≡ o → wall.entries ≡ h.entries → IsOpened o h wall most true found 5000 callers
IsOpened-day o commands h wall most callers found is replay room kept wall_opening entries = record {
  opening = sym (ap (λ x. x.opening) is ∙ replay.opening);
  legal = subst IsLegal (sym is) replay.legal;
  shows = record { opening = wall_opening ∙ sym (ap (λ x. x.opening) is ∙ replay.opening); entries = entries };
  sound = refl;
  kept = kept;
  calls = omega arith;
  most = omega arith;
  room = omega (arith, room, ap (λ x. length x.entries) is, goes_on-length (opened o) commands);
}

-- behind a journal
pub IsOpened-behind : (o : OpeningValue) (text : List ℕ) (h : History) (wall : FrontValue) (most quota callers count : ℕ) (found : Option (List ℕ)) → o ≡ h.opening → Begins text h [] → length h.entries ≡ count
    → most ≡ count + callers * quota → 1 ≤ quota → quota ≤ CALLS_PER_LINE → Tells found (journal h) → HasAll wall h → IsOpened o h wall most true found quota callers
IsOpened-behind o text h wall most quota callers count found opening begins many room calls few kept shows = record {
  opening = opening;
  legal = begins.legal;
  shows = shows;
  sound = refl;
  kept = kept;
  calls = calls;
  most = few;
  room = omega (arith, many, room);
}
