use Rattle.std.proofs.Common.{◌+◌, refl, arith}
use Rattle.std.proofs.lemmas.List.Elements.{All-nil}
use Rattle.desk_model.specs.statements.Fits.{Fits}
use Rattle.desk_model.specs.histories.History.{opened}
use Rattle.audit_desk.proofs.FoundLemmas.{some-left}
use Rattle.crewdesk_main.proofs.TourLemmas.{HasRead-more, HasNoEntry-next, KeepsJournal-all}
use Rattle.crewdesk_main.proofs.read_tours.read_entries.Goals as goal

pub loop-left-init : goal.loop-left-init
loop-left-init c = record {
  few = omega arith;
  read = λ o valid. record {
    history = opened o;
    starts = record { valid = valid; fits = All-nil Fits; parts = refl };
    keeps = c.new-records.ensures o;
    count_is = refl;
  };
}

pub returns-in_default-clause-unread : goal.returns-in_default-clause-unread
returns-in_default-clause-unread c = λ memory o valid.
    HasNoEntry-next c.loop-left.records _ c.loop-left.left.now c.first_line.result.0.now c.first_line.result.1.now c.loop-left.count (c.loop-left.count + 2)
    (c.loop-left.invariant.read o valid) (some-left c.loop-left.left.now c.loop-left-test.ensures) c.each_line_ends_once.ensures.entry c.first_line.ensures.line
    (λ e is. let found = c.read_next_entry.ensures.only e is in let missing = c.in_default.is in cc) refl

pub loop-left-preserved : goal.loop-left-preserved
loop-left-preserved c = record {
  few = omega (arith, c.loop-left.invariant.few, c.first_line.ensures.shorter (some-left c.loop-left.left.now c.loop-left-test.ensures));
  read = λ o valid.
      let has = c.loop-left.invariant.read o valid in
      HasRead-more c.loop-left.records c.read.new.self _ c.loop-left.left.now c.first_line.result.0.now c.first_line.result.1.now c.loop-left.count c.in-Some.entry has
      c.first_line.ensures.parts (rw (c.in-Some.is) at c.read_next_entry.ensures.some) (rw (c.in-Ok.is) at (c.read.ensures has.history has.keeps));
}

pub returns-clause-read : goal.returns-clause-read
returns-clause-read c = λ o valid. KeepsJournal-all c.loop-left.records _ c.loop-left.left.now c.loop-left.count (c.loop-left.invariant.read o valid) c.loop-left-test.ensures
