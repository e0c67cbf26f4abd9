use Rattle.std.proofs.Common.{◌∙◌, [], get_or, refl, arith}
use Rattle.day_replay.specs.declared.held_line.HeldLine.{HeldLine}
use Rattle.day_replay.proofs.JournalLemmas.{GathersHeld-none, GathersHeld-within, GathersHeld-line, GathersHeld-front, GathersHeld-all}
use Rattle.day_replay.proofs.held_line.gather_all_held.Goals as goal

-- what a list of lines is said to have behind its end
abbrev no_line : HeldLine
no_line = record { stated = record { ref_ptr = (0, 0); now = [] }; bytes = 0 }

pub loop-line-init : goal.loop-line-init
loop-line-init g c = record {
  gathered = GathersHeld-none _ c.args.buffer.now.items c.args.lines.now c.args.texts.now c.requires;
  unfaulted = refl;
}

pub split_at-requires : goal.split_at-requires
split_at-requires g c =
    GathersHeld-within _ _ _ c.args.lines.now c.loop-line.line-index _ no_line _ _ c.loop-line-test.true refl c.loop-line.invariant.gathered

pub loop-line-preserved : goal.loop-line-preserved
loop-line-preserved g c = record {
  gathered = GathersHeld-line _ _ _ _ c.args.lines.now c.loop-line.line-index (get_or c.args.lines.now c.loop-line.line-index no_line) no_line _ _ _ _ _
      c.loop-line-test.true refl c.split_at.ensures.front c.split_at.ensures.back c.loop-line.invariant.gathered c.if-not-gather_held.ensures.all;
  unfaulted = c.if-not-gather_held.ensures.no_fault ∙ c.loop-line.invariant.unfaulted;
}

pub returns-then-not-gather_held-clause-front : goal.returns-then-not-gather_held-clause-front
returns-then-not-gather_held-clause-front g c =
    GathersHeld-front _ _ _ _ c.args.lines.now c.loop-line.line-index (get_or c.args.lines.now c.loop-line.line-index no_line) no_line _ _ _
    c.loop-line-test.true refl c.split_at.ensures.front c.loop-line.invariant.gathered c.if-not-gather_held.ensures.front

pub returns-clause-all : goal.returns-clause-all
returns-clause-all g c =
    GathersHeld-all _ _ _ c.args.lines.now c.loop-line.line-index _ _ (omega (arith, c.loop-line-test.false)) c.loop-line.invariant.gathered
