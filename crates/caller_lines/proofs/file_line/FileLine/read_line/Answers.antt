use Rattle.std.proofs.Common.{◌≡◌, ◌≢◌, [], ◌∙◌, inr, arith}
use Rattle.caller_lines.proofs.TakeLemmas.{Gathering-short, Gathering-long, Gathering-more, Gathering-ended_short, Gathering-ended_long, Gathering-unfed, TookUnfed-some}
use Rattle.caller_lines.specs.FileLine.{Ends, GaveOn}
use Rattle.caller_lines.proofs.WaitLemmas.{GaveOn-more, unasked-more}
use Rattle.caller_lines.proofs.file_line.FileLine.read_line.Goals as goal
use Rattle.caller_lines.proofs.file_line.FileLine.read_line.Given.{Over}

-- a part more of the line: what waits, and the reader that wasn't asked
gave_more : (g : Over) (old mid now : Ends g.row.R.Denot g.row.W.Denot) → GaveOn g.W.Write.contents old.writer mid.writer old.waiting mid.waiting []
    → GaveOn g.W.Write.contents mid.writer now.writer mid.waiting now.waiting [] → GaveOn g.W.Write.contents old.writer now.writer old.waiting now.waiting []
gave_more g old mid now = GaveOn-more g.W.Write.contents old.writer mid.writer now.writer old.waiting mid.waiting now.waiting

unasked_more : (g : Over) (old mid now : Ends g.row.R.Denot g.row.W.Denot) → GaveOn g.W.Write.contents mid.writer now.writer mid.waiting now.waiting []
    → (mid.waiting ≢ [] → mid.reader ≡ old.reader) → (now.waiting ≢ [] → now.reader ≡ mid.reader) → now.waiting ≢ [] → now.reader ≡ old.reader
unasked_more g old mid now = unasked-more g.W.Write.contents old.reader mid.reader now.reader mid.writer now.writer mid.waiting now.waiting

pub returns-in-Fed-clause-fault : goal.returns-in-Fed-clause-fault
returns-in-Fed-clause-fault g c = λ failed.
    inr (inr (Gathering-unfed _ _ _ _ _ _ _ c.loop-len.invariant.so_far c.in-Fed.ensures.gathers (omega arith)))

pub returns-in-Fed-clause-takes : goal.returns-in-Fed-clause-takes
returns-in-Fed-clause-takes g c = TookUnfed-some _ _ (Gathering-unfed _ _ _ _ _ _ _ c.loop-len.invariant.so_far c.in-Fed.ensures.gathers (omega arith))

pub returns-in-Fed-2-clause-takes : goal.returns-in-Fed-2-clause-takes
returns-in-Fed-2-clause-takes g c =
    let same : c.in-Fed.count ≡ c.in-Fed-2.count = cc in
    Gathering-long _ _ _ _ _ _ _ c.loop-len.invariant.so_far c.in-Fed-2.ensures.gathers (omega arith) (omega (arith, same))

pub returns-in-Fed-3-clause-takes : goal.returns-in-Fed-3-clause-takes
returns-in-Fed-3-clause-takes g c =
    let same : c.in-Fed-2.count ≡ c.in-Fed-3.field-0 = cc in
    Gathering-short _ _ _ _ _ _ _ c.loop-len.invariant.so_far c.in-Fed-3.ensures.gathers (omega (arith, same))

pub loop-len-preserved : goal.loop-len-preserved
loop-len-preserved g c = record {
  so_far = Gathering-more _ _ _ _ _ _ _ c.loop-len.invariant.so_far c.in-Part.ensures.gathers;
  faults = c.in-Part.ensures.faults ∙ c.loop-len.invariant.faults;
  errors = c.in-Part.ensures.no_error (λ failed. cc) ∙ c.loop-len.invariant.errors;
  there = λ none. c.loop-len.invariant.there (c.in-Part.ensures.there none);
  gave = gave_more g c.args.self.now c.loop-len.self c.gather.new.self c.loop-len.invariant.gave (c.in-Part.ensures.gave (λ failed. cc));
  unasked = unasked_more g c.args.self.now c.loop-len.self c.gather.new.self (c.in-Part.ensures.gave (λ failed. cc)) c.loop-len.invariant.unasked (c.in-Part.ensures.unasked (λ failed. cc));
}

pub returns-in-End-clause-takes : goal.returns-in-End-clause-takes
returns-in-End-clause-takes g c =
    let none = c.in-End.ensures.gathers in
    Gathering-ended_long _ _ _ _ _ c.loop-len.invariant.so_far none.2 none.1 (omega arith) (omega arith)

pub returns-in-End-2-clause-takes : goal.returns-in-End-2-clause-takes
returns-in-End-2-clause-takes g c =
    let none = c.in-End-2.ensures.gathers in
    Gathering-ended_short _ _ _ _ _ _ c.loop-len.invariant.so_far none.2 none.1 (omega arith) (omega arith) none.3

pub returns-in-Fed-2-clause-gave : goal.returns-in-Fed-2-clause-gave
returns-in-Fed-2-clause-gave g c = λ fine. gave_more g c.args.self.now c.loop-len.self c.gather.new.self c.loop-len.invariant.gave (c.in-Fed-2.ensures.gave (λ failed. cc))

pub returns-in-Fed-2-clause-unasked : goal.returns-in-Fed-2-clause-unasked
returns-in-Fed-2-clause-unasked g c = λ fine.
    unasked_more g c.args.self.now c.loop-len.self c.gather.new.self (c.in-Fed-2.ensures.gave (λ failed. cc)) c.loop-len.invariant.unasked (c.in-Fed-2.ensures.unasked (λ failed. cc))

pub returns-in-Fed-3-clause-gave : goal.returns-in-Fed-3-clause-gave
returns-in-Fed-3-clause-gave g c = λ fine. gave_more g c.args.self.now c.loop-len.self c.gather.new.self c.loop-len.invariant.gave (c.in-Fed-3.ensures.gave (λ failed. cc))

pub returns-in-Fed-3-clause-unasked : goal.returns-in-Fed-3-clause-unasked
returns-in-Fed-3-clause-unasked g c = λ fine.
    unasked_more g c.args.self.now c.loop-len.self c.gather.new.self (c.in-Fed-3.ensures.gave (λ failed. cc)) c.loop-len.invariant.unasked (c.in-Fed-3.ensures.unasked (λ failed. cc))

pub returns-in-End-clause-gave : goal.returns-in-End-clause-gave
returns-in-End-clause-gave g c = λ fine. gave_more g c.args.self.now c.loop-len.self c.gather.new.self c.loop-len.invariant.gave (c.in-End.ensures.gave (λ failed. cc))

pub returns-in-End-clause-unasked : goal.returns-in-End-clause-unasked
returns-in-End-clause-unasked g c = λ fine.
    unasked_more g c.args.self.now c.loop-len.self c.gather.new.self (c.in-End.ensures.gave (λ failed. cc)) c.loop-len.invariant.unasked (c.in-End.ensures.unasked (λ failed. cc))

pub returns-in-End-2-clause-gave : goal.returns-in-End-2-clause-gave
returns-in-End-2-clause-gave g c = λ fine. gave_more g c.args.self.now c.loop-len.self c.gather.new.self c.loop-len.invariant.gave (c.in-End-2.ensures.gave (λ failed. cc))

pub returns-in-End-2-clause-unasked : goal.returns-in-End-2-clause-unasked
returns-in-End-2-clause-unasked g c = λ fine.
    unasked_more g c.args.self.now c.loop-len.self c.gather.new.self (c.in-End-2.ensures.gave (λ failed. cc)) c.loop-len.invariant.unasked (c.in-End-2.ensures.unasked (λ failed. cc))

pub returns-in-End-3-clause-gave : goal.returns-in-End-3-clause-gave
returns-in-End-3-clause-gave g c = λ fine. gave_more g c.args.self.now c.loop-len.self c.gather.new.self c.loop-len.invariant.gave (c.in-End-3.ensures.gave (λ failed. cc))

pub returns-in-End-3-clause-unasked : goal.returns-in-End-3-clause-unasked
returns-in-End-3-clause-unasked g c = λ fine.
    unasked_more g c.args.self.now c.loop-len.self c.gather.new.self (c.in-End-3.ensures.gave (λ failed. cc)) c.loop-len.invariant.unasked (c.in-End-3.ensures.unasked (λ failed. cc))
