-- What sessions came to, by what is found of the journal behind them.
use Rattle.std.proofs.Common.{Bool, ℕ, List, take}
use Rattle.std.specs.declared.option.Option.{Option}
use Rattle.desk_model.specs.statements.Entry.{EntryValue}
use Rattle.desk_model.specs.statements.Opening.{OpeningValue}
use Rattle.desk_shared.specs.Kept.{AreKept}
use Rattle.serve_desk.specs.AllLines.{AreAllServed}
use Rattle.serve_desk.specs.Told.{LineValue}
use Rattle.serve_desk.specs.WatchLines.{watched_with}

-- what was kept of the first entries is, so the same sessions were served
pub served-still : (always : Bool) (was found : Option (List ℕ)) (left : ℕ) (o : OpeningValue) (made_with : ℕ) (before all : List EntryValue) (lines later : List LineValue)
    → ((m : ℕ) → AreKept was o (take m all) → AreKept found o (take m all)) → AreAllServed (watched_with always was left o made_with all) before all lines later
    → AreAllServed (watched_with always found left o made_with all) before all lines later
served-still always was found left o made_with before all lines later still served = record {
  more = served.more;
  begins = served.begins;
  callers = served.callers;
  count = served.count;
  each = λ i line within. let one = served.each i line within in record {
    calls = one.calls;
    acts = one.acts;
    why = one.why;
    put = one.put;
    session = one.session;
    told = one.told;
    seen = one.seen;
    sees = one.sees;
    sure = one.sure;
    are_kept = still one.sure one.are_kept;
    are_sure = one.are_sure;
    fault = one.fault;
    no_fault = one.no_fault;
    faults = one.faults;
    kept = one.kept;
  };
}
