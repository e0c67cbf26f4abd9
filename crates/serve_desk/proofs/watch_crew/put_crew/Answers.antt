use Rattle.std.proofs.Common.{sym, ◌∙◌}
use Rattle.serve_desk.proofs.PutLemmas.{PutsAllOn-one, PutsAllOn-stops, PutsAllOn-then, none-of}
use Rattle.serve_desk.proofs.watch_crew.put_crew.Goals as goal

pub returns-then-is_some-clause-not_shown : goal.returns-then-is_some-clause-not_shown
returns-then-is_some-clause-not_shown g c some = PutsAllOn-stops _ _ _ _ _ (sym c.is_some.ensures ∙ c.if-is_some.true) c.put_outcome-ends.ensures.puts

pub returns-clause-not_shown : goal.returns-clause-not_shown
returns-clause-not_shown g c some =
    PutsAllOn-then _ _ _ _ _ _ _ (none-of _ (sym c.is_some.ensures ∙ c.if-is_some.false)) c.put_outcome-ends.ensures.puts
    (PutsAllOn-one _ _ _ _ (rw (c.as_slice.ensures.value, c.write_behind.ensures) at c.put_on.ensures.puts))
