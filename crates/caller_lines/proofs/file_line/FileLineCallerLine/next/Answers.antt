use Rattle.std.proofs.Common.{◌≡◌, sym, ap}
use Rattle.caller_lines.proofs.TakeLemmas.{HasLonger-told}
use Rattle.caller_lines.proofs.file_line.FileLineCallerLine.next.Goals as goal

pub returns-then-eq-clause-too_long : goal.returns-then-eq-clause-too_long
returns-then-eq-clause-too_long g c = λ has.
    let told = c.read_line-heard.ensures in
    let same : c.read_line-heard.new.self.errors ≡ c.self.inside.errors = sym (ap (λ s. s.errors) c.self.view_is) in
    rw same at (HasLonger-told _ _ _ _ _ _ has told.takes told.fault)

pub returns-else-eq-clause-too_long : goal.returns-else-eq-clause-too_long
returns-else-eq-clause-too_long g c = λ has.
    let told = c.read_line-heard.ensures in HasLonger-told _ _ _ _ _ _ has told.takes told.fault
