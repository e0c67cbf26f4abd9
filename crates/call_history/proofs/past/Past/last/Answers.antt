use Rattle.std.proofs.Common.{◌∙◌, ◌<◌, IfSome, List, ap, sym, subst}
use Rattle.desk_model.specs.statements.Entry.{EntryValue}
use Rattle.call_history.specs.declared.node.Node.{out-Node}
use Rattle.call_history.specs.Past.{all_of, IsLast}
use Rattle.call_history.proofs.PastLemmas.{last-is}
use Rattle.call_history.proofs.past.Past.last.Goals as goal

pub returns-in-Some-clause-some : goal.returns-in-Some-clause-some
returns-in-Some-clause-some c =
    let past = c.self.inside in
    let node = c.in-Some.node in
    let some = subst (λ last. IfSome last (λ it. 0 < past.count)) c.in-Some.is c.self.invariant.1 in
    subst (λ (es : List EntryValue). IsLast es (out-Node node).entry) (ap (all_of past.count) (sym c.in-Some.is) ∙ c.self.view_is) (last-is past.count node some)
