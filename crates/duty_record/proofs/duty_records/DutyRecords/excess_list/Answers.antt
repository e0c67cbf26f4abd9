use Rattle.std.proofs.Common.{sym, ◌∙◌, ap}
use Rattle.std.specs.List.{flat_map}
use Rattle.std.proofs.lemmas.Result.{IfOk-weaker}
use Rattle.duty_record.specs.Tours.{excess_of}
use Rattle.duty_record.proofs.ExcessLemmas.{excess-listed}
use Rattle.duty_record.proofs.duty_records.DutyRecords.excess_list.Goals as goal

pub returns : goal.returns
returns c h keeps =
    IfOk-weaker c.excess_of.result _ _ (λ list is. is ∙ ap (flat_map (excess_of h)) c.deref.ensures.value ∙ sym (excess-listed c.args.self.now.book h _ keeps.tours c.in_ok-persons.ensures)) (c.excess_of.ensures h keeps)
