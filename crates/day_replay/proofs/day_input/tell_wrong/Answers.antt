use Rattle.std.proofs.Common.{◌∙◌, inl, inr}
use Rattle.std.proofs.lemmas.Bool.{cases_Bool}
use Rattle.day_replay.proofs.day_input.tell_wrong.Goals as goal

pub returns-clause-written : goal.returns-clause-written
returns-clause-written g c =
    let put = c.put_all-whole.ensures in
    let text = c.as_slice.ensures.value ∙ c.write_wrong.ensures in
    elim (cases_Bool c.put_all-whole.result) [
      | inl whole ↦ inl (rw text at (rw whole at put.all), rw whole at put.no_fault)
      | inr front ↦ inr (rw text at (rw front at put.front), rw front at put.cause)
    ]
