use Rattle.std.proofs.Common.{◌∙◌, map}
use Rattle.command_parser.specs.Spelled.{StatesCommand}
use Rattle.desk_text.proofs.LineLemmas.{stated_inner}
use Rattle.desk_text.proofs.SpelledEntryLemmas.{text-of-fields, fields-of-text, few_stated}
use Rattle.desk_text.proofs.spelled_entry.put_stated_text.Goals as goal

pub returns-clause-some : goal.returns-clause-some
returns-clause-some c = λ read.
    let fields = c.as_slice.ensures ∙ c.fill_with_line.ensures in
    let stated = c.put_stated.ensures.some read in
    record { valid = stated.valid; text_is = text-of-fields _ _ _ fields stated.fields_are (few_stated c.put_stated.new.stated) }

pub returns-clause-only : goal.returns-clause-only
returns-clause-only c = λ s spells.
    let fields = c.as_slice.ensures ∙ c.fill_with_line.ensures in
    let states : StatesCommand (map (λ field. field.now) c.as_slice.result.now) s =
    record { valid = spells.valid; fields_are = fields-of-text _ _ _ _ (stated_inner s spells.valid) fields spells.text_is (few_stated s) } in
    let read = c.put_stated.ensures.only s states in
    (read, c.a_record_states_one_command.ensures _ _ _ (c.put_stated.ensures.some read) states)
