use Rattle.std.proofs.Common.{◌∙◌, arith, ap, sym, Some}
use Rattle.command_parser.proofs.SpelledLemmas.{field_at, same, enrolment}
use Rattle.command_parser.proofs.spelled_person.read_enrol.Goals as goal

pub returns-in_err-read-3-clause-only : goal.returns-in_err-read-3-clause-only
returns-in_err-read-3-clause-only c = λ cmd spells.
    let e = enrolment _ cmd spells in
    let none = c.in_err-read-3.ensures.only e.quals e.quals_in (field_at _ _ 3 _ e.fields_are (omega (arith, c.in-len4.len_at_least))) in cc

pub returns-clause-only : goal.returns-clause-only
returns-clause-only c = λ cmd spells.
    let e = enrolment _ cmd spells in
    let person = same _ _ (c.in_ok-read_person.ensures.only e.person e.person_in (field_at _ _ 0 _ e.fields_are (omega (arith, c.in-len4.len_at_least)))) in
    let craft = same _ _ (c.in_ok-read.ensures.only e.craft (field_at _ _ 1 _ e.fields_are (omega (arith, c.in-len4.len_at_least)))) in
    let home = c.in_ok-read-2.ensures.1 ∙ field_at _ _ 2 _ e.fields_are (omega (arith, c.in-len4.len_at_least)) in
    let quals = same _ _ (c.in_ok-read-3.ensures.only e.quals e.quals_in (field_at _ _ 3 _ e.fields_are (omega (arith, c.in-len4.len_at_least)))) in
    rw (person, craft, home, quals) (ap Some (sym e.is))
