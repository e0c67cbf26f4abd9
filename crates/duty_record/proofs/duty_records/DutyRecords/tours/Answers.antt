use Rattle.std.proofs.Common.{◌≡◌, Some, None, nat_eq, rules, subst, sym, ap, ◌∙◌, map}
use Rattle.indexmap.specs.IndexMap.{get}
use Rattle.desk_model.specs.histories.Register.{vacancy_of}
use Rattle.duty_record.specs.Deeds.{deeds}
use Rattle.duty_record.specs.EndedTours.{ended_tours}
use Rattle.duty_record.specs.Tours.{tours}
use Rattle.duty_record.specs.Kept.{IsUnder, marked_record}
use Rattle.duty_record.proofs.TourLemmas.{ended_tours-none}
use Rattle.duty_record.proofs.duty_records.DutyRecords.tours.Goals as goal

pub returns-in-Some : goal.returns-in-Some
unfolding tours
returns-in-Some c h keeps =
    let p = c.args.person in
    let found : get nat_eq c.args.self.now.book.people p ≡ Some c.in-Some.kept.now = search rules in
    c.records.ensures (deeds h p) (vacancy_of h) (subst (λ o. IsUnder o (deeds h p)) found (keeps.tours.each p)) keeps.relief

pub returns-in-None : goal.returns-in-None
unfolding tours
returns-in-None c h keeps =
    let p = c.args.person in
    let absent : get nat_eq c.args.self.now.book.people p ≡ None = search rules in
    let nothing = subst (λ o. IsUnder o (deeds h p)) absent (keeps.tours.each p) in
    c.new.ensures.items ∙ sym (ap (map (marked_record p (vacancy_of h))) (ap ended_tours nothing ∙ ended_tours-none))
