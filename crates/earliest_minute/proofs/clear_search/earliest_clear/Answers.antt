use Rattle.std.proofs.Common.{◌≡◌, ◌≤◌, ℕ, false, nat_lt, Option, None, Some, sym, ap, ◌∙◌, arith}
use Rattle.std.proofs.lemmas.Bool.Decides.{nat_tests}
use Rattle.std.proofs.lemmas.Map.Keys.{ge_from_not_lt}
use Rattle.denial_rules.specs.declared.bar.Bar.{Bar}
use Rattle.desk_model.specs.declared.link.Link.{Link}
use Rattle.desk_model.specs.declared.person.Person.{Person}
use Rattle.desk_model.specs.histories.History.{History}
use Rattle.desk_model.specs.statements.Job.{JobValue}
use Rattle.desk_model.specs.histories.Register.{person_of, vacancy_of}
use Rattle.desk_model.specs.boards.Boards.{chain}
use Rattle.desk_model.specs.offers.Bars.{bar_of}
use Rattle.desk_model.specs.histories.Legal.{last_moment}
use Rattle.desk_model.specs.answers.ExplainAnswer.{position_in, position_answer, clear_answer}
use Rattle.earliest_minute.specs.declared.earliest.Earliest.{Earliest}
use Rattle.earliest_minute.specs.When.{IsTimeOrBar, IsToldBy, IsWhen}
use Rattle.earliest_minute.proofs.clear_search.earliest_clear.Goals as goal

time_or_bar-is-told : (h : History) (v p : ℕ) (told : Earliest) (job : JobValue) (person : Person) (link : Link) → vacancy_of h v ≡ Some job → person_of h p ≡ Some person
    → last_moment h ≤ job.report → position_in (chain h job.chain) p ≡ Some link → IsTimeOrBar h job p person told → IsWhen h v p told
time_or_bar-is-told h v p told job person link made enrolled early place time_or_bar =
    let not_past : nat_lt job.report (last_moment h) ≡ false = grind (arith, nat_tests, early) in rw (made, enrolled, not_past, place) (go (bar_of h (last_moment h) job p person))
  where
    go : (bar : Option Bar) → IsToldBy h v p (position_answer bar clear_answer (Some link)) told
    go None = record { job = job; person = person; made = made; enrolled = enrolled; time_or_bar = time_or_bar }
    go (Some bar) = record { job = job; person = person; made = made; enrolled = enrolled; time_or_bar = time_or_bar }

pub returns-in-Some-position_in-clause-answer : goal.returns-in-Some-position_in-clause-answer
returns-in-Some-position_in-clause-answer g c h tells =
    let job = c.in-Some.job in
    let made = sym (c.vacancy.ensures h tells) ∙ c.in-Some.is in
    let enrolled = sym (c.person.ensures h tells) ∙ c.in-Some-person.is in
    let last = c.last_moment-last.ensures h tells in
    let report = c.report.ensures.value in
    let early : c.last_moment-last.result ≤ c.report.result = ge_from_not_lt c.report.result c.last_moment-last.result (sym c.lt.ensures ∙ c.if-lt.false) in
    let place = ap (λ boards. position_in (chain h boards) c.args.number) (sym c.chain.ensures) ∙ sym (c.position_in.ensures.answer h tells) ∙ c.in-Some-position_in.is in
    time_or_bar-is-told h c.args.vac c.args.number c.time_or_bar.result job c.in-Some-person.person c.in-Some-position_in.field-0 made enrolled (omega (arith, last, report, early)) place
    (c.time_or_bar.ensures.answer h tells c.args.vac made enrolled last (omega (arith, report, early)))
