use Rattle.std.proofs.Common.{◌≡◌, ◌≤◌, ℕ, None, Some, sym, subst, ◌∙◌, arith}
use Rattle.denial_rules.specs.declared.bar.Bar.{Bar}
use Rattle.desk_model.specs.declared.person.Person.{Person}
use Rattle.desk_model.specs.histories.History.{History}
use Rattle.desk_model.specs.statements.Job.{JobValue}
use Rattle.desk_model.specs.histories.Register.{vacancy_of}
use Rattle.desk_model.specs.offers.Bars.{bar_of}
use Rattle.desk_model.specs.histories.Legal.{last_moment, IsLegal}
use Rattle.desk_answers.specs.Asked.{IsAsked}
use Rattle.earliest_minute.specs.Least.{StaysGone, IsLeast, IsBarredThroughout}
use Rattle.earliest_minute.proofs.clear_search.time_or_bar.Goals as goal

barred-throughout : StaysGone → (h : History) (job : JobValue) (p : ℕ) (person : Person) (bar : Bar) → IsLegal h → bar_of h job.report job p person ≡ Some bar
    → IsBarredThroughout h job p person bar
barred-throughout stays h job p person bar legal at = record {
  each = λ m late early none. let gone = stays h job p person m job.report legal late early none in cc;
  report = at;
}

clear-at-once : (h : History) (job : JobValue) (p : ℕ) (person : Person) (last : ℕ) → last ≡ last_moment h → last ≤ job.report → bar_of h last job p person ≡ None
    → IsLeast h job p person last
clear-at-once h job p person last is early none = record { from = omega (arith, is); to = early; clear = none; before = λ m late below gone. absurd (omega (arith, is, late, below)) }

asked-at : (h : History) (m v : ℕ) (job : JobValue) → vacancy_of h v ≡ Some job → last_moment h ≤ m → m ≤ job.report → IsAsked h m job
asked-at h m v job made late early = record { made = (v, made); from = late; to = early }

pub returns-in-Some-clause-answer : goal.returns-in-Some-clause-answer
returns-in-Some-clause-answer g c h tells v made enrolled last early =
    let report = c.report-report.ensures.value in
    let bar = c.bar.ensures.answer h tells (asked-at h _ v c.args.job.now made (omega (arith, report, last, early)) (omega (arith, report))) enrolled in
    barred-throughout c.a_bar_that_is_gone_stays_gone.ensures h c.args.job.now c.args.number c.args.person.now c.in-Some.bar (g.R.Reads.legal c.args.reads.now h tells)
    (subst (λ m. bar_of h m c.args.job.now c.args.number c.args.person.now ≡ Some c.in-Some.bar) report (sym bar ∙ c.in-Some.is))

pub returns-in-None-clause-answer : goal.returns-in-None-clause-answer
returns-in-None-clause-answer g c h tells v made enrolled last early =
    let bar = c.bar-2.ensures.answer h tells (asked-at h _ v c.args.job.now made (omega (arith, last)) early) enrolled in
    clear-at-once h c.args.job.now c.args.number c.args.person.now c.args.last last early (sym bar ∙ c.in-None.is)

pub returns-in-Some-bar-clause-answer : goal.returns-in-Some-bar-clause-answer
returns-in-Some-bar-clause-answer g c h tells v made enrolled last early =
    let report = c.report-report.ensures.value in
    let at_report = asked-at h _ v c.args.job.now made (omega (arith, report, last, early)) (omega (arith, report)) in
    let at_last = asked-at h c.args.last v c.args.job.now made (omega (arith, last)) early in
    c.least.ensures.answer h tells (record {
      barred_asked = at_last;
      clear_asked = at_report;
      enrolled = enrolled;
      bars = λ none. let bar = c.bar-2.ensures.answer h tells at_last enrolled in let held = c.in-Some-bar.is in cc;
      gone = sym (c.bar.ensures.answer h tells at_report enrolled) ∙ c.in_default.is;
    }) last
