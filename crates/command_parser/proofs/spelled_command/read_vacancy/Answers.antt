use Rattle.std.proofs.Common.{◌≡◌, ◌∙◌, ◌+◌, ◌<◌, ◌≤◌, ◌^◌, refl, ap, sym, subst, arith, rules, length, ℕ, List, [], Bor, Some, None}
use Rattle.desk_model.specs.declared.command.Cmd.TheVariants as cmd
use Rattle.desk_base.specs.Code.{IsCode}
use Rattle.desk_model.specs.statements.Job.{job_of, IsPlan}
use Rattle.command_parser.proofs.SpelledLemmas.{SpellsJob, field_at, same, vacancy, vacancy-spelled, job-of}
use Rattle.command_parser.proofs.spelled_command.read_vacancy.Goals as goal

-- a field that was not read is not one that would have been
no_field : {T : Type 0} (x : T) → None ≡ Some x → ⊥
no_field x none = cc

-- of eight fields, the places that there are
stands : (n i rest : ℕ) → 8 ≤ n → i + rest ≡ 7 → i < n
stands n i rest eight is = omega arith

eight : (n : ℕ) → 8 ≤ n → n < 9 → n ≡ 8
eight n least below = omega arith

duty_fits : (n : ℕ) → n ≤ 9_999 → n < 2 ^ 16
duty_fits n most = omega arith

limbo_fits : (n : ℕ) → n ≤ 999 → n < 2 ^ 16
limbo_fits n most = omega arith

pub returns-in_err-read_beside-clause-only : goal.returns-in_err-read_beside-clause-only
returns-in_err-read_beside-clause-only c = λ command spells.
    let v = vacancy _ _ command spells in
    let none = c.in_err-read_beside.ensures.only v.job.report v.job_in.plan.report_in (field_at _ _ 4 _ v.fields_are (stands _ 4 3 c.in-len8.len_at_least refl)) in absurd (no_field _ none)

pub returns-in_err-read_count-clause-only : goal.returns-in_err-read_count-clause-only
returns-in_err-read_count-clause-only c = λ command spells.
    let v = vacancy _ _ command spells in
    let none = c.in_err-read_count.ensures.only v.job.duty (duty_fits _ v.job_in.plan.most) (field_at _ _ 5 _ v.fields_are (stands _ 5 2 c.in-len8.len_at_least refl)) in absurd (no_field _ none)

pub returns-in_err-read_count-2-clause-only : goal.returns-in_err-read_count-2-clause-only
returns-in_err-read_count-2-clause-only c = λ command spells.
    let v = vacancy _ _ command spells in
    let none = c.in_err-read_count-2.ensures.only v.job.limbo (limbo_fits _ v.job_in.plan.limbo_most) (field_at _ _ 6 _ v.fields_are (stands _ 6 1 c.in-len8.len_at_least refl)) in absurd (no_field _ none)

pub returns-in_err-read-4-clause-only : goal.returns-in_err-read-4-clause-only
returns-in_err-read-4-clause-only c = λ command spells.
    let v = vacancy _ _ command spells in
    let none = c.in_err-read-4.ensures.only v.job.chain v.job_in.chain (field_at _ _ 7 _ v.fields_are (stands _ 7 0 c.in-len8.len_at_least refl)) in absurd (no_field _ none)

pub returns-in_err-job-clause-only : goal.returns-in_err-job-clause-only
returns-in_err-job-clause-only c = λ command spells.
    let v = vacancy _ _ command spells in
    let report = same _ _ (c.in_ok-read_beside.ensures.only v.job.report v.job_in.plan.report_in (field_at _ _ 4 _ v.fields_are (stands _ 4 3 c.in-len8.len_at_least refl))) in
    let duty = same _ _ (c.in_ok-read_count.ensures.only v.job.duty (duty_fits _ v.job_in.plan.most) (field_at _ _ 5 _ v.fields_are (stands _ 5 2 c.in-len8.len_at_least refl))) in
    let limbo = same _ _ (c.in_ok-read_count-2.ensures.only v.job.limbo (limbo_fits _ v.job_in.plan.limbo_most) (field_at _ _ 6 _ v.fields_are (stands _ 6 1 c.in-len8.len_at_least refl))) in
    let plan : IsPlan c.in_ok-read_beside.field-0 c.in_ok-read_count.field-0 c.in_ok-read_count-2.field-0 = rw (report, duty, limbo) v.job_in.plan in
    absurd (c.in_err-job.ensures plan)

pub returns-clause-some : goal.returns-clause-some
returns-clause-some c =
    let quals : c.in_ok-read-2.field-0 < 2 ^ 64 = search rules in
    let len : length c.args.about.now ≡ 8 = eight _ c.in-len8.len_at_least c.in-len8.len_below in
    let d : Bor (List ℕ) = record { ref_ptr = (0, 0); now = [] } in
    let spells : SpellsJob c.args.about.now d (job_of c.in_ok-read_vac.field-0 c.in_ok-read.field-0 c.in_ok-read-2.field-0 c.in_ok-read-3.field-0 c.in_ok-read_beside.field-0 c.in_ok-read_count.field-0 c.in_ok-read_count-2.field-0 c.in_ok-read-4.field-0 c.args.relief) = record {
      valid = record { vac = c.in_ok-read_vac.ensures.some.0; quals = quals; place = subst IsCode (sym c.in_ok-read-3.ensures.1) c.in_ok-read-3.ensures.0; plan = c.in_ok-job.ensures.0; chain = c.in_ok-read-4.ensures.some.0 };
      vac_is = c.in_ok-read_vac.ensures.some.1;
      craft_is = c.in_ok-read.ensures.some;
      quals_is = c.in_ok-read-2.ensures.some;
      place_is = sym c.in_ok-read-3.ensures.1;
      report_is = c.in_ok-read_beside.ensures.some.1;
      duty_is = c.in_ok-read_count.ensures.some;
      limbo_is = c.in_ok-read_count-2.ensures.some;
      chain_is = c.in_ok-read-4.ensures.some.1;
    } in
    vacancy-spelled c.args.relief c.args.about.now d c.in_ok-job.job len (ap (λ job. job.relief) (sym c.in_ok-job.ensures.1)) (subst (SpellsJob c.args.about.now d) (sym c.in_ok-job.ensures.1) spells)

pub returns-clause-only : goal.returns-clause-only
returns-clause-only c = λ command spells.
    let v = vacancy _ _ command spells in
    let vac = same _ _ (c.in_ok-read_vac.ensures.only v.job.vac v.job_in.vac (field_at _ _ 0 _ v.fields_are (stands _ 0 7 c.in-len8.len_at_least refl))) in
    let craft = same _ _ (c.in_ok-read.ensures.only v.job.craft (field_at _ _ 1 _ v.fields_are (stands _ 1 6 c.in-len8.len_at_least refl))) in
    let quals = same _ _ (c.in_ok-read-2.ensures.only v.job.quals v.job_in.quals (field_at _ _ 2 _ v.fields_are (stands _ 2 5 c.in-len8.len_at_least refl))) in
    let place = c.in_ok-read-3.ensures.1 ∙ field_at _ _ 3 _ v.fields_are (stands _ 3 4 c.in-len8.len_at_least refl) in
    let report = same _ _ (c.in_ok-read_beside.ensures.only v.job.report v.job_in.plan.report_in (field_at _ _ 4 _ v.fields_are (stands _ 4 3 c.in-len8.len_at_least refl))) in
    let duty = same _ _ (c.in_ok-read_count.ensures.only v.job.duty (duty_fits _ v.job_in.plan.most) (field_at _ _ 5 _ v.fields_are (stands _ 5 2 c.in-len8.len_at_least refl))) in
    let limbo = same _ _ (c.in_ok-read_count-2.ensures.only v.job.limbo (limbo_fits _ v.job_in.plan.limbo_most) (field_at _ _ 6 _ v.fields_are (stands _ 6 1 c.in-len8.len_at_least refl))) in
    let chain = same _ _ (c.in_ok-read-4.ensures.only v.job.chain v.job_in.chain (field_at _ _ 7 _ v.fields_are (stands _ 7 0 c.in-len8.len_at_least refl))) in
    ap (λ job. Some (cmd.Vacancy job)) (c.in_ok-job.ensures.1 ∙ job-of v.job _ _ _ _ _ _ _ _ _ vac craft quals place report duty limbo chain v.relief_is) ∙ ap Some (sym v.is)
