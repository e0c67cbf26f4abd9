use Rattle.std.proofs.Common.{◌≡◌, ◌∙◌, Some, length, ap, arith}
use Rattle.crewdesk_main.specs.declared.form.Form.TheVariants as form
use Rattle.crewdesk_main.specs.Words.{form_of, behind_guard}
use Rattle.crewdesk_main.proofs.FormLemmas.{form_of-count, form_of-keep, some-served}
use Rattle.crewdesk_main.proofs.start.start.Goals as goal

pub returns-in-Some-Serve-clause-ends : goal.returns-in-Some-Serve-clause-ends
returns-in-Some-Serve-clause-ends g c = λ given is.
    let read = c.read.ensures.is in
    let found = c.in-Some-Serve.is in
    let which = c.in-Some-Serve.field-0-is in
    let how = c.in-Some-Serve.sessions-is in
    let same : given ≡ form.Serve c.in-Some-Serve.sessions c.in-Some-Serve.field-0-1 = cc in
    let has : form_of c.args.words.now ≡ Some (form.Serve c.in-Some-Serve.sessions c.in-Some-Serve.field-0-1) = cc in
    let many : length c.behind_the_first.result.now ≡ c.in-Some-Serve.field-0-1 = ap length c.behind_the_first.ensures ∙ form_of-count c.args.words.now c.in-Some-Serve.sessions c.in-Some-Serve.field-0-1 has in
    rw (same) (rw (many) at c.serve_callers.ensures.ends)

pub returns-in-Some-Serve-clause-usage : goal.returns-in-Some-Serve-clause-usage
returns-in-Some-Serve-clause-usage g c =
    let read = c.read.ensures.is in
    let found = c.in-Some-Serve.is in
    let which = c.in-Some-Serve.field-0-is in
    let has : form_of c.args.words.now ≡ Some (form.Serve c.in-Some-Serve.sessions c.in-Some-Serve.field-0-1) = cc in
    let many : length c.behind_the_first.result.now ≡ c.in-Some-Serve.field-0-1 = ap length c.behind_the_first.ensures ∙ form_of-count c.args.words.now c.in-Some-Serve.sessions c.in-Some-Serve.field-0-1 has in (
      λ usage. absurd (some-served _ (rw (which) at c.in-Some-Serve.ensures.numbers) (rw (many) at (c.serve_callers.ensures.usage.0 usage))),
      λ none. absurd (cc),
    )

pub keep_callers-requires-clause-some : goal.keep_callers-requires-clause-some
keep_callers-requires-clause-some g c =
    let read = c.read.ensures.is in
    let found = c.in-Some-Keep.is in
    let which = c.in-Some-Keep.field-0-is in
    let has : form_of c.args.words.now ≡ Some (form.Keep c.in-Some-Keep.field-0-0 c.in-Some-Keep.guard) = cc in
    omega (
      arith,
      ap length (c.behind_the_guard-names.ensures ∙ ap (λ words. behind_guard c.in-Some-Keep.guard words) c.behind_the_first-in-Some-Keep.ensures),
      (form_of-keep c.args.words.now c.in-Some-Keep.field-0-0 c.in-Some-Keep.guard has).0,
    )

pub keep_callers-requires-clause-most : goal.keep_callers-requires-clause-most
keep_callers-requires-clause-most g c =
    let read = c.read.ensures.is in
    let found = c.in-Some-Keep.is in
    let which = c.in-Some-Keep.field-0-is in
    let has : form_of c.args.words.now ≡ Some (form.Keep c.in-Some-Keep.field-0-0 c.in-Some-Keep.guard) = cc in
    omega (
      arith,
      ap length (c.behind_the_guard-names.ensures ∙ ap (λ words. behind_guard c.in-Some-Keep.guard words) c.behind_the_first-in-Some-Keep.ensures),
      (form_of-keep c.args.words.now c.in-Some-Keep.field-0-0 c.in-Some-Keep.guard has).1,
    )

pub returns-in-Some-Keep-clause-ends : goal.returns-in-Some-Keep-clause-ends
returns-in-Some-Keep-clause-ends g c = λ given is.
    let read = c.read.ensures.is in
    let found = c.in-Some-Keep.is in
    let which = c.in-Some-Keep.field-0-is in
    let same : given ≡ form.Keep c.in-Some-Keep.field-0-0 c.in-Some-Keep.guard = cc in
    rw (same) c.keep_callers.ensures.form
