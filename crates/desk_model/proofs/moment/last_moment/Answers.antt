use Rattle.std.proofs.Common.{unwrap_or, sym, ap, ◌∙◌}
use Rattle.std.specs.Option.{option_copied}
use Rattle.desk_model.proofs.MomentLemmas.{last_moment-is}
use Rattle.desk_model.proofs.moment.last_moment.Goals as goal

pub returns-in-Some : goal.returns-in-Some
returns-in-Some c =
    let last = sym c.last.ensures.value ∙ ap option_copied c.in-Some.is in
    c.moment.ensures ∙ ap (λ o. unwrap_or o c.args.opening.now.start) (sym (last_moment-is c.args.entries.now c.in-Some.entry.now last))
