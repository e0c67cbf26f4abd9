use Rattle.rest_rules.proofs.rest.was_off.Goals as goal

pub returns : goal.returns
returns c =
    let found = c.longest_off.ensures c.args.many c.requires.some in
    rw (c.number.ensures.value, c.last_end.ensures, c.number-2.ensures.value) at found
