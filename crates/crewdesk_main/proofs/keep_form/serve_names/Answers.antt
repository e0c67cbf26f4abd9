use Rattle.std.proofs.Common.{◌≡◌, length, rules, arith}
use Rattle.std.specs.Vec.{vec_len}
use Rattle.crewdesk_main.proofs.keep_form.serve_names.Goals as goal

pub serve_kept-requires-clause-opened : goal.serve_kept-requires-clause-opened
serve_kept-requires-clause-opened g c κs within =
    let long : length c.loop-name.lines.items ≡ length c.args.names.now = search rules in
    let each : vec_len c.loop-name.lines ≡ length c.args.names.now = omega (arith, long) in
    rw (each) c.requires.opened
