use Rattle.std.proofs.Common.{◌≡◌, length, arith}
use Rattle.fast_core.proofs.UnfilledLemmas.{just-found}
use Rattle.fast_core.proofs.unfilled.Unfilled.just_found.Goals as goal

pub returns : goal.returns
returns c h is =
    let many : c.len.result ≡ length c.args.self.now.touched.items = omega (arith, c.len.ensures) in
    just-found h c.args.vac c.args.moment c.len.result c.args.self.now.touched.items many is
