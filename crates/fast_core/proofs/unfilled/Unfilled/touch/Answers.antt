use Rattle.std.proofs.Common.{sym, subst}
use Rattle.std.specs.List.{All}
use Rattle.fast_core.specs.Unfilled.{IsFound}
use Rattle.fast_core.proofs.UnfilledLemmas.{touched-more}
use Rattle.fast_core.proofs.unfilled.Unfilled.touch.Goals as goal

pub returns-then-len-lt-TOUCHED : goal.returns-then-len-lt-TOUCHED
returns-then-len-lt-TOUCHED c h later same was = record {
  each = subst (λ t. All (IsFound later t) c.args.self.now.found.items) (sym c.push_reserved.ensures.items)
      (touched-more c.args.person h later c.args.self.now.touched.items c.args.self.now.found.items same was.each);
}

pub returns-else-len-lt-TOUCHED : goal.returns-else-len-lt-TOUCHED
returns-else-len-lt-TOUCHED c h later same was = c.forget.ensures.all later
