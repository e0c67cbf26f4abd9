use Rattle.std.proofs.lemmas.List.Elements.{All-set, All-push, All-same}
use Rattle.fast_core.specs.Unfilled.{IsFound}
use Rattle.fast_core.proofs.unfilled.Unfilled.add.Goals as goal

pub returns-then-is_at : goal.returns-then-is_at
returns-then-is_at c h was is = record { each = All-set (IsFound h c.args.self.now.touched.items) c.args.self.now.found.items c.of-index.result _ (c.just_found-found.ensures h is) was.each }

pub returns : goal.returns
returns c h was is = record {
  each = All-same (IsFound h c.make_room.new.self.touched.items) _ _ c.push_reserved.ensures.items
      (All-push (IsFound h c.make_room.new.self.touched.items) c.make_room.new.self.found.items _ (c.make_room.ensures.keeps h (record { each = was.each })).each (c.just_found-found-2.ensures h is));
}
