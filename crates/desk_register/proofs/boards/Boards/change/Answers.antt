use Rattle.std.specs.Str.{bytes_eq}
use Rattle.indexmap.specs.IndexMap.{get, keys}
use Rattle.desk_register.proofs.BoardLemmas.{boards-keep}
use Rattle.desk_register.proofs.boards.Boards.change.Goals as goal

pub returns : goal.returns
returns c h e next is are =
    boards-keep h e c.args.cmd.now (get bytes_eq c.args.self.now.kept) (get bytes_eq c.set_up.new.self.kept) (keys c.args.self.now.kept) (keys c.set_up.new.self.kept)
    (c.what_an_entry_makes_of_the_desk.ensures.comes h e) next is are c.set_up.ensures.under c.set_up.ensures.keys
