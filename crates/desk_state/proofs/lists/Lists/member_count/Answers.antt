use Rattle.std.proofs.Common.{sym, ap, ◌∙◌, length}
use Rattle.std.proofs.lemmas.List.{length-map}
use Rattle.desk_state.specs.Words.{is_in}
use Rattle.desk_state.proofs.ReadLemmas.{members-are, is-kept}
use Rattle.desk_state.proofs.lists.Lists.member_count.Goals as goal

pub returns-in-Some : goal.returns-in-Some
returns-in-Some c h b keeps at =
    let found = c.in-Some.found.now in
    c.length.ensures.value ∙ sym (length-map found.members (λ s. s.person))
    ∙ ap length (members-are c.args.self.now.orders.boards.items (is_in c.args.self.now.listings.words.items) h b c.args.board found keeps.lists at c.in-Some.ensures)

pub returns-in-None : goal.returns-in-None
returns-in-None c h b keeps at =
    absurd (is-kept c.args.self.now.orders.boards.items (is_in c.args.self.now.listings.words.items) h b c.args.board keeps.lists at c.in-None.ensures)
