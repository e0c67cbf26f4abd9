use Rattle.std.proofs.Common.{◌≡◌, ℕ, Some, sym, ap, ◌∙◌}
use Rattle.desk_model.specs.histories.History.{with_entry, said}
use Rattle.desk_model.specs.histories.Register.{persons}
use Rattle.desk_model.proofs.LegalLemmas.{legal-with}
use Rattle.desk_register.specs.Among.{index_among}
use Rattle.desk_state.specs.Lists.{mover}
use Rattle.fast_core.proofs.KeepLemmas.{decliner-mover, persons-moved, set_up-few}
use Rattle.fast_core.proofs.kept_desk.KeptDesk.change.Goals as goal

pub returns-clause-tells : goal.returns-clause-tells
returns-clause-tells c h tells next =
    let e = c.args.entry.now in
    let person : (p : ℕ) → said mover e ≡ Some p → c.index_of.result ≡ index_among (persons h) p =
    λ p told. c.index_of.ensures h p tells (c.mover-mover.ensures ∙ told) in
    let people = c.keep.ensures h tells.legal next person tells.people in
    record {
      legal = legal-with h e tells.legal next;
      opening = tells.opening;
      last = c.moment-self.ensures ∙ sym (c.what_an_entry_makes_of_the_desk.ensures.moment h e);
      people = people;
      offers = c.keep-2.ensures h tells.legal next (λ p told. person p (decliner-mover e p told)) (λ b from. c.offered_board-offered.ensures h b tells from) tells.offers;
      lists = c.keep-3.ensures h tells.legal next (record {
        person = person;
        board = λ b told. c.named_board.ensures.named h b tells told;
        set_up = λ b told. c.named_board.ensures.set_up h b tells told (set_up-few h e b (c.what_is_done_rests_on.ensures.done h e next) told);
        ready = λ p told. c.ready_of-named.ensures (with_entry h e) p people (person p told ∙ sym (ap (λ ps. index_among ps p) (persons-moved h e p (c.what_an_entry_makes_of_the_desk.ensures.comes h e) told)));
      }) tells.lists;
      unfilled = c.change.ensures h tells.legal next tells.unfilled;
    }
