use Rattle.std.proofs.Common.{refl, sym, ◌∙◌}
use Rattle.desk_model.specs.histories.History.{with_entry}
use Rattle.desk_model.proofs.LegalLemmas.{legal-with}
use Rattle.fast_core.proofs.StayLemmas.{people-stay, offers-stay, lists-stay}
use Rattle.fast_core.proofs.kept_desk.KeptDesk.stay.Goals as goal

pub returns-clause-tells : goal.returns-clause-tells
returns-clause-tells c h tells next refused =
    let e = c.args.entry.now in
    let later = with_entry h e in
    let same = c.a_refusal_changes_nothing.ensures h e refused in
    record {
      legal = legal-with h e tells.legal next;
      opening = tells.opening;
      last = c.moment-self.ensures ∙ sym (c.what_an_entry_makes_of_the_desk.ensures.moment h e);
      people = people-stay h later refl same c.args.self.now.people tells.people;
      offers = offers-stay h later refl same c.args.self.now.offers tells.offers;
      lists = lists-stay h later refl same c.args.self.now.lists tells.lists;
      unfilled = c.keep.ensures h tells.legal next refused tells.unfilled;
    }
