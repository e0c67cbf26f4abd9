use Rattle.fast_core.proofs.kept_desk.KeptDesk.copy.Goals as goal

pub returns-clause-tells : goal.returns-clause-tells
returns-clause-tells c h = (
  λ t. record {
    legal = t.legal;
    opening = t.opening;
    last = t.last;
    people = (c.in_ok-people.ensures h).0 t.people;
    offers = (c.in_ok-offers.ensures h).0 t.offers;
    lists = (c.in_ok-lists.ensures h).0 t.lists;
    unfilled = (c.in_ok-unfilled.ensures h).0 t.unfilled;
  },
  λ t. record {
    legal = t.legal;
    opening = t.opening;
    last = t.last;
    people = (c.in_ok-people.ensures h).1 t.people;
    offers = (c.in_ok-offers.ensures h).1 t.offers;
    lists = (c.in_ok-lists.ensures h).1 t.lists;
    unfilled = (c.in_ok-unfilled.ensures h).1 t.unfilled;
  },
)
