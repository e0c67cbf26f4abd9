-- The members of a board, an entry at a time.
use Rattle.std.proofs.Common.{◌≡◌, ℕ, ◌+◌, ◌<◌, Option, Some, Bool, true, false, cond, List, [], ◌∷◌, length, drop, get_or, refl, sym, ap, ◌∙◌}
use Rattle.std.specs.List.{find}
use Rattle.std.proofs.lemmas.List.{at_drop_more}
use Rattle.desk_model.specs.declared.link.Link.{Link}
use Rattle.desk_model.specs.statements.Opening.{OpeningValue}
use Rattle.desk_model.specs.statements.Entry.{EntryValue}
use Rattle.desk_model.specs.histories.History.{History, opened, with_entry, steps, said}
use Rattle.desk_model.specs.boards.Boards.{sends, order, links}
use Rattle.desk_model.specs.laws.Comes.{order_by}
use Rattle.desk_model.proofs.MovedLemmas.{order-comes}

-- the order after an entry, by whom it sends to the bottom
pub followed : (h : History) (e : EntryValue) (b : List ℕ) (sent : Option ℕ) (was now : List ℕ) → said (sends b h) e ≡ sent → was ≡ order h b → now ≡ order_by e b sent was
    → now ≡ order (with_entry h e) b
followed h e b sent was now sends-is before is =
    is ∙ ap (order_by e b sent) before ∙ ap (λ who. order_by e b who (order h b)) (sym sends-is) ∙ sym (order-comes h e b)

pub order-opened : (o : OpeningValue) (b : List ℕ) → order (opened o) b ≡ []
unfolding steps
order-opened o b = refl

-- ---- links of the members from a position on

abbrev pub link_of : List ℕ → ℕ → ℕ → Link
link_of b k p = record { board = b; position = k; person = p }

find-links : (free : Link → Bool) (b : List ℕ) (k : ℕ) (ps : List ℕ) (i p : ℕ) → i < length ps → p ≡ get_or ps i p
    → find free (links b k (drop i ps)) ≡ cond (free (link_of b k p)) (Some (link_of b k p)) (find free (links b (k + 1) (drop (i + 1) ps)))
find-links free b k ps i p within is =
    at_drop_more (λ xs. find free (links b k xs)) ps i p within ∙ ap (λ x. find free (links b k (x ∷ drop (i + 1) ps))) (sym is)

pub find-links-here : (free : Link → Bool) (b : List ℕ) (k : ℕ) (ps : List ℕ) (i p : ℕ) → i < length ps → p ≡ get_or ps i p → free (link_of b k p) ≡ true
    → find free (links b k (drop i ps)) ≡ Some (link_of b k p)
find-links-here free b k ps i p within is passes =
    find-links free b k ps i p within is ∙ ap (λ t. cond t (Some (link_of b k p)) (find free (links b (k + 1) (drop (i + 1) ps)))) passes

pub find-links-past : (free : Link → Bool) (b : List ℕ) (k : ℕ) (ps : List ℕ) (i p : ℕ) → i < length ps → p ≡ get_or ps i p → free (link_of b k p) ≡ false
    → find free (links b k (drop i ps)) ≡ find free (links b (k + 1) (drop (i + 1) ps))
find-links-past free b k ps i p within is fails =
    find-links free b k ps i p within is ∙ ap (λ t. cond t (Some (link_of b k p)) (find free (links b (k + 1) (drop (i + 1) ps)))) fails
