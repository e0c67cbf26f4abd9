-- In a legal history who is on a board is enrolled, and the board was set up; so is who is offered a vacancy.
use Rattle.std.proofs.Common.{◌≡◌, ℕ, ◌+◌, Bool, true, false, cond, ◌||◌, nat_eq, Option, None, Some, is_some, unwrap_or, List, [], ◌∷◌, refl, sym, ap, subst, ◌∙◌}
use Rattle.std.specs.Str.{bytes_eq}
use Rattle.std.specs.Option.{option_or}
use Rattle.std.specs.List.{All, list_any}
use Rattle.std.proofs.lemmas.Bool.{false≢true}
use Rattle.std.proofs.lemmas.List.Elements.{All-nil, All-cons, All-append}
use Rattle.std.proofs.lemmas.Slice.Eq.{bytes_eq-Decides}
use Rattle.desk_model.specs.declared.command.Cmd.{Cmd}
use Rattle.desk_model.specs.declared.command.Cmd.TheVariants as cmd
use Rattle.desk_model.specs.declared.reply.Reply.TheVariants as reply
use Rattle.desk_model.specs.declared.link.Link.{Link}
use Rattle.desk_model.specs.statements.Entry.{EntryValue}
use Rattle.desk_model.specs.histories.History.{History, with_entry, said, last_of}
use Rattle.desk_model.specs.histories.Register.{enrols, sets_up, person_of, board_of, vacancy_of}
use Rattle.desk_model.specs.boards.Boards.{puts, is_on, order, links, chain}
use Rattle.desk_model.specs.offers.Offers.{asks_for, open_offer}
use Rattle.desk_model.specs.offers.Bars.{is_free}
use Rattle.desk_model.specs.laws.RestsOn.{IsEnrolled, IsBoard, IsListed, RestsOn, MayOffer}
use Rattle.desk_model.specs.histories.Legal.{IsNext, IsLegal}
use Rattle.desk_model.proofs.SaidLemmas.{first_of-snoc, last_of-snoc, said-some}
use Rattle.desk_model.proofs.OrderLemmas.{same_number, nat_eq-same}
use Rattle.desk_model.proofs.LegalLemmas.{legal-induction}
use Rattle.desk_model.proofs.FoundLemmas.{find-passes}
use Rattle.desk_model.proofs.OfferedLemmas.{link_of, entry-offered}
use Rattle.desk_model.proofs.OfferedLemmas as offered
use Rattle.desk_model.proofs.OnBoardLemmas.{any-order}
use Rattle.desk_model.proofs.OpensLemmas.{free-idle, vacant-closed}
use Rattle.desk_model.proofs.RestsOnLemmas.{done-rests}

-- both are there
abbrev AreKnown : History → ℕ → List ℕ → Type 0
AreKnown h p b = IsEnrolled h p × IsBoard h b

-- a command that says whether a person is on a board, and that is done, names both
puts-known : (h : History) (c : Cmd) (b : List ℕ) (p : ℕ) (on : Bool) → puts b p c ≡ Some on → RestsOn h c → AreKnown h p b
puts-known h (cmd.List person board) b p on put rests = go (bytes_eq board b) (nat_eq person p) refl refl put
  where
    go : (here mine : Bool) → bytes_eq board b ≡ here → nat_eq person p ≡ mine → cond here (cond mine (Some true) None) None ≡ Some on → AreKnown h p b
    go false mine at is put = cc
    go true false at is put = cc
    go true true at is put = (subst (IsEnrolled h) (same_number person p is) rests.enrolled, subst (IsBoard h) ((bytes_eq-Decides board b).0 at) rests.board)
puts-known h (cmd.Unlist person board) b p on put rests = go (bytes_eq board b) (nat_eq person p) refl refl put
  where
    go : (here mine : Bool) → bytes_eq board b ≡ here → nat_eq person p ≡ mine → cond here (cond mine (Some false) None) None ≡ Some on → AreKnown h p b
    go false mine at is put = cc
    go true false at is put = cc
    go true true at is put = (subst (IsEnrolled h) (same_number person p is) rests.enrolled, subst (IsBoard h) ((bytes_eq-Decides board b).0 at) rests.board)
puts-known h other b p on put rests = cc

-- what was there stays so
pub still-there : {X : Type 0} (known new : Option X) → is_some known ≡ true → is_some (option_or known new) ≡ true
still-there None new was = absurd (false≢true was)
still-there (Some x) new was = refl

still-known : (h : History) (e : EntryValue) (p : ℕ) (b : List ℕ) → AreKnown h p b → AreKnown (with_entry h e) p b
still-known h e p b were = (
  ap is_some (first_of-snoc (said (enrols p)) h.entries e) ∙ still-there (person_of h p) (said (enrols p) e) were.0,
  ap is_some (first_of-snoc (said (sets_up b)) h.entries e) ∙ still-there (board_of h b) (said (sets_up b) e) were.1,
)

abbrev OnAreKnown : History → Type 0
OnAreKnown h = (p : ℕ) (b : List ℕ) → is_on h p b ≡ true → AreKnown h p b

grown : (h : History) (e : EntryValue) → IsLegal h → IsNext h e → OnAreKnown h → OnAreKnown (with_entry h e)
grown h e legal is was p b on =
    still-known h e p b (go (said (puts b p) e) refl (sym (ap (λ last. unwrap_or last false) (last_of-snoc (said (puts b p)) h.entries e)) ∙ on))
  where
    go : (put : Option Bool) → said (puts b p) e ≡ put → unwrap_or (option_or put (last_of (said (puts b p)) h.entries)) false ≡ true → AreKnown h p b
    go None told on = was p b on
    go (Some here) told on =
        let parts = said-some (puts b p) e here told in
        puts-known h e.stated.cmd b p here parts.1 (done-rests h e is parts.0)

pub on-listed : (h : History) → IsLegal h → (p : ℕ) (b : List ℕ) → is_on h p b ≡ true → IsListed h p b
on-listed h legal p b on =
    let known = legal-induction OnAreKnown (λ o valid q c on. absurd (false≢true on)) grown h legal p b on in
    record { enrolled = known.0; board = known.1; on = on }

-- so nobody is on one that wasn't set up
pub order-unknown : (h : History) → IsLegal h → (b : List ℕ) → board_of h b ≡ None → order h b ≡ []
order-unknown h legal b none = go (order h b) (λ p. any-order h b p)
  where
    go : (ps : List ℕ) → ((p : ℕ) → list_any (nat_eq p) ps ≡ is_on h p b) → ps ≡ []
    go [] those = refl
    go (p ∷ ps) those =
        let on : is_on h p b ≡ true = sym (those p) ∙ ap (λ same. same || list_any (nat_eq p) ps) (nat_eq-same p) in
        absurd (false≢true (sym (ap is_some none) ∙ (on-listed h legal p b on).board))

-- each of those in its order is on it
each-has : (Q : ℕ → Type 0) (ps : List ℕ) → ((p : ℕ) → list_any (nat_eq p) ps ≡ true → Q p) → All Q ps
each-has Q [] those = All-nil Q
each-has Q (p ∷ ps) those =
    All-cons Q p ps (those p (ap (λ same. same || list_any (nat_eq p) ps) (nat_eq-same p))) (each-has Q ps (λ q any. those q (behind q (nat_eq q p) any)))
  where
    behind : (q : ℕ) (same : Bool) → list_any (nat_eq q) ps ≡ true → (same || list_any (nat_eq q) ps) ≡ true
    behind q true any = refl
    behind q false any = any

pub order-listed : (h : History) → IsLegal h → (b : List ℕ) → All (λ p. IsListed h p b) (order h b)
order-listed h legal b = each-has (λ p. IsListed h p b) (order h b) (λ p any. on-listed h legal p b (sym (any-order h b p) ∙ any))

-- ---- offers

-- what each place of a board has where somebody stands on it, each place of a chain has
links-keep : (Q : Link → Type 0) (b : List ℕ) (k : ℕ) (ps : List ℕ) → ((i p : ℕ) → list_any (nat_eq p) ps ≡ true → Q (link_of b i p)) → All Q (links b k ps)
links-keep Q b k [] each = All-nil Q
links-keep Q b k (p ∷ ps) each =
    All-cons Q (link_of b k p) (links b (k + 1) ps) (each k p (ap (λ same. same || list_any (nat_eq p) ps) (nat_eq-same p)))
    (links-keep Q b (k + 1) ps (λ i q any. each i q (behind q (nat_eq q p) any)))
  where
    behind : (q : ℕ) (same : Bool) → list_any (nat_eq q) ps ≡ true → (same || list_any (nat_eq q) ps) ≡ true
    behind q true any = refl
    behind q false any = any

pub chain-keeps : (Q : Link → Type 0) (h : History) (codes : List (List ℕ)) → ((b : List ℕ) (i p : ℕ) → is_on h p b ≡ true → Q (link_of b i p)) → All Q (chain h codes)
chain-keeps Q h [] each = All-nil Q
chain-keeps Q h (b ∷ codes) each =
    All-append Q (links b 1 (order h b)) (chain h codes) (links-keep Q b 1 (order h b) (λ i p any. each b i p (sym (any-order h b p) ∙ any))) (chain-keeps Q h codes each)

abbrev Stands : History → Link → Type 0
Stands h link = is_on h link.person link.board ≡ true

pub offered-rests : (h : History) (e : EntryValue) (v p k : ℕ) (b : List ℕ) → IsLegal h → IsNext h e → asks_for e.stated.cmd ≡ Some v → e.reply ≡ reply.Offered p b k → MayOffer h v p b
offered-rests h e v p k b legal is asks told =
    let offer = entry-offered h e p k b is told in
    let same : offer.0 ≡ v = some (sym offer.1.0 ∙ asks) in
    let was = offer.1.1 in
    let free = offered.find-passes (λ (l : Link). is_free h e.moment was.job l.person) (chain h was.job.chain) (link_of b k p) was.first in
    record {
      made = ap is_some (subst (λ w. vacancy_of h w ≡ Some was.job) same was.made);
      closed = subst (λ w. open_offer h w ≡ None) same (vacant-closed h offer.0 was.vacant);
      free = (free-idle h e.moment was.job p free).1;
      listed = on-listed h legal p b (find-passes (λ (l : Link). is_free h e.moment was.job l.person) (Stands h) (chain h was.job.chain) (chain-keeps (Stands h) h was.job.chain (λ c i q on. on)) (link_of b k p) was.first);
    }
  where
    some : {x y : ℕ} → Some x ≡ Some y → x ≡ y
    some is = cc
