-- What an entry tells that finds a vacancy unfilled.
use Rattle.std.proofs.Common.{◌≡◌, ◌≤◌, ◌+◌, ℕ, Bool, true, false, cond, ◌||◌, nat_eq, Option, None, Some, List, [], ◌∷◌, ◌++◌, length, drop, length-append, refl, sym, ap, subst, ◌∙◌, arith}
use Rattle.std.specs.Option.{option_or}
use Rattle.std.specs.Str.{bytes_eq}
use Rattle.std.specs.List.{All, find, list_any}
use Rattle.std.proofs.lemmas.Bool.{false≢true}
use Rattle.std.proofs.Math.ListN.{drop_of_length-le}
use Rattle.std.proofs.lemmas.List.{drop-append-le}
use Rattle.std.proofs.lemmas.List.Elements.{All-head, All-tail, All-weaker}
use Rattle.std.proofs.lemmas.List.Folds.{find-append, list_any-append}
use Rattle.std.proofs.lemmas.Slice.Eq.{bytes_eq-Decides}
use Rattle.std.proofs.lemmas.Bool.Decides.{nat_tests}
use Rattle.std.proofs.lemmas.Option.{same_Some, cond_some}
use Rattle.desk_model.specs.declared.command.Cmd.{Cmd}
use Rattle.desk_model.specs.declared.command.Cmd.TheVariants as cmd
use Rattle.desk_model.specs.declared.link.Link.{Link}
use Rattle.desk_model.specs.declared.reply.Reply.{Reply}
use Rattle.desk_model.specs.declared.reply.Reply.TheVariants as reply
use Rattle.desk_model.specs.statements.Job.{JobValue}
use Rattle.desk_model.specs.statements.Entry.{EntryValue}
use Rattle.desk_model.specs.histories.History.{History, is_done, said, first_of}
use Rattle.desk_model.specs.histories.Register.{makes, vacancy_of}
use Rattle.desk_model.specs.histories.Legal.{answer_to, IsNext}
use Rattle.desk_model.specs.boards.Boards.{is_on, links, order, chain}
use Rattle.desk_model.specs.offers.Bars.{is_free, first_free}
use Rattle.desk_model.specs.laws.Refusal.{IsSameDesk}
use Rattle.desk_model.specs.answers.ExplainAnswer.{position_in}
use Rattle.desk_model.specs.answers.NextAnswer.{choice_answer}
use Rattle.desk_model.proofs.JudgedLemmas.{IsChosen, chosen}
use Rattle.desk_model.proofs.OfferedLemmas.{entry-called}
use Rattle.desk_model.proofs.OrderLemmas.{nat_eq-same}
use Rattle.fast_core.specs.declared.unfilled.Found.{Found}
use Rattle.fast_core.specs.declared.unfilled.Unfilled.{Unfilled}
use Rattle.fast_core.specs.Touched.{IsSameBut}
use Rattle.fast_core.specs.Unfilled.{IsOutOrBarred, IsUnfilledBut, IsFound, KeepsUnfilled, calls, if_unfilled, found_by}
use Rattle.fast_core.proofs.SearchLemmas.{all-barred}
use Rattle.fast_core.proofs.StayLemmas.{free-stays}

-- a vacancy is made as a job of its number
made-number : (v : ℕ) (c : Cmd) (job : JobValue) → makes v c ≡ Some job → job.vac ≡ v
made-number v (cmd.Vacancy made) job is =
    let both = cond_some (nat_eq made.vac v) made job is in
    let number : made.vac ≡ v = grind (arith, nat_tests, both.0) in
    ap (λ j. j.vac) (sym both.1) ∙ number
made-number v other job is = cc

entry-number : (v : ℕ) (e : EntryValue) (job : JobValue) → said (makes v) e ≡ Some job → job.vac ≡ v
entry-number v e job is = go (is_done e.reply) is
  where
    go : (done : Bool) → cond done (makes v e.stated.cmd) None ≡ Some job → job.vac ≡ v
    go true is = made-number v e.stated.cmd job is
    go false is = cc

first-number : (v : ℕ) (es : List EntryValue) (job : JobValue) → first_of (said (makes v)) es ≡ Some job → job.vac ≡ v
first-number v [] job is = cc
first-number v (e ∷ es) job is = go (said (makes v) e) refl is (first-number v es job)
  where
    go : (told : Option JobValue) → said (makes v) e ≡ told → option_or told (first_of (said (makes v)) es) ≡ Some job
        → (first_of (said (makes v)) es ≡ Some job → job.vac ≡ v) → job.vac ≡ v
    go None told is later = later is
    go (Some made) told is later = entry-number v e job (told ∙ is)

-- so the vacancy of a job that was made has its number
pub made-as : (h : History) (v : ℕ) (job : JobValue) → vacancy_of h v ≡ Some job → vacancy_of h job.vac ≡ Some job
made-as h v job made = ap (vacancy_of h) (first-number v h.entries job made) ∙ made

-- ---- nobody of a chain

-- who is on each board
abbrev pub Those : History → Type 0
Those h = (b : List ℕ) (p : ℕ) → list_any (nat_eq p) (order h b) ≡ is_on h p b

neither-some : {X : Type 0} (one other : Option X) → option_or one other ≡ None → (one ≡ None) × (other ≡ None)
neither-some None other none = (refl, none)
neither-some (Some x) other none = cc

or-true : (a : Bool) → (a || true) ≡ true
or-true true = refl
or-true false = refl

or-neither : (a b : Bool) → (a || b) ≡ false → (a ≡ false) × (b ≡ false)
or-neither false b none = (refl, none)
or-neither true b none = absurd (false≢true (sym none))

same-code : (b : List ℕ) → bytes_eq b b ≡ true
same-code b = (bytes_eq-Decides b b).1 refl

-- where nobody of a chain passes, nobody of one of its boards does
board-none : (test : Link → Bool) (h : History) (b : List ℕ) (codes : List (List ℕ)) → find test (chain h codes) ≡ None → list_any (bytes_eq b) codes ≡ true
    → find test (links b 1 (order h b)) ≡ None
board-none test h b [] none there = absurd (false≢true there)
board-none test h b (c ∷ codes) none there = go (bytes_eq b c) refl there (board-none test h b codes both.1)
  where
    both : (find test (links c 1 (order h c)) ≡ None) × (find test (chain h codes) ≡ None)
    both = neither-some (find test (links c 1 (order h c))) (find test (chain h codes)) (sym (find-append test (links c 1 (order h c)) (chain h codes)) ∙ none)

    go : (here : Bool) → bytes_eq b c ≡ here → (here || list_any (bytes_eq b) codes) ≡ true
        → (list_any (bytes_eq b) codes ≡ true → find test (links b 1 (order h b)) ≡ None) → find test (links b 1 (order h b)) ≡ None
    go true is there later = subst (λ x. find test (links x 1 (order h x)) ≡ None) (sym ((bytes_eq-Decides b c).0 is)) both.0
    go false is there later = later there

-- and where nobody of any of its boards does, nobody of the chain
chain-none : (test : Link → Bool) (h : History) (codes : List (List ℕ)) → ((b : List ℕ) → list_any (bytes_eq b) codes ≡ true → find test (links b 1 (order h b)) ≡ None)
    → find test (chain h codes) ≡ None
chain-none test h [] each = refl
chain-none test h (c ∷ codes) each =
    find-append test (links c 1 (order h c)) (chain h codes)
    ∙ ap (λ first. option_or first (find test (chain h codes))) (each c (ap (λ here. here || list_any (bytes_eq c) codes) (same-code c)))
    ∙ chain-none test h codes (λ b there. each b (ap (λ rest. bytes_eq b c || rest) there ∙ or-true (bytes_eq b c)))

links-none : (free : ℕ → Bool) (b : List ℕ) (ps : List ℕ) (n : ℕ) → ((p : ℕ) → list_any (nat_eq p) ps ≡ true → free p ≡ false)
    → find (λ link. free link.person) (links b n ps) ≡ None
links-none free b [] n each = refl
links-none free b (p ∷ ps) n each =
    ap (λ passes. cond passes (Some (record { board = b; position = n; person = p })) (find (λ link. free link.person) (links b (n + 1) ps)))
    (each p (ap (λ here. here || list_any (nat_eq p) ps) (nat_eq-same p)))
    ∙ links-none free b ps (n + 1) (λ q there. each q (ap (λ rest. nat_eq q p || rest) there ∙ or-true (nat_eq q p)))

among : (Q : ℕ → Type 0) (ps : List ℕ) (p : ℕ) → list_any (nat_eq p) ps ≡ true → All Q ps → Q p
among Q [] p there each = absurd (false≢true there)
among Q (q ∷ ps) p there each = go (nat_eq p q) refl there (λ rest. among Q ps p rest (All-tail Q q ps each))
  where
    go : (here : Bool) → nat_eq p q ≡ here → (here || list_any (nat_eq p) ps) ≡ true → (list_any (nat_eq p) ps ≡ true → Q p) → Q p
    go true is there later = let same : q ≡ p = grind (arith, nat_tests, is) in subst Q same (All-head Q q ps each)
    go false is there later = later there

-- who has no position in a chain is on none of its boards
linked-none : (b : List ℕ) (p : ℕ) (ps : List ℕ) (n : ℕ) → find (λ link. nat_eq link.person p) (links b n ps) ≡ None → list_any (nat_eq p) ps ≡ false
linked-none b p [] n none = refl
linked-none b p (q ∷ ps) n none = go (nat_eq q p) refl none (linked-none b p ps (n + 1))
  where
    go : (here : Bool) → nat_eq q p ≡ here → cond here (Some (record { board = b; position = n; person = q })) (find (λ link. nat_eq link.person p) (links b (n + 1) ps)) ≡ None
        → (find (λ link. nat_eq link.person p) (links b (n + 1) ps) ≡ None → list_any (nat_eq p) ps ≡ false) → (nat_eq p q || list_any (nat_eq p) ps) ≡ false
    go true is none rest = cc
    go false is none rest = let other : nat_eq p q ≡ false = grind (arith, nat_tests, is) in ap (λ here. here || list_any (nat_eq p) ps) other ∙ rest none

pub out-of-chain : (h : History) (m : ℕ) (job : JobValue) (p : ℕ) → Those h → position_in (chain h job.chain) p ≡ None → IsOutOrBarred h m job p
out-of-chain h m job p those none b there on =
    absurd (false≢true (sym (linked-none b p (order h b) 1 (board-none (λ link. nat_eq link.person p) h b job.chain none there)) ∙ those b p ∙ on))

-- a vacancy is unfilled of whose chain all but some are barred, where these are, too
pub still-unfilled : (h : History) (m v : ℕ) (job : JobValue) (persons : List ℕ) → Those h → vacancy_of h v ≡ Some job → IsUnfilledBut h v m persons
    → All (IsOutOrBarred h m job) persons → first_free h m job ≡ None
still-unfilled h m v job persons those made but barred =
    chain-none (λ link. is_free h m job link.person) h job.chain (λ b there. links-none (is_free h m job) b (order h b) 1 (λ p stands. go b there p stands (list_any (nat_eq p) persons) refl))
  where
    go : (b : List ℕ) → list_any (bytes_eq b) job.chain ≡ true → (p : ℕ) → list_any (nat_eq p) (order h b) ≡ true → (touched : Bool) → list_any (nat_eq p) persons ≡ touched
        → is_free h m job p ≡ false
    go b there p stands true is = among (IsOutOrBarred h m job) persons p is barred b there (sym (those b p) ∙ stands)
    go b there p stands false is = but.barred job made p is b there (sym (those b p) ∙ stands)

-- ---- what an entry tells

chosen-unfilled : (h : History) (m v n : ℕ) → Those h → IsChosen h m v (reply.Unfilled n) → IsUnfilledBut h v m []
chosen-unfilled h m v n those is = record {
  barred = λ job made p other b there on.
      all-barred h m job b p (order h b) 1 (those b p ∙ on)
      (sym (board-none (λ link. is_free h m job link.person) h b job.chain (ap (first_free h m) (same_Some job is.job (sym made ∙ is.made)) ∙ go (first_free h m is.job) is.so) there));
}
  where
    go : (first : Option Link) → choice_answer (length (chain h is.job.chain)) first ≡ reply.Unfilled n → first ≡ None
    go None so = refl
    go (Some link) so = cc

by-command : (h : History) (m v n : ℕ) (c : Cmd) → Those h → calls c ≡ Some v → answer_to h m c ≡ reply.Unfilled n → IsUnfilledBut h v m []
by-command h m v n (cmd.Next vac) those is answer =
    subst (λ x. IsUnfilledBut h x m []) (same_Some vac v is) (chosen-unfilled h m vac n those (chosen h m vac (reply.Unfilled n) refl answer))
by-command h m v n other those is answer = cc

-- the vacancy that an entry finds unfilled is so
pub found-unfilled : (h : History) (e : EntryValue) (v : ℕ) → Those h → IsNext h e → found_by e ≡ Some v → IsUnfilledBut h v e.moment []
found-unfilled h e v those next found = go e.reply refl found
  where
    go : (r : Reply) → e.reply ≡ r → if_unfilled r (calls e.stated.cmd) ≡ Some v → IsUnfilledBut h v e.moment []
    go (reply.Unfilled n) told is = by-command h e.moment v n e.stated.cmd those is (entry-called h e (reply.Unfilled n) next told refl)
    go other told is = cc

-- ---- what is remembered

-- it stays right where the desk is the same
pub unfilled-stay : (h later : History) → later.opening ≡ h.opening → IsSameDesk h later → (u : Unfilled) → KeepsUnfilled u h → KeepsUnfilled u later
unfilled-stay h later opening same u was = record { each = All-weaker (IsFound h u.touched.items) (IsFound later u.touched.items) same-found u.found.items was.each }
  where
    same-found : (f : Found) → IsFound h u.touched.items f → IsFound later u.touched.items f
    same-found f is = record {
      before = is.before;
      unfilled = record {
        barred = λ job made p other b there on.
            free-stays h later opening same f.moment job p ∙ is.unfilled.barred job (sym (same.vacancy f.vac) ∙ made) p other b there (sym (same.on p b) ∙ on);
      };
    }

-- what was just found is so of all
pub just-found : (h : History) (v m n : ℕ) (touched : List ℕ) → n ≡ length touched → IsUnfilledBut h v m [] → IsFound h touched (record { vac = v; moment = m; before = n })
just-found h v m n touched many is = record {
  before = omega (arith, many);
  unfilled = subst (IsUnfilledBut h v m) (sym (drop_of_length-le touched (omega (arith, many)))) is;
}

-- and where one person more is touched
pub touched-more : (p : ℕ) (h later : History) (touched : List ℕ) (found : List Found) → IsSameBut p h later → All (IsFound h touched) found → All (IsFound later (touched ++ p ∷ [])) found
touched-more p h later touched found same was = All-weaker (IsFound h touched) (IsFound later (touched ++ p ∷ [])) more found was
  where
    neither : (f : Found) (q : ℕ) → f.before ≤ length touched → list_any (nat_eq q) (drop f.before (touched ++ p ∷ [])) ≡ false
        → (list_any (nat_eq q) (drop f.before touched) ≡ false) × (nat_eq q p ≡ false)
    neither f q within none =
        let both = or-neither (list_any (nat_eq q) (drop f.before touched)) (nat_eq q p || false)
        (sym (ap (list_any (nat_eq q)) (drop-append-le f.before touched (p ∷ []) within) ∙ list_any-append (nat_eq q) (drop f.before touched) (p ∷ [])) ∙ none) in
        (both.0, (or-neither (nat_eq q p) false both.1).0)

    more : (f : Found) → IsFound h touched f → IsFound later (touched ++ p ∷ []) f
    more f is = record {
      before = omega (arith, is.before, length-append touched (p ∷ []));
      unfilled = record {
        barred = λ job made q other b there on.
            let apart = neither f q is.before other in
            same.free f.moment job q apart.1 ∙ is.unfilled.barred job (sym (same.vacancy f.vac) ∙ made) q apart.0 b there (sym (same.on q b apart.1) ∙ on);
      };
    }
