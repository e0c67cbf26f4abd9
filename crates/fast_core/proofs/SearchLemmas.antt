-- A search of boards by who is ready, beside the chain of a vacancy.
use Rattle.std.proofs.Common.{◌≡◌, ◌≤◌, ◌<◌, ℕ, ◌+◌, ◌*◌, ◌^◌, suc, Bool, true, false, ◌||◌, ◌&&◌, cond, nat_eq, filter, Option, None, Some, is_some, is_none, List, [], ◌∷◌, drop, get_or, length, refl, sym, ap, subst, ◌∙◌, arith, append-nil}
use Rattle.std.specs.Option.{option_map, option_map_or}
use Rattle.std.specs.List.{All, find, list_any, slice_get}
use Rattle.std.proofs.lemmas.Bool.{false≢true}
use Rattle.std.proofs.lemmas.Bool.Decides.{nat_tests}
use Rattle.std.proofs.lemmas.Option.{same_Some}
use Rattle.std.proofs.lemmas.List.{at_drop_more}
use Rattle.std.proofs.lemmas.List.Elements.{All-nil, All-cons}
use Rattle.rest_rules.specs.Rest.{rest_end}
use Rattle.denial_rules.specs.declared.bar.Bar.{Bar}
use Rattle.pool_board.specs.Board.{BoardValue}
use Rattle.pool_board.specs.Members.{persons as members_in}
use Rattle.vacancy_fill.specs.declared.fill.Found.{Found}
use Rattle.vacancy_fill.specs.Chain.{members_at, positions, chain_from, first_free as first_found, BarsUnready, is_passed_over, passed_over, most_steps}
use Rattle.desk_model.specs.declared.link.Link.{Link}
use Rattle.desk_model.specs.declared.person.Person.{Person}
use Rattle.desk_model.specs.statements.Job.{JobValue}
use Rattle.desk_model.specs.histories.History.{History}
use Rattle.desk_model.specs.histories.Register.{person_of, persons, boards}
use Rattle.slot_tree.specs.declared.slot.Slot.{Slot}
use Rattle.slot_tree.specs.Slots.{is_ready}
use Rattle.desk_model.specs.boards.Boards.{is_on, links, order}
use Rattle.desk_model.specs.offers.Offers.{is_of}
use Rattle.desk_model.specs.histories.Duty.{events, in_tour}
use Rattle.desk_model.specs.boards.Rank.{IsOnce}
use Rattle.desk_model.specs.offers.Bars.{bar_of, may_have, is_free}
use Rattle.desk_register.specs.Among.{index_among, board_index}
use Rattle.desk_state.specs.declared.named_indexes.TheConstants.{NEVER}
use Rattle.desk_state.specs.Words.{has_board}
use Rattle.desk_state.specs.declared.lists.Lists.{Lists}
use Rattle.desk_state.specs.Lists.{KeepsLists, Keeps, boards_kept, is_on_one, IsOnOne}
use Rattle.fast_core.specs.declared.kept_desk.KeptDesk.{KeptDesk}
use Rattle.fast_core.specs.declared.job_asked.JobAsked.{JobAsked}
use Rattle.fast_core.specs.Candidates.{IsJobAsked}
use Rattle.fast_core.specs.KeptDesk.{Tells}
use Rattle.fast_core.specs.Search.{bar_by, bar_for, bar_unless, was_searched, Judges, HasSearched, is_barred_though_rested, board_steps, chain_steps}
use Rattle.fast_core.proofs.OfferLemmas.{code-at}
use Rattle.fast_core.proofs.StepLemmas.{over-kept, asked-early}

-- the law: who isn't ready is barred
abbrev pub BarsTours : History → Type 0
BarsTours h = (m : ℕ) (job : JobValue) (p : ℕ) (person : Person) → in_tour h p ≡ true → is_some (bar_of h m job p person) ≡ true

abbrev pub BarsRest : History → Type 0
BarsRest h = (m : ℕ) (job : JobValue) (p : ℕ) (person : Person) → in_tour h p ≡ false → m < rest_end (events h p) → is_some (bar_of h m job p person) ≡ true

-- so has each member who isn't ready a bar
pub members-unready : (h : History) (m : ℕ) (job : JobValue) (kept : List BoardValue) (on : ℕ → ℕ → Bool) (j : ℕ) → BarsTours h → BarsRest h → KeepsLists kept on h
    → BarsUnready (bar_for h m job) m (members_at kept j)
members-unready h m job kept on j tours rest lists p ready at below = go (person_of h p) (in_tour h p) refl (subst (λ r. m < r) (lists.ready j p ready at) below)
  where
    go : (known : Option Person) (tour : Bool) → in_tour h p ≡ tour → m < cond tour NEVER (rest_end (events h p)) → is_some (bar_by h m job p known) ≡ true
    go None tour is below = refl
    go (Some person) true is below = tours m job p person is
    go (Some person) false is below = rest m job p person is below

-- who has no bar is who may have it
pub bar_for-free : (h : History) (m : ℕ) (job : JobValue) (p : ℕ) → is_none (bar_for h m job p) ≡ is_free h m job p
bar_for-free h m job p = go (person_of h p)
  where
    go : (known : Option Person) → is_none (bar_by h m job p known) ≡ may_have h m job p known
    go None = refl
    go (Some person) = refl

-- a judge agrees with what bars persons on who has a bar
abbrev pub Agrees : (ℕ → Option Bar) → History → ℕ → JobValue → Type 0
Agrees barred h m job = (p : ℕ) → is_some (barred p) ≡ is_some (bar_for h m job p)

-- so does one that bars whom it need not judge again
unless-agrees : (searched : Bool) (bar : Option Bar) → (searched ≡ true → is_some bar ≡ true) → is_some (bar_unless searched bar) ≡ is_some bar
unless-agrees true bar some = sym (some refl)
unless-agrees false bar some = refl

none-some : (a b : Option Bar) → is_some a ≡ is_some b → is_none a ≡ is_none b
none-some None None same = refl
none-some None (Some y) same = absurd (false≢true same)
none-some (Some x) None same = absurd (false≢true (sym same))
none-some (Some x) (Some y) same = refl

-- as many are passed over
over-same : (barred other : ℕ → Option Bar) (m : ℕ) (members : List Slot) → ((p : ℕ) → is_some (barred p) ≡ is_some (other p)) → passed_over barred m members ≡ passed_over other m members
over-same barred other m [] same = refl
over-same barred other m (s ∷ members) same =
    ap (λ t. length (cond (is_ready m (Some s) && t) (s ∷ filter (is_passed_over barred m) members) (filter (is_passed_over barred m) members))) (same s.person)
    ∙ go (is_ready m (Some s) && is_some (other s.person)) (over-same barred other m members same)
  where
    go : (t : Bool) → passed_over barred m members ≡ passed_over other m members
        → length (cond t (s ∷ filter (is_passed_over barred m) members) (filter (is_passed_over barred m) members))
        ≡ length (cond t (s ∷ filter (is_passed_over other m) members) (filter (is_passed_over other m) members))
    go true rest = ap suc rest
    go false rest = rest

abbrev pub link_at : List ℕ → Found → Link
link_at b f = record { board = b; position = f.position; person = f.person }

find-positions : (barred : ℕ → Option Bar) (free : ℕ → Bool) → ((p : ℕ) → is_none (barred p) ≡ free p) → (b : List ℕ) (k i : ℕ) (ps : List ℕ)
    → option_map (link_at b) (find (λ f. is_none (barred f.person)) (positions k i ps)) ≡ find (λ link. free link.person) (links b i ps)
find-positions barred free same b k i [] = refl
find-positions barred free same b k i (p ∷ ps) = go (free p) (same p) (find-positions barred free same b k (i + 1) ps)
  where
    go : (here : Bool) → is_none (barred p) ≡ here
        → option_map (link_at b) (find (λ f. is_none (barred f.person)) (positions k (i + 1) ps)) ≡ find (λ link. free link.person) (links b (i + 1) ps)
        → option_map (link_at b) (cond (is_none (barred p)) (Some (record { link = k; person = p; position = i })) (find (λ f. is_none (barred f.person)) (positions k (i + 1) ps)))
        ≡ cond here (Some (record { board = b; position = i; person = p })) (find (λ link. free link.person) (links b (i + 1) ps))
    go true is rest = rw is refl
    go false is rest = rw is rest

-- what a search of one board finds is the first of it who may have the job
pub found-on : (h : History) (m : ℕ) (job : JobValue) (kept : List BoardValue) (on : ℕ → ℕ → Bool) (b : List ℕ) (j : ℕ) (found : Option Found) (barred : ℕ → Option Bar) → Agrees barred h m job
    → KeepsLists kept on h → board_index (boards h) b ≡ Some j → found ≡ first_found barred (chain_from kept 0 (j ∷ []))
    → option_map (link_at b) found ≡ find (λ link. is_free h m job link.person) (links b 1 (order h b))
found-on h m job kept on b j found barred agrees lists at is =
    ap (option_map (link_at b)) (is ∙ ap (find (λ f. is_none (barred f.person))) (append-nil (positions 0 1 (members_in (members_at kept j)))
    ∙ ap (positions 0 1) (lists.order j b (code-at (boards h) b j at))))
    ∙ find-positions barred (is_free h m job) (λ p. none-some (barred p) (bar_for h m job p) (agrees p) ∙ bar_for-free h m job p) b 0 1 (order h b)

pub found-some : (b : List ℕ) (found : Option Found) (f : Found) (whole : Option Link) → found ≡ Some f → option_map (link_at b) found ≡ whole
    → Some (record { board = b; position = f.position; person = f.person }) ≡ whole
found-some b found f whole is same = sym (ap (option_map (link_at b)) is) ∙ same

pub found-none : (b : List ℕ) (found : Option Found) (whole : Option Link) → found ≡ None → option_map (link_at b) found ≡ whole → None ≡ whole
found-none b found whole is same = sym (ap (option_map (link_at b)) is) ∙ same

-- the steps of a chain from a board on are those of the board and of those behind it
pub chain_steps-next : (h : History) (m : ℕ) (job : JobValue) (chain : List (List ℕ)) (i : ℕ) (b : List ℕ) → i < length chain → b ≡ get_or chain i b
    → chain_steps h m job (drop i chain) ≡ board_steps h m job b + chain_steps h m job (drop (i + 1) chain)
chain_steps-next h m job chain i b within is =
    at_drop_more (chain_steps h m job) chain i b within ∙ ap (λ a. chain_steps h m job (a ∷ drop (i + 1) chain)) (sym is)

-- the members of one board, by themselves
alone-unready : (h : History) (m : ℕ) (job : JobValue) (kept seen : List BoardValue) (on : ℕ → ℕ → Bool) (j : ℕ) (barred : ℕ → Option Bar) → Agrees barred h m job → BarsTours h → BarsRest h
    → KeepsLists kept on h → seen ≡ kept → All (λ index. BarsUnready barred m (members_at seen index)) (j ∷ [])
alone-unready h m job kept seen on j barred agrees tours rest lists same =
    subst (λ ks. All (λ index. BarsUnready barred m (members_at ks index)) (j ∷ [])) (sym same)
    (All-cons (λ index. BarsUnready barred m (members_at kept index)) j [] (λ p ready at below. agrees p ∙ members-unready h m job kept on j tours rest lists p ready at below)
    (All-nil (λ index. BarsUnready barred m (members_at kept index))))

-- so what is found of them is the first who may have the job
found-first : (h : History) (m : ℕ) (job : JobValue) (kept seen : List BoardValue) (on : ℕ → ℕ → Bool) (b : List ℕ) (j : ℕ) (found : Option Found) (barred : ℕ → Option Bar)
    → Agrees barred h m job → BarsTours h → BarsRest h → KeepsLists kept on h → seen ≡ kept → board_index (boards h) b ≡ Some j
    → (All (λ index. BarsUnready barred m (members_at seen index)) (j ∷ []) → found ≡ first_found barred (chain_from seen 0 (j ∷ [])))
    → option_map (link_at b) found ≡ find (λ link. is_free h m job link.person) (links b 1 (order h b))
found-first h m job kept seen on b j found barred agrees tours rest lists same at searched =
    found-on h m job kept on b j found barred agrees lists at
    (searched (alone-unready h m job kept seen on j barred agrees tours rest lists same) ∙ ap (λ ks. first_found barred (chain_from ks 0 (j ∷ []))) same)

-- and no more is read than its members give
found-steps : (h : History) (m : ℕ) (job : JobValue) (kept seen : List BoardValue) (on : ℕ → ℕ → Bool) (b : List ℕ) (j old new : ℕ) (barred : ℕ → Option Bar)
    → Agrees barred h m job → BarsTours h → BarsRest h → KeepsLists kept on h → m < NEVER → IsOnce (order h b) → seen ≡ kept → board_index (boards h) b ≡ Some j
    → (All (λ index. BarsUnready barred m (members_at seen index)) (j ∷ []) → new ≤ old + most_steps barred m seen (j ∷ []))
    → new ≤ old + board_steps h m job b
found-steps h m job kept seen on b j old new barred agrees tours rest lists early once same at searched =
    let cost : new ≤ old + most_steps barred m kept (j ∷ []) =
    subst (λ ks. new ≤ old + most_steps barred m ks (j ∷ [])) same (searched (alone-unready h m job kept seen on j barred agrees tours rest lists same)) in
    let over : passed_over barred m (members_at kept j) ≡ length (filter (is_barred_though_rested h m job) (order h b)) =
    over-same barred (bar_for h m job) m (members_at kept j) agrees ∙ over-kept h m job kept on b j lists early once (code-at (boards h) b j at) in
    omega (arith, cost, ap (λ n. (n + 1) * (4 * (10 + 1))) over)

-- ---- boards that were searched

-- where nobody on a board may have the job, each has a bar
pub all-barred : (h : History) (m : ℕ) (job : JobValue) (b : List ℕ) (p : ℕ) (ps : List ℕ) (n : ℕ) → list_any (nat_eq p) ps ≡ true
    → None ≡ find (λ link. is_free h m job link.person) (links b n ps) → is_free h m job p ≡ false
all-barred h m job b p [] n there none = absurd (false≢true there)
all-barred h m job b p (q ∷ ps) n there none = go (nat_eq p q) (is_free h m job q) refl refl there none (all-barred h m job b p ps (n + 1))
  where
    go : (here free : Bool) → nat_eq p q ≡ here → is_free h m job q ≡ free → (here || list_any (nat_eq p) ps) ≡ true
        → None ≡ cond free (Some (record { board = b; position = n; person = q })) (find (λ link. is_free h m job link.person) (links b (n + 1) ps))
        → (list_any (nat_eq p) ps ≡ true → None ≡ find (λ link. is_free h m job link.person) (links b (n + 1) ps) → is_free h m job p ≡ false)
        → is_free h m job p ≡ false
    go here true at is there none rest = absurd (false≢true (ap is_some none))
    go true false at is there none rest = let same : p ≡ q = grind (arith, nat_tests, at) in ap (is_free h m job) same ∙ is
    go false false at is there none rest = rest there none

some-free : (bar : Option Bar) → is_none bar ≡ false → is_some bar ≡ true
some-free None e = absurd (false≢true (sym e))
some-free (Some x) e = refl

-- a board more
pub searched-more : (h : History) (m : ℕ) (job : JobValue) (searched later : ℕ) (b : List ℕ) → ((p : ℕ) → list_any (nat_eq p) (order h b) ≡ is_on h p b) → later < 2 ^ 64
    → HasSearched h m job searched → ((j : ℕ) → has_board later j ≡ (is_of j (board_index (boards h) b) || has_board searched j))
    → None ≡ find (λ link. is_free h m job link.person) (links b 1 (order h b)) → HasSearched h m job later
searched-more h m job searched later b those fits before has none = record {
  fits = fits;
  barred = λ p on. go p on (board_index (boards h) b) refl (sym (has on.index) ∙ on.has);
}
  where
    here-barred : (p : ℕ) → is_on h p b ≡ true → is_some (bar_for h m job p) ≡ true
    here-barred p here = some-free (bar_for h m job p) (bar_for-free h m job p ∙ all-barred h m job b p (order h b) 1 (those p ∙ here) none)

    older : (p : ℕ) (on : IsOnOne h p later) → has_board searched on.index ≡ true → is_some (bar_for h m job p) ≡ true
    older p on was = before.barred p (record { index = on.index; board = on.board; at = on.at; has = was; on_it = on.on_it })

    by_bit : (p : ℕ) (on : IsOnOne h p later) (j : ℕ) (here : Bool) → board_index (boards h) b ≡ Some j → nat_eq j on.index ≡ here → (here || has_board searched on.index) ≡ true
        → is_some (bar_for h m job p) ≡ true
    by_bit p on j true at same is =
        let index : j ≡ on.index = grind (arith, nat_tests, same) in
        let board : on.board ≡ b = same_Some on.board b (sym on.at ∙ ap (slice_get (boards h)) (sym index) ∙ code-at (boards h) b j at) in
        here-barred p (ap (is_on h p) (sym board) ∙ on.on_it)
    by_bit p on j false at other is = older p on is

    go : (p : ℕ) (on : IsOnOne h p later) (at : Option ℕ) → board_index (boards h) b ≡ at → (is_of on.index at || has_board searched on.index) ≡ true → is_some (bar_for h m job p) ≡ true
    go p on None at is = older p on is
    go p on (Some j) at is = by_bit p on j (nat_eq j on.index) at refl is

-- the law: who is kept as on one of some boards is on it
abbrev pub KeptIsOn : Type 0
KeptIsOn = (l : Lists) (h : History) (p i word : ℕ) → Keeps l h → word < 2 ^ 64 → index_among (persons h) p ≡ Some i → is_on_one l i word ≡ true → IsOnOne h p word

was-on : KeptIsOn → (d : KeptDesk) (h : History) (p searched : ℕ) → Tells d h → searched < 2 ^ 64 → was_searched d h searched p ≡ true → IsOnOne h p searched
was-on law d h p searched tells fits was = go (index_among (persons h) p) refl was
  where
    go : (at : Option ℕ) → index_among (persons h) p ≡ at → option_map_or (λ i. is_on_one d.lists i searched) at false ≡ true → IsOnOne h p searched
    go None at was = absurd (false≢true was)
    go (Some i) at was = law d.lists h p i searched tells.lists fits at was

-- what a call bars that needs judge nobody again
by : KeptDesk → History → ℕ → JobValue → ℕ → ℕ → Option Bar
by d h m job searched p = bar_unless (was_searched d h searched p) (bar_for h m job p)

by-agrees : KeptIsOn → (d : KeptDesk) (h : History) (m : ℕ) (job : JobValue) (searched : ℕ) → Tells d h → HasSearched h m job searched → Agrees (by d h m job searched) h m job
unfolding by
by-agrees law d h m job searched tells before p =
    unless-agrees (was_searched d h searched p) (bar_for h m job p) (λ was. before.barred p (was-on law d h p searched tells before.fits was))

by-judges : (d : KeptDesk) (h : History) (a : JobAsked) (searched : ℕ) → Tells d h → IsJobAsked a h → Judges d a searched (by d h a.moment a.job.now searched)
unfolding by
by-judges d h a searched tells asked = record { history = h; tells = tells; asked = asked; bars = λ p. refl }

-- so the call finds the first of a board who may have the job
pub call-first : KeptIsOn → (d : KeptDesk) (h : History) (a : JobAsked) (searched : ℕ) (seen : List BoardValue) (b : List ℕ) (j : ℕ) (found : Option Found) → BarsTours h → BarsRest h
    → Tells d h → IsJobAsked a h → HasSearched h a.moment a.job.now searched → seen ≡ boards_kept d.lists → board_index (boards h) b ≡ Some j
    → ((barred : ℕ → Option Bar) → Judges d a searched barred → All (λ index. BarsUnready barred a.moment (members_at seen index)) (j ∷ [])
    → found ≡ first_found barred (chain_from seen 0 (j ∷ [])))
    → option_map (link_at b) found ≡ find (λ link. is_free h a.moment a.job.now link.person) (links b 1 (order h b))
call-first law d h a searched seen b j found tours rest tells asked before same at finds =
    let barred = by d h a.moment a.job.now searched in
    found-first h a.moment a.job.now (boards_kept d.lists) seen _ b j found barred (by-agrees law d h a.moment a.job.now searched tells before) tours rest tells.lists.lists same at
    (finds barred (by-judges d h a searched tells asked))

-- and reads no more than the board's members give
pub call-steps : KeptIsOn → (d : KeptDesk) (h : History) (a : JobAsked) (searched : ℕ) (seen : List BoardValue) (b : List ℕ) (j old new : ℕ) → BarsTours h → BarsRest h
    → Tells d h → IsJobAsked a h → HasSearched h a.moment a.job.now searched → seen ≡ boards_kept d.lists → board_index (boards h) b ≡ Some j
    → IsOnce (order h b)
    → ((barred : ℕ → Option Bar) → Judges d a searched barred → All (λ index. BarsUnready barred a.moment (members_at seen index)) (j ∷ [])
    → new ≤ old + most_steps barred a.moment seen (j ∷ []))
    → new ≤ old + board_steps h a.moment a.job.now b
call-steps law d h a searched seen b j old new tours rest tells asked before same at once reads =
    let barred = by d h a.moment a.job.now searched in
    found-steps h a.moment a.job.now (boards_kept d.lists) seen _ b j old new barred (by-agrees law d h a.moment a.job.now searched tells before) tours rest tells.lists.lists
    (asked-early h a.moment a.job.now tells.legal asked.asked) once same at
    (reads barred (by-judges d h a searched tells asked))
