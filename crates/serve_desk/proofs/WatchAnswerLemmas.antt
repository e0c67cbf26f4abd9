-- What follows an answer where looks are heard, from what was said by it and what was put.
use Rattle.std.proofs.Common.{◌≡◌, ◌≢◌, ℕ, zero, suc, ◌<◌, ◌≤◌, true, false, List, [], ◌∷◌, ◌++◌, length, None, Some, map, refl, sym, ap, ◌∙◌, subst, arith}
use Rattle.std.specs.declared.option.Option.{Option}
use Rattle.std.specs.Prelude.{⊤}
use Rattle.std.proofs.lemmas.List.{append_cancel_right}
use mathlib.Core.List.{IsPrefix}
use Rattle.board_window.specs.Shows.{spot_of}
use Rattle.board_window.specs.Walls.{FrontValue, history_in}
use Rattle.board_window.specs.declared.spot.Spot.{Spot}
use Rattle.caller_lines.specs.Given.{Given, GaveLine, GaveTooLong, GaveEnd, GaveFailed}
use Rattle.caller_lines.specs.Hears.{ReadsAs}
use Rattle.caller_lines.specs.LineCalls.{LineCall, Asked, PutText}
use Rattle.caller_lines.specs.Requests.{ReadsRequest, HearsRequest}
use Rattle.caller_lines.specs.declared.said.Said.{Said}
use Rattle.caller_lines.specs.declared.said.Said.TheVariants as said
use Rattle.caller_lines.specs.declared.request.Request.{Request}
use Rattle.caller_lines.specs.declared.request.Request.TheVariants as request
use Rattle.crew_call.specs.declared.crew_outcome.CrewOutcome.{CrewOutcome}
use Rattle.crew_call.specs.CrewCalls.{CrewCall}
use Rattle.desk_model.specs.statements.Entry.{EntryValue}
use Rattle.desk_model.specs.histories.History.{History, history_of}
use Rattle.desk_model.specs.texts.Journal.{entry_line}
use Rattle.desk_model.specs.histories.Legal.{next}
use Rattle.desk_model.specs.statements.Opening.{OpeningValue}
use Rattle.desk_model.specs.statements.Statement.{StatedValue}
use Rattle.desk_shared.specs.Calls.{Calls}
use Rattle.desk_shared.specs.Crews.{receipt_of, MakesCalls, CallsCrew}
use Rattle.desk_shared.specs.Shown.{ShowsTo}
use Rattle.desk_shared.specs.declared.receipt.Receipt.{Receipt}
use Rattle.turn_gate.specs.Seats.{GateValue, SeatValue}
use Rattle.turn_gate.specs.Told.{own}
use Rattle.serve_desk.specs.declared.limits.TheConstants.{LINES_PER_CALLER}
use Rattle.serve_desk.specs.declared.why.Why.{Why}
use Rattle.serve_desk.specs.declared.why.Why.TheVariants as why
use Rattle.serve_desk.specs.Answers.{PutsOn}
use Rattle.serve_desk.specs.Crews.{crew_texts, too_few}
use Rattle.serve_desk.specs.Follows.{Puts, Follows, it_is_put, it_is_not_put, it_is_not_written, the_end, a_fault, one_line_too_many}
use Rattle.serve_desk.specs.Looks.{look_text, behind}
use Rattle.serve_desk.specs.Texts.{too_many, too_long, no_memory, malformed, spent}
use Rattle.serve_desk.specs.Told.{with_all, LineValue}
use Rattle.serve_desk.specs.WatchAnswers.{KnowsByCalls, by_calls, by_calls_behind, by_a_look, PutsAllOn, PutsFault, RepliesWatched, AnswersWatched}
use Rattle.serve_desk.specs.WatchFollows.{Looked, Called, AsksNoRequest, PutsAll, FollowsWatched, as_it_is_served, a_call_behind, a_look, a_look_that_is_not_put, too_few_calls_left, a_crew_call, a_crew_call_behind, no_memory_for_a_request, a_call_not_kept, a_crew_call_not_kept, TellsFault, shown, not_shown}
use Rattle.serve_desk.proofs.AnswerLemmas.{line-said, follows-too_long, follows-malformed, follows-spent, follows-call}
use Rattle.serve_desk.proofs.SeatLemmas.{Made-none, Made-one, Made-crew}
use Rattle.serve_desk.proofs.SightLemmas.{prefix-self}
use Rattle.serve_desk.proofs.ToldLemmas.{with_all-none, with_last-then}

-- ---- what was said

reads-as : (gave : Given) (s : Said) → ReadsRequest gave (request.Said s) → ReadsAs gave s
reads-as (GaveLine bytes) (said.Command s) reads = reads.1
reads-as (GaveLine bytes) (said.Malformed field) reads = reads.1
reads-as (GaveLine bytes) said.NoMemory reads = tt
reads-as (GaveLine bytes) said.TooLong reads = reads.1
reads-as (GaveLine bytes) said.End reads = reads.1
reads-as (GaveLine bytes) said.LineFault reads = reads.1
reads-as GaveTooLong s reads = cc
reads-as GaveEnd s reads = cc
reads-as GaveFailed s reads = cc

asks-no-request : (heard : ℕ) (gave : Given) (s : Said) → s ≢ said.NoMemory → ReadsRequest gave (request.Said s) → AsksNoRequest heard gave
asks-no-request heard (GaveLine bytes) (said.Command s) not reads = λ few. reads.0
asks-no-request heard (GaveLine bytes) (said.Malformed field) not reads = λ few. reads.0
asks-no-request heard (GaveLine bytes) said.NoMemory not reads = absurd (not refl)
asks-no-request heard (GaveLine bytes) said.TooLong not reads = λ few. reads.0
asks-no-request heard (GaveLine bytes) said.End not reads = λ few. reads.0
asks-no-request heard (GaveLine bytes) said.LineFault not reads = λ few. reads.0
asks-no-request heard GaveTooLong s not reads = tt
asks-no-request heard GaveEnd s not reads = tt
asks-no-request heard GaveFailed s not reads = tt

-- ---- what follows

-- nothing is put where the line has no more, or a fault
pub RepliesWatched-quiet : (o : OpeningValue) (heard left : ℕ) (before : Option (List LineCall)) (s : Request) (seat : SeatValue) (view : FrontValue) (ends : Option Why)
    → ((gave : Given) → ReadsRequest gave s → FollowsWatched heard left gave [] [] [] ends) → RepliesWatched o heard left before before s seat seat view view ends
RepliesWatched-quiet o heard left before s seat view ends follows = record {
  entries = [];
  texts = [];
  acts = [];
  follows = follows;
  told = sym (with_all-none before);
  made = Made-none o seat;
  sight = by_calls_behind [] (prefix-self view.entries) refl;
}

ends-watched : (heard left : ℕ) (gave : Given) → ReadsRequest gave (request.Said said.End) → FollowsWatched heard left gave [] [] [] (Some why.End)
ends-watched heard left (GaveLine bytes) reads = absurd (reads.1)
ends-watched heard left GaveTooLong reads = absurd (cc)
ends-watched heard left GaveEnd reads = as_it_is_served GaveEnd [] [] (Some why.End) tt the_end
ends-watched heard left GaveFailed reads = absurd (cc)

fails-watched : (heard left : ℕ) (gave : Given) → ReadsRequest gave (request.Said said.LineFault) → FollowsWatched heard left gave [] [] [] (Some why.LineFault)
fails-watched heard left (GaveLine bytes) reads = absurd (reads.1)
fails-watched heard left GaveTooLong reads = absurd (cc)
fails-watched heard left GaveEnd reads = absurd (cc)
fails-watched heard left GaveFailed reads = as_it_is_served GaveFailed [] [] (Some why.LineFault) tt a_fault

pub RepliesWatched-end : (o : OpeningValue) (heard left : ℕ) (before : Option (List LineCall)) (seat : SeatValue) (view : FrontValue) → RepliesWatched o heard left before before (request.Said said.End) seat seat view view (Some why.End)
RepliesWatched-end o heard left before seat view = RepliesWatched-quiet o heard left before (request.Said said.End) seat view (Some why.End) (ends-watched heard left)

pub RepliesWatched-fault : (o : OpeningValue) (heard left : ℕ) (before : Option (List LineCall)) (seat : SeatValue) (view : FrontValue) → RepliesWatched o heard left before before (request.Said said.LineFault) seat seat view view (Some why.LineFault)
RepliesWatched-fault o heard left before seat view = RepliesWatched-quiet o heard left before (request.Said said.LineFault) seat view (Some why.LineFault) (fails-watched heard left)

-- a text is put, and nothing called or seen
putting : (o : OpeningValue) (heard left : ℕ) (before now : Option (List LineCall)) (s : Request) (seat : SeatValue) (view : FrontValue) (ends then : Option Why) (text : List ℕ) → PutsOn text then before now ends
    → ((gave : Given) (texts : List (List ℕ)) → ReadsRequest gave s → Puts text then texts ends → FollowsWatched heard left gave [] texts [] ends) → RepliesWatched o heard left before now s seat seat view view ends
putting o heard left before now s seat view ends then text put follows = record {
  entries = [];
  texts = put.texts;
  acts = [];
  follows = λ gave reads. follows gave put.texts reads put.puts;
  told = put.told;
  made = Made-none o seat;
  sight = by_calls_behind [] (prefix-self view.entries) refl;
}

served : (o : OpeningValue) (heard left : ℕ) (before now : Option (List LineCall)) (s : Said) (seat : SeatValue) (view : FrontValue) (ends then : Option Why) (text : List ℕ) → s ≢ said.NoMemory → PutsOn text then before now ends
    → ((gave : Given) (texts : List (List ℕ)) → ReadsAs gave s → Puts text then texts ends → Follows heard left gave [] texts ends) → RepliesWatched o heard left before now (request.Said s) seat seat view view ends
served o heard left before now s seat view ends then text not put follows =
    putting o heard left before now (request.Said s) seat view ends then text put
    (λ gave texts reads puts. as_it_is_served gave [] texts ends (asks-no-request heard gave s not reads) (follows gave texts (reads-as gave s reads) puts))

full-no-request : (heard : ℕ) (gave : Given) → heard ≡ LINES_PER_CALLER → AsksNoRequest heard gave
full-no-request heard (GaveLine bytes) full = λ few. absurd (omega arith)
full-no-request heard GaveTooLong full = tt
full-no-request heard GaveEnd full = tt
full-no-request heard GaveFailed full = tt

pub RepliesWatched-too_many : (o : OpeningValue) (heard left : ℕ) (before now : Option (List LineCall)) (s : Said) (seat : SeatValue) (view : FrontValue) (ends : Option Why) → heard ≡ LINES_PER_CALLER → s ≢ said.End → s ≢ said.LineFault
    → PutsOn too_many (Some why.TooManyLines) before now ends → RepliesWatched o heard left before now (request.Said s) seat seat view view ends
RepliesWatched-too_many o heard left before now s seat view ends full not_end no_fault put =
    putting o heard left before now (request.Said s) seat view ends (Some why.TooManyLines) too_many put
    (λ gave texts reads puts. as_it_is_served gave [] texts ends (full-no-request heard gave full) (one_line_too_many gave texts ends (line-said gave s (reads-as gave s reads) not_end no_fault) full puts))

pub RepliesWatched-too_long : (o : OpeningValue) (heard left : ℕ) (before now : Option (List LineCall)) (s : Said) (seat : SeatValue) (view : FrontValue) (ends : Option Why) → heard < LINES_PER_CALLER → s ≡ said.TooLong
    → PutsOn too_long None before now ends → RepliesWatched o heard left before now (request.Said s) seat seat view view ends
RepliesWatched-too_long o heard left before now s seat view ends few is put =
    served o heard left before now s seat view ends None too_long (λ not. absurd (cc)) put (λ gave texts reads puts. follows-too_long heard left gave texts ends few (subst (λ x. ReadsAs gave x) is reads) puts)

pub RepliesWatched-malformed : (o : OpeningValue) (heard left : ℕ) (before now : Option (List LineCall)) (s : Said) (field : ℕ) (seat : SeatValue) (view : FrontValue) (ends : Option Why) → heard < LINES_PER_CALLER
    → s ≡ said.Malformed field → PutsOn (malformed field) None before now ends → RepliesWatched o heard left before now (request.Said s) seat seat view view ends
RepliesWatched-malformed o heard left before now s field seat view ends few is put =
    served o heard left before now s seat view ends None (malformed field) (λ not. absurd (cc)) put (λ gave texts reads puts. follows-malformed heard left gave field texts ends few (subst (λ x. ReadsAs gave x) is reads) puts)

pub RepliesWatched-spent : (o : OpeningValue) (heard left : ℕ) (before now : Option (List LineCall)) (s : StatedValue) (seat after : SeatValue) (view : FrontValue) (ends : Option Why) → heard < LINES_PER_CALLER → left ≡ 0 → after ≡ seat
    → PutsOn spent (Some why.Spent) before now ends → RepliesWatched o heard left before now (request.Said (said.Command s)) seat after view view ends
RepliesWatched-spent o heard left before now s seat after view ends few none same put =
    subst (λ x. RepliesWatched o heard left before now (request.Said (said.Command s)) seat x view view ends) (sym same)
    (served o heard left before now (said.Command s) seat view ends (Some why.Spent) spent (λ not. absurd (cc)) put (λ gave texts reads puts. follows-spent heard left gave s texts ends few reads none puts))

no-memory : (heard left : ℕ) (gave : Given) (texts : List (List ℕ)) (ends : Option Why) → heard < LINES_PER_CALLER → ReadsRequest gave (request.Said said.NoMemory) → Puts no_memory None texts ends → FollowsWatched heard left gave [] texts [] ends
no-memory heard left (GaveLine bytes) texts ends few reads puts = no_memory_for_a_request bytes texts ends few puts
no-memory heard left GaveTooLong texts ends few reads puts = absurd (cc)
no-memory heard left GaveEnd texts ends few reads puts = absurd (cc)
no-memory heard left GaveFailed texts ends few reads puts = absurd (cc)

pub RepliesWatched-no_memory : (o : OpeningValue) (heard left : ℕ) (before now : Option (List LineCall)) (s : Said) (seat : SeatValue) (view : FrontValue) (ends : Option Why) → heard < LINES_PER_CALLER → s ≡ said.NoMemory
    → PutsOn no_memory None before now ends → RepliesWatched o heard left before now (request.Said s) seat seat view view ends
RepliesWatched-no_memory o heard left before now s seat view ends few is put =
    putting o heard left before now (request.Said s) seat view ends None no_memory put (λ gave texts reads puts. no-memory heard left gave texts ends few (subst (λ (x : Said). ReadsRequest gave (request.Said x)) is reads) puts)

-- ---- looks and crew calls

-- a look or a crew call
abbrev IsRequest : Request → Type 0
IsRequest (request.Look board position) = ⊤
IsRequest (request.Crew minute first second) = ⊤
IsRequest (request.Said said) = ⊥

-- is asked for by a line alone
asks-by-line : (r : Request) (s : Said) → IsRequest r → r ≡ request.Said s → ⊥
asks-by-line r s asks is = subst IsRequest is asks

request-too-many : (heard left : ℕ) (gave : Given) (r : Request) (texts : List (List ℕ)) (ends : Option Why) → IsRequest r → heard ≡ LINES_PER_CALLER → ReadsRequest gave r
    → Puts too_many (Some why.TooManyLines) texts ends → FollowsWatched heard left gave [] texts [] ends
request-too-many heard left (GaveLine bytes) r texts ends asks full reads puts =
    as_it_is_served (GaveLine bytes) [] texts ends (λ few. absurd (omega arith)) (one_line_too_many (GaveLine bytes) texts ends refl full puts)
request-too-many heard left GaveTooLong r texts ends asks full reads puts = absurd (asks-by-line r said.TooLong asks reads)
request-too-many heard left GaveEnd r texts ends asks full reads puts = absurd (asks-by-line r said.End asks reads)
request-too-many heard left GaveFailed r texts ends asks full reads puts = absurd (asks-by-line r said.LineFault asks reads)

pub RepliesWatched-too_many_requests : (o : OpeningValue) (heard left : ℕ) (before now : Option (List LineCall)) (r : Request) (seat : SeatValue) (view : FrontValue) (ends : Option Why) → IsRequest r
    → heard ≡ LINES_PER_CALLER → PutsOn too_many (Some why.TooManyLines) before now ends → RepliesWatched o heard left before now r seat seat view view ends
RepliesWatched-too_many_requests o heard left before now r seat view ends asks full put =
    putting o heard left before now r seat view ends (Some why.TooManyLines) too_many put (λ gave texts reads puts. request-too-many heard left gave r texts ends asks full reads puts)

-- ---- looks

look-no-memory : (heard left : ℕ) (gave : Given) (board : List ℕ) (position : ℕ) (texts : List (List ℕ)) (ends : Option Why) → heard < LINES_PER_CALLER → ReadsRequest gave (request.Look board position)
    → Puts no_memory None texts ends → FollowsWatched heard left gave [] texts [] ends
look-no-memory heard left (GaveLine bytes) board position texts ends few reads puts = no_memory_for_a_request bytes texts ends few puts
look-no-memory heard left GaveTooLong board position texts ends few reads puts = absurd (cc)
look-no-memory heard left GaveEnd board position texts ends few reads puts = absurd (cc)
look-no-memory heard left GaveFailed board position texts ends few reads puts = absurd (cc)

pub RepliesWatched-no_look : (o : OpeningValue) (heard left : ℕ) (before now : Option (List LineCall)) (board : List ℕ) (position : ℕ) (seat : SeatValue) (view later : FrontValue) (ends : Option Why) → heard < LINES_PER_CALLER → later ≡ view
    → PutsOn no_memory None before now ends → RepliesWatched o heard left before now (request.Look board position) seat seat view later ends
RepliesWatched-no_look o heard left before now board position seat view later ends few same put =
    subst (λ (v : FrontValue). RepliesWatched o heard left before now (request.Look board position) seat seat view v ends) (sym same)
    (putting o heard left before now (request.Look board position) seat view ends None no_memory put (λ gave texts reads puts. look-no-memory heard left gave board position texts ends few reads puts))

look-put : (heard left : ℕ) (gave : Given) (board : List ℕ) (position seen : ℕ) (what : Spot) → heard < LINES_PER_CALLER → ReadsRequest gave (request.Look board position)
    → FollowsWatched heard left gave [] (look_text seen what ∷ []) (Looked seen board position what ∷ []) None
look-put heard left (GaveLine bytes) board position seen what few reads = a_look bytes board position seen what few reads
look-put heard left GaveTooLong board position seen what few reads = absurd (cc)
look-put heard left GaveEnd board position seen what few reads = absurd (cc)
look-put heard left GaveFailed board position seen what few reads = absurd (cc)

look-not-put : (heard left : ℕ) (gave : Given) (board : List ℕ) (position : ℕ) → heard < LINES_PER_CALLER → ReadsRequest gave (request.Look board position) → FollowsWatched heard left gave [] [] [] (Some why.LineFault)
look-not-put heard left (GaveLine bytes) board position few reads = a_look_that_is_not_put bytes board position few reads
look-not-put heard left GaveTooLong board position few reads = absurd (cc)
look-not-put heard left GaveEnd board position few reads = absurd (cc)
look-not-put heard left GaveFailed board position few reads = absurd (cc)

pub RepliesWatched-look : (heard left : ℕ) (before now : Option (List LineCall)) (board : List ℕ) (position seen : ℕ) (what : Spot) (seat : SeatValue) (view later : FrontValue) (ends : Option Why) → heard < LINES_PER_CALLER
    → later.wall ≡ view.wall → IsPrefix view.entries later.entries → seen ≡ length later.entries → what ≡ spot_of (history_in later) board position
    → PutsOn (look_text seen what) None before now ends → RepliesWatched view.wall.opening heard left before now (request.Look board position) seat seat view later ends
RepliesWatched-look heard left before now board position seen what seat view later ends few wall more all sees put = go put.texts ends put.puts put.told where
  o : OpeningValue
  o = view.wall.opening

  saw : what ≡ spot_of (history_of o later.entries) board position
  saw = sees ∙ ap (λ w. spot_of (history_of w.opening later.entries) board position) wall

  go : (texts : List (List ℕ)) (e : Option Why) → Puts (look_text seen what) None texts e → now ≡ with_all before (map PutText texts)
      → RepliesWatched view.wall.opening heard left before now (request.Look board position) seat seat view later e
  go _ _ it_is_put told = record {
    entries = [];
    texts = look_text seen what ∷ [];
    acts = Looked seen board position what ∷ [];
    follows = λ gave reads. look-put heard left gave board position seen what few reads;
    told = told;
    made = Made-none view.wall.opening seat;
    sight = by_a_look board position seen what more refl all saw;
  }
  go _ _ (it_is_not_written ends) told = absurd (ends refl)
  go _ _ it_is_not_put told = record {
    entries = [];
    texts = [];
    acts = [];
    follows = λ gave reads. look-not-put heard left gave board position few reads;
    told = told;
    made = Made-none view.wall.opening seat;
    sight = by_calls_behind [] more refl;
  }

-- ---- calls

next-is : (h : History) (caller : ℕ) (s : StatedValue) (e : EntryValue) → e ≡ next h caller s → (e.caller ≡ caller) × (e.stated ≡ s)
unfolding next
next-is h caller s e is = (ap (λ x. x.caller) is, ap (λ x. x.stated) is)

-- what the caller had is what the entries before the call's own have of them
had : ((entries : List EntryValue) (e : EntryValue) (number : ℕ) → e.caller ≡ number → own (entries ++ e ∷ []) number ≡ own entries number ++ e ∷ [])
    → (o : OpeningValue) (seat later : SeatValue) (s : StatedValue) (receipt : Receipt) → (call : Calls o seat later s receipt) → own call.before seat.number ≡ own seat.known seat.number
had mine o seat later s receipt call =
    let caller = (next-is (history_of o call.before) seat.number s receipt.entry call.entry).0 in
    append_cancel_right (own call.before seat.number) (own seat.known seat.number) (receipt.entry ∷ [])
    (sym (mine call.before receipt.entry seat.number caller) ∙ ap (λ l. own l seat.number) (sym call.known) ∙ call.own_calls)

prefix-whole : {A : Type 0} (xs ys : List A) → IsPrefix xs ys → length ys ≤ length xs → xs ≡ ys
prefix-whole [] [] p le = refl
prefix-whole [] (y ∷ ys) p le = absurd (omega arith)
prefix-whole (x ∷ xs) [] p le = absurd (cc (p.1))
prefix-whole (x ∷ xs) (y ∷ ys) p le = let rest = prefix-whole xs ys (p.0, cc (p.1)) (omega arith) in cc (p.1, rest)

-- a call, and calls one after another, of what the caller knows
one-more : ((entries : List EntryValue) (e : EntryValue) (number : ℕ) → e.caller ≡ number → own (entries ++ e ∷ []) number ≡ own entries number ++ e ∷ [])
    → (o : OpeningValue) (seat later : SeatValue) (s : StatedValue) (receipt : Receipt) (es now : List EntryValue) → Calls o seat later s receipt
    → KnowsByCalls seat.number later.known es now → KnowsByCalls seat.number seat.known (receipt.entry ∷ es) now
one-more mine o seat later s receipt es now call rest = (
  call.before,
  (
    call.knew,
    (
      had mine o seat later s receipt call,
      (ap (λ l. own l seat.number) (sym call.known) ∙ call.own_calls, subst (λ l. KnowsByCalls seat.number l es now) call.known rest),
    ),
  ),
)

one-call : ((entries : List EntryValue) (e : EntryValue) (number : ℕ) → e.caller ≡ number → own (entries ++ e ∷ []) number ≡ own entries number ++ e ∷ [])
    → (o : OpeningValue) (seat later : SeatValue) (s : StatedValue) (receipt : Receipt) → Calls o seat later s receipt → KnowsByCalls seat.number seat.known (receipt.entry ∷ []) later.known
one-call mine o seat later s receipt call = one-more mine o seat later s receipt [] later.known call refl

knows-by-calls : ((entries : List EntryValue) (e : EntryValue) (number : ℕ) → e.caller ≡ number → own (entries ++ e ∷ []) number ≡ own entries number ++ e ∷ [])
    → (o : OpeningValue) (seat later : SeatValue) (es : List EntryValue) → MakesCalls o seat es later → KnowsByCalls seat.number seat.known es later.known
knows-by-calls mine o seat later [] made = ap (λ (x : SeatValue). x.known) made
knows-by-calls mine o seat later (e ∷ es) made =
    let call = made.1.0.1 in
    one-more mine o seat made.0 e.stated (receipt_of made.1.0.0 e) es later.known call
    (subst (λ n. KnowsByCalls n made.0.known es later.known) call.number (knows-by-calls mine o made.0 later es made.1.1))

behind-follows : (heard left : ℕ) (gave : Given) (e : EntryValue) (n : ℕ) (texts : List (List ℕ)) (ends : Option Why) → heard < LINES_PER_CALLER → 0 < left → 0 < n → ReadsRequest gave (request.Said (said.Command e.stated))
    → PutsAll (entry_line e ∷ behind n ∷ []) texts ends → FollowsWatched heard left gave (e ∷ []) texts (Called e false ∷ []) ends
behind-follows heard left (GaveLine bytes) e n texts ends few some lacks reads puts = a_call_behind bytes e n texts ends few reads.0 reads.1 some lacks puts
behind-follows heard left GaveTooLong e n texts ends few some lacks reads puts = absurd (cc)
behind-follows heard left GaveEnd e n texts ends few some lacks reads puts = absurd (cc)
behind-follows heard left GaveFailed e n texts ends few some lacks reads puts = absurd (cc)

pub RepliesWatched-called : ((entries : List EntryValue) (e : EntryValue) (number : ℕ) → e.caller ≡ number → own (entries ++ e ∷ []) number ≡ own entries number ++ e ∷ [])
    → (o : OpeningValue) (desk : GateValue) (heard left : ℕ) (before now : Option (List LineCall)) (s : StatedValue) (seat later : SeatValue) (view seen note : FrontValue) (receipt : Receipt) (ends : Option Why) (n : ℕ)
    → heard < LINES_PER_CALLER → 0 < left → Calls o seat later s receipt → ShowsTo desk note n later.known → IsPrefix view.entries seen.entries → IsPrefix note.entries seen.entries
    → (n ≡ 0 → PutsOn (entry_line receipt.entry) None before now ends) → (0 < n → PutsAllOn (entry_line receipt.entry ∷ behind n ∷ []) before now ends)
    → RepliesWatched o heard left before now (request.Said (said.Command s)) seat later view seen ends
RepliesWatched-called mine o desk heard left before now s seat later view seen note receipt ends zero few some call shows more told put put_two =
    let one = put refl in
    let stated : receipt.entry.stated ≡ s = (next-is (history_of o call.before) seat.number s receipt.entry call.entry).1 in
    let whole : note.entries ≡ later.known = prefix-whole note.entries later.known shows.begins (omega (arith, shows.lacks)) in record {
      entries = receipt.entry ∷ [];
      texts = one.texts;
      acts = Called receipt.entry true ∷ [];
      follows = λ gave reads. as_it_is_served gave (receipt.entry ∷ []) one.texts ends (asks-no-request heard gave (said.Command s) (λ not. absurd (cc)) reads)
          (follows-call heard left gave receipt.entry one.texts ends few (reads-as gave (said.Command receipt.entry.stated) (subst (λ (x : StatedValue). ReadsRequest gave (request.Said (said.Command x))) (sym stated) reads)) some one.puts);
      told = one.told;
      made = Made-one o seat later s receipt call;
      sight = by_calls (receipt.entry ∷ []) more (one-call mine o seat later s receipt call) (subst (λ (l : List EntryValue). IsPrefix l seen.entries) whole told);
    }
RepliesWatched-called mine o desk heard left before now s seat later view seen note receipt ends (suc n) few some call shows more told put put_two =
    let two = put_two (omega arith) in
    let stated : receipt.entry.stated ≡ s = (next-is (history_of o call.before) seat.number s receipt.entry call.entry).1 in record {
      entries = receipt.entry ∷ [];
      texts = two.texts;
      acts = Called receipt.entry false ∷ [];
      follows = λ gave reads. behind-follows heard left gave receipt.entry (suc n) two.texts ends few some (omega arith) (subst (λ (x : StatedValue). ReadsRequest gave (request.Said (said.Command x))) (sym stated) reads) two.puts;
      told = two.told;
      made = Made-one o seat later s receipt call;
      sight = by_calls_behind (receipt.entry ∷ []) more (one-call mine o seat later s receipt call);
    }

unkept-follows : (heard left : ℕ) (gave : Given) (e : EntryValue) (texts : List (List ℕ)) → heard < LINES_PER_CALLER → 0 < left → ReadsRequest gave (request.Said (said.Command e.stated))
    → TellsFault texts → FollowsWatched heard left gave (e ∷ []) texts (not_shown (e ∷ [])) (Some why.JournalFault)
unkept-follows heard left (GaveLine bytes) e texts few some reads tells = a_call_not_kept bytes e texts few reads.0 reads.1 some tells
unkept-follows heard left GaveTooLong e texts few some reads tells = absurd (cc)
unkept-follows heard left GaveEnd e texts few some reads tells = absurd (cc)
unkept-follows heard left GaveFailed e texts few some reads tells = absurd (cc)

-- a call whose entry isn't kept
pub RepliesWatched-unkept : ((entries : List EntryValue) (e : EntryValue) (number : ℕ) → e.caller ≡ number → own (entries ++ e ∷ []) number ≡ own entries number ++ e ∷ [])
    → (o : OpeningValue) (heard left : ℕ) (before now : Option (List LineCall)) (s : StatedValue) (seat later : SeatValue) (view : FrontValue) (receipt : Receipt)
    → heard < LINES_PER_CALLER → 0 < left → Calls o seat later s receipt → PutsFault before now
    → RepliesWatched o heard left before now (request.Said (said.Command s)) seat later view view (Some why.JournalFault)
RepliesWatched-unkept mine o heard left before now s seat later view receipt few some call put =
    let stated : receipt.entry.stated ≡ s = (next-is (history_of o call.before) seat.number s receipt.entry call.entry).1 in record {
      entries = receipt.entry ∷ [];
      texts = put.texts;
      acts = not_shown (receipt.entry ∷ []);
      follows = λ gave reads. unkept-follows heard left gave receipt.entry put.texts few some (subst (λ (x : StatedValue). ReadsRequest gave (request.Said (said.Command x))) (sym stated) reads) put.tells;
      told = put.told;
      made = Made-one o seat later s receipt call;
      sight = by_calls_behind (receipt.entry ∷ []) (prefix-self view.entries) (one-call mine o seat later s receipt call);
    }

-- ---- crew calls

few-follows : (heard left t v w : ℕ) (gave : Given) (texts : List (List ℕ)) (ends : Option Why) → heard < LINES_PER_CALLER → left < 3 → ReadsRequest gave (request.Crew t v w) → Puts (too_few left) None texts ends
    → FollowsWatched heard left gave [] texts [] ends
few-follows heard left t v w (GaveLine bytes) texts ends few lacks reads puts = too_few_calls_left bytes t v w texts ends few reads lacks puts
few-follows heard left t v w GaveTooLong texts ends few lacks reads puts = absurd (cc)
few-follows heard left t v w GaveEnd texts ends few lacks reads puts = absurd (cc)
few-follows heard left t v w GaveFailed texts ends few lacks reads puts = absurd (cc)

pub RepliesWatched-too_few : (o : OpeningValue) (heard left told t v w : ℕ) (before now : Option (List LineCall)) (seat after : SeatValue) (view : FrontValue) (ends : Option Why) → heard < LINES_PER_CALLER → left < 3 → told ≡ left → after ≡ seat
    → PutsOn (too_few told) None before now ends → RepliesWatched o heard left before now (request.Crew t v w) seat after view view ends
RepliesWatched-too_few o heard left told t v w before now seat after view ends few lacks is same put =
    subst (λ x. RepliesWatched o heard left before now (request.Crew t v w) seat x view view ends) (sym same)
    (putting o heard left before now (request.Crew t v w) seat view ends None (too_few left) (subst (λ n. PutsOn (too_few n) None before now ends) is put)
    (λ gave texts reads puts. few-follows heard left t v w gave texts ends few lacks reads puts))

crew-follows : (heard left t v w : ℕ) (gave : Given) (es : List EntryValue) (told : CrewOutcome) (texts : List (List ℕ)) (ends : Option Why) → heard < LINES_PER_CALLER → 3 ≤ left → CrewCall t v w es told
    → ReadsRequest gave (request.Crew t v w) → PutsAll (crew_texts es told) texts ends → FollowsWatched heard left gave es texts (shown es) ends
crew-follows heard left t v w (GaveLine bytes) es told texts ends few enough call reads puts = a_crew_call bytes t v w es told texts ends few reads enough call puts
crew-follows heard left t v w GaveTooLong es told texts ends few enough call reads puts = absurd (cc)
crew-follows heard left t v w GaveEnd es told texts ends few enough call reads puts = absurd (cc)
crew-follows heard left t v w GaveFailed es told texts ends few enough call reads puts = absurd (cc)

crew-behind-follows : (heard left t v w : ℕ) (gave : Given) (es : List EntryValue) (told : CrewOutcome) (n : ℕ) (texts : List (List ℕ)) (ends : Option Why) → heard < LINES_PER_CALLER → 3 ≤ left
    → CrewCall t v w es told → 0 < n → ReadsRequest gave (request.Crew t v w) → PutsAll (crew_texts es told ++ behind n ∷ []) texts ends → FollowsWatched heard left gave es texts (not_shown es) ends
crew-behind-follows heard left t v w (GaveLine bytes) es told n texts ends few enough call lacks reads puts = a_crew_call_behind bytes t v w es told n texts ends few reads enough call lacks puts
crew-behind-follows heard left t v w GaveTooLong es told n texts ends few enough call lacks reads puts = absurd (cc)
crew-behind-follows heard left t v w GaveEnd es told n texts ends few enough call lacks reads puts = absurd (cc)
crew-behind-follows heard left t v w GaveFailed es told n texts ends few enough call lacks reads puts = absurd (cc)

pub RepliesWatched-crew : ((entries : List EntryValue) (e : EntryValue) (number : ℕ) → e.caller ≡ number → own (entries ++ e ∷ []) number ≡ own entries number ++ e ∷ [])
    → (o : OpeningValue) (desk : GateValue) (heard left t v w : ℕ) (before now : Option (List LineCall)) (seat later : SeatValue) (view seen note : FrontValue) (es : List EntryValue) (told : CrewOutcome)
    → (ends : Option Why) (n : ℕ) → heard < LINES_PER_CALLER → 3 ≤ left → CallsCrew o seat later t v w es told → ShowsTo desk note n later.known → IsPrefix view.entries seen.entries
    → IsPrefix note.entries seen.entries → (n ≡ 0 → PutsAllOn (crew_texts es told) before now ends) → (0 < n → PutsAllOn (crew_texts es told ++ behind n ∷ []) before now ends)
    → RepliesWatched o heard left before now (request.Crew t v w) seat later view seen ends
RepliesWatched-crew mine o desk heard left t v w before now seat later view seen note es told ends zero few enough crew shows more learnt put put_behind =
    let one = put refl in
    let whole : note.entries ≡ later.known = prefix-whole note.entries later.known shows.begins (omega (arith, shows.lacks)) in record {
      entries = es;
      texts = one.texts;
      acts = shown es;
      follows = λ gave reads. crew-follows heard left t v w gave es told one.texts ends few enough crew.call reads one.puts;
      told = one.told;
      made = Made-crew o seat later t v w es told crew;
      sight = by_calls es more (knows-by-calls mine o seat later es crew.each) (subst (λ (l : List EntryValue). IsPrefix l seen.entries) whole learnt);
    }
RepliesWatched-crew mine o desk heard left t v w before now seat later view seen note es told ends (suc n) few enough crew shows more learnt put put_behind =
    let two = put_behind (omega arith) in record {
      entries = es;
      texts = two.texts;
      acts = not_shown es;
      follows = λ gave reads. crew-behind-follows heard left t v w gave es told (suc n) two.texts ends few enough crew.call (omega arith) reads two.puts;
      told = two.told;
      made = Made-crew o seat later t v w es told crew;
      sight = by_calls_behind es more (knows-by-calls mine o seat later es crew.each);
    }

crew-unkept-follows : (heard left t v w : ℕ) (gave : Given) (es : List EntryValue) (told : CrewOutcome) (texts : List (List ℕ)) → heard < LINES_PER_CALLER → 3 ≤ left → CrewCall t v w es told
    → ReadsRequest gave (request.Crew t v w) → TellsFault texts → FollowsWatched heard left gave es texts (not_shown es) (Some why.JournalFault)
crew-unkept-follows heard left t v w (GaveLine bytes) es told texts few enough call reads tells = a_crew_call_not_kept bytes t v w es told texts few reads enough call tells
crew-unkept-follows heard left t v w GaveTooLong es told texts few enough call reads tells = absurd (cc)
crew-unkept-follows heard left t v w GaveEnd es told texts few enough call reads tells = absurd (cc)
crew-unkept-follows heard left t v w GaveFailed es told texts few enough call reads tells = absurd (cc)

-- a crew call of which an entry isn't kept
pub RepliesWatched-crew_unkept : ((entries : List EntryValue) (e : EntryValue) (number : ℕ) → e.caller ≡ number → own (entries ++ e ∷ []) number ≡ own entries number ++ e ∷ [])
    → (o : OpeningValue) (heard left t v w : ℕ) (before now : Option (List LineCall)) (seat later : SeatValue) (view : FrontValue) (es : List EntryValue) (told : CrewOutcome)
    → heard < LINES_PER_CALLER → 3 ≤ left → CallsCrew o seat later t v w es told → PutsFault before now
    → RepliesWatched o heard left before now (request.Crew t v w) seat later view view (Some why.JournalFault)
RepliesWatched-crew_unkept mine o heard left t v w before now seat later view es told few enough crew put = record {
  entries = es;
  texts = put.texts;
  acts = not_shown es;
  follows = λ gave reads. crew-unkept-follows heard left t v w gave es told put.texts few enough crew.call reads put.tells;
  told = put.told;
  made = Made-crew o seat later t v w es told crew;
  sight = by_calls_behind es (prefix-self view.entries) (knows-by-calls mine o seat later es crew.each);
}

-- ---- the line was asked, and then replied to

-- by a view of the desk
pub RepliesWatched-here : (o here : OpeningValue) (heard left : ℕ) (before now : Option (List LineCall)) (s : Request) (seat after : SeatValue) (view seen : FrontValue) (ends : Option Why) → o ≡ here
    → RepliesWatched o heard left before now s seat after view seen ends → RepliesWatched here heard left before now s seat after view seen ends
RepliesWatched-here o here heard left before now s seat after view seen ends is reply = subst (λ (x : OpeningValue). RepliesWatched x heard left before now s seat after view seen ends) is reply

pub AnswersWatched-reply : (o : OpeningValue) (heard left : ℕ) (line later : LineValue) (asked : Option (List LineCall)) (s : Request) (seat after : SeatValue) (view seen : FrontValue) (ends : Option Why)
    → HearsRequest line.calls asked s → RepliesWatched o heard left asked later.calls s seat after view seen ends → AnswersWatched o heard left line later seat after view seen ends
AnswersWatched-reply o heard left line later asked s seat after view seen ends hears reply = record {
  gave = hears.gave;
  entries = reply.entries;
  texts = reply.texts;
  acts = reply.acts;
  follows = reply.follows hears.gave hears.reads;
  told = reply.told ∙ ap (λ xs. with_all xs (map PutText reply.texts)) hears.once ∙ with_last-then line.calls (Asked hears.gave) (map PutText reply.texts);
  made = reply.made;
  sight = reply.sight;
}
