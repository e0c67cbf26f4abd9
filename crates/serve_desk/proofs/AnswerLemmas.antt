-- What follows an answer, from what was said by it and what was put.
use Rattle.std.proofs.Common.{◌≡◌, ◌≢◌, ℕ, ◌<◌, true, List, [], ◌∷◌, None, Some, refl, sym, ap, ◌∙◌, subst}
use Rattle.std.specs.declared.option.Option.{Option}
use Rattle.desk_model.specs.statements.Entry.{EntryValue}
use Rattle.desk_model.specs.histories.History.{History, history_of}
use Rattle.desk_model.specs.texts.Journal.{entry_line}
use Rattle.desk_model.specs.histories.Legal.{next}
use Rattle.desk_model.specs.statements.Opening.{OpeningValue}
use Rattle.desk_model.specs.statements.Statement.{StatedValue}
use Rattle.turn_gate.specs.Seats.{SeatValue}
use Rattle.caller_lines.specs.Given.{Given, GaveLine, GaveTooLong, GaveEnd, GaveFailed}
use Rattle.caller_lines.specs.Hears.{ReadsAs, Hears}
use Rattle.caller_lines.specs.LineCalls.{LineCall, Asked, PutText}
use Rattle.caller_lines.specs.Told.{with_last}
use Rattle.caller_lines.specs.declared.said.Said.{Said}
use Rattle.caller_lines.specs.declared.said.Said.TheVariants as said
use Rattle.desk_shared.specs.Calls.{Calls}
use Rattle.desk_shared.specs.declared.receipt.Receipt.{Receipt}
use Rattle.serve_desk.specs.declared.limits.TheConstants.{LINES_PER_CALLER}
use Rattle.serve_desk.specs.declared.why.Why.{Why}
use Rattle.serve_desk.specs.declared.why.Why.TheVariants as why
use Rattle.serve_desk.specs.Texts.{too_many, too_long, no_memory, malformed, spent}
use Rattle.serve_desk.specs.Told.{LineValue}
use Rattle.serve_desk.specs.Follows.{is_line, Puts, Follows, it_is_put, it_is_not_put, it_is_not_written, the_end, a_fault, one_line_too_many, a_line_too_long, no_memory_for_a_line, no_command, no_call_left, a_call}
use Rattle.serve_desk.specs.Answers.{PutsOn, Replies, Answers}
use Rattle.serve_desk.proofs.ToldLemmas.{with_all-none, with_all-one}
use Rattle.serve_desk.proofs.SeatLemmas.{Made-none, Made-one}

-- a text was put, or wasn't
pub PutsOn-put : (text : List ℕ) (then : Option Why) (before now : Option (List LineCall)) → now ≡ with_last before (PutText text) → PutsOn text then before now then
PutsOn-put text then before now told = record { texts = text ∷ []; puts = it_is_put; told = told ∙ sym (with_all-one before (PutText text)) }

pub PutsOn-not_put : (text : List ℕ) (then : Option Why) (before now : Option (List LineCall)) → now ≡ before → PutsOn text then before now (Some why.LineFault)
PutsOn-not_put text then before now same = record { texts = []; puts = it_is_not_put; told = same ∙ sym (with_all-none before) }

pub PutsOn-goes_on : (text : List ℕ) (then : Option Why) (before now : Option (List LineCall)) → then ≡ None → now ≡ with_last before (PutText text) → PutsOn text then before now None
PutsOn-goes_on text then before now on told = subst (PutsOn text then before now) on (PutsOn-put text then before now told)

-- the session ends behind it, and all that was put is written, or isn't
pub PutsOn-ends : (text : List ℕ) (then : Option Why) (before mid now : Option (List LineCall)) → mid ≡ with_last before (PutText text) → now ≡ mid → PutsOn text then before now then
PutsOn-ends text then before mid now told same = PutsOn-put text then before now (same ∙ told)

pub PutsOn-not_written : (text : List ℕ) (then : Option Why) (before mid now : Option (List LineCall)) → then ≢ None → mid ≡ with_last before (PutText text) → now ≡ mid
    → PutsOn text then before now (Some why.LineFault)
PutsOn-not_written text then before mid now ends told same = record { texts = text ∷ []; puts = it_is_not_written ends; told = same ∙ told ∙ sym (with_all-one before (PutText text)) }

-- what was said of a line
pub line-said : (gave : Given) (s : Said) → ReadsAs gave s → s ≢ said.End → s ≢ said.LineFault → is_line gave ≡ true
line-said (GaveLine bytes) s reads not_end no_fault = refl
line-said GaveTooLong s reads not_end no_fault = refl
line-said GaveEnd s reads not_end no_fault = absurd (not_end reads)
line-said GaveFailed s reads not_end no_fault = absurd (no_fault reads)

-- the line has no more
follows-end : (heard left : ℕ) (gave : Given) → ReadsAs gave said.End → Follows heard left gave [] [] (Some why.End)
follows-end heard left GaveEnd reads = the_end
follows-end heard left (GaveLine bytes) reads = absurd reads
follows-end heard left GaveTooLong reads = absurd (cc)
follows-end heard left GaveFailed reads = absurd (cc)

-- it has a fault
follows-fault : (heard left : ℕ) (gave : Given) → ReadsAs gave said.LineFault → Follows heard left gave [] [] (Some why.LineFault)
follows-fault heard left GaveFailed reads = a_fault
follows-fault heard left (GaveLine bytes) reads = absurd reads
follows-fault heard left GaveTooLong reads = absurd (cc)
follows-fault heard left GaveEnd reads = absurd (cc)

-- it gave a line that is too long
pub follows-too_long : (heard left : ℕ) (gave : Given) (texts : List (List ℕ)) (ends : Option Why) → heard < LINES_PER_CALLER → ReadsAs gave said.TooLong → Puts too_long None texts ends
    → Follows heard left gave [] texts ends
follows-too_long heard left GaveTooLong texts ends few reads puts = a_line_too_long texts ends few puts
follows-too_long heard left (GaveLine bytes) texts ends few reads puts = absurd reads
follows-too_long heard left GaveEnd texts ends few reads puts = absurd (cc)
follows-too_long heard left GaveFailed texts ends few reads puts = absurd (cc)

-- memory was wanting for the line
follows-no_memory : (heard left : ℕ) (gave : Given) (texts : List (List ℕ)) (ends : Option Why) → heard < LINES_PER_CALLER → ReadsAs gave said.NoMemory → Puts no_memory None texts ends
    → Follows heard left gave [] texts ends
follows-no_memory heard left (GaveLine bytes) texts ends few reads puts = no_memory_for_a_line bytes texts ends few puts
follows-no_memory heard left GaveTooLong texts ends few reads puts = absurd (cc)
follows-no_memory heard left GaveEnd texts ends few reads puts = absurd (cc)
follows-no_memory heard left GaveFailed texts ends few reads puts = absurd (cc)

-- it gave no command
pub follows-malformed : (heard left : ℕ) (gave : Given) (field : ℕ) (texts : List (List ℕ)) (ends : Option Why) → heard < LINES_PER_CALLER → ReadsAs gave (said.Malformed field)
    → Puts (malformed field) None texts ends → Follows heard left gave [] texts ends
follows-malformed heard left (GaveLine bytes) field texts ends few reads puts = no_command bytes field texts ends few reads puts
follows-malformed heard left GaveTooLong field texts ends few reads puts = absurd (cc)
follows-malformed heard left GaveEnd field texts ends few reads puts = absurd (cc)
follows-malformed heard left GaveFailed field texts ends few reads puts = absurd (cc)

-- it gave a command, and the seat has no call left
pub follows-spent : (heard left : ℕ) (gave : Given) (s : StatedValue) (texts : List (List ℕ)) (ends : Option Why) → heard < LINES_PER_CALLER → ReadsAs gave (said.Command s) → left ≡ 0
    → Puts spent (Some why.Spent) texts ends → Follows heard left gave [] texts ends
follows-spent heard left (GaveLine bytes) s texts ends few reads none puts = no_call_left bytes s texts ends few reads none puts
follows-spent heard left GaveTooLong s texts ends few reads none puts = absurd (cc)
follows-spent heard left GaveEnd s texts ends few reads none puts = absurd (cc)
follows-spent heard left GaveFailed s texts ends few reads none puts = absurd (cc)

-- it gave a command, which was called
pub follows-call : (heard left : ℕ) (gave : Given) (e : EntryValue) (texts : List (List ℕ)) (ends : Option Why) → heard < LINES_PER_CALLER → ReadsAs gave (said.Command e.stated) → 0 < left
    → Puts (entry_line e) None texts ends → Follows heard left gave (e ∷ []) texts ends
follows-call heard left (GaveLine bytes) e texts ends few reads some puts = a_call bytes e texts ends few reads some puts
follows-call heard left GaveTooLong e texts ends few reads some puts = absurd (cc)
follows-call heard left GaveEnd e texts ends few reads some puts = absurd (cc)
follows-call heard left GaveFailed e texts ends few reads some puts = absurd (cc)

-- what follows where no text is put
quiet : (o : OpeningValue) (heard left : ℕ) (line later : LineValue) (seat : SeatValue) (ends : Option Why) (gave : Given) → later.calls ≡ with_last line.calls (Asked gave)
    → Follows heard left gave [] [] ends → Answers o heard left line later seat seat ends
quiet o heard left line later seat ends gave told follows = record {
  gave = gave;
  entries = [];
  texts = [];
  follows = follows;
  told = told ∙ sym (with_all-one line.calls (Asked gave));
  made = Made-none o seat;
}

pub Answers-end : (o : OpeningValue) (heard left : ℕ) (line later : LineValue) (seat : SeatValue) → Hears line.calls later.calls said.End
    → Answers o heard left line later seat seat (Some why.End)
Answers-end o heard left line later seat hears = quiet o heard left line later seat (Some why.End) hears.gave hears.once (follows-end heard left hears.gave hears.reads)

pub Answers-fault : (o : OpeningValue) (heard left : ℕ) (line later : LineValue) (seat : SeatValue) → Hears line.calls later.calls said.LineFault
    → Answers o heard left line later seat seat (Some why.LineFault)
Answers-fault o heard left line later seat hears = quiet o heard left line later seat (Some why.LineFault) hears.gave hears.once (follows-fault heard left hears.gave hears.reads)

-- a text is put, and nothing is called
Replies-text : (o : OpeningValue) (heard left : ℕ) (before now : Option (List LineCall)) (s : Said) (seat : SeatValue) (ends then : Option Why) (text : List ℕ) → PutsOn text then before now ends
    → ((gave : Given) (texts : List (List ℕ)) → ReadsAs gave s → Puts text then texts ends → Follows heard left gave [] texts ends) → Replies o heard left before now s seat seat ends
Replies-text o heard left before now s seat ends then text put follows = record {
  entries = [];
  texts = put.texts;
  follows = λ gave reads. follows gave put.texts reads put.puts;
  told = put.told;
  made = Made-none o seat;
}

pub Replies-too_many : (o : OpeningValue) (heard left : ℕ) (before now : Option (List LineCall)) (s : Said) (seat : SeatValue) (ends : Option Why) → heard ≡ LINES_PER_CALLER → s ≢ said.End → s ≢ said.LineFault
    → PutsOn too_many (Some why.TooManyLines) before now ends → Replies o heard left before now s seat seat ends
Replies-too_many o heard left before now s seat ends full not_end no_fault put =
    Replies-text o heard left before now s seat ends (Some why.TooManyLines) too_many put
    (λ gave texts reads puts. one_line_too_many gave texts ends (line-said gave s reads not_end no_fault) full puts)

pub Replies-too_long : (o : OpeningValue) (heard left : ℕ) (before now : Option (List LineCall)) (s : Said) (seat : SeatValue) (ends : Option Why) → heard < LINES_PER_CALLER → s ≡ said.TooLong
    → PutsOn too_long None before now ends → Replies o heard left before now s seat seat ends
Replies-too_long o heard left before now s seat ends few is put =
    Replies-text o heard left before now s seat ends None too_long put (λ gave texts reads puts. follows-too_long heard left gave texts ends few (subst (λ x. ReadsAs gave x) is reads) puts)

pub Replies-no_memory : (o : OpeningValue) (heard left : ℕ) (before now : Option (List LineCall)) (s : Said) (seat : SeatValue) (ends : Option Why) → heard < LINES_PER_CALLER → s ≡ said.NoMemory
    → PutsOn no_memory None before now ends → Replies o heard left before now s seat seat ends
Replies-no_memory o heard left before now s seat ends few is put =
    Replies-text o heard left before now s seat ends None no_memory put (λ gave texts reads puts. follows-no_memory heard left gave texts ends few (subst (λ x. ReadsAs gave x) is reads) puts)

pub Replies-malformed : (o : OpeningValue) (heard left : ℕ) (before now : Option (List LineCall)) (s : Said) (field : ℕ) (seat : SeatValue) (ends : Option Why) → heard < LINES_PER_CALLER
    → s ≡ said.Malformed field → PutsOn (malformed field) None before now ends → Replies o heard left before now s seat seat ends
Replies-malformed o heard left before now s field seat ends few is put =
    Replies-text o heard left before now s seat ends None (malformed field) put (λ gave texts reads puts. follows-malformed heard left gave field texts ends few (subst (λ x. ReadsAs gave x) is reads) puts)

pub Replies-spent : (o : OpeningValue) (heard left : ℕ) (before now : Option (List LineCall)) (s : StatedValue) (seat after : SeatValue) (ends : Option Why) → heard < LINES_PER_CALLER → left ≡ 0 → after ≡ seat
    → PutsOn spent (Some why.Spent) before now ends → Replies o heard left before now (said.Command s) seat after ends
Replies-spent o heard left before now s seat after ends few none same put =
    subst (λ x. Replies o heard left before now (said.Command s) seat x ends) (sym same)
    (Replies-text o heard left before now (said.Command s) seat ends (Some why.Spent) spent put (λ gave texts reads puts. follows-spent heard left gave s texts ends few reads none puts))

-- the entry that comes next is of what is stated
next-stated : (h : History) (caller : ℕ) (s : StatedValue) (e : EntryValue) → e ≡ next h caller s → e.stated ≡ s
unfolding next
next-stated h caller s e is = ap (λ x. x.stated) is

-- a call is made, and its entry's line put
pub Replies-called : (o : OpeningValue) (heard left : ℕ) (before now : Option (List LineCall)) (s : StatedValue) (seat later : SeatValue) (receipt : Receipt) (ends : Option Why) → heard < LINES_PER_CALLER
    → 0 < left → Calls o seat later s receipt → PutsOn (entry_line receipt.entry) None before now ends → Replies o heard left before now (said.Command s) seat later ends
Replies-called o heard left before now s seat later receipt ends few some call put =
    let stated : receipt.entry.stated ≡ s = next-stated (history_of o call.before) seat.number s receipt.entry call.entry in record {
      entries = receipt.entry ∷ [];
      texts = put.texts;
      follows = λ gave reads. follows-call heard left gave receipt.entry put.texts ends few (subst (λ x. ReadsAs gave (said.Command x)) (sym stated) reads) some put.puts;
      told = put.told;
      made = Made-one o seat later s receipt call;
    }
