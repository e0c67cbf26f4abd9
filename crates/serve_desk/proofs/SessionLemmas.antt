-- A session, answer by answer.
use Rattle.std.proofs.Common.{◌≡◌, ℕ, ◌+◌, ◌-◌, ◌<◌, true, List, [], ◌++◌, length, None, Some, refl, sym, ap, ◌∙◌, subst, arith}
use Rattle.std.specs.declared.option.Option.{Option}
use Rattle.desk_model.specs.statements.Entry.{EntryValue}
use Rattle.desk_model.specs.statements.Opening.{OpeningValue}
use Rattle.turn_gate.specs.Seats.{SeatValue}
use Rattle.caller_lines.specs.Given.{Given}
use Rattle.caller_lines.specs.LineCalls.{LineCall}
use Rattle.serve_desk.specs.declared.limits.TheConstants.{LINES_PER_CALLER}
use Rattle.serve_desk.specs.declared.why.Why.{Why}
use Rattle.serve_desk.specs.Texts.{too_many}
use Rattle.serve_desk.specs.Told.{with_all, LineValue}
use Rattle.serve_desk.specs.Follows.{is_line, Puts, Follows, it_is_put, it_is_not_put, it_is_not_written, the_end, a_fault, one_line_too_many, a_line_too_long, no_memory_for_a_line, no_command, no_call_left, a_call}
use Rattle.serve_desk.specs.Session.{lines_in, asked_then_put, GoesOn, it_begins, it_goes_on, it_ends}
use Rattle.serve_desk.specs.Seats.{Made}
use Rattle.serve_desk.specs.Answers.{Answers}
use Rattle.serve_desk.specs.Serves.{Serves}
use Rattle.serve_desk.proofs.ToldLemmas.{with_all-none, with_all-more, lines_in-line}
use Rattle.serve_desk.proofs.SeatLemmas.{Made-none, Made-then}

-- a session so far: the line gave so many lines of its caller
pub record SoFar (o : OpeningValue) (left heard : ℕ) (line now : LineValue) (seat after : SeatValue) : Type 0 where
  pub calls : List LineCall
  pub entries : List EntryValue
  pub goes_on : GoesOn left calls entries
  pub lines : lines_in calls ≡ heard
  pub told : now.calls ≡ with_all line.calls calls
  pub made : Made o seat after entries

pub SoFar-begins : (o : OpeningValue) (left : ℕ) (line : LineValue) (seat : SeatValue) → SoFar o left 0 line line seat seat
SoFar-begins o left line seat = record {
  calls = [];
  entries = [];
  goes_on = it_begins;
  lines = refl;
  told = sym (with_all-none line.calls);
  made = Made-none o seat;
}

-- where the session goes on behind a text, none that ends it was to be put
puts-on : (text : List ℕ) (then : Option Why) (texts : List (List ℕ)) (ends : Option Why) → Puts text then texts ends → ends ≡ None → then ≡ None
puts-on text then _ _ it_is_put on = on
puts-on text then _ _ it_is_not_put on = absurd (cc)
puts-on text then _ _ (it_is_not_written ends) on = absurd (cc)

-- where it goes on, the line gave a line of its caller, and not too many
pub record IsLineMore (heard : ℕ) (gave : Given) : Type 0 where
  pub few : heard < LINES_PER_CALLER
  pub line : is_line gave ≡ true

pub goes-on : (heard left : ℕ) (gave : Given) (es : List EntryValue) (texts : List (List ℕ)) (ends : Option Why) → Follows heard left gave es texts ends → ends ≡ None
    → IsLineMore heard gave
goes-on heard left _ _ _ _ the_end on = absurd (cc)
goes-on heard left _ _ _ _ a_fault on = absurd (cc)
goes-on heard left gave _ _ _ (one_line_too_many _ texts ends line full puts) on = let e = puts-on too_many _ texts ends puts on in absurd (cc)
goes-on heard left _ _ _ _ (a_line_too_long texts ends few puts) on = record { few = few; line = refl }
goes-on heard left _ _ _ _ (no_memory_for_a_line bytes texts ends few puts) on = record { few = few; line = refl }
goes-on heard left _ _ _ _ (no_command bytes field texts ends few wrong puts) on = record { few = few; line = refl }
goes-on heard left _ _ _ _ (no_call_left bytes s texts ends few states none puts) on = record { few = few; line = refl }
goes-on heard left _ _ _ _ (a_call bytes e texts ends few states some puts) on = record { few = few; line = refl }

-- how many calls are left behind some, as the session counts and as the seat does
pub left-behind : (quota calls now count : ℕ) → now ≡ calls + count → quota - now ≡ (quota - calls) - count
left-behind quota calls now count is = omega arith

-- what follows at a seat, as the session counts
follows-here : (o : OpeningValue) (quota heard : ℕ) (line now : LineValue) (seat after : SeatValue) (gave : Given) (es : List EntryValue) (ts : List (List ℕ)) (ends : Option Why)
    → (so : SoFar o (quota - seat.calls) heard line now seat after) → Follows heard (quota - after.calls) gave es ts ends
    → Follows (lines_in so.calls) ((quota - seat.calls) - length so.entries) gave es ts ends
follows-here o quota heard line now seat after gave es ts ends so follows =
    subst (λ n. Follows n ((quota - seat.calls) - length so.entries) gave es ts ends) (sym so.lines)
    (subst (λ n. Follows heard n gave es ts ends) (left-behind quota seat.calls after.calls (length so.entries) so.made.calls) follows)

-- one answer more, behind which the session goes on
pub SoFar-more : (o : OpeningValue) (quota heard : ℕ) (line now later : LineValue) (seat after next : SeatValue) → SoFar o (quota - seat.calls) heard line now seat after
    → Answers o heard (quota - after.calls) now later after next None → SoFar o (quota - seat.calls) (heard + 1) line later seat next
SoFar-more o quota heard line now later seat after next so more = record {
  calls = so.calls ++ asked_then_put more.gave more.texts;
  entries = so.entries ++ more.entries;
  goes_on = it_goes_on so.calls so.entries more.gave more.entries more.texts so.goes_on
      (follows-here o quota heard line now seat after more.gave more.entries more.texts None so more.follows);
  lines = lines_in-line so.calls more.gave more.texts (goes-on heard (quota - after.calls) more.gave more.entries more.texts None more.follows refl).line ∙ ap (λ n. n + 1) so.lines;
  told = more.told ∙ ap (λ xs. with_all xs (asked_then_put more.gave more.texts)) so.told ∙ with_all-more line.calls so.calls (asked_then_put more.gave more.texts);
  made = Made-then o seat after next so.entries more.entries so.made more.made;
}

-- where it goes on, not too many lines were heard
pub Answers-few : (o : OpeningValue) (heard left : ℕ) (now later : LineValue) (after next : SeatValue) → Answers o heard left now later after next None → heard < LINES_PER_CALLER
Answers-few o heard left now later after next more = (goes-on heard left more.gave more.entries more.texts None more.follows refl).few

-- the last answer
pub Serves-ends : (o : OpeningValue) (quota heard had has : ℕ) (line now later : LineValue) (seat after next : SeatValue) (why : Why) → SoFar o (quota - seat.calls) heard line now seat after
    → Answers o heard (quota - after.calls) now later after next (Some why) → seat.calls + had ≡ quota → next.calls + has ≡ quota
    → Serves o (quota - seat.calls) line later seat next why (had - has)
Serves-ends o quota heard had has line now later seat after next why so more left still =
    let made : Made o seat next (so.entries ++ more.entries) = Made-then o seat after next so.entries more.entries so.made more.made in
    record {
      calls = so.calls ++ asked_then_put more.gave more.texts;
      entries = so.entries ++ more.entries;
      session = it_ends so.calls so.entries more.gave more.entries more.texts why so.goes_on
          (follows-here o quota heard line now seat after more.gave more.entries more.texts (Some why) so more.follows);
      told = more.told ∙ ap (λ xs. with_all xs (asked_then_put more.gave more.texts)) so.told ∙ with_all-more line.calls so.calls (asked_then_put more.gave more.texts);
      made = made;
      counted = omega (arith, made.calls);
    }
