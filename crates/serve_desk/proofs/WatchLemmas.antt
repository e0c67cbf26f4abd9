-- A session with looks, answer by answer.
use Rattle.std.proofs.Common.{◌≡◌, ◌≢◌, ◌≤◌, ℕ, ◌+◌, ◌-◌, ◌<◌, List, [], ◌++◌, length, None, Some, refl, sym, ap, ◌∙◌, subst, arith}
use Rattle.std.specs.declared.option.Option.{Option}
use Rattle.caller_lines.specs.Given.{Given}
use Rattle.caller_lines.specs.LineCalls.{LineCall}
use Rattle.board_window.specs.Walls.{FrontValue}
use Rattle.desk_model.specs.statements.Entry.{EntryValue}
use Rattle.desk_model.specs.histories.History.{history_of}
use Rattle.desk_model.specs.histories.Legal.{IsLegal}
use Rattle.desk_model.specs.statements.Opening.{OpeningValue}
use Rattle.desk_shared.specs.Kept.{KnowsOnlySure}
use Rattle.turn_gate.specs.Seats.{SeatValue}
use Rattle.turn_gate.specs.Told.{own}
use Rattle.serve_desk.specs.declared.limits.TheConstants.{LINES_PER_CALLER}
use Rattle.serve_desk.specs.declared.why.Why.{Why}
use Rattle.serve_desk.specs.declared.why.Why.TheVariants as reason
use Rattle.serve_desk.specs.Session.{lines_in, asked_then_put}
use Rattle.serve_desk.specs.Seats.{Made}
use Rattle.serve_desk.specs.Told.{with_all, LineValue}
use Rattle.serve_desk.specs.WatchAnswers.{Sight, AnswersWatched}
use Rattle.serve_desk.specs.WatchFollows.{Act, FollowsWatched, as_it_is_served, a_call_behind, a_look, a_look_that_is_not_put, too_few_calls_left, a_crew_call, a_crew_call_behind, no_memory_for_a_request, a_call_not_kept, a_crew_call_not_kept}
use Rattle.serve_desk.specs.WatchSession.{GoesOnWatched, it_begins, it_goes_on, it_ends, put_of}
use Rattle.serve_desk.specs.Watches.{Watches}
use Rattle.serve_desk.proofs.SeatLemmas.{Made-none, Made-then}
use Rattle.serve_desk.proofs.SessionLemmas.{IsLineMore, goes-on, left-behind}
use Rattle.serve_desk.proofs.SureLemmas.{HasSure-ends}
use Rattle.serve_desk.proofs.SightLemmas.{SeenSoFar, SeenSoFar-more, Sees-so}
use Rattle.serve_desk.proofs.ToldLemmas.{with_all-none, with_all-more, lines_in-line}

-- where a session goes on, the line gave a line of its caller, and not too many
goes-on-watched : (heard left : ℕ) (gave : Given) (es : List EntryValue) (texts : List (List ℕ)) (acts : List Act) (ends : Option Why) → FollowsWatched heard left gave es texts acts ends → ends ≡ None
    → IsLineMore heard gave
goes-on-watched heard left _ _ _ _ _ (as_it_is_served gave es texts ends no_look follows) on = goes-on heard left gave es texts ends follows on
goes-on-watched heard left _ _ _ _ _ (a_call_behind bytes e n texts ends few no_look states some behind puts) on = record { few = few; line = refl }
goes-on-watched heard left _ _ _ _ _ (a_look bytes board position seen what few is) on = record { few = few; line = refl }
goes-on-watched heard left _ _ _ _ _ (a_look_that_is_not_put bytes board position few is) on = record { few = few; line = refl }
goes-on-watched heard left _ _ _ _ _ (too_few_calls_left bytes t v w texts ends few is lacks puts) on = record { few = few; line = refl }
goes-on-watched heard left _ _ _ _ _ (a_crew_call bytes t v w entries told texts ends few is enough call puts) on = record { few = few; line = refl }
goes-on-watched heard left _ _ _ _ _ (a_crew_call_behind bytes t v w entries told n texts ends few is enough call behind puts) on = record { few = few; line = refl }
goes-on-watched heard left _ _ _ _ _ (no_memory_for_a_request bytes texts ends few puts) on = record { few = few; line = refl }
goes-on-watched heard left _ _ _ _ _ (a_call_not_kept bytes e texts few no_look states some tells) on = record { few = few; line = refl }
goes-on-watched heard left _ _ _ _ _ (a_crew_call_not_kept bytes t v w entries told texts few is enough call tells) on = record { few = few; line = refl }

-- a session so far: the line gave so many lines of its caller
pub record WatchedSoFar (o : OpeningValue) (left heard made_with : ℕ) (line now : LineValue) (seat after : SeatValue) (view seen : FrontValue) : Type 0 where
  pub calls : List LineCall
  pub entries : List EntryValue
  pub acts : List Act
  pub goes_on : GoesOnWatched left calls entries acts
  pub lines : lines_in calls ≡ heard
  pub told : now.calls ≡ with_all line.calls calls
  pub made : Made o seat after entries
  pub sight : SeenSoFar o made_with view.entries seen.entries after.known seat.number (own seat.known seat.number) acts

pub WatchedSoFar-begins : (o : OpeningValue) (left made_with : ℕ) (line : LineValue) (seat : SeatValue) (view : FrontValue) → SeenSoFar o made_with view.entries view.entries seat.known seat.number (own seat.known seat.number) []
    → WatchedSoFar o left 0 made_with line line seat seat view view
WatchedSoFar-begins o left made_with line seat view sight = record {
  calls = [];
  entries = [];
  acts = [];
  goes_on = it_begins;
  lines = refl;
  told = sym (with_all-none line.calls);
  made = Made-none o seat;
  sight = sight;
}

-- what follows at a seat, as the session counts
follows-here : (o : OpeningValue) (quota heard made_with : ℕ) (line now : LineValue) (seat after : SeatValue) (view seen : FrontValue) (gave : Given) (es : List EntryValue) (ts : List (List ℕ)) (acts : List Act) (ends : Option Why)
    → (so : WatchedSoFar o (quota - seat.calls) heard made_with line now seat after view seen) → FollowsWatched heard (quota - after.calls) gave es ts acts ends
    → FollowsWatched (lines_in so.calls) ((quota - seat.calls) - length so.entries) gave es ts acts ends
follows-here o quota heard made_with line now seat after view seen gave es ts acts ends so follows =
    subst (λ n. FollowsWatched n ((quota - seat.calls) - length so.entries) gave es ts acts ends) (sym so.lines)
    (subst (λ n. FollowsWatched heard n gave es ts acts ends) (left-behind quota seat.calls after.calls (length so.entries) so.made.calls) follows)

-- what the answer made of what is seen, of a seat whose number is the first's
sight-here : (o : OpeningValue) (seat after next : SeatValue) (seen later : List EntryValue) (es : List EntryValue) (acts : List Act) → Made o seat after es → Sight o after.number seen later after.known next.known acts
    → Sight o seat.number seen later after.known next.known acts
sight-here o seat after next seen later es acts made sight = subst (λ n. Sight o n seen later after.known next.known acts) made.number sight

-- one answer more, behind which the session goes on
pub WatchedSoFar-more : (o : OpeningValue) (quota heard made_with : ℕ) (line now later : LineValue) (seat after next : SeatValue) (view seen sees : FrontValue)
    → WatchedSoFar o (quota - seat.calls) heard made_with line now seat after view seen → AnswersWatched o heard (quota - after.calls) now later after next seen sees None
    → WatchedSoFar o (quota - seat.calls) (heard + 1) made_with line later seat next view sees
WatchedSoFar-more o quota heard made_with line now later seat after next view seen sees so more = record {
  calls = so.calls ++ asked_then_put more.gave more.texts;
  entries = so.entries ++ more.entries;
  acts = so.acts ++ more.acts;
  goes_on = it_goes_on so.calls so.entries so.acts more.gave more.entries more.texts more.acts so.goes_on
      (follows-here o quota heard made_with line now seat after view seen more.gave more.entries more.texts more.acts None so more.follows);
  lines = lines_in-line so.calls more.gave more.texts (goes-on-watched heard (quota - after.calls) more.gave more.entries more.texts more.acts None more.follows refl).line ∙ ap (λ n. n + 1) so.lines;
  told = more.told ∙ ap (λ xs. with_all xs (asked_then_put more.gave more.texts)) so.told ∙ with_all-more line.calls so.calls (asked_then_put more.gave more.texts);
  made = Made-then o seat after next so.entries more.entries so.made more.made;
  sight = SeenSoFar-more o made_with view.entries seat.number (own seat.known seat.number) seen.entries sees.entries after.known next.known so.acts more.acts so.sight
      (sight-here o seat after next seen.entries sees.entries so.entries more.acts so.made more.sight);
}

-- where it goes on, not too many lines were heard
pub AnswersWatched-few : (o : OpeningValue) (heard left : ℕ) (now later : LineValue) (after next : SeatValue) (seen sees : FrontValue) → AnswersWatched o heard left now later after next seen sees None → heard < LINES_PER_CALLER
AnswersWatched-few o heard left now later after next seen sees more = (goes-on-watched heard left more.gave more.entries more.texts more.acts None more.follows refl).few

-- the last answer
pub Watches-ends : (o : OpeningValue) (quota heard made_with had has : ℕ) (line now later : LineValue) (seat after next : SeatValue) (view seen sees : FrontValue) (why : Why)
    → WatchedSoFar o (quota - seat.calls) heard made_with line now seat after view seen → AnswersWatched o heard (quota - after.calls) now later after next seen sees (Some why)
    → IsLegal (history_of o sees.entries) → seat.calls + had ≡ quota → next.calls + has ≡ quota → KnowsOnlySure after → after.sure ≤ next.sure
    → (why ≢ reason.JournalFault → KnowsOnlySure next)
    → Watches o (quota - seat.calls) made_with line later seat next view sees why (had - has)
Watches-ends o quota heard made_with had has line now later seat after next view seen sees why so more legal left still sure no_fewer all =
    let made : Made o seat next (so.entries ++ more.entries) = Made-then o seat after next so.entries more.entries so.made more.made in
    record {
      calls = so.calls ++ asked_then_put more.gave more.texts;
      entries = so.entries ++ more.entries;
      acts = so.acts ++ more.acts;
      put = put_of why so.entries more.entries;
      session = it_ends so.calls so.entries so.acts more.gave more.entries more.texts more.acts why so.goes_on
          (follows-here o quota heard made_with line now seat after view seen more.gave more.entries more.texts more.acts (Some why) so more.follows);
      told = more.told ∙ ap (λ xs. with_all xs (asked_then_put more.gave more.texts)) so.told ∙ with_all-more line.calls so.calls (asked_then_put more.gave more.texts);
      made = made;
      counted = omega (arith, made.calls);
      sure = HasSure-ends seat after next so.entries more.entries why sure no_fewer all more.made.begins so.made.own_calls made.own_calls;
      sees = Sees-so o made_with view.entries seat.number (own seat.known seat.number) sees.entries next.known (so.acts ++ more.acts) legal
          (SeenSoFar-more o made_with view.entries seat.number (own seat.known seat.number) seen.entries sees.entries after.known next.known so.acts more.acts so.sight
          (sight-here o seat after next seen.entries sees.entries so.entries more.acts so.made more.sight));
    }
