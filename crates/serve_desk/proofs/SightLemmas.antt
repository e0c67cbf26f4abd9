-- What the looks of a session see, act by act.
use Rattle.std.proofs.Common.{◌≡◌, ℕ, zero, suc, ◌+◌, ◌-◌, ◌<◌, ◌≤◌, true, false, List, [], ◌∷◌, ◌++◌, length, take, refl, sym, ap, ◌∙◌, subst, arith, append-nil, append_assoc, length-append}
use mathlib.Core.List.{IsPrefix}
use Rattle.std.proofs.lemmas.List.{length-take-le}
use Rattle.board_window.specs.Shows.{spot_of}
use Rattle.board_window.specs.declared.spot.Spot.{Spot}
use Rattle.desk_model.specs.statements.Entry.{EntryValue}
use Rattle.desk_model.specs.histories.History.{history_of}
use Rattle.desk_model.specs.histories.Legal.{IsLegal}
use Rattle.desk_model.specs.statements.Opening.{OpeningValue}
use Rattle.turn_gate.specs.Told.{own}
use Rattle.serve_desk.specs.Sees.{EndsAt, AreSeen, no_act_yet, a_look, a_call_that_is_shown, a_call_that_is_not_shown, Sees}
use Rattle.serve_desk.specs.WatchAnswers.{KnowsByCalls, Sight, by_calls, by_calls_behind, by_a_look}
use Rattle.serve_desk.specs.WatchFollows.{Act, Looked, Called, shown, not_shown}

pub prefix-self : {A : Type 0} (xs : List A) → IsPrefix xs xs
prefix-self xs = ([], append-nil xs)

pub prefix-trans : {A : Type 0} (xs ys zs : List A) → IsPrefix xs ys → IsPrefix ys zs → IsPrefix xs zs
prefix-trans xs ys zs p q = (p.0 ++ q.0, sym (append_assoc xs p.0 q.0) ∙ ap (λ l. l ++ q.0) p.1 ∙ q.1)

pub prefix-length : {A : Type 0} (xs ys : List A) → IsPrefix xs ys → length xs ≤ length ys
prefix-length xs ys p = omega (arith, sym (ap length p.1) ∙ length-append xs p.0)

-- the first of a beginning are the first of the whole
pub take-front : {A : Type 0} (n : ℕ) (xs more : List A) → n ≤ length xs → take n (xs ++ more) ≡ take n xs
take-front zero xs more few = refl
take-front (suc n) [] more few = absurd (omega arith)
take-front (suc n) (x ∷ xs) more few = ap (λ l. x ∷ l) (take-front n xs more (omega arith))

pub take-prefix : {A : Type 0} (n : ℕ) (xs ys : List A) → IsPrefix xs ys → n ≤ length xs → take n xs ≡ take n ys
take-prefix n xs ys p few = sym (take-front n xs p.0 few) ∙ ap (take n) p.1

-- so many of the first as there are are all
pub take-all : {A : Type 0} (xs : List A) → take (length xs) xs ≡ xs
take-all [] = refl
take-all (x ∷ xs) = ap (λ l. x ∷ l) (take-all xs)

-- the caller's entries end there in a longer list too
pub EndsAt-longer : (es later : List EntryValue) (number : ℕ) (mine : List EntryValue) (upto : ℕ) → IsPrefix es later → EndsAt es number mine upto → EndsAt later number mine upto
EndsAt-longer es later number mine upto begins ends =
    let long = prefix-length es later begins in record {
      within = omega (arith, ends.within);
      has = ap (λ l. own l number) (sym (take-prefix upto es later begins ends.within)) ∙ ends.has;
      last = subst (λ (l : List EntryValue). length (own l number) < length mine) (take-prefix (upto - 1) es later begins (omega (arith, ends.within))) ends.last;
    }

-- looks that were right are so by what is seen and known later
pub AreSeen-longer : (o : OpeningValue) (seen later known now : List EntryValue) (number : ℕ) (mine : List EntryValue) (made_with : ℕ) (acts : List Act) (es : List EntryValue) (before upto agreed : ℕ)
    → IsPrefix seen later → IsPrefix known now → AreSeen o seen known number mine made_with acts es before upto agreed → AreSeen o later now number mine made_with acts es before upto agreed
AreSeen-longer o seen later known now number mine made_with _ _ _ _ _ more further no_act_yet = no_act_yet
AreSeen-longer o seen later known now number mine made_with _ _ _ _ _ more further (a_look acts es before upto agreed n board position are least shown within) =
    let rest = AreSeen-longer o seen later known now number mine made_with acts es before upto agreed more further are in
    subst (λ (l : List EntryValue). AreSeen o later now number mine made_with (acts ++ Looked n board position (spot_of (history_of o l) board position) ∷ []) es n upto upto) (sym (take-prefix n seen later more within))
    (a_look acts es before upto agreed n board position rest least shown (omega (arith, prefix-length seen later more)))
AreSeen-longer o seen later known now number mine made_with _ _ _ _ _ more further (a_call_that_is_shown acts es before upto agreed at e are ends) =
    a_call_that_is_shown acts es before upto agreed at e (AreSeen-longer o seen later known now number mine made_with acts es before upto agreed more further are)
    (EndsAt-longer known now number (es ++ e ∷ []) at further ends)
AreSeen-longer o seen later known now number mine made_with _ _ _ _ _ more further (a_call_that_is_not_shown acts es before upto agreed e are) =
    a_call_that_is_not_shown acts es before upto agreed e (AreSeen-longer o seen later known now number mine made_with acts es before upto agreed more further are)

-- ---- a session so far: what is seen and known is so far

pub record SeenSoFar (o : OpeningValue) (made_with : ℕ) (begun seen known : List EntryValue) (number : ℕ) (mine : List EntryValue) (acts : List Act) : Type 0 where
  pub begins : IsPrefix begun seen
  pub before : ℕ
  pub upto : ℕ
  pub agreed : ℕ
  pub are : AreSeen o seen known number mine made_with acts (own known number) before upto agreed
  pub less : before ≤ length seen
  pub seen_far : upto ≤ length seen
  pub known_far : upto ≤ length known
  pub same : take upto seen ≡ take upto known
  pub within : agreed ≤ upto

pub SeenSoFar-begins : (o : OpeningValue) (base begun known : List EntryValue) (number : ℕ) → IsPrefix base begun → IsPrefix base known
    → SeenSoFar o (length base) begun begun known number (own known number) []
SeenSoFar-begins o base begun known number saw knows = record {
  begins = prefix-self begun;
  before = length base;
  upto = length base;
  agreed = length base;
  are = no_act_yet;
  less = prefix-length base begun saw;
  seen_far = prefix-length base begun saw;
  known_far = prefix-length base known knows;
  same = sym (take-prefix (length base) base begun saw (omega arith)) ∙ take-prefix (length base) base known knows (omega arith);
  within = omega arith;
}

-- the caller's last entry ends what they know
last-ends : (before now : List EntryValue) (number : ℕ) (mine : List EntryValue) (e : EntryValue) → now ≡ before ++ e ∷ [] → own now number ≡ mine ++ e ∷ [] → own before number ≡ mine
    → EndsAt now number (mine ++ e ∷ []) (length now)
last-ends before now number mine e is owns had =
    let long : length now ≡ length before + 1 = ap length is ∙ length-append before (e ∷ []) in
    let front : take (length now - 1) now ≡ before = ap (λ l. take (length now - 1) l) is ∙ ap (λ n. take n (before ++ e ∷ [])) (omega arith) ∙ take-front (length before) before (e ∷ []) (omega arith) ∙ take-all before in
    record {
      within = omega arith;
      has = ap (λ l. own l number) (take-all now) ∙ owns;
      last = subst (λ (l : List EntryValue). length l < length (mine ++ e ∷ [])) (sym (ap (λ l. own l number) front ∙ had)) (omega (arith, length-append mine (e ∷ [])));
    }

take-begins : {A : Type 0} (n : ℕ) (xs : List A) → IsPrefix (take n xs) xs
take-begins zero xs = (xs, refl)
take-begins (suc n) [] = ([], refl)
take-begins (suc n) (x ∷ xs) = let rest = take-begins n xs in (rest.0, ap (λ ys. x ∷ ys) rest.1)

-- lists that are the same up to a position are so up to each before it
take-less : {A : Type 0} (n m : ℕ) (xs ys : List A) → n ≤ m → m ≤ length xs → m ≤ length ys → take m xs ≡ take m ys → take n xs ≡ take n ys
take-less n m xs ys less here there same =
    sym (take-prefix n (take m xs) xs (take-begins m xs) (omega (arith, length-take-le m xs here))) ∙ ap (take n) same ∙ take-prefix n (take m ys) ys (take-begins m ys) (omega (arith, length-take-le m ys there))

-- what is known after calls begins with what was known before
pub calls-begin : (number : ℕ) (known es now : List EntryValue) → KnowsByCalls number known es now → IsPrefix known now
calls-begin number known [] now knows = ([], append-nil known ∙ sym knows)
calls-begin number known (e ∷ es) now knows =
    prefix-trans known knows.0 now knows.1.0 (prefix-trans knows.0 (knows.0 ++ e ∷ []) now (e ∷ [], refl) (calls-begin number (knows.0 ++ e ∷ []) es now knows.1.1.1.1))

module _ (o : OpeningValue) (made_with : ℕ) (begun : List EntryValue) (number : ℕ) (mine : List EntryValue) where
  -- no call
  stays : (seen later known now : List EntryValue) (acts : List Act) → SeenSoFar o made_with begun seen known number mine acts → IsPrefix seen later → now ≡ known
      → SeenSoFar o made_with begun later now number mine (acts ++ [])
  stays seen later known now acts so more is =
      let long = prefix-length seen later more in
      let are = AreSeen-longer o seen later known known number mine made_with acts (own known number) so.before so.upto so.agreed more (prefix-self known) so.are in
      let at_known : SeenSoFar o made_with begun later known number mine acts = record {
        begins = prefix-trans begun seen later so.begins more;
        before = so.before;
        upto = so.upto;
        agreed = so.agreed;
        are = are;
        less = omega (arith, so.less);
        seen_far = omega (arith, so.seen_far);
        known_far = so.known_far;
        same = sym (take-prefix so.upto seen later more so.seen_far) ∙ so.same;
        within = so.within;
      } in
      subst (λ (l : List Act). SeenSoFar o made_with begun later now number mine l) (sym (append-nil acts))
      (subst (λ (l : List EntryValue). SeenSoFar o made_with begun later l number mine acts) (sym is) at_known)

  -- a call that is shown, and one that isn't
  one-shown : (seen later known before now : List EntryValue) (acts : List Act) (e : EntryValue) → SeenSoFar o made_with begun seen known number mine acts → IsPrefix seen later → IsPrefix known before
      → now ≡ before ++ e ∷ [] → own before number ≡ own known number → own now number ≡ own known number ++ e ∷ [] → IsPrefix now later
      → SeenSoFar o made_with begun later now number mine (acts ++ Called e true ∷ [])
  one-shown seen later known before now acts e so more front is had owns told =
      let long = prefix-length seen later more in
      let grows : IsPrefix known now = prefix-trans known before now front (e ∷ [], sym is) in
      let far = prefix-length known now grows in
      let are = AreSeen-longer o seen later known now number mine made_with acts (own known number) so.before so.upto so.agreed more grows so.are in
      let called = a_call_that_is_shown acts (own known number) so.before so.upto so.agreed (length now) e are (last-ends before now number (own known number) e is owns had) in
      record {
        begins = prefix-trans begun seen later so.begins more;
        before = so.before;
        upto = length now;
        agreed = so.agreed;
        are = subst (λ (l : List EntryValue). AreSeen o later now number mine made_with (acts ++ Called e true ∷ []) l so.before (length now) so.agreed) (sym owns) called;
        less = omega (arith, so.less);
        seen_far = prefix-length now later told;
        known_far = omega arith;
        same = sym (take-prefix (length now) now later told (omega arith));
        within = omega (arith, so.within, so.known_far);
      }

  one-behind : (seen later known now : List EntryValue) (acts : List Act) (e : EntryValue) → SeenSoFar o made_with begun seen known number mine acts → IsPrefix seen later → IsPrefix known now
      → own now number ≡ own known number ++ e ∷ [] → SeenSoFar o made_with begun later now number mine (acts ++ Called e false ∷ [])
  one-behind seen later known now acts e so more grows owns =
      let long = prefix-length seen later more in
      let far = prefix-length known now grows in
      let are = AreSeen-longer o seen later known now number mine made_with acts (own known number) so.before so.upto so.agreed more grows so.are in
      let called = a_call_that_is_not_shown acts (own known number) so.before so.upto so.agreed e are in
      record {
        begins = prefix-trans begun seen later so.begins more;
        before = so.before;
        upto = so.upto;
        agreed = so.agreed;
        are = subst (λ (l : List EntryValue). AreSeen o later now number mine made_with (acts ++ Called e false ∷ []) l so.before so.upto so.agreed) (sym owns) called;
        less = omega (arith, so.less);
        seen_far = omega (arith, so.seen_far);
        known_far = omega (arith, so.known_far);
        same = sym (take-prefix so.upto seen later more so.seen_far) ∙ so.same ∙ take-prefix so.upto known now grows so.known_far;
        within = so.within;
      }

  -- calls one after another
  calls-shown : (seen later known now : List EntryValue) (acts : List Act) (es : List EntryValue) → SeenSoFar o made_with begun seen known number mine acts → IsPrefix seen later
      → KnowsByCalls number known es now → IsPrefix now later → SeenSoFar o made_with begun later now number mine (acts ++ shown es)
  calls-shown seen later known now acts [] so more knows told = stays seen later known now acts so more knows
  calls-shown seen later known now acts (e ∷ es) so more knows told =
      let then : List EntryValue = knows.0 ++ e ∷ [] in
      let rest = knows.1.1.1.1 in
      let far : IsPrefix then later = prefix-trans then now later (calls-begin number then es now rest) told in
      let one = one-shown seen later known knows.0 then acts e so more knows.1.0 refl knows.1.1.0 knows.1.1.1.0 far in
      subst (λ (l : List Act). SeenSoFar o made_with begun later now number mine l) (append_assoc acts (Called e true ∷ []) (shown es))
      (calls-shown later later then now (acts ++ Called e true ∷ []) es one (prefix-self later) rest told)

  calls-behind : (seen later known now : List EntryValue) (acts : List Act) (es : List EntryValue) → SeenSoFar o made_with begun seen known number mine acts → IsPrefix seen later
      → KnowsByCalls number known es now → SeenSoFar o made_with begun later now number mine (acts ++ not_shown es)
  calls-behind seen later known now acts [] so more knows = stays seen later known now acts so more knows
  calls-behind seen later known now acts (e ∷ es) so more knows =
      let then : List EntryValue = knows.0 ++ e ∷ [] in
      let grows : IsPrefix known then = prefix-trans known knows.0 then knows.1.0 (e ∷ [], refl) in
      let one = one-behind seen later known then acts e so more grows knows.1.1.1.0 in
      subst (λ (l : List Act). SeenSoFar o made_with begun later now number mine l) (append_assoc acts (Called e false ∷ []) (not_shown es))
      (calls-behind later later then now (acts ++ Called e false ∷ []) es one (prefix-self later) knows.1.1.1.1)

  -- an answer more
  pub SeenSoFar-more : (seen later known now : List EntryValue) (acts further : List Act) → SeenSoFar o made_with begun seen known number mine acts → Sight o number seen later known now further
      → SeenSoFar o made_with begun later now number mine (acts ++ further)
  SeenSoFar-more seen later known now acts _ so (by_calls es more knows told) = calls-shown seen later known now acts es so more knows told
  SeenSoFar-more seen later known now acts _ so (by_calls_behind es more knows) = calls-behind seen later known now acts es so more knows
  SeenSoFar-more seen later known now acts _ so (by_a_look board position n what more is all sees) =
      let long = prefix-length seen later more in
      let known_is : known ≡ now = sym is in
      let are = AreSeen-longer o seen later known known number mine made_with acts (own known number) so.before so.upto so.agreed more (prefix-self known) so.are in
      let looked = a_look acts (own known number) so.before so.upto so.agreed n board position are (omega (arith, so.less)) (omega (arith, so.seen_far)) (omega arith) in
      let saw : spot_of (history_of o (take n later)) board position ≡ what = ap (λ l. spot_of (history_of o l) board position) (ap (λ k. take k later) all ∙ take-all later) ∙ sym sees in
      let at_known : SeenSoFar o made_with begun later known number mine (acts ++ Looked n board position what ∷ []) = record {
        begins = prefix-trans begun seen later so.begins more;
        before = n;
        upto = so.upto;
        agreed = so.upto;
        are = subst (λ (x : Spot). AreSeen o later known number mine made_with (acts ++ Looked n board position x ∷ []) (own known number) n so.upto so.upto) saw looked;
        less = omega arith;
        seen_far = omega (arith, so.seen_far);
        known_far = so.known_far;
        same = sym (take-prefix so.upto seen later more so.seen_far) ∙ so.same;
        within = omega arith;
      } in
      subst (λ (l : List EntryValue). SeenSoFar o made_with begun later l number mine (acts ++ Looked n board position what ∷ [])) known_is at_known

  -- the end
  pub Sees-so : (seen known : List EntryValue) (acts : List Act) → IsLegal (history_of o seen) → SeenSoFar o made_with begun seen known number mine acts → Sees o made_with begun seen known number mine acts
  Sees-so seen known acts legal so = record {
    legal = legal;
    begins = so.begins;
    now = own known number;
    before = so.before;
    upto = so.upto;
    agreed = so.agreed;
    are = so.are;
    agrees = take-less so.agreed so.upto seen known so.within so.seen_far so.known_far so.same;
  }
