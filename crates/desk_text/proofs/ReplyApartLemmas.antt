-- Different replies have different texts.
use Rattle.std.proofs.Common.{◌≡◌, ℕ, ◌<◌, ◌^◌, ◌==◌, Bool, true, false, cond, nat_lt, List, [], ◌∷◌, ◌++◌, get_or, take, drop, decimal, refl, sym, ap, subst, lit<, arith, append_assoc}
use Rattle.std.specs.List.{All}
use Rattle.std.proofs.lemmas.Bool.{ne_eqb, false≢true}
use Rattle.std.proofs.lemmas.Bool.Decides.{nat_tests}
use Rattle.std.proofs.lemmas.Fmt.{decimal_injective, decimal_is_IsNumeral}
use Rattle.std.proofs.lemmas.List.Elements.{All-from_get_or, All-cons, All-nil}
use Rattle.std.proofs.lemmas.List.Sums.{AllPass-from_list_all}
use Rattle.std.proofs.lemmas.Str.Parse.{digit_at}
use Rattle.desk_base.specs.declared.minute.TheConstants.{YEARS_END}
use Rattle.desk_base.specs.Code.{IsCode, is_code_byte}
use Rattle.desk_base.specs.Day.{day_text}
use Rattle.desk_base.specs.Minute.{minute_text}
use Rattle.desk_base.specs.Month.{month_text}
use Rattle.duty_events.specs.declared.event_fault.EventFault.{EventFault}
use Rattle.duty_events.specs.declared.event_fault.EventFault.TheVariants as fault
use Rattle.duty_events.specs.declared.kind.Kind.{Kind}
use Rattle.duty_events.specs.declared.kind.Kind.TheVariants as kind
use Rattle.duty_events.specs.declared.stage.Stage.{Stage}
use Rattle.duty_events.specs.declared.stage.Stage.TheVariants as stage
use Rattle.denial_rules.specs.declared.bar.Bar.{Bar}
use Rattle.denial_rules.specs.declared.bar.Bar.TheVariants as bar
use Rattle.denial_rules.specs.Bar.{FitsBar}
use Rattle.desk_model.specs.declared.reply.Reply.{Reply}
use Rattle.desk_model.specs.declared.reply.Reply.TheVariants as reply
use Rattle.desk_model.specs.declared.vac_state.VacState.{VacState}
use Rattle.desk_model.specs.declared.vac_state.VacState.TheVariants as state
use Rattle.desk_model.specs.texts.BarTexts.{late_text, bar_text}
use Rattle.desk_model.specs.statements.Fits.{FitsState, FitsFault, FitsReply}
use Rattle.desk_model.specs.texts.ReplyTexts.{state_text, stage_text, fault_text, reply_text}
use Rattle.desk_model.specs.texts.StatedTexts.{kind_text}
use Rattle.desk_text.proofs.CutLemmas.{cut-one}
use Rattle.command_parser.proofs.SpelledLemmas.{apart}
use Rattle.record_rows.proofs.MinuteLemmas.{minute_text-one}
use Rattle.command_parser.proofs.ApartLemmas.{number-one, month_text-one, craft_text-one, kind_text-one}

-- ---- texts between blanks

-- no byte is a blank
abbrev pub IsUnbroken : List ℕ → Type 0
IsUnbroken text = All (λ b. (b == 32) ≡ false) text

-- numbers, codes and kinds are such texts
pub decimal-unbroken : (n : ℕ) → n < 2 ^ 64 → IsUnbroken (decimal n)
decimal-unbroken n small = All-from_get_or (λ b. (b == 32) ≡ false) (decimal n) 0 (λ i within.
    let digit = digit_at (decimal n) i (decimal_is_IsNumeral n small).0.1 within in
    ne_eqb (get_or (decimal n) i 0) 32 (λ e. omega (arith, digit)))

pub code-unbroken : (code : List ℕ) → IsCode code → IsUnbroken code
code-unbroken code is k d within = letter (get_or code k d) (AllPass-from_list_all is_code_byte code is.bytes k d within)
  where
    letter : (b : ℕ) → is_code_byte b ≡ true → (b == 32) ≡ false
    letter b h = grind (arith, nat_tests, h)

pub kind-unbroken : (k : Kind) → IsUnbroken (kind_text k)
kind-unbroken kind.D = All-cons (λ b. (b == 32) ≡ false) 68 [] refl (All-nil (λ b. (b == 32) ≡ false))
kind-unbroken kind.P = All-cons (λ b. (b == 32) ≡ false) 80 [] refl (All-nil (λ b. (b == 32) ≡ false))
kind-unbroken kind.O = All-cons (λ b. (b == 32) ≡ false) 79 [] refl (All-nil (λ b. (b == 32) ≡ false))

-- where two texts are one, so is what stands before the first blank, and what stands behind it
split : (a b x y : List ℕ) → IsUnbroken a → IsUnbroken b → a ++ 32 ∷ x ≡ b ++ 32 ∷ y → (a ≡ b) × (x ≡ y)
split a b x y ha hb e = cut-one 32 a b x y ha hb e

-- a number, and a text behind it
numbered-one : (m n : ℕ) (x y : List ℕ) → m < 2 ^ 64 → n < 2 ^ 64 → decimal m ++ 32 ∷ x ≡ decimal n ++ 32 ∷ y → (m ≡ n) × (x ≡ y)
numbered-one m n x y hm hn e =
    let both = split (decimal m) (decimal n) x y (decimal-unbroken m hm) (decimal-unbroken n hn) e in
    (decimal_injective m n hm hn both.0, both.1)

-- two numbers
numbers-one : (a b m n : ℕ) → a < 2 ^ 64 → b < 2 ^ 64 → m < 2 ^ 64 → n < 2 ^ 64 → decimal a ++ 32 ∷ decimal m ≡ decimal b ++ 32 ∷ decimal n → (a ≡ b) × (m ≡ n)
numbers-one a b m n ha hb hm hn e =
    let both = numbered-one a b (decimal m) (decimal n) ha hb e in
    (both.0, decimal_injective m n hm hn both.1)

-- a code, and a number behind it
coded-one : (a b : List ℕ) (m n : ℕ) → IsCode a → IsCode b → m < 2 ^ 64 → n < 2 ^ 64 → a ++ 32 ∷ decimal m ≡ b ++ 32 ∷ decimal n → (a ≡ b) × (m ≡ n)
coded-one a b m n ha hb hm hn e =
    let both = split a b (decimal m) (decimal n) (code-unbroken a ha) (code-unbroken b hb) e in
    (both.0, decimal_injective m n hm hn both.1)

-- a month or a minute, and a text behind it: a month's text has 7 bytes, a minute's 16
dated-one : (a b : ℕ) (x y : List ℕ) → month_text a ++ 32 ∷ x ≡ month_text b ++ 32 ∷ y → (a ≡ b) × (x ≡ y)
unfolding month_text
dated-one a b x y e = (month_text-one a b (ap (take 7) e), ap (drop 8) e)

timed-one : (a b : ℕ) (x y : List ℕ) → minute_text a ++ 32 ∷ x ≡ minute_text b ++ 32 ∷ y → (a ≡ b) × (x ≡ y)
unfolding minute_text day_text month_text
timed-one a b x y e = (minute_text-one a b (ap (take 16) e), ap (drop 17) e)

-- no number is written as a minute is: a minute's text has a blank
minute-broken : (t : ℕ) → IsUnbroken (minute_text t) → ⊥
unfolding minute_text day_text month_text
minute-broken t is = let no : (32 == 32) ≡ false = is 10 0 (lit< tt) in false≢true (sym no)

-- a minute that may lie behind the year 2099
pub late_text-one : (a b : ℕ) → a < 2 ^ 28 → b < 2 ^ 28 → late_text a ≡ late_text b → a ≡ b
late_text-one a b ha hb e = go (nat_lt a YEARS_END) (nat_lt b YEARS_END) e
  where
    apart-decimal : (t n : ℕ) → n < 2 ^ 28 → minute_text t ≡ decimal n → ⊥
    apart-decimal t n small e = minute-broken t (subst IsUnbroken (sym e) (decimal-unbroken n (omega arith)))

    go : (c d : Bool) → cond c (minute_text a) (decimal a) ≡ cond d (minute_text b) (decimal b) → a ≡ b
    go true true e = minute_text-one a b e
    go true false e = absurd (apart-decimal a b hb e)
    go false true e = absurd (apart-decimal b a ha (sym e))
    go false false e = decimal_injective a b (omega arith) (omega arith) e

-- ---- bars

-- a row for each bar; of two different ones, as the last row sees for each pair, the texts differ at a byte that both spell out.
-- So it is with stages, states, faults and replies
bar_text-one : (a b : Bar) → FitsBar a → FitsBar b → bar_text a ≡ bar_text b → a ≡ b
bar_text-one bar.MarkedOff bar.MarkedOff ha hb e = refl
bar_text-one bar.InTour bar.InTour ha hb e = refl
bar_text-one (bar.Assigned v) (bar.Assigned v') ha hb e = ap bar.Assigned (number-one v v' ha hb (ap (drop 12) e))
bar_text-one (bar.OnOffer v) (bar.OnOffer v') ha hb e = ap bar.OnOffer (number-one v v' ha hb (ap (drop 3) e))
bar_text-one (bar.Elsewhere p) (bar.Elsewhere p') ha hb e = ap bar.Elsewhere (ap (drop 3) e)
bar_text-one (bar.OtherCraft c) (bar.OtherCraft c') ha hb e = ap bar.OtherCraft (craft_text-one c c' (ap (drop 3) e))
bar_text-one (bar.Lacks k) (bar.Lacks k') ha hb e = ap bar.Lacks (decimal_injective k k' (omega (arith, ha)) (omega (arith, hb)) (ap (drop 3) e))
bar_text-one bar.Answered bar.Answered ha hb e = refl
bar_text-one (bar.Held t) (bar.Held t') ha hb e = ap bar.Held (late_text-one t t' ha.1 hb.1 (ap (drop 3) e))
bar_text-one (bar.Rest t) (bar.Rest t') ha hb e = ap bar.Rest (late_text-one t t' ha.1 hb.1 (ap (drop 12) e))
bar_text-one (bar.MoreRest t) (bar.MoreRest t') ha hb e = ap bar.MoreRest (late_text-one t t' ha.1 hb.1 (ap (drop 12) e))
bar_text-one (bar.Undisturbed t) (bar.Undisturbed t') ha hb e = ap bar.Undisturbed (late_text-one t t' ha.1 hb.1 (ap (drop 9) e))
bar_text-one (bar.SixDays m n) (bar.SixDays m' n') ha hb e =
    let both = numbers-one m m' n n' (omega (arith, ha.0)) (omega (arith, hb.0)) (omega (arith, ha.1)) (omega (arith, hb.1)) (ap (drop 15) e) in
    rw (both.0, both.1) refl
bar_text-one (bar.SevenDays m n) (bar.SevenDays m' n') ha hb e =
    let both = numbers-one m m' n n' (omega (arith, ha.0)) (omega (arith, hb.0)) (omega (arith, ha.1)) (omega (arith, hb.1)) (ap (drop 19) e) in
    rw (both.0, both.1) refl
bar_text-one (bar.MonthHours m n) (bar.MonthHours m' n') ha hb e =
    let both = dated-one m m' (decimal n) (decimal n') (ap (drop 12) e) in
    rw (both.0, decimal_injective n n' (omega (arith, ha.1)) (omega (arith, hb.1)) both.1) refl
bar_text-one (bar.LimboHours m n) (bar.LimboHours m' n') ha hb e =
    let both = dated-one m m' (decimal n) (decimal n') (ap (drop 12) e) in
    rw (both.0, decimal_injective n n' (omega (arith, ha.1)) (omega (arith, hb.1)) both.1) refl
bar_text-one a b ha hb e = absurd (apart (bar_text a) (bar_text b) refl e)

-- ---- stages, states and faults

stage_text-one : (a b : Stage) → stage_text a ≡ stage_text b → a ≡ b
stage_text-one stage.Off stage.Off e = refl
stage_text-one stage.Riding stage.Riding e = refl
stage_text-one stage.Duty stage.Duty e = refl
stage_text-one (stage.Interim k t p) (stage.Interim k' t' p') e =
    let kind = split (kind_text k) (kind_text k') (minute_text t ++ 32 ∷ p) (minute_text t' ++ 32 ∷ p') (kind-unbroken k) (kind-unbroken k') (simp append_assoc at (ap (drop 8) e)) in
    let time = timed-one t t' p p' kind.1 in
    rw (kind_text-one k k' kind.0, time.0, time.1) refl
stage_text-one stage.Waiting stage.Waiting e = refl
stage_text-one stage.RidingHome stage.RidingHome e = refl
stage_text-one a b e = absurd (apart (stage_text a) (stage_text b) refl e)

state_text-one : (a b : VacState) → FitsState a → FitsState b → state_text a ≡ state_text b → a ≡ b
state_text-one state.Vacant state.Vacant ha hb e = refl
state_text-one (state.OnOffer p) (state.OnOffer p') ha hb e = ap state.OnOffer (number-one p p' ha hb (ap (drop 8) e))
state_text-one (state.Taken p) (state.Taken p') ha hb e = ap state.Taken (number-one p p' ha hb (ap (drop 6) e))
state_text-one (state.Begun p) (state.Begun p') ha hb e = ap state.Begun (number-one p p' ha hb (ap (drop 6) e))
state_text-one state.Annulled state.Annulled ha hb e = refl
state_text-one a b ha hb e = absurd (apart (state_text a) (state_text b) refl e)

fault_text-one : (a b : EventFault) → FitsFault a → FitsFault b → fault_text a ≡ fault_text b → a ≡ b
fault_text-one (fault.WrongStage s) (fault.WrongStage s') ha hb e = ap fault.WrongStage (stage_text-one s s' (ap (drop 12) e))
fault_text-one (fault.Behind t) (fault.Behind t') ha hb e = ap fault.Behind (minute_text-one t t' (ap (drop 7) e))
fault_text-one (fault.InterimTooLong n) (fault.InterimTooLong n') ha hb e = ap fault.InterimTooLong (decimal_injective n n' (omega (arith, ha)) (omega (arith, hb)) (ap (drop 17) e))
fault_text-one (fault.OtherPlace p) (fault.OtherPlace p') ha hb e = ap fault.OtherPlace (ap (drop 12) e)
fault_text-one a b ha hb e = absurd (apart (fault_text a) (fault_text b) refl e)

-- ---- replies

-- a reply with a fault's text is that fault: each fault has its row, since its text has no known byte before it is told which
event-one : (f : EventFault) (s : Reply) → FitsFault f → FitsReply s → fault_text f ≡ reply_text s → reply.Event f ≡ s
event-one f (reply.Event g) hf hs e = ap reply.Event (fault_text-one f g hf hs e)
event-one (fault.WrongStage s) other hf hs e = absurd (apart (fault_text (fault.WrongStage s)) (reply_text other) refl e)
event-one (fault.Behind t) other hf hs e = absurd (apart (fault_text (fault.Behind t)) (reply_text other) refl e)
event-one (fault.InterimTooLong n) other hf hs e = absurd (apart (fault_text (fault.InterimTooLong n)) (reply_text other) refl e)
event-one (fault.OtherPlace p) other hf hs e = absurd (apart (fault_text (fault.OtherPlace p)) (reply_text other) refl e)

pub reply_text-one : (r s : Reply) → FitsReply r → FitsReply s → reply_text r ≡ reply_text s → r ≡ s
reply_text-one (reply.Event f) s hr hs e = event-one f s hr hs e
reply_text-one r (reply.Event f) hr hs e = sym (event-one f r hs hr (sym e))
reply_text-one reply.Done reply.Done hr hs e = refl
reply_text-one (reply.Offered p b k) (reply.Offered p' b' k') hr hs e =
    let person = numbered-one p p' (b ++ 32 ∷ decimal k) (b' ++ 32 ∷ decimal k') (omega (arith, hr.0)) (omega (arith, hs.0)) (simp append_assoc at (ap (drop 8) e)) in
    let index = coded-one b b' k k' hr.1 hs.1 (omega (arith, hr.3)) (omega (arith, hs.3)) person.1 in
    rw (person.0, index.0, index.1) refl
reply_text-one (reply.Unfilled n) (reply.Unfilled n') hr hs e = ap reply.Unfilled (decimal_injective n n' (omega (arith, hr)) (omega (arith, hs)) (ap (drop 9) e))
reply_text-one (reply.Hours m n) (reply.Hours m' n') hr hs e =
    let both = numbers-one m m' n n' (omega (arith, hr.0)) (omega (arith, hs.0)) (omega (arith, hr.1)) (omega (arith, hs.1)) (ap (drop 6) e) in
    rw (both.0, both.1) refl
reply_text-one reply.NotListed reply.NotListed hr hs e = refl
reply_text-one (reply.Denied b) (reply.Denied b') hr hs e = ap reply.Denied (bar_text-one b b' hr hs (ap (drop 7) e))
reply_text-one (reply.Clear b k) (reply.Clear b' k') hr hs e =
    let index = coded-one b b' k k' hr.0 hs.0 (omega (arith, hr.2)) (omega (arith, hs.2)) (ap (drop 6) e) in
    rw (index.0, index.1) refl
reply_text-one (reply.Frozen v) (reply.Frozen v') hr hs e = ap reply.Frozen (number-one v v' hr hs (ap (drop 7) e))
reply_text-one reply.PastClosed reply.PastClosed hr hs e = refl
reply_text-one (reply.EventAhead t) (reply.EventAhead t') hr hs e = ap reply.EventAhead (minute_text-one t t' (ap (drop 12) e))
reply_text-one reply.OutsideWindow reply.OutsideWindow hr hs e = refl
reply_text-one reply.Used reply.Used hr hs e = refl
reply_text-one reply.PersonsFull reply.PersonsFull hr hs e = refl
reply_text-one reply.BoardsFull reply.BoardsFull hr hs e = refl
reply_text-one reply.UnknownPerson reply.UnknownPerson hr hs e = refl
reply_text-one (reply.UnknownBoard b) (reply.UnknownBoard b') hr hs e = ap reply.UnknownBoard (ap (drop 14) e)
reply_text-one reply.ListsFull reply.ListsFull hr hs e = refl
reply_text-one reply.MembersFull reply.MembersFull hr hs e = refl
reply_text-one reply.VacanciesFull reply.VacanciesFull hr hs e = refl
reply_text-one (reply.BadChain b) (reply.BadChain b') hr hs e = ap reply.BadChain (ap (drop 10) e)
reply_text-one reply.PlanTooLong reply.PlanTooLong hr hs e = refl
reply_text-one reply.ReliefTooLong reply.ReliefTooLong hr hs e = refl
reply_text-one reply.OtherEdition reply.OtherEdition hr hs e = refl
reply_text-one (reply.ReportPast t) (reply.ReportPast t') hr hs e = ap reply.ReportPast (minute_text-one t t' (ap (drop 12) e))
reply_text-one reply.UnknownVacancy reply.UnknownVacancy hr hs e = refl
reply_text-one (reply.Closed w) (reply.Closed w') hr hs e = ap reply.Closed (state_text-one w w' hr hs (ap (drop 7) e))
reply_text-one (reply.OfferOpen p) (reply.OfferOpen p') hr hs e = ap reply.OfferOpen (number-one p p' hr hs (ap (drop 11) e))
reply_text-one (reply.Lapsed t) (reply.Lapsed t') hr hs e = ap reply.Lapsed (late_text-one t t' hr.1 hs.1 (ap (drop 7) e))
reply_text-one (reply.Seen p) (reply.Seen p') hr hs e = ap reply.Seen (number-one p p' hr hs (ap (drop 5) e))
reply_text-one (reply.NoOne n) (reply.NoOne n') hr hs e = ap reply.NoOne (decimal_injective n n' (omega (arith, hr)) (omega (arith, hs)) (ap (drop 7) e))
reply_text-one (reply.State w) (reply.State w') hr hs e = ap reply.State (state_text-one w w' hr hs (ap (drop 6) e))
reply_text-one (reply.RunAround p) (reply.RunAround p') hr hs e = ap reply.RunAround (number-one p p' hr hs (ap (drop 11) e))
reply_text-one reply.Already reply.Already hr hs e = refl
reply_text-one reply.NoOffer reply.NoOffer hr hs e = refl
reply_text-one (reply.EarlyNoAnswer t) (reply.EarlyNoAnswer t') hr hs e = ap reply.EarlyNoAnswer (late_text-one t t' hr.1 hs.1 (ap (drop 6) e))
reply_text-one reply.NotAssigned reply.NotAssigned hr hs e = refl
reply_text-one r s hr hs e = absurd (apart (reply_text r) (reply_text s) refl e)
