-- Different values have different texts.
use Rattle.std.proofs.Common.{◌≡◌, ◌∙◌, ℕ, ◌<◌, ◌^◌, Bool, true, false, inl, inr, nat_eq, List, [], ◌∷◌, get_or, drop, map, codes, decimal, refl, sym, ap, arith}
use Rattle.std.specs.Cmp.Lexicographic.{pointwise}
use Rattle.std.proofs.lemmas.Bool.{cases_Bool, false≢true}
use Rattle.std.proofs.lemmas.Bool.Decides.{Decides-eqb}
use Rattle.std.proofs.lemmas.Fmt.{decimal_injective}
use Rattle.std.proofs.lemmas.Slice.Eq.{slice_eq-Decides}
use Rattle.desk_base.specs.Number.{IsNumber}
use Rattle.desk_base.specs.Month.{month_text}
use Rattle.desk_base.specs.Span.{span_of}
use Rattle.duty_events.specs.declared.kind.Kind.{Kind}
use Rattle.duty_events.specs.declared.kind.Kind.TheVariants as kind
use Rattle.duty_events.specs.declared.event.Event.{Event}
use Rattle.duty_events.specs.declared.event.Event.TheVariants as event
use Rattle.desk_base.specs.Parts.{parts_by}
use Rattle.desk_base.proofs.TextLemmas.{month_text_spells}
use Rattle.qualifications.specs.declared.craft.Craft.{Craft}
use Rattle.qualifications.specs.declared.craft.Craft.TheVariants as craft
use Rattle.qualifications.specs.Craft.{craft_text}
use Rattle.qualifications.specs.Quals.{quals_text, numbers_below}
use Rattle.qualifications.proofs.NumbersLemmas.{AreBelow, AreBelow-numbers_below, bits_with, bits_with-all, parts-quals_text, quals_text-dash}
use Rattle.desk_model.specs.declared.command.Cmd.{Cmd}
use Rattle.desk_model.specs.declared.command.Cmd.TheVariants as cmd
use Rattle.desk_model.specs.statements.Chain.{IsChain, chain_text}
use Rattle.desk_model.specs.statements.Job.{JobValue}
use Rattle.desk_model.specs.statements.Statement.{StatedValue, stated_of}
use Rattle.desk_model.specs.statements.Fits.{IsCommand, IsJob, IsStated}
use Rattle.desk_model.specs.texts.StatedTexts.{sort_text, kind_text, event_fields, job_fields, command_fields, stated_fields}
use Rattle.desk_model.proofs.ChainLemmas.{parts_by-chain_text}
use Rattle.record_rows.proofs.MinuteLemmas.{minute_text-one}
use Rattle.command_parser.specs.Spelled.{StatesCommand}
use Rattle.command_parser.proofs.SpelledLemmas.{apart, job-of, vacancy}

pub number-one : (a b : ℕ) → IsNumber a → IsNumber b → decimal a ≡ decimal b → a ≡ b
number-one a b ha hb e = decimal_injective a b (omega (arith, ha.1)) (omega (arith, hb.1)) e

pub craft_text-one : (a b : Craft) → craft_text a ≡ craft_text b → a ≡ b
craft_text-one craft.E craft.E e = refl
craft_text-one craft.C craft.C e = refl
craft_text-one craft.B craft.B e = refl
craft_text-one a b e = absurd (apart (craft_text a) (craft_text b) refl e)

sort_text-one : (a b : Bool) → sort_text a ≡ sort_text b → a ≡ b
sort_text-one true true e = refl
sort_text-one false false e = refl
sort_text-one true false e = absurd (apart (codes "extra") (codes "pool") refl e)
sort_text-one false true e = absurd (apart (codes "pool") (codes "extra") refl e)

chain_text-one : (a b : List (List ℕ)) → IsChain a → IsChain b → chain_text a ≡ chain_text b → a ≡ b
chain_text-one a b ha hb e = sym (parts_by-chain_text a ha) ∙ ap (parts_by 43) e ∙ parts_by-chain_text b hb

-- numbers of qualifications are told apart by their texts
decimals-one : (ms ns : List ℕ) → AreBelow 64 ms → AreBelow 64 ns → map decimal ms ≡ map decimal ns → ms ≡ ns
decimals-one [] [] hm hn e = refl
decimals-one [] (n ∷ ns) hm hn e = let e = e in cc
decimals-one (m ∷ ms) [] hm hn e = let e = e in cc
decimals-one (m ∷ ms) (n ∷ ns) hm hn e =
    let first = decimal_injective m n (omega (arith, hm.0)) (omega (arith, hn.0)) (ap (λ l. get_or l 0 []) e) in
    let others = decimals-one ms ns hm.1 hn.1 (ap (λ l. drop 1 l) e) in
    rw (first, others) refl

quals_text-one : (a b : ℕ) → a < 2 ^ 64 → b < 2 ^ 64 → quals_text a ≡ quals_text b → a ≡ b
quals_text-one a b ha hb e =
    let dash = slice_eq-Decides Decides-eqb (quals_text b) (codes "-") _ refl in
    elim (cases_Bool (pointwise nat_eq (quals_text b) (codes "-"))) [
      | inl is ↦ let none = sym (dash.0 is) in sym (quals_text-dash a ha (none ∙ sym e)) ∙ quals_text-dash b hb none
      | inr is ↦
          let some : quals_text b ≡ codes "-" → ⊥ = λ none. false≢true (sym is ∙ dash.1 none) in
          let parts = sym (parts-quals_text a (quals_text b) (sym e) some) ∙ parts-quals_text b (quals_text b) refl some in
          let numbers = decimals-one (numbers_below a 64) (numbers_below b 64) (AreBelow-numbers_below a 64 (omega arith)) (AreBelow-numbers_below b 64 (omega arith)) parts in
          sym (bits_with-all a ha) ∙ ap (bits_with 0) numbers ∙ bits_with-all b hb
    ]

job_fields-one : (a b : JobValue) → IsJob a → IsJob b → a.relief ≡ b.relief → job_fields a ≡ job_fields b → a ≡ b
job_fields-one a b ha hb relief e =
    let vac = number-one a.vac b.vac ha.vac hb.vac (ap (λ l. get_or l 0 []) e) in
    let craft = craft_text-one a.craft b.craft (ap (λ l. get_or l 1 []) e) in
    let quals = quals_text-one a.quals b.quals ha.quals hb.quals (ap (λ l. get_or l 2 []) e) in
    let place : a.place ≡ b.place = ap (λ l. get_or l 3 []) e in
    let report = minute_text-one a.report b.report (ap (λ l. get_or l 4 []) e) in
    let duty = decimal_injective a.duty b.duty (omega (arith, ha.plan.most)) (omega (arith, hb.plan.most)) (ap (λ l. get_or l 5 []) e) in
    let limbo = decimal_injective a.limbo b.limbo (omega (arith, ha.plan.limbo_most)) (omega (arith, hb.plan.limbo_most)) (ap (λ l. get_or l 6 []) e) in
    let chain = chain_text-one a.chain b.chain ha.chain hb.chain (ap (λ l. get_or l 7 []) e) in
    job-of b a.vac a.craft a.quals a.place a.report a.duty a.limbo a.chain a.relief vac craft quals place report duty limbo chain relief

pub kind_text-one : (a b : Kind) → kind_text a ≡ kind_text b → a ≡ b
kind_text-one kind.D kind.D e = refl
kind_text-one kind.P kind.P e = refl
kind_text-one kind.O kind.O e = refl
kind_text-one a b e = absurd (apart (kind_text a) (kind_text b) refl e)

pub month_text-one : (a b : ℕ) → month_text a ≡ month_text b → a ≡ b
month_text-one a b e =
    let s = month_text_spells (month_text b) a (sym e) in
    let t = month_text_spells (month_text b) b refl in
    omega (arith, s.year, s.number, t.year, t.number)

pub event_fields-one : (a b : Event) → event_fields a ≡ event_fields b → a ≡ b
event_fields-one (event.Ride t) (event.Ride t') e = ap event.Ride (minute_text-one t t' (ap (λ l. get_or l 1 []) e))
event_fields-one (event.Duty t) (event.Duty t') e = ap event.Duty (minute_text-one t t' (ap (λ l. get_or l 1 []) e))
event_fields-one (event.Interim t k p) (event.Interim t' k' p') e =
    let at = minute_text-one t t' (ap (λ l. get_or l 1 []) e) in
    let kind = kind_text-one k k' (ap (λ l. get_or l 2 []) e) in
    let place : p ≡ p' = ap (λ l. get_or l 3 []) e in
    rw (at, kind, place) refl
event_fields-one (event.Resume t) (event.Resume t') e = ap event.Resume (minute_text-one t t' (ap (λ l. get_or l 1 []) e))
event_fields-one (event.Relieve t) (event.Relieve t') e = ap event.Relieve (minute_text-one t t' (ap (λ l. get_or l 1 []) e))
event_fields-one (event.RideHome t) (event.RideHome t') e = ap event.RideHome (minute_text-one t t' (ap (λ l. get_or l 1 []) e))
event_fields-one (event.Final t p) (event.Final t' p') e =
    let at = minute_text-one t t' (ap (λ l. get_or l 1 []) e) in
    let place : p ≡ p' = ap (λ l. get_or l 2 []) e in
    rw (at, place) refl
event_fields-one (event.Other s p) (event.Other s' p') e =
    let from = minute_text-one s.from s'.from (ap (λ l. get_or l 1 []) e) in
    let to = minute_text-one s.to s'.to (ap (λ l. get_or l 2 []) e) in
    let place : p ≡ p' = ap (λ l. get_or l 3 []) e in
    let same : event.Other (span_of s.from s.to) p ≡ event.Other (span_of s'.from s'.to) p' = rw (from, to, place) refl in
    same
event_fields-one a b e = absurd (apart (get_or (event_fields a) 0 []) (get_or (event_fields b) 0 []) refl (ap (λ l. get_or l 0 []) e))

-- a command about a person, or about a vacancy, has no other text; `about` is the command
number_fields-one : (about : ℕ → Cmd) (w : List ℕ) (n n' : ℕ) → IsNumber n → IsNumber n'
    → w ∷ decimal n ∷ [] ≡ w ∷ decimal n' ∷ [] → about n ≡ about n'
number_fields-one about w n n' h h' e = ap about (number-one n n' h h' (ap (λ l. get_or l 1 []) e))

-- nor has one about a person and a board
board_fields-one : (about : ℕ → List ℕ → Cmd) (w : List ℕ) (p : ℕ) (b : List ℕ) (p' : ℕ) (b' : List ℕ) → IsNumber p → IsNumber p'
    → w ∷ decimal p ∷ b ∷ [] ≡ w ∷ decimal p' ∷ b' ∷ [] → about p b ≡ about p' b'
board_fields-one about w p b p' b' h h' e =
    let person = number-one p p' h h' (ap (λ l. get_or l 1 []) e) in
    let board : b ≡ b' = ap (λ l. get_or l 2 []) e in
    rw (person, board) refl

-- nor one about a vacancy and a person
offer_fields-one : (about : ℕ → ℕ → Cmd) (w : List ℕ) (v p v' p' : ℕ) → IsNumber v × IsNumber p → IsNumber v' × IsNumber p'
    → w ∷ decimal v ∷ decimal p ∷ [] ≡ w ∷ decimal v' ∷ decimal p' ∷ [] → about v p ≡ about v' p'
offer_fields-one about w v p v' p' h h' e =
    let vac = number-one v v' h.0 h'.0 (ap (λ l. get_or l 1 []) e) in
    let person = number-one p p' h.1 h'.1 (ap (λ l. get_or l 2 []) e) in
    rw (vac, person) refl

-- nor one about a person and an event
told_fields-one : (about : ℕ → Event → Cmd) (w : List ℕ) (p : ℕ) (t : Event) (p' : ℕ) (t' : Event) → IsNumber p → IsNumber p'
    → w ∷ decimal p ∷ event_fields t ≡ w ∷ decimal p' ∷ event_fields t' → about p t ≡ about p' t'
told_fields-one about w p t p' t' h h' e =
    let person = number-one p p' h h' (ap (λ l. get_or l 1 []) e) in
    let told = event_fields-one t t' (ap (λ l. drop 2 l) e) in
    rw (person, told) refl

-- a command with a job's fields is that job's vacancy: it has its row, since its word is not known before it is told which
vacancy-one : (job : JobValue) (b : Cmd) → IsJob job → IsCommand b → command_fields (cmd.Vacancy job) ≡ command_fields b → cmd.Vacancy job ≡ b
vacancy-one job b hj hb e =
    let v = vacancy job.relief (job_fields job) b (record { valid = hb; fields_are = e }) in
    ap cmd.Vacancy (job_fields-one job v.job hj v.job_in v.relief_is v.fields_are) ∙ sym v.is

command_fields-one : (a b : Cmd) → IsCommand a → IsCommand b → command_fields a ≡ command_fields b → a ≡ b
command_fields-one (cmd.Vacancy job) b ha hb e = vacancy-one job b ha hb e
command_fields-one a (cmd.Vacancy job) ha hb e = sym (vacancy-one job a hb ha (sym e))
command_fields-one (cmd.Enrol p c h q) (cmd.Enrol p' c' h' q') ha hb e =
    let person = number-one p p' ha.0 hb.0 (ap (λ l. get_or l 1 []) e) in
    let craft = craft_text-one c c' (ap (λ l. get_or l 2 []) e) in
    let home : h ≡ h' = ap (λ l. get_or l 3 []) e in
    let quals = quals_text-one q q' ha.2 hb.2 (ap (λ l. get_or l 4 []) e) in
    rw (person, craft, home, quals) refl
command_fields-one (cmd.Board b x p) (cmd.Board b' x' p') ha hb e =
    let board : b ≡ b' = ap (λ l. get_or l 1 []) e in
    let extra = sort_text-one x x' (ap (λ l. get_or l 2 []) e) in
    let place : p ≡ p' = ap (λ l. get_or l 3 []) e in
    rw (board, extra, place) refl
command_fields-one (cmd.List p b) (cmd.List p' b') ha hb e = board_fields-one cmd.List _ p b p' b' ha.0 hb.0 e
command_fields-one (cmd.Unlist p b) (cmd.Unlist p' b') ha hb e = board_fields-one cmd.Unlist _ p b p' b' ha.0 hb.0 e
command_fields-one (cmd.MarkOff p) (cmd.MarkOff p') ha hb e = number_fields-one cmd.MarkOff _ p p' ha hb e
command_fields-one (cmd.MarkOn p) (cmd.MarkOn p') ha hb e = number_fields-one cmd.MarkOn _ p p' ha hb e
command_fields-one (cmd.Qualify p q) (cmd.Qualify p' q') ha hb e =
    let person = number-one p p' ha.0 hb.0 (ap (λ l. get_or l 1 []) e) in
    let quals = quals_text-one q q' ha.1 hb.1 (ap (λ l. get_or l 2 []) e) in
    rw (person, quals) refl
command_fields-one (cmd.Past p t) (cmd.Past p' t') ha hb e = told_fields-one cmd.Past _ p t p' t' ha.0 hb.0 e
command_fields-one (cmd.Happened p t) (cmd.Happened p' t') ha hb e = told_fields-one cmd.Happened _ p t p' t' ha.0 hb.0 e
command_fields-one (cmd.Next v) (cmd.Next v') ha hb e = number_fields-one cmd.Next _ v v' ha hb e
command_fields-one (cmd.Offer v p) (cmd.Offer v' p') ha hb e = offer_fields-one cmd.Offer _ v p v' p' ha hb e
command_fields-one (cmd.Accept v p) (cmd.Accept v' p') ha hb e = offer_fields-one cmd.Accept _ v p v' p' ha hb e
command_fields-one (cmd.Decline v p) (cmd.Decline v' p') ha hb e = offer_fields-one cmd.Decline _ v p v' p' ha hb e
command_fields-one (cmd.NoAnswer v p) (cmd.NoAnswer v' p') ha hb e = offer_fields-one cmd.NoAnswer _ v p v' p' ha hb e
command_fields-one (cmd.Withdraw v p) (cmd.Withdraw v' p') ha hb e = offer_fields-one cmd.Withdraw _ v p v' p' ha hb e
command_fields-one (cmd.Annul v) (cmd.Annul v') ha hb e = number_fields-one cmd.Annul _ v v' ha hb e
command_fields-one (cmd.Drop p) (cmd.Drop p') ha hb e = number_fields-one cmd.Drop _ p p' ha hb e
command_fields-one (cmd.Hours p m) (cmd.Hours p' m') ha hb e =
    let person = number-one p p' ha.0 hb.0 (ap (λ l. get_or l 1 []) e) in
    let month = month_text-one m m' (ap (λ l. get_or l 2 []) e) in
    rw (person, month) refl
command_fields-one (cmd.At b k) (cmd.At b' k') ha hb e =
    let board : b ≡ b' = ap (λ l. get_or l 1 []) e in
    let place = decimal_injective k k' (omega (arith, ha.2)) (omega (arith, hb.2)) (ap (λ l. get_or l 2 []) e) in
    rw (board, place) refl
command_fields-one (cmd.Explain v p) (cmd.Explain v' p') ha hb e = offer_fields-one cmd.Explain _ v p v' p' ha hb e
command_fields-one (cmd.Vac v) (cmd.Vac v') ha hb e = number_fields-one cmd.Vac _ v v' ha hb e
command_fields-one a b ha hb e = absurd (apart (get_or (command_fields a) 0 []) (get_or (command_fields b) 0 []) refl (ap (λ l. get_or l 0 []) e))

-- fields state one thing at most
pub stated_fields-one : (s t : StatedValue) → IsStated s → IsStated t → stated_fields s ≡ stated_fields t → s ≡ t
stated_fields-one s t hs ht e =
    let minute = minute_text-one s.minute t.minute (ap (λ l. get_or l 0 []) e) in
    let command = command_fields-one s.cmd t.cmd hs.cmd ht.cmd (ap (λ l. drop 1 l) e) in
    let same : stated_of s.minute s.cmd ≡ stated_of t.minute t.cmd = rw (minute, command) refl in
    same

pub StatesCommand-one : (fields : List (List ℕ)) (s t : StatedValue) → StatesCommand fields s → StatesCommand fields t → s ≡ t
StatesCommand-one fields s t is also = stated_fields-one s t is.valid also.valid (sym is.fields_are ∙ also.fields_are)
