-- Legal histories: they grow by the entries that the rules give, and by no others.
use Rattle.std.proofs.Common.{◌≡◌, ◌⊎◌, inl, inr, ℕ, ◌+◌, Bool, true, false, cond, Option, Some, List, [], ◌∷◌, ◌++◌, length, map, refl, sym, ap, subst, ◌∙◌, append-nil, append_assoc, length-append, arith}
use Rattle.std.specs.List.{All}
use Rattle.std.proofs.Math.Seq.{append_snoc}
use Rattle.std.proofs.lemmas.Bool.{false≢true}
use Rattle.std.proofs.lemmas.List.{map-append}
use Rattle.std.proofs.lemmas.List.Elements.{All-nil, All-cons, All-tail, All-append}
use Rattle.desk_model.specs.declared.command.Cmd.{Cmd}
use Rattle.desk_model.specs.declared.reply.Reply.TheVariants as reply
use Rattle.desk_model.specs.statements.Opening.{OpeningValue, IsOpening}
use Rattle.desk_model.specs.statements.Statement.{StatedValue}
use Rattle.desk_model.specs.statements.Entry.{EntryValue, entry_of}
use Rattle.desk_model.specs.histories.History.{History, history_of, opened, with_entry, Step, step_of, steps_from, steps, is_done, said}
use Rattle.desk_model.specs.histories.Legal.{is_within, moment, answer_to, next, MayState, IsNext, IsLegal, given, history_from}
use Rattle.desk_model.proofs.SaidLemmas.{steps-snoc, said-some}

abbrev pub IsRight : Step → Type 0
IsRight s = IsNext s.before s.entry

pub legal-opened : (o : OpeningValue) → IsOpening o → IsLegal (opened o)
unfolding steps
legal-opened o valid = record { opening = valid; each = All-nil IsRight }

pub legal-with : (h : History) (e : EntryValue) → IsLegal h → IsNext h e → IsLegal (with_entry h e)
legal-with h e legal is = record {
  opening = legal.opening;
  each = subst (All IsRight) (sym (steps-snoc h e)) (All-append IsRight (steps h) (step_of h e ∷ []) legal.each (All-cons IsRight (step_of h e) [] is (All-nil IsRight)));
}

-- a property of the empty history that each next entry keeps holds of every legal one
pub legal-induction : (P : History → Type 0) → ((o : OpeningValue) → IsOpening o → P (opened o))
    → ((h : History) (e : EntryValue) → IsLegal h → IsNext h e → P h → P (with_entry h e)) → (h : History) → IsLegal h → P h
unfolding steps
legal-induction P first more h legal = go (opened h.opening) h.entries (legal-opened h.opening legal.opening) (first h.opening legal.opening) legal.each
  where
    go : (front : History) (later : List EntryValue) → IsLegal front → P front → All IsRight (steps_from front later) → P (history_of front.opening (front.entries ++ later))
    go front [] fine was each = subst (λ es. P (history_of front.opening es)) (sym (append-nil front.entries)) was
    go front (e ∷ later) fine was each =
        let is : IsNext front e = each 0 (step_of front e) (omega arith) in
        subst (λ es. P (history_of front.opening es)) (append_snoc front.entries e later)
        (go (with_entry front e) later (legal-with front e fine is) (more front e fine is was) (All-tail IsRight (step_of front e) (steps_from (with_entry front e) later) each))

-- the same for what holds of each step
pub each-step : (Q : Step → Type 0) → ((h : History) (e : EntryValue) → IsLegal h → IsNext h e → Q (step_of h e)) → (h : History) → IsLegal h → All Q (steps h)
unfolding steps
each-step Q right h legal = legal-induction (λ past. All Q (steps past)) none grown h legal
  where
    none : (o : OpeningValue) → IsOpening o → All Q (steps (opened o))
    none o valid = All-nil Q

    grown : (past : History) (e : EntryValue) → IsLegal past → IsNext past e → All Q (steps past) → All Q (steps (with_entry past e))
    grown past e fine is was =
        subst (All Q) (sym (steps-snoc past e)) (All-append Q (steps past) (step_of past e ∷ []) was (All-cons Q (step_of past e) [] (right past e fine is) (All-nil Q)))

-- ---- the entry that the rules give

pub next-is : (h : History) (e : EntryValue) → IsNext h e → e ≡ next h e.caller e.stated
unfolding next
next-is h e is = ap (λ m. entry_of e.caller e.stated m e.reply) is.moment ∙ ap (entry_of e.caller e.stated (moment h e.stated.minute)) is.reply

pub IsNext-next : (h : History) (caller : ℕ) (s : StatedValue) → MayState caller s → IsNext h (next h caller s)
unfolding next
IsNext-next h caller s may = record { may = may; moment = refl; reply = refl }

-- its reply is the answer to the command at its moment, or says that its minute lies outside the window
pub reply-is : (h : History) (e : EntryValue) → IsNext h e → (e.reply ≡ reply.OutsideWindow) ⊎ (e.reply ≡ answer_to h e.moment e.stated.cmd)
reply-is h e is = go (is_within h.opening.window e.stated.minute) is.reply
  where
    go : (within : Bool) → e.reply ≡ cond within (answer_to h (moment h e.stated.minute) e.stated.cmd) reply.OutsideWindow
        → (e.reply ≡ reply.OutsideWindow) ⊎ (e.reply ≡ answer_to h e.moment e.stated.cmd)
    go true told = inr (told ∙ ap (λ m. answer_to h m e.stated.cmd) (sym is.moment))
    go false told = inl told

-- what was done is what the command was answered
pub done-answer : (h : History) (e : EntryValue) → IsNext h e → is_done e.reply ≡ true → is_done (answer_to h e.moment e.stated.cmd) ≡ true
done-answer h e is done = elim (reply-is h e is) [
  | inl outside ↦ absurd (false≢true (ap is_done (sym outside) ∙ done))
  | inr told ↦ ap is_done (sym told) ∙ done
]

-- and so what an entry says was done
pub said-next : {X : Type 0} (f : Cmd → Option X) (h : History) (e : EntryValue) (x : X) → IsNext h e → said f e ≡ Some x
    → (f e.stated.cmd ≡ Some x) × (is_done (answer_to h e.moment e.stated.cmd) ≡ true)
said-next f h e x is some = let parts = said-some f e x some in (parts.1, done-answer h e is parts.0)

-- ---- histories of commands

pub legal-history_from : (h : History) (commands : List (ℕ × StatedValue)) → IsLegal h → All (λ c. MayState c.0 c.1) commands → IsLegal (history_from h commands)
unfolding history_from
legal-history_from h [] legal may = legal
legal-history_from h ((caller, s) ∷ rest) legal may =
    legal-history_from (with_entry h (next h caller s)) rest
    (legal-with h (next h caller s) legal (IsNext-next h caller s (may 0 (caller, s) (omega arith))))
    (All-tail (λ c. MayState c.0 c.1) (caller, s) rest may)

pub opening-history_from : (h : History) (commands : List (ℕ × StatedValue)) → (history_from h commands).opening ≡ h.opening
unfolding history_from
opening-history_from h [] = refl
opening-history_from h ((caller, s) ∷ rest) = opening-history_from (with_entry h (next h caller s)) rest

pub given-history_from : (h : History) (commands : List (ℕ × StatedValue)) → map given (history_from h commands).entries ≡ map given h.entries ++ commands
unfolding history_from next
given-history_from h [] = sym (append-nil (map given h.entries))
given-history_from h ((caller, s) ∷ rest) =
    given-history_from (with_entry h (next h caller s)) rest
    ∙ ap (λ front. front ++ rest) (map-append given h.entries (next h caller s ∷ []))
    ∙ append_assoc (map given h.entries) ((caller, s) ∷ []) rest

-- commands behind others go on with the history of those
pub history_from-append : (h : History) (commands later : List (ℕ × StatedValue)) → history_from h (commands ++ later) ≡ history_from (history_from h commands) later
unfolding history_from
history_from-append h [] later = refl
history_from-append h ((caller, s) ∷ rest) later = history_from-append (with_entry h (next h caller s)) rest later

pub history_from-none : (h : History) → history_from h [] ≡ h
unfolding history_from
history_from-none h = refl

pub history_from-next : (h : History) (commands : List (ℕ × StatedValue)) (caller : ℕ) (s : StatedValue)
    → history_from h (commands ++ (caller, s) ∷ []) ≡ with_entry (history_from h commands) (next (history_from h commands) caller s)
unfolding history_from
history_from-next h commands caller s = history_from-append h commands ((caller, s) ∷ [])

-- with an entry for each
pub history_from-length : (h : History) (commands : List (ℕ × StatedValue)) → length (history_from h commands).entries ≡ length h.entries + length commands
unfolding history_from
history_from-length h [] = omega arith
history_from-length h ((caller, s) ∷ rest) =
    omega (arith, history_from-length (with_entry h (next h caller s)) rest, length-append h.entries (next h caller s ∷ []))

-- the commands of right steps give their entries again
history_from-given : (h : History) (later : List EntryValue) → All IsRight (steps_from h later) → history_from h (map given later) ≡ history_of h.opening (h.entries ++ later)
unfolding history_from
history_from-given h [] each = ap (history_of h.opening) (sym (append-nil h.entries))
history_from-given h (e ∷ later) each =
    ap (λ x. history_from (with_entry h x) (map given later)) (sym (next-is h e (each 0 (step_of h e) (omega arith))))
    ∙ history_from-given (with_entry h e) later (All-tail IsRight (step_of h e) (steps_from (with_entry h e) later) each)
    ∙ ap (history_of h.opening) (append_snoc h.entries e later)

pub history-given : (h : History) → IsLegal h → h ≡ history_from (opened h.opening) (map given h.entries)
unfolding steps
history-given h legal = sym (history_from-given (opened h.opening) h.entries legal.each)
