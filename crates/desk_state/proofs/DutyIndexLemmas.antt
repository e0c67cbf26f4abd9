-- Who is enrolled by an entry is new, and of whom an event is told and accepted has an index among all persons.
use Rattle.std.proofs.Common.{◌≡◌, ℕ, true, false, None, Some, Option, is_some, is_none, refl, ◌∙◌, subst}
use Rattle.std.proofs.lemmas.Bool.{false≢true}
use Rattle.desk_model.specs.declared.command.Cmd.{Cmd}
use Rattle.desk_model.specs.declared.command.Cmd.TheVariants as cmd
use Rattle.desk_model.specs.statements.Entry.{EntryValue}
use Rattle.desk_model.specs.histories.History.{History, is_done, said}
use Rattle.desk_model.specs.histories.Register.{enrols_any, person_of, persons}
use Rattle.desk_model.specs.laws.RestsOn.{IsEnrolled, MayEnrol, RestsOn}
use Rattle.desk_model.proofs.SaidLemmas.{said-some}
use Rattle.desk_register.specs.Among.{index_among}
use Rattle.desk_state.specs.DutyTold.{teller}

of_some : {p q : ℕ} → Some p ≡ Some q → p ≡ q
of_some is = cc

enrols-may : (h : History) (c : Cmd) (p : ℕ) → enrols_any c ≡ Some p → RestsOn h c → MayEnrol h p
enrols-may h (cmd.Enrol q craft home quals) p is rests = subst (MayEnrol h) (of_some is) rests
enrols-may h other p is rests = cc

pub said-may : (h : History) (e : EntryValue) (p : ℕ) → (is_done e.reply ≡ true → RestsOn h e.stated.cmd) → said enrols_any e ≡ Some p → MayEnrol h p
said-may h e p rests is = let parts = said-some enrols_any e p is in enrols-may h e.stated.cmd p parts.1 (rests parts.0)

teller-known : (h : History) (c : Cmd) (p : ℕ) → teller c ≡ Some p → RestsOn h c → IsEnrolled h p
teller-known h (cmd.Past q t) p is rests = subst (IsEnrolled h) (of_some is) rests
teller-known h (cmd.Happened q t) p is rests = subst (IsEnrolled h) (of_some is) rests
teller-known h other p is rests = cc

pub teller-indexed : (h : History) (e : EntryValue) (p : ℕ) → (is_done e.reply ≡ true → RestsOn h e.stated.cmd)
    → ((q : ℕ) → is_some (index_among (persons h) q) ≡ is_some (person_of h q)) → said teller e ≡ Some p → is_none (index_among (persons h) p) ≡ false
teller-indexed h e p rests indexed is =
    let parts = said-some teller e p is in go (index_among (persons h) p) (indexed p ∙ teller-known h e.stated.cmd p parts.1 (rests parts.0))
  where
    go : (o : Option ℕ) → is_some o ≡ true → is_none o ≡ false
    go None some = absurd (false≢true some)
    go (Some i) some = refl
