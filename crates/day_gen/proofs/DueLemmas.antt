-- Who is due, and for what, has a number.
use Rattle.std.proofs.Common.{◌≡◌, ℕ, Option, None, Some, unwrap_or, refl, ap, subst}
use Rattle.std.specs.Prelude.{⊤, IfSome}
use Rattle.std.specs.List.{All}
use Rattle.desk_base.specs.Number.{IsNumber}
use Rattle.duty_events.specs.declared.event.Event.{Event}
use Rattle.duty_events.specs.declared.event.Event.TheVariants as event
use Rattle.desk_model.specs.declared.command.Cmd.{Cmd}
use Rattle.desk_model.specs.declared.command.Cmd.TheVariants as cmd
use Rattle.desk_model.specs.declared.offer.Offer.{Offer}
use Rattle.desk_model.specs.declared.reply.Reply.{Reply}
use Rattle.desk_model.specs.declared.reply.Reply.TheVariants as reply
use Rattle.desk_model.specs.statements.Entry.{EntryValue}
use Rattle.desk_model.specs.statements.Fits.{IsCommand, FitsReply, Fits}
use Rattle.desk_model.specs.histories.History.{History}
use Rattle.desk_model.specs.offers.Offers.{asks_for, offer_in}
use Rattle.desk_model.proofs.FoundLemmas.{last_of-says}
use Rattle.day_gen.specs.declared.due.Due.{Due}
use Rattle.day_gen.specs.declared.due.Due.TheVariants as due
use Rattle.day_gen.specs.Due.{due_after_event, due_after_done, due_after_offer, due_after, due_by, last_entry}
use Rattle.day_gen.proofs.KeepLemmas.{due-split}

abbrev pub FitsDue : Due → Type 0
FitsDue (due.Answer vac person) = IsNumber vac × IsNumber person
FitsDue (due.Report vac person) = IsNumber vac × IsNumber person
FitsDue (due.Release person) = IsNumber person
FitsDue (due.Call vac) = IsNumber vac
FitsDue due.Nothing = ⊤

event-fits : (person : ℕ) (e : Event) → IsNumber person → FitsDue (due_after_event person e)
event-fits person (event.Duty at) is = is
event-fits person other is = tt

done-fits : (c : Cmd) → IsCommand c → FitsDue (due_after_done c)
done-fits (cmd.Accept vac person) is = is
done-fits (cmd.Happened person event) is = event-fits person event is.0
done-fits (cmd.Vacancy job) is = is.vac
done-fits (cmd.Decline vac person) is = is.0
done-fits (cmd.Withdraw vac person) is = is.0
done-fits other is = tt

asks-fits : (c : Cmd) → IsCommand c → IfSome (asks_for c) IsNumber
asks-fits (cmd.Next vac) is = is
asks-fits (cmd.Offer vac person) is = is.0
asks-fits other is = tt

offer-fits : (moment : ℕ) (r : Reply) → FitsReply r → IfSome (offer_in moment r) (λ offer. IsNumber offer.person)
offer-fits moment (reply.Offered person board position) is = is.0
offer-fits moment other is = tt

offered-fits : (asked : Option ℕ) (offer : Option Offer) → IfSome asked IsNumber → IfSome offer (λ o. IsNumber o.person) → FitsDue (due_after_offer asked offer)
offered-fits (Some vac) (Some offer) one other = (one, other)
offered-fits (Some vac) None one other = tt
offered-fits None offer one other = tt

entry-due : (e : EntryValue) → Fits e → FitsDue (due_after e)
entry-due e fits = due-split FitsDue e
    (λ done. done-fits e.stated.cmd fits.stated.cmd)
    (offered-fits (asks_for e.stated.cmd) (offer_in e.moment e.reply) (asks-fits e.stated.cmd fits.stated.cmd) (offer-fits e.moment e.reply fits.reply))

pub last-due : (h : History) → All Fits h.entries → FitsDue (due_by (last_entry h))
last-due h all = go (last_entry h) refl
  where
    go : (o : Option EntryValue) → last_entry h ≡ o → FitsDue (due_by o)
    go None is = tt
    go (Some e) is = entry-due e (last_of-says (λ (x : EntryValue). Some x) Fits h.entries
        (λ k d within x told. subst Fits (same_some _ x told) (all k d within)) e is)
      where
        same_some : (a b : EntryValue) → Some a ≡ Some b → a ≡ b
        same_some a b same = ap (λ o. unwrap_or o a) same
