-- In a legal history each entry has its values in their ranges.
use Rattle.std.proofs.Common.{◌≡◌, ℕ, Bool, true, false, cond, max, Option, None, Some, unwrap_or, refl, sym, subst, inl, inr, arith}
use Rattle.std.specs.List.{All}
use Rattle.std.proofs.lemmas.List.Elements.{All-nil, All-push}
use Rattle.desk_base.specs.Minute.{IsInYears}
use Rattle.desk_base.proofs.WindowLemmas.{in_years-Holds}
use Rattle.desk_model.specs.statements.Entry.{EntryValue}
use Rattle.desk_model.specs.statements.Fits.{FitsReply, Fits}
use Rattle.desk_model.specs.histories.History.{History, last_of}
use Rattle.desk_model.specs.histories.Legal.{is_within, last_moment, moment, IsNext, IsLegal}
use Rattle.desk_model.proofs.FoundLemmas.{last_of-says}
use Rattle.desk_model.proofs.LegalLemmas.{legal-induction, reply-is}
use Rattle.desk_model.proofs.FitBarLemmas.{LawFits}
use Rattle.desk_model.proofs.FitAnswerLemmas.{answer-fits}

-- ---- the moment

last_moment-in : (h : History) → IsLegal h → All Fits h.entries → IsInYears (last_moment h)
last_moment-in h legal all = go (last_of (λ e. Some e.moment) h.entries) refl
  where
    go : (last : Option ℕ) → last_of (λ (e : EntryValue). Some e.moment) h.entries ≡ last → IsInYears (unwrap_or last h.opening.start)
    go None is = in_years-Holds h.opening.window h.opening.start legal.opening.window legal.opening.start
    go (Some m) is = last_of-says (λ (e : EntryValue). Some e.moment) IsInYears h.entries (λ k d within x told. let same = told in subst IsInYears (of_some _ x told) (all k d within).moment) m is
      where
        of_some : (a b : ℕ) → Some a ≡ Some b → a ≡ b
        of_some a b same = cc

later-in : (a b : ℕ) → IsInYears a → IsInYears b → IsInYears (max a b)
later-in a b one other = (omega (arith, one.0, other.0), omega (arith, one.1, other.1))

moment-in : (h : History) (minute : ℕ) → IsLegal h → All Fits h.entries → IsInYears minute → IsInYears (moment h minute)
moment-in h minute legal all in_years = go (is_within h.opening.window minute)
  where
    last : IsInYears (last_moment h)
    last = last_moment-in h legal all

    go : (within : Bool) → IsInYears (cond within (max minute (last_moment h)) (last_moment h))
    go true = later-in minute (last_moment h) in_years last
    go false = last

-- ---- each entry

entry-fits : LawFits → (h : History) (e : EntryValue) → IsLegal h → IsNext h e → All Fits h.entries → Fits e
entry-fits law h e legal is all = record { caller = is.may.caller_in; stated = is.may.stated; moment = moment_in; reply = replied }
  where
    moment_in : IsInYears e.moment
    moment_in = subst IsInYears (sym is.moment) (moment-in h e.stated.minute legal all is.may.stated.minute)

    replied : FitsReply e.reply
    replied = elim (reply-is h e is) [
      | inl outside ↦ subst FitsReply (sym outside) tt
      | inr told ↦ subst FitsReply (sym told) (answer-fits law h e.moment e.stated.cmd legal all moment_in is.may.stated.cmd)
    ]

pub entries-fit : LawFits → (h : History) → IsLegal h → All Fits h.entries
entries-fit law h legal =
    legal-induction (λ past. All Fits past.entries) (λ o valid. All-nil Fits)
    (λ past e fine is all. All-push Fits past.entries e all (entry-fits law past e fine is all)) h legal
