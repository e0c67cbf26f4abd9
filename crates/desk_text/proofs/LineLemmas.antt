-- The bytes of replies' texts, and lines: they have no byte below 32 but the line feed at their end.
use Rattle.std.proofs.Common.{ℕ, Bool, nat_le, List, ◌<◌, ◌^◌, ◌∷◌, ◌++◌, codes, decimal, refl, arith, append_assoc}
use Rattle.std.specs.List.{All, join_with_byte}
use Rattle.std.proofs.lemmas.Bool.Decides.{nat_tests}
use Rattle.desk_base.proofs.WindowLemmas.{in_years-Holds}
use Rattle.desk_base.specs.Minute.{minute_text}
use Rattle.desk_base.specs.Month.{IsMonthInYears, month_text}
use Rattle.duty_events.specs.declared.event_fault.EventFault.{EventFault}
use Rattle.duty_events.specs.declared.event_fault.EventFault.TheVariants as fault
use Rattle.duty_events.specs.declared.stage.Stage.{Stage}
use Rattle.duty_events.specs.declared.stage.Stage.TheVariants as stage
use Rattle.denial_rules.specs.declared.bar.Bar.{Bar}
use Rattle.denial_rules.specs.declared.bar.Bar.TheVariants as bar
use Rattle.denial_rules.specs.Bar.{FitsBar}
use Rattle.desk_model.specs.declared.edition.Edition.{Edition}
use Rattle.desk_model.specs.declared.edition.Edition.TheVariants as edition
use Rattle.desk_model.specs.declared.reply.Reply.{Reply}
use Rattle.desk_model.specs.declared.reply.Reply.TheVariants as reply
use Rattle.desk_model.specs.declared.vac_state.VacState.{VacState}
use Rattle.desk_model.specs.declared.vac_state.VacState.TheVariants as state
use Rattle.desk_model.specs.texts.BarTexts.{bar_text}
use Rattle.desk_model.specs.statements.Entry.{EntryValue}
use Rattle.desk_model.specs.statements.Fits.{IsStated, FitsState, FitsStage, FitsFault, FitsReply, Fits}
use Rattle.desk_model.specs.texts.Journal.{entry_line, opening_line}
use Rattle.desk_model.specs.statements.Opening.{OpeningValue, IsOpening, edition_fields, opening_fields}
use Rattle.desk_model.specs.texts.ReplyTexts.{state_text, stage_text, fault_text, reply_text}
use Rattle.desk_model.specs.texts.StatedTexts.{kind_text, stated_fields}
use Rattle.desk_model.specs.statements.Statement.{StatedValue}
use Rattle.line_writer.specs.Line.{IsLine}
use Rattle.desk_text.proofs.PlainLemmas.{Passes, IsInner, AreInner, append, mark, word, number, month_in, minute_in, code, join, weaker, craft_inner, kind_inner, late, all_inner, command_inner, literal, numbered}

-- ---- what is answered

state_inner : (how : VacState) → FitsState how → IsInner (state_text how)
state_inner state.Vacant is = literal (codes "vacant") refl
state_inner (state.OnOffer p) is = word (codes "offered ") refl (numbered p is)
state_inner (state.Taken p) is = word (codes "taken ") refl (numbered p is)
state_inner (state.Begun p) is = word (codes "begun ") refl (numbered p is)
state_inner state.Annulled is = literal (codes "annulled") refl

stage_inner : (s : Stage) → FitsStage s → IsInner (stage_text s)
stage_inner stage.Off is = literal (codes "off") refl
stage_inner stage.Riding is = literal (codes "riding") refl
stage_inner stage.Duty is = literal (codes "duty") refl
stage_inner (stage.Interim k since place) is =
    word (codes "interim ") refl (append (kind_text k ++ 32 ∷ minute_text since) (append (kind_text k) (kind_inner k) (mark 32 refl (minute_in since is.0))) (mark 32 refl (code place is.1)))
stage_inner stage.Waiting is = literal (codes "waiting") refl
stage_inner stage.RidingHome is = literal (codes "riding home") refl

fault_inner : (f : EventFault) → FitsFault f → IsInner (fault_text f)
fault_inner (fault.WrongStage s) is = word (codes "wrong stage ") refl (stage_inner s is)
fault_inner (fault.Behind last) is = word (codes "behind ") refl (minute_in last is)
fault_inner (fault.InterimTooLong minutes) is = word (codes "interim too long ") refl (number minutes (omega (arith, is)))
fault_inner (fault.OtherPlace place) is = word (codes "other place ") refl (code place is)

-- two numbers behind spaces
pair : (a b : ℕ) → a < 2 ^ 64 → b < 2 ^ 64 → IsInner (32 ∷ decimal a ++ 32 ∷ decimal b)
pair a b one other = mark 32 refl (append (decimal a) (number a one) (mark 32 refl (number b other)))

total : (m n : ℕ) → IsMonthInYears m → n < 2 ^ 64 → IsInner (32 ∷ month_text m ++ 32 ∷ decimal n)
total m n years small = mark 32 refl (append (month_text m) (month_in m years) (mark 32 refl (number n small)))

bar_inner : (b : Bar) → FitsBar b → IsInner (bar_text b)
bar_inner bar.MarkedOff is = literal (codes "B1") refl
bar_inner bar.InTour is = literal (codes "B2 tour") refl
bar_inner (bar.Assigned v) is = word (codes "B2 assigned ") refl (numbered v is)
bar_inner (bar.OnOffer v) is = word (codes "B3 ") refl (numbered v is)
bar_inner (bar.Elsewhere place) is = word (codes "B4 ") refl (code place is)
bar_inner (bar.OtherCraft c) is = word (codes "B5 ") refl (craft_inner c)
bar_inner (bar.Lacks k) is = word (codes "B6 ") refl (number k (omega (arith, is)))
bar_inner bar.Answered is = literal (codes "B7") refl
bar_inner (bar.Held until) is = word (codes "B8 ") refl (late until is.1)
bar_inner (bar.Rest ends) is = word (codes "21103(a)(3) ") refl (late ends is.1)
bar_inner (bar.MoreRest ends) is = word (codes "21103(c)(4) ") refl (late ends is.1)
bar_inner (bar.Undisturbed ends) is = word (codes "21103(e) ") refl (late ends is.1)
bar_inner (bar.SixDays run need) is = word (codes "21103(a)(4)(A)") refl (pair run need (omega (arith, is.0)) (omega (arith, is.1)))
bar_inner (bar.SevenDays run need) is = word (codes "21103(a)(4)(A)(ii)") refl (pair run need (omega (arith, is.0)) (omega (arith, is.1)))
bar_inner (bar.MonthHours m n) is = word (codes "21103(a)(1)") refl (total m n is.0 (omega (arith, is.1)))
bar_inner (bar.LimboHours m n) is = word (codes "21103(c)(1)") refl (total m n is.0 (omega (arith, is.1)))

reply_inner : (r : Reply) → FitsReply r → IsInner (reply_text r)
reply_inner (reply.Offered p b k) is =
    word (codes "offered ") refl (append (decimal p ++ 32 ∷ b) (append (decimal p) (numbered p is.0) (mark 32 refl (code b is.1))) (mark 32 refl (number k (omega (arith, is.3)))))
reply_inner (reply.Unfilled listed) is = word (codes "unfilled ") refl (number listed (omega (arith, is)))
reply_inner (reply.Hours used capped) is = word (codes "hours") refl (pair used capped (omega (arith, is.0)) (omega (arith, is.1)))
reply_inner (reply.Seen p) is = word (codes "seen ") refl (numbered p is)
reply_inner (reply.NoOne count) is = word (codes "no one ") refl (number count (omega (arith, is)))
reply_inner (reply.State how) is = word (codes "state ") refl (state_inner how is)
reply_inner (reply.RunAround p) is = word (codes "run around ") refl (numbered p is)
reply_inner (reply.Denied b) is = word (codes "denied ") refl (bar_inner b is)
reply_inner (reply.Clear b k) is = word (codes "clear ") refl (append b (code b is.0) (mark 32 refl (number k (omega (arith, is.2)))))
reply_inner (reply.Frozen v) is = word (codes "frozen ") refl (numbered v is)
reply_inner (reply.EventAhead m) is = word (codes "event ahead ") refl (minute_in m is)
reply_inner (reply.Event f) is = fault_inner f is
reply_inner (reply.UnknownBoard b) is = word (codes "unknown board ") refl (code b is)
reply_inner (reply.BadChain b) is = word (codes "bad chain ") refl (code b is)
reply_inner (reply.ReportPast r) is = word (codes "report past ") refl (minute_in r is)
reply_inner (reply.Closed how) is = word (codes "closed ") refl (state_inner how is)
reply_inner (reply.OfferOpen p) is = word (codes "offer open ") refl (numbered p is)
reply_inner (reply.Lapsed r) is = word (codes "lapsed ") refl (late r is.1)
reply_inner (reply.EarlyNoAnswer deadline) is = word (codes "early ") refl (late deadline is.1)
reply_inner reply.Done is = literal (codes "done") refl
reply_inner reply.NotListed is = literal (codes "not listed") refl
reply_inner reply.PastClosed is = literal (codes "past closed") refl
reply_inner reply.OutsideWindow is = literal (codes "outside window") refl
reply_inner reply.Used is = literal (codes "used") refl
reply_inner reply.Already is = literal (codes "already") refl
reply_inner reply.PersonsFull is = literal (codes "persons full") refl
reply_inner reply.BoardsFull is = literal (codes "boards full") refl
reply_inner reply.UnknownPerson is = literal (codes "unknown person") refl
reply_inner reply.ListsFull is = literal (codes "lists full") refl
reply_inner reply.MembersFull is = literal (codes "members full") refl
reply_inner reply.VacanciesFull is = literal (codes "vacancies full") refl
reply_inner reply.PlanTooLong is = literal (codes "plan too long 21103(a)(2)") refl
reply_inner reply.ReliefTooLong is = literal (codes "plan too long 21103(d)") refl
reply_inner reply.OtherEdition is = literal (codes "not in edition 1") refl
reply_inner reply.UnknownVacancy is = literal (codes "unknown vacancy") refl
reply_inner reply.NoOffer is = literal (codes "no offer") refl
reply_inner reply.NotAssigned is = literal (codes "not assigned") refl

-- ---- lines

-- 32 or above
abbrev is_plain : ℕ → Bool
is_plain b = nat_le 32 b

plain : (xs : List ℕ) → IsInner xs → Passes is_plain xs
plain xs is = weaker is_plain xs (λ b h. grind (arith, nat_tests, h)) is

all_plain : (xs : List (List ℕ)) → All IsInner xs → All (Passes is_plain) xs
all_plain xs all = λ k d within. plain _ (all k d within)

pub stated_inner : (s : StatedValue) → IsStated s → All IsInner (stated_fields s)
stated_inner s is = all_inner (stated_fields s) (minute_in s.minute is.minute, command_inner s.cmd is.cmd)

stated_plain : (s : StatedValue) → IsStated s → Passes is_plain (join_with_byte 44 (stated_fields s))
stated_plain s is = join 44 refl (stated_fields s) (all_plain (stated_fields s) (stated_inner s is))

edition_inner : (e : Edition) → AreInner (edition_fields e)
edition_inner edition.One = tt
edition_inner edition.Two = (literal (codes "2") refl, tt)

pub opening_inner : (o : OpeningValue) → IsOpening o → All IsInner (opening_fields o)
opening_inner o is =
    let start = in_years-Holds o.window o.start is.window is.start in
    let first : IsMonthInYears o.window.first = (is.window.begins, omega (arith, is.window.some, is.window.ends)) in
    all_inner (opening_fields o) (
      minute_in o.start start,
      (
        literal (codes "open") refl,
        (
          month_in o.window.first first,
          (number o.window.months (omega (arith, is.window.most)), (number o.answer (omega (arith, is.most)), edition_inner o.edition)),
        ),
      ),
    )

pub entry_line-IsLine : (e : EntryValue) → Fits e → IsLine (entry_line e)
unfolding entry_line
entry_line-IsLine e is =
    let stated = join_with_byte 44 (stated_fields e.stated) in
    let caller = plain (decimal e.caller) (number e.caller (omega (arith, is.caller))) in
    let moment = plain (minute_text e.moment) (minute_in e.moment is.moment) in
    let answer = plain (reply_text e.reply) (reply_inner e.reply is.reply) in
    record {
      text = decimal e.caller ++ 124 ∷ stated ++ 124 ∷ minute_text e.moment ++ 124 ∷ reply_text e.reply;
      plain = record {
        above = (append ((decimal e.caller ++ 124 ∷ stated) ++ 124 ∷ minute_text e.moment)
            (append (decimal e.caller ++ 124 ∷ stated) (append (decimal e.caller) caller (mark 124 refl (stated_plain e.stated is.stated))) (mark 124 refl moment))
            (mark 124 refl answer)).all;
      };
      is = simp append_assoc;
    }

pub opening_line-IsLine : (o : OpeningValue) → IsOpening o → IsLine (opening_line o)
unfolding opening_line
opening_line-IsLine o is = record {
  text = join_with_byte 44 (opening_fields o);
  plain = record { above = (join 44 refl (opening_fields o) (all_plain (opening_fields o) (opening_inner o is))).all };
  is = refl;
}
