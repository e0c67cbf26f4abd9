-- What holds at each entry that says that a vacancy is unfilled, denies it, or tells who would be run around.
use Rattle.std.proofs.Common.{◌≡◌, inl, inr, ℕ, Bool, true, false, cond, nat_eq, Option, None, Some, length, refl, sym, ap, ◌∙◌}
use Rattle.std.proofs.lemmas.Bool.{false≢true}
use Rattle.denial_rules.specs.declared.bar.Bar.{Bar}
use Rattle.desk_model.specs.declared.command.Cmd.{Cmd}
use Rattle.desk_model.specs.declared.command.Cmd.TheVariants as cmd
use Rattle.desk_model.specs.declared.link.Link.{Link}
use Rattle.desk_model.specs.declared.person.Person.{Person}
use Rattle.desk_model.specs.declared.reply.Reply.{Reply}
use Rattle.desk_model.specs.declared.reply.Reply.TheVariants as reply
use Rattle.desk_model.specs.declared.vac_state.VacState.TheVariants as state
use Rattle.desk_model.specs.statements.Job.{JobValue}
use Rattle.desk_model.specs.statements.Entry.{EntryValue}
use Rattle.desk_model.specs.histories.History.{History, step_of}
use Rattle.desk_model.specs.boards.Boards.{chain}
use Rattle.desk_model.specs.offers.Offers.{asks_for}
use Rattle.desk_model.specs.offers.States.{state_of}
use Rattle.desk_model.specs.offers.Bars.{bar_of, first_free}
use Rattle.desk_model.specs.answers.ExplainAnswer.{clear_answer}
use Rattle.desk_model.specs.answers.NextAnswer.{choice_answer, next_answer}
use Rattle.desk_model.specs.answers.OfferAnswer.{named_answer}
use Rattle.desk_model.specs.laws.Denials.{Names, IsOpen, IsRightlyUnfilled, IsUnfilledRightly, IsRightDenial, DeniesRightly, IsRightRunAround, RunsAroundRightly}
use Rattle.desk_model.specs.histories.Legal.{answer_to, IsNext, IsLegal}
use Rattle.desk_model.proofs.OrderLemmas.{nat_eq-same}
use Rattle.desk_model.proofs.JudgedLemmas.{is_call, other-no, IsKnown, IsJudged, IsChosen, explained, called, chosen}
use Rattle.desk_model.proofs.OfferedLemmas.{find-any, entry-called}
use Rattle.desk_model.proofs.DenialLemmas.{open-answer, unfilled-barred, found-clear}

-- ---- a vacancy that is unfilled

next-unfilled : (h : History) (m v n : ℕ) → IsLegal h → IsChosen h m v (reply.Unfilled n) → IsRightlyUnfilled h m v n
next-unfilled h m v n legal is = record { job = is.job; is_open = is_open; barred = unfilled-barred h m v is.job legal is_open told; positions = many }
  where
    is_open : IsOpen h m v is.job
    is_open = record { made = is.made; vacant = is.vacant; in_time = is.in_time }

    by_first : (first : Option Link) → choice_answer (length (chain h is.job.chain)) first ≡ reply.Unfilled n → n ≡ length (chain h is.job.chain)
    by_first None so = cc
    by_first (Some link) so = cc

    many : n ≡ length (chain h is.job.chain)
    many = by_first (first_free h m is.job) is.so

    told : next_answer h m v ≡ reply.Unfilled (length (chain h is.job.chain))
    told = open-answer h m v is.job is_open ∙ is.so ∙ ap reply.Unfilled many

-- what a person who was named may be answered where no bar holds
named-tells : (p : ℕ) (first : Option Link) (link : Link) (r : Reply) → named_answer p first link ≡ r → ((n : ℕ) → r ≡ reply.Unfilled n → ⊥) × ((bar : Bar) → r ≡ reply.Denied bar → ⊥)
named-tells p None link r is = (λ n no. cc, λ bar no. cc)
named-tells p (Some first) link r is = go (nat_eq first.person p) is
  where
    go : (mine : Bool) → cond mine (reply.Offered p link.board link.position) (reply.RunAround first.person) ≡ r → ((n : ℕ) → r ≡ reply.Unfilled n → ⊥) × ((bar : Bar) → r ≡ reply.Denied bar → ⊥)
    go true is = (λ n no. cc, λ bar no. cc)
    go false is = (λ n no. cc, λ bar no. cc)

pub unfilled-rightly : (h : History) (e : EntryValue) → IsLegal h → IsNext h e → IsUnfilledRightly (step_of h e)
unfilled-rightly h e legal is = record { each = λ n told. go n e.stated.cmd (entry-called h e (reply.Unfilled n) is told refl) }
  where
    go : (n : ℕ) (c : Cmd) → answer_to h e.moment c ≡ reply.Unfilled n → (v : ℕ) × ((asks_for c ≡ Some v) × IsRightlyUnfilled h e.moment v n)
    go n (cmd.Next v) answer = (v, (refl, next-unfilled h e.moment v n legal (chosen h e.moment v (reply.Unfilled n) refl answer)))
    go n (cmd.Offer v p) answer =
        let found = called h e.moment v p (reply.Unfilled n) refl answer in
        elim found.1.1.1.1.so [
          | inl denied ↦ let no : reply.Unfilled n ≡ reply.Denied denied.0 = denied.1.1 in cc
          | inr clear ↦ absurd ((named-tells p (first_free h e.moment found.0) found.1.1.1.1.link (reply.Unfilled n) clear.1).0 n refl)
        ]
    go n (cmd.Explain v p) answer = elim (explained h e.moment v p (reply.Unfilled n) refl answer).1.1.1.so [
      | inl denied ↦ let no : reply.Unfilled n ≡ reply.Denied denied.0 = denied.1.1 in cc
      | inr clear ↦ let no = clear.1 in cc
    ]
    go n other answer = absurd (false≢true (sym (other-no h e.moment other refl) ∙ ap is_call answer))

-- ---- a denial

right-denial : (h : History) (m v p : ℕ) (bar other : Bar) (job : JobValue) (person : Person) (rest : Link → Reply) → IsKnown h v p job person
    → IsJudged h m job p rest person (reply.Denied bar) → ((link : Link) → rest link ≡ reply.Denied bar → ⊥) → IsRightDenial h m v p bar
right-denial h m v p bar other job person rest known judged apart = elim judged.so [
  | inl denied ↦
      let same : denied.0 ≡ bar = (let is = denied.1.1 in cc) in record {
        job = job;
        person = person;
        made = known.made;
        in_time = judged.in_time;
        listed = find-any (λ (l : Link). nat_eq l.person p) (chain h job.chain) judged.link judged.position;
        enrolled = known.enrolled;
        barred = denied.1.0 ∙ ap Some same;
      }
  | inr clear ↦ absurd (apart judged.link clear.1)
]

pub denies-rightly : (h : History) (e : EntryValue) → IsNext h e → DeniesRightly (step_of h e)
denies-rightly h e is = record { each = λ bar told. go bar e.stated.cmd (entry-called h e (reply.Denied bar) is told refl) }
  where
    next-denies : (bar : Bar) (n : ℕ) (first : Option Link) → choice_answer n first ≡ reply.Denied bar → ⊥
    next-denies bar n None so = cc
    next-denies bar n (Some link) so = cc

    go : (bar : Bar) (c : Cmd) → answer_to h e.moment c ≡ reply.Denied bar → (v p : ℕ) × (Names c v p × IsRightDenial h e.moment v p bar)
    go bar (cmd.Next v) answer = let found = chosen h e.moment v (reply.Denied bar) refl answer in absurd (next-denies bar (length (chain h found.job.chain)) (first_free h e.moment found.job) found.so)
    go bar (cmd.Offer v p) answer =
        let found = called h e.moment v p (reply.Denied bar) refl answer in (
          v,
          p,
          (
            inr refl,
            right-denial h e.moment v p bar bar found.0 found.1.0 (named_answer p (first_free h e.moment found.0)) found.1.1.0 found.1.1.1.1
                (λ link so. (named-tells p (first_free h e.moment found.0) link (reply.Denied bar) so).1 bar refl),
          ),
        )
    go bar (cmd.Explain v p) answer =
        let found = explained h e.moment v p (reply.Denied bar) refl answer in
        (v, p, (inl refl, right-denial h e.moment v p bar bar found.0 found.1.0 clear_answer found.1.1.0 found.1.1.1 (λ link so. cc)))
    go bar other answer = absurd (false≢true (sym (other-no h e.moment other refl) ∙ ap is_call answer))

-- ---- a run around

right-run_around : (h : History) (m v p q : ℕ) (job : JobValue) (person : Person) → IsLegal h → IsKnown h v p job person → state_of h v ≡ state.Vacant
    → IsJudged h m job p (named_answer p (first_free h m job)) person (reply.RunAround q) → IsRightRunAround h m v p q
right-run_around h m v p q job person legal known vacant judged = elim judged.so [
  | inl denied ↦ let no : reply.RunAround q ≡ reply.Denied denied.0 = denied.1.1 in cc
  | inr clear ↦ by_first clear.0 (first_free h m job) refl clear.1
]
  where
    by_first : bar_of h m job p person ≡ None → (first : Option Link) → first_free h m job ≡ first → named_answer p first judged.link ≡ reply.RunAround q → IsRightRunAround h m v p q
    by_first none None is so = cc
    by_first none (Some first) is so = go (nat_eq first.person p) refl so
      where
        go : (mine : Bool) → nat_eq first.person p ≡ mine → cond mine (reply.Offered p judged.link.board judged.link.position) (reply.RunAround first.person) ≡ reply.RunAround q
            → IsRightRunAround h m v p q
        go true same so = cc
        go false same so =
            let first_is : first.person ≡ q = cc in record {
              job = job;
              first = first;
              is_open = record { made = known.made; vacant = vacant; in_time = judged.in_time };
              listed = find-any (λ (l : Link). nat_eq l.person p) (chain h job.chain) judged.link judged.position;
              clear = record { person = person; enrolled = known.enrolled; clear = none };
              comes_first = found-clear h m job first legal is;
              is = first_is;
              other = λ mine. false≢true (sym same ∙ ap (λ n. nat_eq n p) (first_is ∙ mine) ∙ nat_eq-same p);
            }

pub runs-around-rightly : (h : History) (e : EntryValue) → IsLegal h → IsNext h e → RunsAroundRightly (step_of h e)
runs-around-rightly h e legal is = record { each = λ q told. go q e.stated.cmd (entry-called h e (reply.RunAround q) is told refl) }
  where
    next-runs : (q n : ℕ) (first : Option Link) → choice_answer n first ≡ reply.RunAround q → ⊥
    next-runs q n None so = cc
    next-runs q n (Some link) so = cc

    go : (q : ℕ) (c : Cmd) → answer_to h e.moment c ≡ reply.RunAround q → (v p : ℕ) × ((c ≡ cmd.Offer v p) × IsRightRunAround h e.moment v p q)
    go q (cmd.Next v) answer = let found = chosen h e.moment v (reply.RunAround q) refl answer in absurd (next-runs q (length (chain h found.job.chain)) (first_free h e.moment found.job) found.so)
    go q (cmd.Offer v p) answer =
        let found = called h e.moment v p (reply.RunAround q) refl answer in
        (v, p, (refl, right-run_around h e.moment v p q found.0 found.1.0 legal found.1.1.0 found.1.1.1.0 found.1.1.1.1))
    go q (cmd.Explain v p) answer = elim (explained h e.moment v p (reply.RunAround q) refl answer).1.1.1.so [
      | inl denied ↦ let no : reply.RunAround q ≡ reply.Denied denied.0 = denied.1.1 in cc
      | inr clear ↦ let no = clear.1 in cc
    ]
    go q other answer = absurd (false≢true (sym (other-no h e.moment other refl) ∙ ap is_call answer))
