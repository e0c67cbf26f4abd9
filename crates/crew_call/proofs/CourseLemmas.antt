-- How a crew call goes on agrees with what it is.
use Rattle.std.proofs.Common.{◌≡◌, ℕ, ◌<◌, Bool, true, false, cond, Option, None, Some, List, [], ◌∷◌, ◌++◌, length, refl, sym, ap, subst, ◌∙◌, append-nil, arith}
use Rattle.std.specs.Option.{option_map}
use Rattle.desk_model.specs.declared.command.Cmd.TheVariants as cmd
use Rattle.desk_model.specs.declared.reply.Reply.{Reply}
use Rattle.desk_model.specs.declared.reply.Reply.TheVariants as reply
use Rattle.desk_model.specs.statements.Statement.{StatedValue, stated_of}
use Rattle.desk_model.specs.statements.Entry.{EntryValue, entry_of}
use Rattle.desk_model.specs.histories.History.{is_done}
use Rattle.crew_call.specs.declared.crew_outcome.CrewOutcome.{CrewOutcome}
use Rattle.crew_call.specs.declared.crew_outcome.CrewOutcome.TheVariants as outcome
use Rattle.crew_call.specs.CrewCalls.{person_offered, CrewCall, the_first_is_not_offered, both_are_offered, the_first_is_withdrawn, the_first_was_closed, crew_of, AsksNext}
use Rattle.crew_call.specs.Course.{withdrawn_after, stated_after, IsFront, alone, both, withdrawn, outcome_after}

some : {X : Type 0} {x y : X} → Some x ≡ Some y → x ≡ y
some is = cc

undone : (r : Reply) → (r ≡ reply.Done → ⊥) → is_done r ≡ false
undone reply.Done not = absurd (not refl)
undone other not = refl

done : (r : Reply) → is_done r ≡ true → r ≡ reply.Done
done reply.Done is = refl
done other is = absurd (cc)

-- ---- what a crew call is, by its course

pub front-of : (t v w : ℕ) (es : List EntryValue) (told : CrewOutcome) → CrewCall t v w es told → IsFront t v w es
front-of t v w _ _ (the_first_is_not_offered e one) = ap Some (sym one.0)
front-of t v w _ _ (both_are_offered e f p q one two) =
    (ap Some (sym one.0), ap (option_map (λ p. stated_of t (cmd.Next w))) one.1 ∙ ap Some (sym two.0))
front-of t v w _ _ (the_first_is_withdrawn e f g p one two stated reply) =
    (ap Some (sym one.0), (ap (option_map (λ p. stated_of t (cmd.Next w))) one.1 ∙ ap Some (sym two.0), rw (one.1, two.1) (ap Some (sym stated))))
front-of t v w _ _ (the_first_was_closed e f g p one two stated reply) =
    (ap Some (sym one.0), (ap (option_map (λ p. stated_of t (cmd.Next w))) one.1 ∙ ap Some (sym two.0), rw (one.1, two.1) (ap Some (sym stated))))

pub told-of : (t v w : ℕ) (es : List EntryValue) (told : CrewOutcome) → CrewCall t v w es told → outcome_after v w es ≡ Some told
told-of t v w _ _ (the_first_is_not_offered e one) = rw one.1 refl
told-of t v w _ _ (both_are_offered e f p q one two) = rw (one.1, two.1) refl
told-of t v w _ _ (the_first_is_withdrawn e f g p one two stated replied) = rw (one.1, replied) refl
told-of t v w _ _ (the_first_was_closed e f g p one two stated replied) = rw (one.1, undone g.reply replied) refl

pub silent-of : (t v w : ℕ) (es : List EntryValue) (told : CrewOutcome) → CrewCall t v w es told → stated_after t v w es ≡ None
silent-of t v w _ _ (the_first_is_not_offered e one) = rw one.1 refl
silent-of t v w _ _ (both_are_offered e f p q one two) = rw (one.1, two.1) refl
silent-of t v w _ _ (the_first_is_withdrawn e f g p one two stated replied) = refl
silent-of t v w _ _ (the_first_was_closed e f g p one two stated replied) = refl

-- ---- the course, by what a crew call is

third-call : (t v w : ℕ) (e f g : EntryValue) (told : CrewOutcome) → IsFront t v w (e ∷ f ∷ g ∷ []) → outcome_after v w (e ∷ f ∷ g ∷ []) ≡ Some told
    → CrewCall t v w (e ∷ f ∷ g ∷ []) told
third-call t v w e f g told front is = go (person_offered e.reply) (person_offered f.reply) refl refl
  where
    withdrawn-so : (p : ℕ) (is_so : Bool) → is_done g.reply ≡ is_so → person_offered e.reply ≡ Some p → person_offered f.reply ≡ None → g.stated ≡ stated_of t (cmd.Withdraw v p)
        → Some (cond is_so (outcome.Neither w f.reply) (outcome.Between v p)) ≡ Some told → CrewCall t v w (e ∷ f ∷ g ∷ []) told
    withdrawn-so p true so first second stated same = subst (CrewCall t v w (e ∷ f ∷ g ∷ [])) (some same)
        (the_first_is_withdrawn e f g p (sym (some front.0), first) (sym (some (sym (ap (option_map (λ q. stated_of t (cmd.Next w))) first) ∙ front.1.0)), second) stated (done g.reply so))
    withdrawn-so p false so first second stated same = subst (CrewCall t v w (e ∷ f ∷ g ∷ [])) (some same)
        (the_first_was_closed e f g p (sym (some front.0), first) (sym (some (sym (ap (option_map (λ q. stated_of t (cmd.Next w))) first) ∙ front.1.0)), second) stated
        (λ was. absurd (cc)))

    go : (a b : Option ℕ) → person_offered e.reply ≡ a → person_offered f.reply ≡ b → CrewCall t v w (e ∷ f ∷ g ∷ []) told
    go None b first second = absurd (cc)
    go (Some p) (Some q) first second = absurd (cc)
    go (Some p) None first second = withdrawn-so p (is_done g.reply) refl first second
        (sym (some (sym (ap (withdrawn_after t v (person_offered e.reply)) second ∙ ap (λ o. withdrawn_after t v o None) first) ∙ front.1.1)))
        (sym (ap (withdrawn v w f g) first) ∙ is)

pub call-of : (t v w : ℕ) (es : List EntryValue) (told : CrewOutcome) → IsFront t v w es → outcome_after v w es ≡ Some told → CrewCall t v w es told
call-of t v w [] told front is = absurd (cc)
call-of t v w (e ∷ []) told front is = go (person_offered e.reply) refl
  where
    go : (a : Option ℕ) → person_offered e.reply ≡ a → CrewCall t v w (e ∷ []) told
    go None first = subst (CrewCall t v w (e ∷ [])) (some (sym (ap (alone v e) first) ∙ is)) (the_first_is_not_offered e (sym (some front), first))
    go (Some p) first = absurd (cc)
call-of t v w (e ∷ f ∷ []) told front is = go (person_offered e.reply) (person_offered f.reply) refl refl
  where
    go : (a b : Option ℕ) → person_offered e.reply ≡ a → person_offered f.reply ≡ b → CrewCall t v w (e ∷ f ∷ []) told
    go (Some p) (Some q) first second = subst (CrewCall t v w (e ∷ f ∷ [])) (some (sym (ap (both (person_offered e.reply)) second ∙ ap (λ o. both o (Some q)) first) ∙ is))
        (both_are_offered e f p q (sym (some front.0), first) (sym (some (sym (ap (option_map (λ r. stated_of t (cmd.Next w))) first) ∙ front.1)), second))
    go None b first second = absurd (cc)
    go (Some p) None first second = absurd (cc)
call-of t v w (e ∷ f ∷ g ∷ []) told front is = third-call t v w e f g told front is
call-of t v w (e ∷ f ∷ g ∷ x ∷ more) told front is = absurd front

-- where nothing is stated next it is over
pub over-of : (t v w : ℕ) (es : List EntryValue) → IsFront t v w es → stated_after t v w es ≡ None → (told : CrewOutcome) × CrewCall t v w es told
over-of t v w es front none = go (outcome_after v w es) refl
  where
    ends : (es : List EntryValue) → IsFront t v w es → stated_after t v w es ≡ None → outcome_after v w es ≡ None → ⊥
    ends [] front none not = cc
    ends (e ∷ []) front none not = by (person_offered e.reply) refl
      where
        by : (a : Option ℕ) → person_offered e.reply ≡ a → ⊥
        by None first = cc
        by (Some p) first = cc
    ends (e ∷ f ∷ []) front none not = by (person_offered e.reply) (person_offered f.reply) refl refl
      where
        by : (a b : Option ℕ) → person_offered e.reply ≡ a → person_offered f.reply ≡ b → ⊥
        by None b first second = cc
        by (Some p) None first second = cc
        by (Some p) (Some q) first second = cc
    ends (e ∷ f ∷ g ∷ []) front none not = by (person_offered e.reply) (person_offered f.reply) refl refl
      where
        by : (a b : Option ℕ) → person_offered e.reply ≡ a → person_offered f.reply ≡ b → ⊥
        by None None first second = cc
        by (Some p) b first second = cc
        by None (Some q) first second = cc
    ends (e ∷ f ∷ g ∷ x ∷ more) front none not = front

    go : (o : Option CrewOutcome) → outcome_after v w es ≡ o → (told : CrewOutcome) × CrewCall t v w es told
    go None is = absurd (ends es front none is)
    go (Some told) is = (told, call-of t v w es told front is)

-- ---- what is stated next

-- whatever comes next was stated so
front-asks : (t v w : ℕ) (heard : List EntryValue) (e : EntryValue) (later : List EntryValue) → IsFront t v w (heard ++ e ∷ later) → stated_after t v w heard ≡ Some e.stated
front-asks t v w [] e [] front = front
front-asks t v w [] e (f ∷ []) front = front.0
front-asks t v w [] e (f ∷ g ∷ []) front = front.0
front-asks t v w [] e (f ∷ g ∷ x ∷ more) front = absurd front
front-asks t v w (a ∷ []) e [] front = front.1
front-asks t v w (a ∷ []) e (g ∷ []) front = front.1.0
front-asks t v w (a ∷ []) e (g ∷ x ∷ more) front = absurd front
front-asks t v w (a ∷ b ∷ []) e [] front = front.1.1
front-asks t v w (a ∷ b ∷ []) e (x ∷ more) front = absurd front
front-asks t v w (a ∷ b ∷ c ∷ []) e later front = absurd front
front-asks t v w (a ∷ b ∷ c ∷ x ∷ more) e later front = absurd front

pub few-of : (t v w : ℕ) (heard : List EntryValue) (s : StatedValue) → stated_after t v w heard ≡ Some s → length heard < 3
few-of t v w [] s is = omega arith
few-of t v w (e ∷ []) s is = omega arith
few-of t v w (e ∷ f ∷ []) s is = omega arith
few-of t v w (e ∷ f ∷ g ∷ more) s is = absurd (cc)

pub front-more : (t v w : ℕ) (heard : List EntryValue) (e : EntryValue) → IsFront t v w heard → stated_after t v w heard ≡ Some e.stated → IsFront t v w (heard ++ e ∷ [])
front-more t v w [] e front is = is
front-more t v w (a ∷ []) e front is = (front, is)
front-more t v w (a ∷ b ∷ []) e front is = (front.0, (front.1, is))
front-more t v w (a ∷ b ∷ c ∷ more) e front is = absurd (cc)

-- a reply that offers to nobody, and its entry
abbrev refusal : StatedValue → EntryValue
refusal s = entry_of 0 s 0 reply.Done

-- it ends, however it goes on
ended-by : (t v w : ℕ) (heard : List EntryValue) → IsFront t v w heard → stated_after t v w heard ≡ None → (later : List EntryValue) × ((told : CrewOutcome) × CrewCall t v w (heard ++ later) told)
ended-by t v w heard front none = let over = over-of t v w heard front none in ([], subst (λ es. (told : CrewOutcome) × CrewCall t v w es told) (sym (append-nil heard)) over)

ends-third : (t v w : ℕ) (a b c : EntryValue) → IsFront t v w (a ∷ b ∷ c ∷ []) → (later : List EntryValue) × ((told : CrewOutcome) × CrewCall t v w ((a ∷ b ∷ c ∷ []) ++ later) told)
ends-third t v w a b c front = ended-by t v w (a ∷ b ∷ c ∷ []) front refl

ends-second : (t v w : ℕ) (a b : EntryValue) → IsFront t v w (a ∷ b ∷ []) → (later : List EntryValue) × ((told : CrewOutcome) × CrewCall t v w ((a ∷ b ∷ []) ++ later) told)
ends-second t v w a b front = go (stated_after t v w (a ∷ b ∷ [])) refl
  where
    go : (next : Option StatedValue) → stated_after t v w (a ∷ b ∷ []) ≡ next → (later : List EntryValue) × ((told : CrewOutcome) × CrewCall t v w ((a ∷ b ∷ []) ++ later) told)
    go None is = ended-by t v w (a ∷ b ∷ []) front is
    go (Some s) is = let rest = ends-third t v w a b (refusal s) (front-more t v w (a ∷ b ∷ []) (refusal s) front is) in (refusal s ∷ rest.0, rest.1)

ends-first : (t v w : ℕ) (a : EntryValue) → IsFront t v w (a ∷ []) → (later : List EntryValue) × ((told : CrewOutcome) × CrewCall t v w ((a ∷ []) ++ later) told)
ends-first t v w a front = go (stated_after t v w (a ∷ [])) refl
  where
    go : (next : Option StatedValue) → stated_after t v w (a ∷ []) ≡ next → (later : List EntryValue) × ((told : CrewOutcome) × CrewCall t v w ((a ∷ []) ++ later) told)
    go None is = ended-by t v w (a ∷ []) front is
    go (Some s) is = let rest = ends-second t v w a (refusal s) (front-more t v w (a ∷ []) (refusal s) front is) in (refusal s ∷ rest.0, rest.1)

-- each entry that is stated so goes on
going-on : (t v w : ℕ) (heard : List EntryValue) (e : EntryValue) → IsFront t v w heard → stated_after t v w heard ≡ Some e.stated
    → (later : List EntryValue) × ((told : CrewOutcome) × CrewCall t v w (heard ++ e ∷ later) told)
going-on t v w [] e front is = ends-first t v w e (front-more t v w [] e front is)
going-on t v w (a ∷ []) e front is = ends-second t v w a e (front-more t v w (a ∷ []) e front is)
going-on t v w (a ∷ b ∷ []) e front is = ends-third t v w a b e (front-more t v w (a ∷ b ∷ []) e front is)
going-on t v w (a ∷ b ∷ c ∷ more) e front is = absurd (cc)

pub asks-of : (t v w : ℕ) (heard : List EntryValue) (s : StatedValue) → IsFront t v w heard → stated_after t v w heard ≡ Some s → AsksNext (crew_of t v w heard) s
asks-of t v w heard s front is = record {
  only = λ e later told call. some (sym (front-asks t v w heard e later (front-of t v w (heard ++ e ∷ later) told call)) ∙ is);
  goes_on = λ e same. going-on t v w heard e front (is ∙ ap Some (sym same));
}

pub asked : (t v w : ℕ) (heard : List EntryValue) (e : EntryValue) → AsksNext (crew_of t v w heard) e.stated → stated_after t v w heard ≡ Some e.stated
asked t v w heard e asks = let rest = asks.goes_on e refl in front-asks t v w heard e rest.0 (front-of t v w (heard ++ e ∷ rest.0) rest.1.0 rest.1.1)
