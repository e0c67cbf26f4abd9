-- Words that name callers.
use Rattle.std.proofs.Common.{◌≡◌, inl, inr, ℕ, ◌+◌, ◌-◌, ◌≤◌, arith, Bool, true, false, not, ◌&&◌, nat_le, Option, None, Some, if◌then◌else◌, List, [], ◌∷◌, codes, length, drop, refl, ap}
use Rattle.std.proofs.lemmas.Bool.Decides.{nat_tests}
use Rattle.std.specs.Prelude.{String, string_bytes}
use Rattle.std.specs.Global.{Global}
use Rattle.desk_model.specs.declared.edition.Edition.{Edition}
use Rattle.desk_model.specs.declared.edition.Edition.TheVariants as edition
use Rattle.desk_model.specs.declared.limits.TheConstants.{LAST_CALLER}
use Rattle.serve_desk.specs.Serve.{IsNoNumberOfLines}
use Rattle.serve_desk.specs.declared.sessions.Sessions.{Sessions}
use Rattle.serve_desk.specs.declared.sessions.Sessions.TheVariants as sessions
use Rattle.day_gen.specs.declared.numbers.TheConstants.{SET_UP}
use Rattle.day_gen.specs.Generator.{most_commands}
use Rattle.day_replay.specs.declared.day_form.DayForm.TheVariants as day
use Rattle.crewdesk_main.specs.declared.tour_form.TourForm.TheVariants as tour
use Rattle.crewdesk_main.specs.declared.limits.TheConstants.{MOST_SUPPOSED}
use Rattle.kept_desk.specs.Offset.{offset_in}
use Rattle.kept_desk.specs.declared.guard.Guard.{Guard}
use Rattle.crewdesk_main.specs.declared.form.Form.{Form}
use Rattle.crewdesk_main.specs.declared.form.Form.TheVariants as form
use Rattle.crewdesk_main.specs.Words.{form_of, named_form, numbered_form, record_form, forecast_form, gen_form, when_form, serve_form, keep_form, journal_form, guarded_form, guard_of, behind_guard, has_dash, are_names, is_alone, is_word, is_number, number_in}

-- whether callers are served
abbrev serves : Option Form → Bool
serves (Some (form.Serve how callers)) = true
serves (Some (form.Keep callers guard)) = true
serves other = false

both : (b : Bool) (x y : Option Form) → serves x ≡ false → serves y ≡ false → serves (if b then x else y) ≡ false
both true x y p q = p
both false x y p q = q

record_form-other : (person : Option ℕ) → serves (record_form person) ≡ false
record_form-other None = refl
record_form-other (Some person) = both (is_number person) (Some (form.Tours (tour.Record person))) None refl refl

forecast_form-other : (supposed : Option ℕ) → serves (forecast_form supposed) ≡ false
forecast_form-other None = refl
forecast_form-other (Some supposed) = both (nat_le supposed MOST_SUPPOSED) (Some (form.Day (day.Forecast supposed))) None refl refl

gen_form-other : (e : Edition) (commands number : Option ℕ) → serves (gen_form e commands number) ≡ false
gen_form-other e None number = refl
gen_form-other e (Some commands) None = refl
gen_form-other e (Some commands) (Some number) =
    both (nat_le SET_UP commands && nat_le commands (most_commands e)) (Some (form.Gen commands number e)) None refl refl

when_form-other : (vac person : Option ℕ) → serves (when_form vac person) ≡ false
when_form-other None person = refl
when_form-other (Some vac) None = refl
when_form-other (Some vac) (Some person) = both (is_number vac && is_number person) (Some (form.Day (day.When vac person))) None refl refl

-- words with numbers name none
numbered_form-other : (words : List (String Global)) → serves (numbered_form words) ≡ false
numbered_form-other [] = refl
numbered_form-other (word ∷ []) = refl
numbered_form-other (word ∷ a ∷ []) =
    let number = number_in (string_bytes a) in
    let forecast = is_word (codes "forecast") word in
    both (is_word (codes "record") word) (record_form number) (if forecast then forecast_form number else None) (record_form-other number)
    (both forecast (forecast_form number) None (forecast_form-other number) refl)
numbered_form-other (word ∷ a ∷ b ∷ []) =
    let first = number_in (string_bytes a) in
    let second = number_in (string_bytes b) in
    let when = is_word (codes "when") word in
    both (is_word (codes "gen") word) (gen_form edition.One first second) (if when then when_form first second else None) (gen_form-other edition.One first second)
    (both when (when_form first second) None (when_form-other first second) refl)
numbered_form-other (word ∷ a ∷ b ∷ c ∷ []) =
    let commands = number_in (string_bytes a) in
    let number = number_in (string_bytes b) in
    both (is_word (codes "gen") word && is_word (codes "2") c) (gen_form edition.Two commands number) None (gen_form-other edition.Two commands number) refl
numbered_form-other (word ∷ a ∷ b ∷ c ∷ d ∷ more) = refl

serve_form-count : (how by : Sessions) (m n : ℕ) → serve_form how m ≡ Some (form.Serve by n) → m ≡ n
serve_form-count how by m n is = go (nat_le 1 m && nat_le m LAST_CALLER) is
  where
    go : (b : Bool) → (if b then Some (form.Serve how m) else None) ≡ Some (form.Serve by n) → m ≡ n
    go true is = cc
    go false is = absurd (cc)

both-true : (a b : Bool) → (a && b) ≡ true → (a ≡ true) × (b ≡ true)
both-true true true is = (refl, refl)
both-true true false is = absurd (cc)
both-true false b is = absurd (cc)

-- the journal's name and those of callers, behind the words of a guard
abbrev pub NamesFit : Option Guard → List (String Global) → Type 0
NamesFit guard words = (2 ≤ length (behind_guard guard words)) × (length (behind_guard guard words) ≤ LAST_CALLER + 1)

journal_form-count : (guard given : Option Guard) (words : List (String Global)) (n : ℕ) → journal_form guard words ≡ Some (form.Keep n given)
    → (given ≡ guard) × ((2 ≤ length words) × (length words ≤ LAST_CALLER + 1))
journal_form-count guard given [] n is = absurd (cc)
journal_form-count guard given (journal ∷ names) n is = go _ refl is
  where
    go : (b : Bool) → (not (has_dash (string_bytes journal)) && (nat_le 1 (length names) && nat_le (length names) LAST_CALLER && are_names names)) ≡ b
        → (if b then Some (form.Keep (length names) guard) else None) ≡ Some (form.Keep n given)
        → (given ≡ guard) × ((2 ≤ length (journal ∷ names)) × (length (journal ∷ names) ≤ LAST_CALLER + 1))
    go true within is =
        let same : given ≡ guard = cc in
        let all = both-true (not (has_dash (string_bytes journal))) (nat_le 1 (length names) && nat_le (length names) LAST_CALLER && are_names names) within in
        let parts = both-true (nat_le 1 (length names) && nat_le (length names) LAST_CALLER) (are_names names) all.1 in
        let numbers = both-true (nat_le 1 (length names)) (nat_le (length names) LAST_CALLER) parts.0 in
        let few = numbers.0 in
        let many = numbers.1 in
        (same, (grind (arith, nat_tests, few), grind (arith, nat_tests, many)))
    go false within is = absurd (cc)

unguarded-count : (words : List (String Global)) (n : ℕ) (given : Option Guard) → journal_form None words ≡ Some (form.Keep n given) → NamesFit given words
unguarded-count words n given is = let fits = journal_form-count None given words n is in rw (fits.0) fits.1

keep_form-count : (words : List (String Global)) (n : ℕ) (given : Option Guard) → keep_form words ≡ Some (form.Keep n given) → NamesFit given words
keep_form-count [] n given is = unguarded-count [] n given is
keep_form-count (a ∷ []) n given is = unguarded-count (a ∷ []) n given is
keep_form-count (a ∷ b ∷ []) n given is = unguarded-count (a ∷ b ∷ []) n given is
keep_form-count (a ∷ b ∷ c ∷ []) n given is = unguarded-count (a ∷ b ∷ c ∷ []) n given is
keep_form-count (clock ∷ offset ∷ ahead ∷ minutes ∷ words) n given is = go (is_word (codes "--clock") clock && is_word (codes "--ahead") ahead) is
  where
    guarded : (guard : Option Guard) → guarded_form guard words ≡ Some (form.Keep n given) → NamesFit given (clock ∷ offset ∷ ahead ∷ minutes ∷ words)
    guarded None is = absurd (cc)
    guarded (Some guard) is = let fits = journal_form-count (Some guard) given words n is in rw (fits.0) fits.1

    go : (b : Bool) → (if b then guarded_form (guard_of (offset_in (string_bytes offset)) (number_in (string_bytes minutes))) words else journal_form None (clock ∷ offset ∷ ahead ∷ minutes ∷ words)) ≡ Some (form.Keep n given)
        → NamesFit given (clock ∷ offset ∷ ahead ∷ minutes ∷ words)
    go true is = guarded _ is
    go false is = unguarded-count (clock ∷ offset ∷ ahead ∷ minutes ∷ words) n given is

serve_form-keeps-not : (how : Sessions) (m n : ℕ) (given : Option Guard) → serve_form how m ≡ Some (form.Keep n given) → ⊥
serve_form-keeps-not how m n given is = go (nat_le 1 m && nat_le m LAST_CALLER) is
  where
    go : (b : Bool) → (if b then Some (form.Serve how m) else None) ≡ Some (form.Keep n given) → ⊥
    go true is = cc
    go false is = cc

-- whether callers are served whose journal isn't kept
abbrev is_serve : Option Form → Bool
is_serve (Some (form.Serve how callers)) = true
is_serve other = false

either : (b : Bool) (x y : Option Form) → is_serve x ≡ false → is_serve y ≡ false → is_serve (if b then x else y) ≡ false
either true x y p q = p
either false x y p q = q

journal_form-other : (guard : Option Guard) (words : List (String Global)) → is_serve (journal_form guard words) ≡ false
journal_form-other guard [] = refl
journal_form-other guard (journal ∷ names) =
    either (not (has_dash (string_bytes journal)) && (nat_le 1 (length names) && nat_le (length names) LAST_CALLER && are_names names)) (Some (form.Keep (length names) guard)) None refl refl

guarded_form-other : (guard : Option Guard) (words : List (String Global)) → is_serve (guarded_form guard words) ≡ false
guarded_form-other None words = refl
guarded_form-other (Some guard) words = journal_form-other (Some guard) words

keep_form-other : (words : List (String Global)) → is_serve (keep_form words) ≡ false
keep_form-other [] = refl
keep_form-other (a ∷ []) = journal_form-other None (a ∷ [])
keep_form-other (a ∷ b ∷ []) = journal_form-other None (a ∷ b ∷ [])
keep_form-other (a ∷ b ∷ c ∷ []) = journal_form-other None (a ∷ b ∷ c ∷ [])
keep_form-other (clock ∷ offset ∷ ahead ∷ minutes ∷ words) =
    let guard = guard_of (offset_in (string_bytes offset)) (number_in (string_bytes minutes)) in
    let all = clock ∷ offset ∷ ahead ∷ minutes ∷ words in
    either (is_word (codes "--clock") clock && is_word (codes "--ahead") ahead) (guarded_form guard words) (journal_form None all) (guarded_form-other guard words) (journal_form-other None all)

keep_form-serves-not : (words : List (String Global)) (how : Sessions) (n : ℕ) → keep_form words ≡ Some (form.Serve how n) → ⊥
keep_form-serves-not words how n is = let other = keep_form-other words in let said = ap is_serve is in cc

named_form-count : (words : List (String Global)) (how : Sessions) (n : ℕ) → named_form words ≡ Some (form.Serve how n) → length (drop 1 words) ≡ n
named_form-count [] how n is = absurd (cc)
named_form-count (word ∷ names) how n is = go (is_word (codes "serve") word) (is_word (codes "watch") word) (is_word (codes "keep") word) is
  where
    go : (a b c : Bool)
        → (if a then serve_form sessions.WithoutLooks (length names) else if b then serve_form sessions.WithLooks (length names) else if c then keep_form names else numbered_form (word ∷ names))
        ≡ Some (form.Serve how n) → length names ≡ n
    go true b c is = serve_form-count sessions.WithoutLooks how (length names) n is
    go false true c is = serve_form-count sessions.WithLooks how (length names) n is
    go false false true is = absurd (keep_form-serves-not names how n is)
    go false false false is = absurd (let other = numbered_form-other (word ∷ names) in let said = ap serves is in cc)

-- a word that stands alone names none
skip : (b : Bool) (x y : Option Form) (how : Sessions) (n : ℕ) → serves x ≡ false → (if b then x else y) ≡ Some (form.Serve how n) → y ≡ Some (form.Serve how n)
skip true x y how n other is = absurd (let said = ap serves is in cc)
skip false x y how n other is = is

-- behind the first word stand as many names as callers are served
pub form_of-count : (words : List (String Global)) (how : Sessions) (n : ℕ) → form_of words ≡ Some (form.Serve how n) → length (drop 1 words) ≡ n
form_of-count words how n is =
    let a = skip (is_alone (codes "replay") words) (Some (form.Day day.Replay)) _ how n refl is in
    let b = skip (is_alone (codes "tally") words) (Some (form.Day day.Tally)) _ how n refl a in
    let c = skip (is_alone (codes "audit") words) (Some form.Audit) _ how n refl b in
    let d = skip (is_alone (codes "continue") words) (Some form.Continue) _ how n refl c in
    let e = skip (is_alone (codes "excess") words) (Some (form.Tours tour.Excess)) _ how n refl d in
    let f = skip (is_alone (codes "--help") words) (Some form.Help) _ how n refl e in
    let g = skip (is_alone (codes "--version") words) (Some form.Version) _ how n refl f in
    named_form-count words how n g

named_form-keep : (words : List (String Global)) (n : ℕ) (given : Option Guard) → named_form words ≡ Some (form.Keep n given) → NamesFit given (drop 1 words)
named_form-keep [] n given is = absurd (cc)
named_form-keep (word ∷ names) n given is = go (is_word (codes "serve") word) (is_word (codes "watch") word) (is_word (codes "keep") word) is
  where
    go : (a b c : Bool)
        → (if a then serve_form sessions.WithoutLooks (length names) else if b then serve_form sessions.WithLooks (length names) else if c then keep_form names else numbered_form (word ∷ names))
        ≡ Some (form.Keep n given) → NamesFit given names
    go true b c is = absurd (serve_form-keeps-not sessions.WithoutLooks (length names) n given is)
    go false true c is = absurd (serve_form-keeps-not sessions.WithLooks (length names) n given is)
    go false false true is = keep_form-count names n given is
    go false false false is = absurd (let other = numbered_form-other (word ∷ names) in let said = ap serves is in cc)

skip-keep : (b : Bool) (x y : Option Form) (n : ℕ) (given : Option Guard) → serves x ≡ false → (if b then x else y) ≡ Some (form.Keep n given) → y ≡ Some (form.Keep n given)
skip-keep true x y n given other is = absurd (let said = ap serves is in cc)
skip-keep false x y n given other is = is

-- behind the first word stand the journal's name and those of the callers
pub form_of-keep : (words : List (String Global)) (n : ℕ) (given : Option Guard) → form_of words ≡ Some (form.Keep n given) → NamesFit given (drop 1 words)
form_of-keep words n given is =
    let a = skip-keep (is_alone (codes "replay") words) (Some (form.Day day.Replay)) _ n given refl is in
    let b = skip-keep (is_alone (codes "tally") words) (Some (form.Day day.Tally)) _ n given refl a in
    let c = skip-keep (is_alone (codes "audit") words) (Some form.Audit) _ n given refl b in
    let d = skip-keep (is_alone (codes "continue") words) (Some form.Continue) _ n given refl c in
    let e = skip-keep (is_alone (codes "excess") words) (Some (form.Tours tour.Excess)) _ n given refl d in
    let f = skip-keep (is_alone (codes "--help") words) (Some form.Help) _ n given refl e in
    let g = skip-keep (is_alone (codes "--version") words) (Some form.Version) _ n given refl f in
    named_form-keep words n given g

-- callers who may be served are some, and no more than may be
pub some-served : (n : ℕ) → (1 ≤ n) × (n ≤ LAST_CALLER) → ¬ IsNoNumberOfLines n
some-served n some (inl none) = omega (arith, some.0, none)
some-served n some (inr many) = omega (arith, some.1, many)
