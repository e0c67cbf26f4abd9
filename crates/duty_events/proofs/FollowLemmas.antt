-- Which event may follow, as a test and in words.
use Rattle.std.proofs.Common.{◌≡◌, ℕ, Bool, true, false, ◌&&◌, nat_le, nat_lt, Option, is_ok, refl, arith}
use Rattle.std.specs.Bool.{Decides}
use Rattle.std.proofs.lemmas.Bool.{false≢true, le-leb, lt-ltb}
use Rattle.std.proofs.lemmas.Bool.Decides.{nat_tests}
use Rattle.desk_base.specs.Minute.{IsInYears, is_in_years}
use Rattle.duty_events.specs.declared.event.Event.{Event}
use Rattle.duty_events.specs.declared.stage.Stage.{Stage}
use Rattle.duty_events.specs.Allowed.{first_minute, last_minute, allow}
use Rattle.duty_events.specs.Lists.{Follows, may_follow}

both : (a b : Bool) → (a && b) ≡ true → (a ≡ true) × (b ≡ true)
both true b is = (refl, is)
both false b is = absurd (false≢true is)

in_years : (minute : ℕ) → is_in_years minute ≡ true → IsInYears minute
in_years minute is =
    let bounds = both (nat_le 15_778_080 minute) (nat_lt minute 68_374_080) is in (grind (arith, nat_tests, bounds.0), grind (arith, nat_tests, bounds.1))

is_in_years-true : (minute : ℕ) → IsInYears minute → is_in_years minute ≡ true
is_in_years-true minute is = rw (le-leb 15_778_080 minute is.0, lt-ltb minute 68_374_080 is.1) refl

pub may_follow-decides : (s : Stage) (last : Option ℕ) (e : Event) → Decides (may_follow s last e) (Follows s last e)
may_follow-decides s last e = (words, test)
  where
    words : may_follow s last e ≡ true → Follows s last e
    words may =
        let whole = both (is_ok (allow s e last) && is_in_years (first_minute e) && is_in_years (last_minute e)) (nat_le (first_minute e) (last_minute e)) may in
        let years = both (is_ok (allow s e last) && is_in_years (first_minute e)) (is_in_years (last_minute e)) whole.0 in
        let begun = both (is_ok (allow s e last)) (is_in_years (first_minute e)) years.0 in
        record {
          allowed = begun.0;
          first_in = in_years (first_minute e) begun.1;
          last_in = in_years (last_minute e) years.1;
          whole = grind (arith, nat_tests, whole.1);
        }

    test : Follows s last e → may_follow s last e ≡ true
    test f =
        let allowed : is_ok (allow s e last) ≡ true = f.allowed in
        rw (allowed, is_in_years-true (first_minute e) f.first_in, is_in_years-true (last_minute e) f.last_in, le-leb (first_minute e) (last_minute e) f.whole) refl
