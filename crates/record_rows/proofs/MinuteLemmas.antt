-- A minute's text.
use Rattle.std.proofs.Common.{◌≡◌, ℕ, ◌+◌, ◌-◌, ◌*◌, ◌%◌, ◌<◌, List, [], ◌∷◌, ◌++◌, length, take, drop, get_or, refl, sym, ap, ◌∙◌, arith, inl, inr, subst, Option, None, Some}
use Rattle.std.specs.Option.{SomeIff, IfSome}
use Rattle.std.specs.Int.{w64, from_le_bytes, to_le_bytes}
use Rattle.std.proofs.Math.ListN.{get_or-eq_default}
use Rattle.std.proofs.Math.Seq.{drop-cons}
use Rattle.std.proofs.lemmas.Bool.{cases_lt}
use Rattle.std.proofs.lemmas.List.{get_or-take, get_or-drop, length-take, length-drop, take-append-drop, append_assoc, take_more_same, drop_all}
use Rattle.std.proofs.lemmas.Nat.{le_bytes_8}
use Rattle.desk_base.specs.Day.{day_of, day_text}
use Rattle.desk_base.specs.Minute.{minute_text, time_text, month_of, IsInYears}
use Rattle.desk_base.specs.Month.{first_day, month_text}
use Rattle.desk_base.proofs.TextLemmas.{minute_text_spells}

-- minutes of one text are one
pub minute_text-one : (a b : ℕ) → minute_text a ≡ minute_text b → a ≡ b
minute_text-one a b e =
    let s = minute_text_spells (minute_text b) a (sym e) in
    let t = minute_text_spells (minute_text b) b refl in
    let month : month_of a ≡ month_of b = omega (arith, s.year, s.number, t.year, t.number) in
    let day : day_of a ≡ day_of b = omega (arith, s.day, t.day, ap first_day month) in
    omega (arith, day, s.hour, s.past, t.hour, t.past)

-- it has 16 bytes
pub length-minute_text : (t : ℕ) → length (minute_text t) ≡ 16
length-minute_text t = (minute_text_spells (minute_text t) t refl).len

-- ---- texts of sixteen bytes

-- the items are bytes
abbrev pub AreBytes : List ℕ → Type 0
AreBytes xs = (i : ℕ) → get_or xs i 0 < 256

bytes-take : (n : ℕ) (xs : List ℕ) → AreBytes xs → AreBytes (take n xs)
bytes-take n xs all i = elim (cases_lt i (length (take n xs))) [
  | inl low ↦ rw (get_or-take n xs i 0 (omega (arith, low, length-take n xs))) (all i)
  | inr high ↦ rw (get_or-eq_default (take n xs) 0 high) (omega arith)
]

bytes-drop : (n : ℕ) (xs : List ℕ) → AreBytes xs → AreBytes (drop n xs)
bytes-drop n xs all i = rw (get_or-drop n xs i 0) (all (n + i))

-- eight bytes that are one number are the same
same-eight : (xs ys : List ℕ) → length xs ≡ 8 → length ys ≡ 8 → AreBytes xs → AreBytes ys → from_le_bytes w64 xs ≡ from_le_bytes w64 ys → xs ≡ ys
same-eight xs ys x_len y_len x_all y_all same =
    sym (le_bytes_8 xs (from_le_bytes w64 xs) x_len x_all refl) ∙ ap (to_le_bytes w64) same ∙ le_bytes_8 ys (from_le_bytes w64 ys) y_len y_all refl

module _ (xs ys : List ℕ) (x_len : length xs ≡ 16) (y_len : length ys ≡ 16) (x_all : AreBytes xs) (y_all : AreBytes ys) where
  pub same-front : from_le_bytes w64 (take 8 xs) ≡ from_le_bytes w64 (take 8 ys) → take 8 xs ≡ take 8 ys
  same-front =
      same-eight (take 8 xs) (take 8 ys) (omega (arith, length-take 8 xs, x_len)) (omega (arith, length-take 8 ys, y_len)) (bytes-take 8 xs x_all) (bytes-take 8 ys y_all)

  pub same-back : from_le_bytes w64 (drop 8 xs) ≡ from_le_bytes w64 (drop 8 ys) → drop 8 xs ≡ drop 8 ys
  same-back =
      same-eight (drop 8 xs) (drop 8 ys) (omega (arith, length-drop 8 xs, x_len)) (omega (arith, length-drop 8 ys, y_len)) (bytes-drop 8 xs x_all) (bytes-drop 8 ys y_all)

-- the first eight bytes are the same, and the three behind them
pub same-eleven : (xs ys : List ℕ) → length xs ≡ 16 → length ys ≡ 16 → take 8 xs ≡ take 8 ys → get_or xs 8 0 ≡ get_or ys 8 0 → get_or xs 9 0 ≡ get_or ys 9 0
    → get_or xs 10 0 ≡ get_or ys 10 0 → take 11 xs ≡ take 11 ys
same-eleven xs ys x_len y_len front at_8 at_9 at_10 =
    take_more_same xs ys 10 0 (omega (arith, x_len)) (omega (arith, y_len))
    (take_more_same xs ys 9 0 (omega (arith, x_len)) (omega (arith, y_len)) (take_more_same xs ys 8 0 (omega (arith, x_len)) (omega (arith, y_len)) front at_8) at_9) at_10

same-five : {a b c d e p q r s t : ℕ} → a ≡ p → b ≡ q → c ≡ r → d ≡ s → e ≡ t → (a ∷ b ∷ c ∷ d ∷ e ∷ []) ≡ p ∷ q ∷ r ∷ s ∷ t ∷ []
same-five x y z v w = rw (x, y, z, v, w) refl

-- four digits with a colon between them are a time
pub time-is : (text : List ℕ) (a b c d : ℕ) → length text ≡ 16 → a < 10 → b < 10 → c < 10 → d < 10 → 10 * c + d < 60 → get_or text 11 0 ≡ 48 + a → get_or text 12 0 ≡ 48 + b
    → get_or text 13 0 ≡ 58 → get_or text 14 0 ≡ 48 + c → get_or text 15 0 ≡ 48 + d → drop 11 text ≡ time_text (60 * (10 * a + b) + (10 * c + d))
time-is text a b c d len la lb lc ld short at_11 at_12 at_13 at_14 at_15 =
    (drop-cons text 11 0 (omega (arith, len)) ∙ ap (λ xs. get_or text 11 0 ∷ xs)
    (drop-cons text 12 0 (omega (arith, len)) ∙ ap (λ xs. get_or text 12 0 ∷ xs)
    (drop-cons text 13 0 (omega (arith, len)) ∙ ap (λ xs. get_or text 13 0 ∷ xs)
    (drop-cons text 14 0 (omega (arith, len)) ∙ ap (λ xs. get_or text 14 0 ∷ xs)
    (drop-cons text 15 0 (omega (arith, len)) ∙ ap (λ xs. get_or text 15 0 ∷ xs) (drop_all 16 text (omega (arith, len))))))))
    ∙ same-five (at_11 ∙ omega (arith, la, lb, lc, ld, short)) (at_12 ∙ omega (arith, la, lb, lc, ld, short)) at_13 (at_14 ∙ omega (arith, la, lb, lc, ld, short)) (at_15 ∙ omega (arith, la, lb, lc, ld, short))

-- ---- another minute of the same day

day_part : (minute : ℕ) → take 11 (minute_text minute) ≡ day_text (day_of minute) ++ 32 ∷ []
unfolding minute_text day_text month_text
day_part minute = refl

minute_parts : (minute day time : ℕ) → day_of minute ≡ day → minute % 1440 ≡ time → minute_text minute ≡ (day_text day ++ 32 ∷ []) ++ time_text time
unfolding minute_text
minute_parts minute day time day_is time_is = rw (day_is, time_is) (sym (append_assoc (day_text day) (32 ∷ []) (time_text time)))

-- a text that names the day of a minute, and this time behind it, is the text of the minute at that time of the day
pub text-at : (text : List ℕ) (minute time : ℕ) → time < 1440 → take 11 text ≡ take 11 (minute_text minute) → drop 11 text ≡ time_text time → text ≡ minute_text (minute - minute % 1440 + time)
text-at text minute time low day behind =
    sym (take-append-drop 11 text) ∙ ap (λ front. front ++ drop 11 text) (day ∙ day_part minute) ∙ ap (λ back. (day_text (day_of minute) ++ 32 ∷ []) ++ back) behind
    ∙ sym (minute_parts (minute - minute % 1440 + time) (day_of minute) time (omega (arith, low)) (omega (arith, low)))

-- which lies in the years 2000 to 2099 as the other does
pub years-at : (minute time : ℕ) → time < 1440 → IsInYears minute → IsInYears (minute - minute % 1440 + time)
years-at minute time low years = (omega (arith, low, years.0), omega (arith, low, years.1))

-- what holds of the value that there may be
pub some-new : {T : Type 0} (r : Option T) (P : Type 0) (v : T) (Q : T → Type 0) → SomeIff r P v → Q v → IfSome r Q
some-new None P v Q is q = tt
some-new (Some x) P v Q is q = subst Q (sym is.1) q
