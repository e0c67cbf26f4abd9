-- The texts of puts among the bytes of all.
use Rattle.std.proofs.Common.{◌≡◌, ℕ, ◌+◌, ◌-◌, ◌<◌, ◌≤◌, List, [], ◌∷◌, ◌++◌, length, drop, slice_range, map, All, suc, Some, slice_index_or, slice_get, ap, sym, ◌∙◌, arith, refl}
use Rattle.std.proofs.lemmas.List.{take-append-le, drop-append-le, length-drop, map-append, append-nil}
use Rattle.std.proofs.lemmas.List.Elements.{All-append, All-cons, All-nil}
use Rattle.std.proofs.lemmas.Option.{slice_get-map, slice_get-get_or}
use Rattle.std.specs.Option.{option_map}
use Rattle.std.proofs.Math.Seq.{drop-append_seam, take-length}
use Rattle.caller_lines.specs.declared.call_log.Part.{Part}
use Rattle.caller_lines.specs.Given.{Given}
use Rattle.caller_lines.specs.LineCalls.{LineCall, Asked, PutText, texts_in}

-- a part of bytes stays with more bytes behind them
pub slice_range-append : (xs ys : List ℕ) (from to : ℕ) → from ≤ to → to ≤ length xs
    → slice_range (xs ++ ys) from to ≡ slice_range xs from to
slice_range-append xs ys from to order within =
    rw (drop-append-le from xs ys (omega arith)) (take-append-le (to - from) (drop from xs) ys (omega (arith, length-drop from xs)))

-- the last part is what was put last
pub slice_range-last : (xs ys : List ℕ) (to : ℕ) → to ≡ length xs + length ys
    → slice_range (xs ++ ys) (length xs) to ≡ ys
slice_range-last xs ys to is =
    rw (drop-append_seam xs ys) (let len : to - length xs ≡ length ys = omega (arith, is) in rw len (take-length ys))

-- the texts of all puts stay with more bytes behind them
pub map-slice_range-append : (xs ys : List ℕ) (puts : List Part)
    → All (λ put. (put.from ≤ put.to) × (put.to ≤ length xs)) puts
    → map (λ put. slice_range (xs ++ ys) put.from put.to) puts ≡ map (λ put. slice_range xs put.from put.to) puts
map-slice_range-append xs ys [] all = refl
map-slice_range-append xs ys (put ∷ puts) all =
    let first = all 0 put (omega arith) in
    rw (slice_range-append xs ys put.from put.to first.0 first.1)
    (rw (map-slice_range-append xs ys puts (λ k d lt. all (suc k) d (omega (arith, lt)))) refl)

-- the texts with one more, whose bytes are behind the others
pub puts-more : (xs ys : List ℕ) (puts : List Part) (put : Part)
    → All (λ put. (put.from ≤ put.to) × (put.to ≤ length xs)) puts → put.from ≡ length xs → put.to ≡ length xs + length ys
    → map (λ put. slice_range (xs ++ ys) put.from put.to) (puts ++ put ∷ [])
    ≡ map (λ put. slice_range xs put.from put.to) puts ++ ys ∷ []
puts-more xs ys puts put all from to =
    rw (map-append (λ put. slice_range (xs ++ ys) put.from put.to) puts (put ∷ []))
    (rw (map-slice_range-append xs ys puts all) (rw from (rw (slice_range-last xs ys put.to to) refl)))

-- the text of the put at a position is the part of the bytes that is its
pub slice_get-puts : (bytes part : List ℕ) (puts : List Part) (position : ℕ) (put : Part) → position < length puts
    → put ≡ slice_index_or puts position put → part ≡ slice_range bytes put.from put.to
    → slice_get (map (λ put. slice_range bytes put.from put.to) puts) position ≡ Some part
slice_get-puts bytes part puts position put lt is part_is =
    slice_get-map (λ put. slice_range bytes put.from put.to) puts position
    ∙ ap (option_map (λ put. slice_range bytes put.from put.to)) (slice_get-get_or puts position put lt)
    ∙ ap (λ put. Some (slice_range bytes put.from put.to)) (sym is) ∙ ap (λ part. Some part) (sym part_is)

-- the texts that were put with some calls and more of them
pub texts_in-append : (calls more : List LineCall) → texts_in (calls ++ more) ≡ texts_in calls ++ texts_in more
texts_in-append [] more = refl
texts_in-append (Asked gave ∷ calls) more = texts_in-append calls more
texts_in-append (PutText text ∷ calls) more = ap (λ texts. text ∷ texts) (texts_in-append calls more)

-- an answer more puts none
pub texts_in-asked : (calls : List LineCall) (gave : Given) → texts_in (calls ++ Asked gave ∷ []) ≡ texts_in calls
texts_in-asked calls gave = texts_in-append calls (Asked gave ∷ []) ∙ append-nil (texts_in calls)

-- the bytes of the text that was put last
pub text-last : (xs ys all : List ℕ) (part : Part) → all ≡ xs ++ ys → part.from ≡ length xs → part.to ≡ length xs + length ys → slice_range all part.from part.to ≡ ys
text-last xs ys all part is from to = rw is (rw from (slice_range-last xs ys part.to to))

-- with one more, the texts are the parts of the bytes as before
pub texts-more : (calls after : List LineCall) (xs ys all : List ℕ) (puts more : List Part) (part : Part)
    → after ≡ calls ++ PutText (slice_range all part.from part.to) ∷ [] → texts_in calls ≡ map (λ put. slice_range xs put.from put.to) puts
    → all ≡ xs ++ ys → more ≡ puts ++ part ∷ [] → All (λ put. (put.from ≤ put.to) × (put.to ≤ length xs)) puts
    → part.from ≡ length xs → part.to ≡ length xs + length ys → texts_in after ≡ map (λ put. slice_range all put.from put.to) more
texts-more calls after xs ys all puts more part noted texts is pushed each from to =
    ap texts_in noted ∙ texts_in-append calls (PutText (slice_range all part.from part.to) ∷ [])
    ∙ ap (λ text. texts_in calls ++ text ∷ []) (text-last xs ys all part is from to)
    ∙ ap (λ l. l ++ ys ∷ []) texts
    ∙ sym (rw (is, pushed) (puts-more xs ys puts part each from to))

-- with one part more, and as many bytes or more
pub parts-more : (was now : ℕ) (puts more : List Part) (part : Part) → more ≡ puts ++ part ∷ [] → All (λ put. (put.from ≤ put.to) × (put.to ≤ was)) puts → was ≤ now
    → part.from ≤ part.to → part.to ≤ now → All (λ put. (put.from ≤ put.to) × (put.to ≤ now)) more
parts-more was now puts more part pushed each grows order within =
    rw pushed (All-append (λ put. (put.from ≤ put.to) × (put.to ≤ now)) puts (part ∷ []) (λ k d lt. let one = each k d lt in (one.0, omega (arith, one.1, grows)))
    (All-cons (λ put. (put.from ≤ put.to) × (put.to ≤ now)) part [] (order, within) (All-nil (λ put. (put.from ≤ put.to) × (put.to ≤ now)))))
