-- How a window is kept: with its first minute, and the first one after it.
use Rattle.std.specs.Prelude.{◌≡◌}
use Rattle.std.proofs.Common.{sym}
use Rattle.desk_base.specs.Window.{WindowValue, IsWindow, window_of, start_of, end_of}
use Rattle.desk_base.specs.declared.window.Window.TheInside.{Inside}

abbrev pub window_in : Inside → WindowValue
window_in a = window_of a.first a.months

pub record KeepsWindow (a : Inside) : Type 0 where
  pub window : IsWindow (window_in a)
  pub start : a.start ≡ start_of (window_in a)
  pub end : a.end ≡ end_of (window_in a)

abbrev pub window_inside : WindowValue → Inside
window_inside w = record { first = w.first; months = w.months; start = start_of w; end = end_of w }

-- the months give back what is kept
pub window_inside-window_in : (a : Inside) → KeepsWindow a → window_inside (window_in a) ≡ a
window_inside-window_in a k = λ i. record { first = a.first; months = a.months; start = sym k.start i; end = sym k.end i }
