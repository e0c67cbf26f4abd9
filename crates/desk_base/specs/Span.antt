-- Spans of minutes.
use Rattle.std.specs.Prelude.{ℕ}

-- the first minute, and the first one after
pub record SpanValue : Type 0 where
  pub from : ℕ
  pub to : ℕ

abbrev pub span_of : ℕ → ℕ → SpanValue
span_of from to = record { from = from; to = to }
