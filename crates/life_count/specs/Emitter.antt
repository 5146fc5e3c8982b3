-- When an emitter ticks.
use Rattle.std.specs.Prelude.{ℕ}

-- the next tick, and how far its ticks are apart, in nanoseconds
pub record Ticks : Type 0 where
  pub next : ℕ
  pub interval : ℕ

-- the ticks from this one on, so far apart
abbrev pub ticks : ℕ → ℕ → Ticks
ticks next interval = record { next = next; interval = interval }
