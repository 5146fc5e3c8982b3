-- Timers, in whole nanoseconds.
use Rattle.std.specs.Prelude.{ℕ, ◌-◌, Bool, ◌&&◌, nat_le}

-- whether a timer of this start and length is over
abbrev pub due : ℕ → ℕ → ℕ → Bool
due start length now = nat_le start now && nat_le length (now - start)

-- how long ago the start was, or 0 where it lies ahead
abbrev pub since : ℕ → ℕ → ℕ
since start now = now - start
