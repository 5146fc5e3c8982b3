-- What was taken from a source.
use Rattle.std.specs.Prelude.{◌≡◌, ℕ, ◌≤◌, ◌+◌, List, length, Option, Result, Ok, Err}
use Rattle.std.specs.Io.KnownBytes.{IsAtEnd}
use Rattle.life_stack.specs.declared.program.input.Stopped.{Stopped}
use Rattle.life_stack.specs.declared.program.input.Stopped.TheVariants.{Fault, TooLong, NoMemory}

-- the most bytes that are taken as a scenario
abbrev pub most_bytes : ℕ
most_bytes = 16777216

-- a source that has this left was taken to its end, and gave no more than the most
pub record IsWhole (taken : List ℕ) (left : Option (List ℕ)) : Type 0 where
  pub at_end : IsAtEnd left
  pub within : length taken ≤ most_bytes

-- how the taking ended, by what was taken and what is left
abbrev pub IsTaken : List ℕ → Option (List ℕ) → Result (List ℕ) Stopped → Type 0
IsTaken taken left (Ok bytes) = IsWhole taken left × (bytes ≡ taken)
IsTaken taken left (Err Fault) = length taken ≤ most_bytes
IsTaken taken left (Err TooLong) = length taken ≡ most_bytes + 1
IsTaken taken left (Err NoMemory) = length taken ≤ most_bytes
