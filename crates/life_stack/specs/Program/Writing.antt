-- What a sink took of a text.
use Rattle.std.specs.Prelude.{◌≡◌, ℕ, ◌≤◌, List, length, take, Option, ◌⊎◌}
use Rattle.std.specs.Io.KnownBytes.{Appends}
use Rattle.life_stack.specs.declared.program.status.Status.{Status}
use Rattle.life_stack.specs.declared.program.status.Status.TheVariants.{SinkFault}

-- what is held grew by the first bytes of a text
abbrev pub AppendsPrefix : Option (List ℕ) → Option (List ℕ) → List ℕ → Type 0
AppendsPrefix before now text = (count : ℕ) × (count ≤ length text) × Appends before now (take count text)

-- the output was written whole and the status is the one that was meant, or the sink failed and a prefix was written
abbrev pub IsAnswered : List ℕ → Option (List ℕ) → Option (List ℕ) → Status → Status → Type 0
IsAnswered output before now meant status = ((status ≡ meant) × Appends before now output) ⊎ ((status ≡ SinkFault) × AppendsPrefix before now output)

-- a sink that takes so much without a fault counts none while it takes the output
abbrev pub IsSteady : {A : Type 0} → (A → ℕ → Type 0) → (A → ℕ) → List ℕ → A → A → Type 0
IsSteady reliable faults output old new = (room : ℕ) → reliable old room → length output ≤ room → faults new ≡ faults old
