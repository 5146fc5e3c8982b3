-- Whether a source or a sink counted a fault.
use Rattle.std.specs.Prelude.{ℕ}
use Rattle.life_core.specs.Faults.{Rose}

-- a fault was counted between these two states of a source or a sink
abbrev pub Faulted : {A : Type 0} → (A → ℕ) → A → A → Type 0
Faulted faults old new = Rose (faults old) (faults new)
