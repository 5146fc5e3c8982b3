-- What holds of a poll that answered, and of one that waits.
use Rattle.std.specs.Prelude.{⊤}
use Rattle.life_core.specs.declared.poll.Poll.{Poll}
use Rattle.life_core.specs.declared.poll.Poll.TheVariants.{Ready, Pending}

-- a fact of the answer, where there is one
abbrev pub IfReady : {A : Type 0} → Poll A → (A → Type 0) → Type 0
IfReady (Ready x) P = P x
IfReady Pending P = ⊤

-- a fact, where there is no answer yet
abbrev pub OnPending : {A : Type 0} → Poll A → Type 0 → Type 0
OnPending (Ready x) P = ⊤
OnPending Pending P = P
