-- Hooks that do nothing.
use Rattle.std.specs.Prelude.{◌≡◌, ℕ, Result, Ok}
use Rattle.life_core.specs.Moment.{Moment}
use Rattle.life_core.specs.Recorded.{Recorded}
use Rattle.life_core.specs.declared.message.Request.{Request}
use Rattle.life_core.specs.declared.message.ResponseHead.{ResponseHead}
use Rattle.life_core.specs.declared.recorder.NoMemory.{NoMemory}
use Rattle.life_drop.specs.declared.on_early_drop.noop.NoopDropCallback.{NoopDropCallback}

-- the callback that does nothing
abbrev pub noop : NoopDropCallback
noop = record {}

-- nothing is recorded
abbrev pub DropsNothing : {C : Type 0} → C → ℕ → Recorded → Result Unit NoMemory → Recorded → Type 0
DropsNothing callback at was answer now = (answer ≡ Ok tt) × (now ≡ was)

-- it gives the callback that does nothing, and stays
abbrev pub MakesNoop : {H B X : Type 0} → H → Request B X → Moment → Result NoopDropCallback NoMemory → H → Type 0
MakesNoop old request m answer new = (answer ≡ Ok noop) × (new ≡ old)

-- it keeps nothing of the call, and stays
abbrev pub MakesNothing : {H B X : Type 0} → H → Request B X → Moment → Result (Unit {0}) NoMemory → H → Type 0
MakesNothing old request m answer new = (answer ≡ Ok tt) × (new ≡ old)

-- it gives the callback that does nothing at the response, and stays
abbrev pub RespondsNoop : {H X : Type 0} → H → Unit {0} → ResponseHead X → Result NoopDropCallback NoMemory → H → Type 0
RespondsNoop old begun head answer new = (answer ≡ Ok noop) × (new ≡ old)
