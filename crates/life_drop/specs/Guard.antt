-- A guard: its callback, until it is completed.
use Rattle.std.specs.Prelude.{◌≡◌, ℕ, Option, Some, None, Result, Ok, IfSome}
use Rattle.life_core.specs.Recorded.{Recorded}
use Rattle.life_core.specs.declared.recorder.NoMemory.{NoMemory}
use Rattle.life_drop.specs.declared.on_early_drop.guard.OnEarlyDropGuard.{OnEarlyDropGuard}

-- what calling a callback at a time means
abbrev pub Drops : Type 0 → Type 1
Drops C = C → ℕ → Recorded → Result Unit NoMemory → Recorded → Type 0

-- the callback that a guard holds
abbrev pub callback_of : {C : Type 0} → OnEarlyDropGuard C → Option C
callback_of guard = guard.callback

-- the guard holds this callback
abbrev pub IsArmed : {C : Type 0} → C → OnEarlyDropGuard C → Type 0
IsArmed callback guard = callback_of guard ≡ Some callback

-- a completed guard holds no callback
abbrev pub IsDisarmed : {C : Type 0} → OnEarlyDropGuard C → Type 0
IsDisarmed guard = callback_of guard ≡ None

-- its callback may be called, where it is there
abbrev pub GuardMay : {C : Type 0} → (C → Type 0) → OnEarlyDropGuard C → Type 0
GuardMay may guard = IfSome guard.callback may

-- the callback is called, where it is there
abbrev pub FiresIf : {C : Type 0} → Drops C → Option C → ℕ → Recorded → Result Unit NoMemory → Recorded → Type 0
FiresIf drops None now old answer new = (answer ≡ Ok tt) × (new ≡ old)
FiresIf drops (Some c) now old answer new = drops c now old answer new

-- the guard's callback is called, where it is there
abbrev pub Fires : {C : Type 0} → Drops C → OnEarlyDropGuard C → ℕ → Recorded → Result Unit NoMemory → Recorded → Type 0
Fires drops guard = FiresIf drops guard.callback
