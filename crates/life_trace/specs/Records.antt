-- How a hook records its one event.
use Rattle.std.specs.Prelude.{◌≡◌, ◌⊎◌, ℕ, Bool, IsTrue, Result, Ok, Err}
use Rattle.life_core.specs.Recorded.{Recorded, Notes}
use Rattle.life_core.specs.declared.event.Event.{Event}
use Rattle.life_core.specs.declared.latency.Latency.{Latency}
use Rattle.life_core.specs.declared.latency.LatencyUnit.{LatencyUnit}
use Rattle.life_core.specs.declared.latency.LatencyUnit.TheVariants.{Millis}
use Rattle.life_core.specs.declared.recorder.NoMemory.{NoMemory}

-- the event is recorded, or refused where there is no room; a hook that takes memory may want it before
abbrev pub Records : Bool → Recorded → Event → Result Unit NoMemory → Recorded → Type 0
Records takes_memory old e (Ok u) new = Notes old e (Ok u) new
Records takes_memory old e (Err x) new = (IsTrue takes_memory × (new ≡ old)) ⊎ Notes old e (Err x) new

-- so many nanoseconds, shown in a unit
abbrev pub latency_in : LatencyUnit → ℕ → Latency
latency_in unit nanos = record { unit = unit; nanos = nanos }

-- the unit in which lengths of time are told where none is set
abbrev pub default_unit : LatencyUnit
default_unit = Millis
