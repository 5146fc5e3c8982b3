-- The default hook at a failure: its level and its unit, and what it records.
use Rattle.std.specs.Prelude.{◌≡◌, ℕ, true, List, Option, Some, None}
use Rattle.life_core.specs.declared.event.Event.{Event}
use Rattle.life_core.specs.declared.event.Event.TheVariants.{Failed}
use Rattle.life_core.specs.declared.event.Level.{Level}
use Rattle.life_core.specs.declared.event.Level.TheVariants.{Error}
use Rattle.life_core.specs.declared.latency.LatencyUnit.{LatencyUnit}
use Rattle.life_trace.specs.Hooks.{SeesFailure}
use Rattle.life_trace.specs.Records.{Records, default_unit, latency_in}
use Rattle.life_trace.specs.declared.trace.on_failure.DefaultOnFailure.{DefaultOnFailure}

-- the hook as it is made
abbrev pub default_on_failure : DefaultOnFailure
default_on_failure = record { level = Error; latency_unit = default_unit }

-- the hook at another level
abbrev pub with_level : DefaultOnFailure → Level → DefaultOnFailure
with_level hook level = record hook { level = level }

-- the hook with another unit
abbrev pub with_latency_unit : DefaultOnFailure → LatencyUnit → DefaultOnFailure
with_latency_unit hook unit = record hook { latency_unit = unit }

-- the record of a failure whose class shows this text, after so many nanoseconds
abbrev pub failure_record : DefaultOnFailure → List ℕ → ℕ → Event
failure_record hook text latency = Failed hook.level text (latency_in hook.latency_unit latency)

-- the failure is recorded with the text that its class shows, or with some text where that is not told; the hook stays
abbrev pub RecordsFailure : SeesFailure DefaultOnFailure (Option (List ℕ))
RecordsFailure old (Some text) latency span was answer new now = Records true was (failure_record old text latency) answer now × (new ≡ old)
RecordsFailure old None latency span was answer new now = (text : List ℕ) × Records true was (failure_record old text latency) answer now × (new ≡ old)
