-- The default hook at the end of a body: its level and its unit, and what it records.
use Rattle.std.specs.Prelude.{ℕ, Option, is_some}
use Rattle.http_header.specs.FieldValue.{FieldValue}
use Rattle.http_header.specs.HeaderMap.{Entries}
use Rattle.life_core.specs.declared.event.Event.{Event}
use Rattle.life_core.specs.declared.event.Event.TheVariants.{Ended}
use Rattle.life_core.specs.declared.event.Level.{Level}
use Rattle.life_core.specs.declared.event.Level.TheVariants.{Debug}
use Rattle.life_core.specs.declared.latency.LatencyUnit.{LatencyUnit}
use Rattle.life_trace.specs.Hooks.{SeesEos}
use Rattle.life_trace.specs.Records.{Records, default_unit, latency_in}
use Rattle.life_trace.specs.Status.{trailers_status}
use Rattle.life_trace.specs.declared.trace.on_eos.DefaultOnEos.{DefaultOnEos}

-- the hook as it is made
abbrev pub default_on_eos : DefaultOnEos
default_on_eos = record { level = Debug; latency_unit = default_unit }

-- the hook at another level
abbrev pub with_level : DefaultOnEos → Level → DefaultOnEos
with_level hook level = record hook { level = level }

-- the hook with another unit
abbrev pub with_latency_unit : DefaultOnEos → LatencyUnit → DefaultOnEos
with_latency_unit hook unit = record hook { latency_unit = unit }

-- the record of an end, so many nanoseconds after the response
abbrev pub end_record : DefaultOnEos → Option (Entries FieldValue) → ℕ → Event
end_record hook trailers duration = Ended hook.level (latency_in hook.latency_unit duration) (trailers_status trailers)

-- the end is recorded; only where trailers came may memory be wanted before
abbrev pub RecordsEnd : SeesEos DefaultOnEos
RecordsEnd hook trailers duration span was answer now = Records (is_some trailers) was (end_record hook trailers duration) answer now
