-- The default hook at a response: what it is set to, and what it records.
use Rattle.std.specs.Prelude.{◌||◌, ℕ, Bool, false}
use Rattle.http.specs.declared.response.Parts.{Parts}
use Rattle.life_core.specs.declared.event.Event.{Event}
use Rattle.life_core.specs.declared.event.Event.TheVariants.{Finished}
use Rattle.life_core.specs.declared.event.Level.{Level}
use Rattle.life_core.specs.declared.event.Level.TheVariants.{Debug}
use Rattle.life_core.specs.declared.latency.LatencyUnit.{LatencyUnit}
use Rattle.life_trace.specs.Headers.{headers_told}
use Rattle.life_trace.specs.Hooks.{SeesResponse}
use Rattle.life_trace.specs.Records.{Records, default_unit, latency_in}
use Rattle.life_trace.specs.Status.{is_grpc, response_status}
use Rattle.life_trace.specs.declared.trace.on_response.DefaultOnResponse.{DefaultOnResponse}

-- the hook as it is made
abbrev pub default_on_response : DefaultOnResponse
default_on_response = record { level = Debug; latency_unit = default_unit; include_headers = false }

-- the hook at another level
abbrev pub with_level : DefaultOnResponse → Level → DefaultOnResponse
with_level hook level = record hook { level = level }

-- the hook with another unit
abbrev pub with_latency_unit : DefaultOnResponse → LatencyUnit → DefaultOnResponse
with_latency_unit hook unit = record hook { latency_unit = unit }

-- the hook that tells headers, or does not
abbrev pub with_headers : DefaultOnResponse → Bool → DefaultOnResponse
with_headers hook include = record hook { include_headers = include }

-- the record of a response, so many nanoseconds after the call
abbrev pub response_record : DefaultOnResponse → Parts → ℕ → Event
response_record hook parts latency =
    Finished hook.level (latency_in hook.latency_unit latency) (response_status parts.headers parts.status)
    (headers_told hook.include_headers parts.headers)

-- what may take memory before the response is recorded: a status of gRPC, and headers that are asked for
abbrev pub takes_memory : DefaultOnResponse → Parts → Bool
takes_memory hook parts = is_grpc parts.headers || hook.include_headers

-- the response is recorded
abbrev pub RecordsResponse : {B X : Type 0} → SeesResponse DefaultOnResponse B X
RecordsResponse hook response latency span was answer now =
    Records (takes_memory hook response.head.parts) was (response_record hook response.head.parts latency) answer now
