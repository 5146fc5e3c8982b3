-- The default hook at a request: its level, and what it records.
use Rattle.std.specs.Prelude.{◌≡◌, true}
use Rattle.life_core.specs.declared.event.Event.{Event}
use Rattle.life_core.specs.declared.event.Event.TheVariants.{Started}
use Rattle.life_core.specs.declared.event.Level.{Level}
use Rattle.life_core.specs.declared.event.Level.TheVariants.{Debug}
use Rattle.life_core.specs.declared.span.Span.{Span}
use Rattle.life_trace.specs.Hooks.{SeesRequest}
use Rattle.life_trace.specs.Records.{Records}
use Rattle.life_trace.specs.declared.trace.on_request.DefaultOnRequest.{DefaultOnRequest}

-- the hook as it is made
abbrev pub default_on_request : DefaultOnRequest
default_on_request = record { level = Debug }

-- the hook at another level
abbrev pub with_level : DefaultOnRequest → Level → DefaultOnRequest
with_level hook level = record hook { level = level }

-- the record of a request that begins, in its span
abbrev pub start_record : DefaultOnRequest → Span → Event
start_record hook span = Started hook.level span

-- the start is recorded, for which a twin of the span is made; the hook stays
abbrev pub RecordsStart : {B X : Type 0} → SeesRequest DefaultOnRequest B X
RecordsStart old request span was answer new now = Records true was (start_record old span) answer now × (new ≡ old)
