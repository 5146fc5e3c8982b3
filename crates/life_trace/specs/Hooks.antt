-- What the calls of hooks mean.
use Rattle.std.specs.Prelude.{ℕ, Option, Result}
use Rattle.http_header.specs.FieldValue.{FieldValue}
use Rattle.http_header.specs.HeaderMap.{Entries}
use Rattle.life_core.specs.Recorded.{Recorded}
use Rattle.life_core.specs.declared.message.Request.{Request}
use Rattle.life_core.specs.declared.message.Response.{Response}
use Rattle.life_core.specs.declared.recorder.NoMemory.{NoMemory}
use Rattle.life_core.specs.declared.span.Span.{Span}

-- The hook, the request, the answer, and the hook after.
abbrev pub MakesSpan : Type 0 → Type 0 → Type 0 → Type 1
MakesSpan H B X = H → Request B X → Result Span NoMemory → H → Type 0

-- The recorder before, the answer, the hook and the recorder after: of a hook that may be called again.
abbrev pub Stays : Type 0 → Type 1
Stays H = Recorded → Result Unit NoMemory → H → Recorded → Type 0

-- The recorder before, the answer, and the recorder after: of a hook that is called once.
abbrev pub Ends : Type 1
Ends = Recorded → Result Unit NoMemory → Recorded → Type 0

-- The hook, the request and the span.
abbrev pub SeesRequest : Type 0 → Type 0 → Type 0 → Type 1
SeesRequest H B X = H → Request B X → Span → Stays H

-- The hook, the response, the latency and the span.
abbrev pub SeesResponse : Type 0 → Type 0 → Type 0 → Type 1
SeesResponse H B X = H → Response B X → ℕ → Span → Ends

-- The hook, the chunk, the latency and the span.
abbrev pub SeesChunk : Type 0 → Type 0 → Type 1
SeesChunk H D = H → D → ℕ → Span → Stays H

-- The hook, the trailers, if any came, the time since the response, and the span.
abbrev pub SeesEos : Type 0 → Type 1
SeesEos H = H → Option (Entries FieldValue) → ℕ → Span → Ends

-- The hook, the class of the failure, the latency and the span.
abbrev pub SeesFailure : Type 0 → Type 0 → Type 1
SeesFailure H C = H → C → ℕ → Span → Stays H
