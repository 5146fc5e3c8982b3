-- What `NoteChunk` does: it records each chunk, with its latency in nanoseconds.
use Rattle.std.specs.Prelude.{◌≡◌, ℕ, List, length}
use Rattle.life_core.specs.Recorded.{Notes}
use Rattle.life_core.specs.declared.event.Event.{Event}
use Rattle.life_core.specs.declared.event.Event.TheVariants.{Chunk}
use Rattle.life_core.specs.declared.latency.LatencyUnit.TheVariants.{Nanos}
use Rattle.life_trace.specs.Hooks.{SeesChunk}
use Rattle.life_trace.specs.Records.{latency_in}
use Rattle.life_trace.specs.declared.trace.on_body_chunk.NoteChunk.{NoteChunk}

-- the hook
abbrev pub note_chunk : NoteChunk
note_chunk = record { _priv = tt }

-- the record of a chunk of so many bytes, after so many nanoseconds
abbrev pub chunk_record : ℕ → ℕ → Event
chunk_record bytes latency = Chunk bytes (latency_in Nanos latency)

-- the chunk is recorded, or refused where there is no room; the hook stays
abbrev pub RecordsChunk : SeesChunk NoteChunk (List ℕ)
RecordsChunk old chunk latency span was answer new now = Notes was (chunk_record (length chunk) latency) answer now × (new ≡ old)
