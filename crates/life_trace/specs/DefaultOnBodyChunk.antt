-- The default hook at a chunk, which does nothing.
use Rattle.life_trace.specs.declared.trace.on_body_chunk.DefaultOnBodyChunk.{DefaultOnBodyChunk}

-- the hook
abbrev pub default_on_body_chunk : DefaultOnBodyChunk
default_on_body_chunk = record { _priv = tt }
