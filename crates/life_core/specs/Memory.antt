-- The source and the sink in memory.
use Rattle.std.specs.Prelude.{◌≡◌, ℕ, ◌+◌, ◌-◌, ◌^◌, ◌%◌, ◌≤◌, min, nat_eq, nat_le, nat_lt, Bool, ◌&&◌, ◌||◌, List, [], length, Result, Ok, Err, if◌then◌else◌}
use Rattle.std.specs.List.{list_any}
use Rattle.std.specs.Vec.{vec_len}
use Rattle.life_core.specs.declared.memory.MemorySource.{MemorySource}
use Rattle.life_core.specs.declared.memory.MemorySink.{MemorySink}
use Rattle.life_core.specs.declared.outside.Failed.{Failed}

-- whether the call of this number is to fail
abbrev pub is_to_fail : List ℕ → ℕ → Bool
is_to_fail fails call = list_any (λ number. nat_eq number call) fails

-- the number of the call after this one
abbrev pub next_call : ℕ → ℕ
next_call call = (call + 1) % 2 ^ 64

-- a source at the start of these bytes, before its first call
pub record IsNewSource (bytes : List ℕ) (most : ℕ) (fails : List ℕ) (source : MemorySource) : Type 0 where
  pub bytes_are : source.bytes ≡ bytes
  pub at_start : source.at ≡ 0
  pub most_is : source.most ≡ most
  pub none_made : source.calls ≡ 0
  pub fails_are : source.fails.items ≡ fails
  pub no_fault : source.faults ≡ 0

-- what a read into a buffer of this size answers: a fault where its number is listed, else as many bytes as there are, up to
-- the most of a call
abbrev pub source_answer : MemorySource → ℕ → Result ℕ Failed
source_answer source size =
    if is_to_fail source.fails.items source.calls then Err (record {}) else Ok (min (min size source.most) (length source.bytes - source.at))

-- a read answers so, and counts as one call more; what calls move and which fail stays
pub record SourceReads (old : MemorySource) (size : ℕ) (answer : Result ℕ Failed) (new : MemorySource) : Type 0 where
  pub answer_is : answer ≡ source_answer old size
  pub counted : new.calls ≡ next_call old.calls
  pub most_stays : new.most ≡ old.most
  pub fails_stay : new.fails ≡ old.fails

-- no call of it is to fail
abbrev pub never_fails_source : MemorySource → Type 0
never_fails_source source = source.fails.items ≡ []

-- an empty sink with this room, before its first call
pub record IsNewSink (room most : ℕ) (fails : List ℕ) (sink : MemorySink) : Type 0 where
  pub empty : sink.held.items ≡ []
  pub room_is : sink.room ≡ room
  pub most_is : sink.most ≡ most
  pub none_made : sink.calls ≡ 0
  pub fails_are : sink.fails.items ≡ fails
  pub no_fault : sink.faults ≡ 0

-- whether a write of some bytes finds no room left
abbrev pub finds_no_room : MemorySink → ℕ → Bool
finds_no_room sink size = nat_lt 0 size && nat_le sink.room (vec_len sink.held)

-- what a write of so many bytes answers: a fault where its number is listed or no room is left, else as many as there is
-- room for, up to the most of a call
abbrev pub sink_answer : MemorySink → ℕ → Result ℕ Failed
sink_answer sink size =
    if is_to_fail sink.fails.items sink.calls || finds_no_room sink size then Err (record {})
    else Ok (min (min size sink.most) (sink.room - vec_len sink.held))

-- a write answers so, and counts as one call more; the room, what calls move and which fail stay
pub record SinkWrites (old : MemorySink) (size : ℕ) (answer : Result ℕ Failed) (new : MemorySink) : Type 0 where
  pub answer_is : answer ≡ sink_answer old size
  pub counted : new.calls ≡ next_call old.calls
  pub room_stays : new.room ≡ old.room
  pub most_stays : new.most ≡ old.most
  pub fails_stay : new.fails ≡ old.fails

-- no call of it is to fail, and it has room for so many bytes more
abbrev pub never_fails_sink : MemorySink → ℕ → Type 0
never_fails_sink sink more = (sink.fails.items ≡ []) × (vec_len sink.held + more ≤ sink.room)
