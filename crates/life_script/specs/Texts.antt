-- The exact texts of answers and events.
use Rattle.std.specs.Prelude.{ℕ, ◌+◌, ◌/◌, ◌%◌, Bool, List, [], ◌∷◌, ◌++◌, codes, decimal, flat_map, nat_lt, nat_le, ◌==◌, ◌&&◌, if◌then◌else◌, ℤ, Option, Some, None}
use Rattle.std.specs.Fmt.{signed_decimal}
use Rattle.life_core.specs.Texts.{latency_text, level_name}
use Rattle.http_header.specs.HeaderMap.{Entry, Entries}
use Rattle.life_core.specs.declared.body.BodyError.{BodyError}
use Rattle.life_core.specs.declared.body.BodyError.TheVariants.{Elapsed, LengthLimit, Inner}
use Rattle.life_core.specs.declared.event.DropKind.{DropKind}
use Rattle.life_core.specs.declared.event.DropKind.TheVariants.{Future, Body}
use Rattle.life_core.specs.declared.event.Event.{Event}
use Rattle.life_core.specs.declared.event.Event.TheVariants as event_
use Rattle.life_core.specs.declared.event.Handed.{Handed}
use Rattle.life_core.specs.declared.event.Handed.TheVariants as handed_
use Rattle.life_core.specs.declared.event.Level.{Level}
use Rattle.life_core.specs.declared.fault.PanicText.{PanicText}
use Rattle.life_core.specs.declared.fault.PanicText.TheVariants.{Known, Unknown}
use Rattle.life_core.specs.declared.latency.Latency.{Latency}
use Rattle.life_core.specs.declared.fields.Shown.{Shown}
use Rattle.life_core.specs.declared.fields.Shown.TheVariants.{Plain, Sensitive}
use Rattle.life_core.specs.declared.span.Span.{Span}
use Rattle.life_script.specs.declared.answer.Answer.{Answer}
use Rattle.life_script.specs.declared.answer.Answer.TheVariants.{Called, Idle, Pending, Response, ServiceError, Frame, End, Fault, Dropped}
use Rattle.life_script.specs.declared.answer.Seen.{Seen}
use Rattle.life_script.specs.declared.answer.Seen.TheVariants.{Chunk, Trailers}
use Rattle.life_script.specs.declared.scenario.Act.{Act}
use Rattle.life_script.specs.declared.scenario.Act.TheVariants.{Call, Poll, Drop}

-- the lower-case hexadecimal digit of a number below sixteen
abbrev pub hex_digit : ℕ → ℕ
hex_digit n = if nat_lt n 10 then 48 + n else 87 + n

-- a printed byte as itself, a quote and a backslash after a backslash, any other byte by two digits
abbrev pub escaped : ℕ → List ℕ
escaped byte =
    if byte == 34 then codes "\\\""
    else (if byte == 92 then codes "\\\\"
    else (if nat_le 32 byte && nat_le byte 126 then byte ∷ []
    else codes "\\x" ++ hex_digit (byte / 16) ∷ hex_digit (byte % 16) ∷ []))

-- bytes between quotes
abbrev pub shown : List ℕ → List ℕ
shown bytes = codes "\"" ++ flat_map escaped bytes ++ codes "\""

-- whether a body has ended
abbrev pub end_text : Bool → List ℕ
end_text ended = if ended then codes "ended" else codes "open"

-- texts with a separator between them
abbrev pub joined : {A : Type 0} → List ℕ → (A → List ℕ) → List A → List ℕ
joined separator text [] = []
joined separator text (first ∷ others) = text first ++ flat_map (λ other. separator ++ text other) others

-- a header's value
abbrev pub value_text : Shown → List ℕ
value_text (Plain bytes) = shown bytes
value_text Sensitive = codes "Sensitive"

-- a header's values
abbrev pub values_text : List Shown → List ℕ
values_text values = joined (codes ", ") value_text values

-- a header's name with its values
abbrev pub entry_text : Entry Shown → List ℕ
entry_text entry = entry.0 ++ codes ": [" ++ values_text entry.1 ++ codes "]"

-- headers
abbrev pub fields_text : Entries Shown → List ℕ
fields_text entries = codes "{" ++ joined (codes ", ") entry_text entries ++ codes "}"

-- a chunk
abbrev pub chunk_text : List ℕ → List ℕ
chunk_text bytes = codes "data " ++ shown bytes

-- trailers
abbrev pub trailers_text : Entries Shown → List ℕ
trailers_text trailers = codes "trailers " ++ fields_text trailers

-- what a frame held
abbrev pub seen_text : Seen → List ℕ
seen_text (Chunk bytes) = chunk_text bytes
seen_text (Trailers trailers) = trailers_text trailers

-- the fault of a wrapped body
abbrev pub inner_text : List ℕ → List ℕ
inner_text fault = codes "fault inner " ++ shown fault

-- a fault of a body
abbrev pub fault_text : BodyError (List ℕ) → List ℕ
fault_text Elapsed = codes "fault elapsed"
fault_text LengthLimit = codes "fault length-limit"
fault_text (Inner fault) = inner_text fault

-- an answer
abbrev pub answer_text : Answer → List ℕ
answer_text Called = codes "called"
answer_text Idle = codes "idle"
answer_text Pending = codes "pending"
answer_text (Response status headers ended) = codes "response " ++ decimal status ++ codes " " ++ end_text ended ++ codes " " ++ fields_text headers
answer_text (ServiceError error) = codes "error " ++ shown error
answer_text (Frame frame ended) = seen_text frame ++ codes " " ++ end_text ended
answer_text End = codes "end"
answer_text (Fault fault) = fault_text fault
answer_text Dropped = codes "dropped"

-- what was dropped before its end
abbrev pub kind_text : DropKind → List ℕ
kind_text Future = codes "future"
kind_text (Body status) = codes "body " ++ decimal status

-- what was dropped early, and how long after its call
abbrev pub dropped_text : DropKind → Latency → List ℕ
dropped_text what latency = codes "dropped " ++ kind_text what ++ codes " latency " ++ latency_text latency

-- what a panic said
abbrev pub said_text : PanicText → List ℕ
said_text (Known text) = shown text
said_text Unknown = codes "unknown"

-- a panic
abbrev pub panic_text : Level → PanicText → List ℕ
panic_text level text = codes "panic " ++ level_name level ++ codes " " ++ said_text text

-- what a service was handed, as in an answer where an answer can be it
abbrev pub handed_text : Handed → List ℕ
handed_text (handed_.Chunk bytes) = chunk_text bytes
handed_text (handed_.Trailers trailers) = trailers_text trailers
handed_text handed_.Pending = codes "pending"
handed_text handed_.End = codes "end"
handed_text handed_.LengthLimit = fault_text LengthLimit
handed_text handed_.Elapsed = fault_text Elapsed
handed_text (handed_.Inner fault) = fault_text (Inner fault)

-- a key with its value, as they are
abbrev pub pair_text : List ℕ × List ℕ → List ℕ
pair_text pair = pair.0 ++ codes "=" ++ pair.1

-- headers after a word, where they are told
abbrev pub told_headers_text : List ℕ → Option (Entries Shown) → List ℕ
told_headers_text word None = []
told_headers_text word (Some headers) = word ++ fields_text headers

-- a span, without its level
abbrev pub span_text : Span → List ℕ
span_text span = span.name ++ codes "{" ++ joined (codes " ") pair_text span.fields ++ told_headers_text (codes " headers=") span.headers ++ codes "}"

-- a status of HTTP or of gRPC, where there is one
abbrev pub status_text : Option ℤ → List ℕ
status_text None = codes "none"
status_text (Some status) = signed_decimal status

-- a request that was called
abbrev pub started_text : Level → Span → List ℕ
started_text level span = codes "started " ++ level_name level ++ codes " " ++ span_text span

-- a response that came
abbrev pub finished_text : Level → Latency → Option ℤ → Option (Entries Shown) → List ℕ
finished_text level latency status headers =
    codes "finished " ++ level_name level ++ codes " latency " ++ latency_text latency ++ codes " status " ++ status_text status ++ told_headers_text (codes " headers ") headers

-- a body that ended
abbrev pub ended_text : Level → Latency → Option ℤ → List ℕ
ended_text level duration status =
    codes "eos " ++ level_name level ++ codes " duration " ++ latency_text duration ++ codes " status " ++ status_text status

-- a failure
abbrev pub failed_text : Level → List ℕ → Latency → List ℕ
failed_text level class latency = codes "failed " ++ level_name level ++ codes " " ++ shown class ++ codes " latency " ++ latency_text latency

-- a chunk that passed
abbrev pub passed_text : ℕ → Latency → List ℕ
passed_text bytes latency = codes "chunk " ++ decimal bytes ++ codes " latency " ++ latency_text latency

-- an event
abbrev pub event_text : Event → List ℕ
event_text (event_.Started level span) = started_text level span
event_text (event_.Finished level latency status headers) = finished_text level latency status headers
event_text (event_.Ended level duration status) = ended_text level duration status
event_text (event_.Failed level class latency) = failed_text level class latency
event_text (event_.Chunk bytes latency) = passed_text bytes latency
event_text (event_.Panic level text) = panic_text level text
event_text (event_.Handed got) = codes "handed " ++ handed_text got
event_text (event_.Dropped what latency) = dropped_text what latency

-- what a client does
abbrev pub act_text : Act → List ℕ
act_text Call = codes "call"
act_text Poll = codes "poll"
act_text Drop = codes "drop"
