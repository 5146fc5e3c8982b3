-- What the service is handed of the body of a request, and what it records.
use Rattle.std.specs.Prelude.{ℕ, zero, suc, ◌+◌, ◌-◌, List, [], ◌∷◌, ◌++◌, length, slice_get, if◌then◌else◌, nat_le, Option, Some, None}
use Rattle.life_core.specs.declared.event.Event.{Event}
use Rattle.life_core.specs.declared.event.Handed.{Handed}
use Rattle.life_core.specs.declared.fault.PanicText.{PanicText}
use Rattle.life_limit.specs.Limit.{room_of}
use Rattle.life_script.specs.Scenario.{ScriptView}
use Rattle.life_script.specs.declared.scenario.BodyItem.{BodyItem}
use Rattle.life_script.specs.declared.scenario.Limits.{Limits}
use Rattle.life_script.specs.declared.scenario.PollItem.{PollItem}
use Rattle.life_script.specs.declared.scenario.Then.{Then}
use Rattle.life_core.specs.declared.event.Event.TheVariants as event
use Rattle.life_core.specs.declared.event.Handed.TheVariants as handed
use Rattle.life_core.specs.declared.event.Level.TheVariants as level
use Rattle.life_script.specs.declared.scenario.BodyItem.TheVariants as body_item
use Rattle.life_script.specs.declared.scenario.Then.TheVariants as then_
use Rattle.life_stack.specs.Table.Decision.{Decision, Forbidden, Panicked, Served, TooLarge, decision, declared_by}
use Rattle.life_stack.specs.Table.Request.{Numbered, shown_headers}

-- WHAT IS HANDED.

-- the room for the body: the lesser of the limit and the told length
abbrev pub room : Limits → ScriptView → ℕ
room limits script = room_of limits.byte_limit (declared_by script)

-- a chunk that fits lessens the room by its length; a longer one leaves none
abbrev pub room_past : ℕ → BodyItem → ℕ
room_past left (body_item.Chunk bytes) = left - length bytes
room_past left (body_item.Trailers trailers) = left
room_past left body_item.Pending = left
room_past left (body_item.Fault fault) = left

-- the room before item j
abbrev pub room_before : ℕ → List BodyItem → ℕ → ℕ
room_before left items zero = left
room_before left [] (suc j) = left
room_before left (item ∷ items) (suc j) = room_before (room_past left item) items j

-- an item, or none past the list, where there is so much room
abbrev pub handed_by : ℕ → Option BodyItem → Handed
handed_by left None = handed.End
handed_by left (Some (body_item.Chunk bytes)) = if nat_le (length bytes) left then handed.Chunk bytes else handed.LengthLimit
handed_by left (Some (body_item.Trailers trailers)) = handed.Trailers (shown_headers trailers)
handed_by left (Some body_item.Pending) = handed.Pending
handed_by left (Some (body_item.Fault fault)) = handed.Inner fault

-- what ask j gets
abbrev pub handed_at : ℕ → List BodyItem → ℕ → Handed
handed_at left items j = handed_by (room_before left items j) (slice_get items j)

-- n asks from ask j on
abbrev pub handed_from : ℕ → List BodyItem → ℕ → ℕ → List Event
handed_from left items j zero = []
handed_from left items j (suc n) = event.Handed (handed_at left items j) ∷ handed_from left items (suc j) n

-- how often the body was asked before poll k
abbrev pub asked_before : List PollItem → ℕ → ℕ
asked_before polls zero = 0
asked_before [] (suc k) = 0
asked_before (item ∷ items) (suc k) = item.asks + asked_before items k

-- how often an item, or none, asks
abbrev pub asks_of : Option PollItem → ℕ
asks_of None = 0
asks_of (Some item) = item.asks

-- WHAT A POLL RECORDS that reaches the service.

-- the record of a panic
abbrev pub panic_event : PanicText → Event
panic_event text = event.Panic level.Error text

-- what an item records: its panic, if it is one
abbrev pub panic_in : Then → List Event
panic_in then_.Pending = []
panic_in (then_.Panic text) = panic_event text ∷ []
panic_in (then_.Fail error) = []
panic_in (then_.Respond reply) = []

-- the same of an item, or of none past the list
abbrev pub panic_at : Option PollItem → List Event
panic_at None = []
panic_at (Some item) = panic_in item.then

-- poll k asks as often as its item says, and then may panic
abbrev pub served_events : ℕ → ScriptView → ℕ → List Event
served_events left script k = handed_from left script.body (asked_before script.polls k) (asks_of (slice_get script.polls k)) ++ panic_at (slice_get script.polls k)

-- what poll k records, by the decision; a service that is not called records nothing
abbrev pub decided_events : Decision → ℕ → ScriptView → ℕ → List Event
decided_events TooLarge left script k = []
decided_events Forbidden left script k = []
decided_events (Panicked text) left script k = panic_event text ∷ []
decided_events Served left script k = served_events left script k

-- what poll k records, by the decision for the request
abbrev pub service_events : Limits → Numbered → ℕ → List Event
service_events limits request k = decided_events (decision limits request) (room limits request.script) request.script k

-- HOW MANY BYTES of a request's body were handed.

-- how many bytes were handed by one ask
abbrev pub bytes_of : Handed → ℕ
bytes_of (handed.Chunk bytes) = length bytes
bytes_of (handed.Trailers trailers) = 0
bytes_of handed.Pending = 0
bytes_of handed.End = 0
bytes_of handed.LengthLimit = 0
bytes_of handed.Elapsed = 0
bytes_of (handed.Inner text) = 0

-- of one record, and of all of these
abbrev pub event_bytes : Event → ℕ
event_bytes (event.Handed got) = bytes_of got
event_bytes other = 0

-- how many bytes these events hand
abbrev pub handed_bytes : List Event → ℕ
handed_bytes [] = 0
handed_bytes (e ∷ es) = event_bytes e + handed_bytes es
