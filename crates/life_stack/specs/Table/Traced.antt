-- What is traced of a request: its span, how it is classified, and the events of its call, its response and its body.
use Rattle.std.specs.Prelude.{ℕ, ℤ, List, [], ◌∷◌, ◌++◌, length, Bool, true, false, not, ◌&&◌, ◌||◌, if◌then◌else◌, codes, Option, Some, None, option_map}
use Rattle.std.specs.List.{list_any}
use Rattle.http_uri.specs.Uri.{uri_text}
use Rattle.life_classify.specs.Code.{ok_alone}
use Rattle.life_classify.specs.Grpc.{grpc_parsed, grpc_status_text}
use Rattle.life_classify.specs.Status.{error_class_text, is_between, status_class_text}
use Rattle.life_classify.specs.declared.classify.drive_classifier.DriveClassifier.{DriveClassifier}
use Rattle.life_classify.specs.declared.classify.drive_classifier.DriveClassifier.TheVariants as named
use Rattle.life_classify.specs.declared.classify.grpc_errors_as_failures.status.ParsedGrpcStatus.{ParsedGrpcStatus}
use Rattle.life_classify.specs.declared.classify.grpc_errors_as_failures.status.ParsedGrpcStatus.TheVariants.{Success, NonSuccess, GrpcStatusHeaderMissing, HeaderNotGrpcCode}
use Rattle.life_core.specs.Timer.{since}
use Rattle.life_core.specs.declared.event.Event.{Event}
use Rattle.life_core.specs.declared.event.Event.TheVariants as event
use Rattle.life_core.specs.declared.event.Level.TheVariants.{Debug, Error}
use Rattle.life_core.specs.declared.latency.Latency.{Latency}
use Rattle.life_core.specs.declared.latency.LatencyUnit.TheVariants.{Nanos}
use Rattle.life_core.specs.declared.span.Span.{Span}
use Rattle.life_script.specs.Headers.{Headers, map_of}
use Rattle.life_script.specs.Reply.{ReplyView}
use Rattle.life_script.specs.declared.answer.Answer.{Answer}
use Rattle.life_script.specs.declared.answer.Answer.TheVariants as ans
use Rattle.life_script.specs.declared.answer.Seen.{Seen}
use Rattle.life_script.specs.declared.answer.Seen.TheVariants as seen
use Rattle.life_script.specs.declared.scenario.Limits.{Limits}
use Rattle.life_stack.specs.Table.Decision.{seen_headers}
use Rattle.life_stack.specs.Table.Request.{Numbered, shown_headers}
use Rattle.life_trace.specs.Status.{response_status, trailers_status}

-- THE SPAN of a request, with its headers where they are asked for, the id among them.
abbrev pub span_of : Limits → Numbered → Span
span_of limits request = record {
  level = Debug;
  name = codes "request";
  fields = (codes "method", request.script.method) ∷ (codes "uri", uri_text request.script.uri) ∷ (codes "version", codes "HTTP/1.1") ∷ [];
  headers = if limits.span_headers then Some (shown_headers (seen_headers request)) else None;
}

-- THE CLASS of a response: told at once, a success or a failure with its text, or open until its end.
pub data Class : Type 0 where
  Succeeds : Class
  FailsWith : List ℕ → Class
  Open : Class

-- by its status, a server error fails
abbrev pub status_class : ℕ → Class
status_class status = if is_between 500 599 status then FailsWith (status_class_text status) else Succeeds

-- the text of a failure of gRPC
abbrev pub grpc_failure : ParsedGrpcStatus → Option (List ℕ)
grpc_failure Success = None
grpc_failure (NonSuccess status) = Some (codes "Status: " ++ grpc_status_text status)
grpc_failure GrpcStatusHeaderMissing = None
grpc_failure HeaderNotGrpcCode = None

-- by what gRPC tells in headers; it may be missing there
abbrev pub grpc_class : ParsedGrpcStatus → Class
grpc_class Success = Succeeds
grpc_class (NonSuccess status) = FailsWith (codes "Status: " ++ grpc_status_text status)
grpc_class GrpcStatusHeaderMissing = Open
grpc_class HeaderNotGrpcCode = Succeeds

-- by the classifier that is named
abbrev pub class_of : DriveClassifier → ReplyView → Class
class_of named.Http reply = status_class reply.status
class_of named.Grpc reply = grpc_class (grpc_parsed ok_alone (map_of reply.headers))

-- the text of the failure that trailers tell
abbrev pub trailers_failure : Headers → Option (List ℕ)
trailers_failure trailers = grpc_failure (grpc_parsed ok_alone (map_of trailers))

-- whether it is open until the end
abbrev pub is_open : Class → Bool
is_open Succeeds = false
is_open (FailsWith text) = false
is_open Open = true

-- THE EVENTS, with lengths of time in nanoseconds.

abbrev pub in_nanos : ℕ → Latency
in_nanos nanos = record { unit = Nanos; nanos = nanos }

-- a request starts
abbrev pub started : Span → Event
started span = event.Started Debug span

-- a response came, of this status and with these headers
abbrev pub finished : ℕ → Headers → ℕ → Event
finished status headers latency = event.Finished Debug (in_nanos latency) (response_status (map_of headers) status) None

-- a chunk of so many bytes
abbrev pub chunked : ℕ → ℕ → Event
chunked bytes latency = event.Chunk bytes (in_nanos latency)

-- a body ended, with these trailers, if any
abbrev pub ended : Option Headers → ℕ → Event
ended trailers duration = event.Ended Debug (in_nanos duration) (trailers_status (option_map map_of trailers))

-- a failure, with the text of its class
abbrev pub failed : List ℕ → ℕ → Event
failed text latency = event.Failed Error text (in_nanos latency)

-- the text of the fault of a body whose deadline is over
abbrev pub elapsed_text : List ℕ
elapsed_text = codes "data was not received within the designated timeout"

-- a failure is told, where there is one
abbrev pub failed_if : Option (List ℕ) → ℕ → List Event
failed_if None latency = []
failed_if (Some text) latency = failed text latency ∷ []

-- what a class tells at once
abbrev pub at_once : Class → Option (List ℕ)
at_once Succeeds = None
at_once (FailsWith text) = Some text
at_once Open = None

-- WHAT CAME BEFORE: a body's answers so far, each with its time.
abbrev pub Given : Type 0
Given = List (ℕ × Answer)

-- whether it is pending
abbrev pub waits : Answer → Bool
waits ans.Pending = true
waits a = false

-- the time of the last one that was not pending; where there is none, that of the call
abbrev pub last_ready : ℕ → Given → ℕ
last_ready t [] = t
last_ready t (x ∷ given) = last_ready (if waits x.1 then t else x.0) given

-- trailers, a frame after which the body tells its end, and the end
abbrev pub closes : Answer → Bool
closes (ans.Frame (seen.Chunk bytes) ended) = ended
closes (ans.Frame (seen.Trailers trailers) ended) = true
closes ans.End = true
closes a = false

-- a fault
abbrev pub faults : Answer → Bool
faults (ans.Fault fault) = true
faults a = false

-- whether one of them did
abbrev pub any_closes : Given → Bool
any_closes = list_any (λ x. closes x.1)

abbrev pub any_faults : Given → Bool
any_faults = list_any (λ x. faults x.1)

-- AN ANSWER OF A BODY at q, of a request that was called at t0 and answered at ph with a response of this class.
module _ (class : Class) (t0 ph : ℕ) (given : Given) (q : ℕ) where
  -- how long ago the last ready answer came
  abbrev pub latency : ℕ
  latency = since (last_ready t0 given) q

  -- a failure is told while the class is open
  abbrev pub while_open : Option (List ℕ) → List Event
  while_open text = if is_open class && not (any_closes given || any_faults given) then failed_if text latency else []

  -- the end is told once
  abbrev pub end_once : Option Headers → List Event
  end_once trailers = if any_closes given then [] else ended trailers (since ph q) ∷ []
