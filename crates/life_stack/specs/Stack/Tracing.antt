-- How the driven stack is traced: what its hooks are set to, how its classifier classes, and what they record.
use Rattle.std.specs.Prelude.{◌≡◌, ℕ, List, [], ◌∷◌, length, if◌then◌else◌, Option, Some, None, option_map, Result, Ok, Err, unwrap_or}
use Rattle.http_header.specs.FieldValue.{FieldValue}
use Rattle.http_header.specs.HeaderMap.{Entries}
use Rattle.life_classify.specs.Code.{ok_alone}
use Rattle.life_classify.specs.Drive.{drive_class_text, grpc_answer, grpc_told}
use Rattle.life_classify.specs.Grpc.{grpc_parsed}
use Rattle.life_classify.specs.GrpcClasses.{end_told, headers_told}
use Rattle.life_classify.specs.Shared.{shared}
use Rattle.life_classify.specs.Status.{is_between}
use Rattle.life_classify.specs.declared.classify.drive_classifier.DriveClassifier.{DriveClassifier}
use Rattle.life_classify.specs.declared.classify.drive_classifier.DriveClassifier.TheVariants as named
use Rattle.life_classify.specs.declared.classify.drive_classifier.DriveClassifyEos.{DriveClassifyEos}
use Rattle.life_classify.specs.declared.classify.drive_classifier.DriveFailureClass.{DriveFailureClass}
use Rattle.life_classify.specs.declared.classify.drive_classifier.DriveFailureClass.TheVariants.{Http, Grpc}
use Rattle.life_classify.specs.declared.classify.grpc_errors_as_failures.GrpcFailureClass.TheVariants as grpc
use Rattle.life_classify.specs.declared.classify.server_errors_as_failures.ServerErrorsFailureClass.TheVariants as server
use Rattle.life_classify.specs.declared.classify.shared_classifier.SharedClassifier.{SharedClassifier}
use Rattle.life_classify.specs.declared.classify.traits.ClassifiedResponse.{ClassifiedResponse}
use Rattle.life_classify.specs.declared.classify.traits.ClassifiedResponse.TheVariants.{Ready}
use Rattle.life_core.specs.Texts.{body_error_text}
use Rattle.life_core.specs.declared.body.BodyError.{BodyError}
use Rattle.life_core.specs.declared.event.Event.{Event}
use Rattle.life_core.specs.declared.latency.LatencyUnit.TheVariants.{Nanos}
use Rattle.life_script.specs.Headers.{map_of}
use Rattle.life_script.specs.declared.scenario.Limits.{Limits}
use Rattle.life_stack.specs.Service.History.{Head}
use Rattle.life_trace.specs.DefaultMakeSpan.{default_make_span, with_headers}
use Rattle.life_trace.specs.DefaultOnEos.{default_on_eos, end_record, with_latency_unit as eos_in}
use Rattle.life_trace.specs.DefaultOnFailure.{default_on_failure, failure_record, with_latency_unit as failure_in}
use Rattle.life_trace.specs.DefaultOnRequest.{default_on_request}
use Rattle.life_trace.specs.DefaultOnResponse.{default_on_response, with_latency_unit as response_in}
use Rattle.life_trace.specs.History.{Classes, HookEvents}
use Rattle.life_trace.specs.NoteChunk.{note_chunk}
use Rattle.life_trace.specs.declared.trace.layer.TraceLayer.{TraceLayer}
use Rattle.life_trace.specs.declared.trace.make_span.DefaultMakeSpan.{DefaultMakeSpan}
use Rattle.life_trace.specs.declared.trace.on_body_chunk.NoteChunk.{NoteChunk}
use Rattle.life_trace.specs.declared.trace.on_eos.DefaultOnEos.{DefaultOnEos}
use Rattle.life_trace.specs.declared.trace.on_failure.DefaultOnFailure.{DefaultOnFailure}
use Rattle.life_trace.specs.declared.trace.on_request.DefaultOnRequest.{DefaultOnRequest}
use Rattle.life_trace.specs.declared.trace.on_response.DefaultOnResponse.{DefaultOnResponse}
use Rattle.life_stack.specs.Table.Traced.{chunked, ended, failed, finished}

-- THE LAYER: the default hooks with lengths of time in nanoseconds, and a record of each chunk.
abbrev pub DriveTracing : Type 0
DriveTracing = TraceLayer (SharedClassifier DriveClassifier) DefaultMakeSpan DefaultOnRequest DefaultOnResponse NoteChunk DefaultOnEos DefaultOnFailure

abbrev pub drive_on_response : DefaultOnResponse
drive_on_response = response_in default_on_response Nanos

abbrev pub drive_on_eos : DefaultOnEos
drive_on_eos = eos_in default_on_eos Nanos

abbrev pub drive_on_failure : DefaultOnFailure
drive_on_failure = failure_in default_on_failure Nanos

abbrev pub drive_tracing : Limits → DriveTracing
drive_tracing limits = record {
  make_classifier = shared limits.classifier;
  make_span = with_headers default_make_span limits.span_headers;
  on_request = default_on_request;
  on_response = drive_on_response;
  on_body_chunk = note_chunk;
  on_eos = drive_on_eos;
  on_failure = drive_on_failure;
}

-- THE CLASSES.

-- of a response, by its head
abbrev pub head_class : DriveClassifier → Head → ClassifiedResponse DriveFailureClass DriveClassifyEos
head_class named.Http head = Ready (if is_between 500 599 head.0 then Err (Http (server.StatusCode head.0)) else Ok tt)
head_class named.Grpc head = grpc_told (headers_told ok_alone (grpc_parsed ok_alone (map_of head.1)))

-- of the end of a body, by its trailers, if any came
abbrev pub eos_class : DriveClassifyEos → Option (Entries FieldValue) → Result Unit DriveFailureClass
eos_class k None = Ok tt
eos_class k (Some trailers) = grpc_answer (end_told k.grpc trailers)

-- the text of a fault, each of which shows one
abbrev pub fault_text : BodyError (List ℕ) → List ℕ
fault_text fault = unwrap_or (body_error_text Some fault) []

-- of an error of the service, by its text
abbrev pub error_class : DriveClassifier → List ℕ → DriveFailureClass
error_class named.Http text = Http (server.Error text)
error_class named.Grpc text = Grpc (grpc.Error text)

abbrev pub drive_classes : DriveClassifier → Classes Head DriveClassifyEos DriveFailureClass (BodyError (List ℕ)) (List ℕ)
drive_classes classifier = record {
  response = head_class classifier;
  eos = eos_class;
  fault = λ k fault. Grpc (grpc.Error (fault_text fault));
  error = error_class classifier;
}

-- THE EVENTS.

-- the text of a class, each of which shows one
abbrev pub class_text : DriveFailureClass → List ℕ
class_text class = unwrap_or (drive_class_text class) []

abbrev pub drive_events : HookEvents Head (List ℕ) DriveFailureClass
drive_events = record {
  response = λ head latency. finished head.0 head.1 latency ∷ [];
  chunk = λ bytes latency. chunked (length bytes) latency ∷ [];
  eos = λ trailers duration. end_record drive_on_eos trailers duration ∷ [];
  failure = λ class latency. failed (class_text class) latency ∷ [];
}
