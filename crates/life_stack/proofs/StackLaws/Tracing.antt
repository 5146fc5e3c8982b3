-- The hooks and the classifier of the driven stack record and class as its tracing says.
use Rattle.std.proofs.Common.{◌≡◌, ℕ, List, [], ◌∷◌, length, Option, Some, None, Ok, Err, Result, refl, ap, ◌∙◌}
use Rattle.std.specs.Prelude.{if◌then◌else◌, ⊤}
use Rattle.http_header.specs.FieldValue.{FieldValue}
use Rattle.http_header.specs.HeaderMap.{Entries}
use Rattle.life_classify.specs.Code.{ok_alone}
use Rattle.life_classify.specs.Drive.{DriveEosError, DriveError, DriveResponse, DriveTrailers, drive_class_text, grpc_told}
use Rattle.life_classify.specs.Grpc.{grpc_parsed}
use Rattle.life_classify.specs.GrpcClasses.{headers_told}
use Rattle.life_classify.specs.Shared.{MakesTwins}
use Rattle.life_classify.specs.Status.{is_between}
use Rattle.life_classify.specs.declared.classify.drive_classifier.DriveClassifier.{DriveClassifier}
use Rattle.life_classify.specs.declared.classify.drive_classifier.DriveClassifier.TheVariants as named
use Rattle.life_classify.specs.declared.classify.drive_classifier.DriveClassifyEos.{DriveClassifyEos}
use Rattle.life_classify.specs.declared.classify.drive_classifier.DriveFailureClass.{DriveFailureClass}
use Rattle.life_classify.specs.declared.classify.drive_classifier.DriveFailureClass.TheVariants.{Http, Grpc}
use Rattle.life_classify.specs.declared.classify.grpc_errors_as_failures.GrpcFailureClass.TheVariants as grpc
use Rattle.life_classify.specs.declared.classify.server_errors_as_failures.ServerErrorsFailureClass.TheVariants as server
use Rattle.life_classify.specs.declared.classify.traits.ClassifiedResponse.{ClassifiedResponse}
use Rattle.life_classify.specs.declared.classify.traits.ClassifiedResponse.TheVariants.{Ready}
use Rattle.life_core.specs.Texts.{body_error_text}
use Rattle.life_core.specs.declared.body.BodyError.{BodyError}
use Rattle.life_core.specs.declared.body.BodyError.TheVariants.{Elapsed, Inner, LengthLimit}
use Rattle.life_core.specs.declared.event.Event.TheVariants.{Finished}
use Rattle.life_core.specs.declared.event.Level.TheVariants.{Debug}
use Rattle.life_core.specs.declared.message.Request.{Request}
use Rattle.life_core.specs.declared.message.ResponseHead.{ResponseHead}
use Rattle.life_core.specs.declared.span.Span.{Span}
use Rattle.life_script.specs.Headers.{map_of}
use Rattle.life_script.specs.declared.scenario.Limits.{Limits}
use Rattle.life_trace.specs.DefaultMakeSpan.{MakesRequestSpan, request_span}
use Rattle.life_trace.specs.DefaultOnEos.{RecordsEnd}
use Rattle.life_trace.specs.DefaultOnRequest.{RecordsStart, default_on_request}
use Rattle.life_trace.specs.DefaultOnResponse.{RecordsResponse, response_record}
use Rattle.life_trace.specs.NoteChunk.{RecordsChunk}
use Rattle.life_trace.specs.Status.{response_status}
use Rattle.life_trace.proofs.TraceFollows.{ChunkHookFollows, EosClassFollows, EosHookFollows, ErrorClassFollows, FailureHookFollows, MakerFollows, RequestHookFollows, ResponseClassFollows, ResponseHookFollows, SpanFollows}
use Rattle.life_trace.proofs.DefaultsFollow.{makes_span, records_chunk, records_end, records_failure, records_response, records_start}
use Rattle.life_stack.specs.Service.History.{Head, IsHead}
use Rattle.life_stack.specs.Stack.Driven.{WatchedBody, notes_failure}
use Rattle.life_stack.specs.Stack.Tracing.{class_text, drive_classes, drive_events, drive_on_eos, drive_on_failure, drive_on_response, drive_tracing, eos_class, error_class, fault_text, head_class}
use Rattle.life_stack.specs.Table.Traced.{finished, in_nanos, span_of, started}
use Rattle.life_stack.specs.Table.Request.{Numbered}
use Rattle.life_stack.specs.declared.service.body.ScriptBody.{ScriptBody}
use Rattle.life_stack.specs.declared.service.ext.Ext.{Ext}

-- THE CALL, of requests that are wanted.
module _ (limits : Limits) (request : Numbered) (Wanted : Request ScriptBody Ext → Type 0)
    (span_is : (req : Request ScriptBody Ext) → Wanted req → request_span (drive_tracing limits).make_span req.head.parts ≡ span_of limits request) where
  pub span_maker : SpanFollows MakesRequestSpan Wanted (λ maker. maker ≡ (drive_tracing limits).make_span) (span_of limits request)
  span_maker = makes_span Wanted (drive_tracing limits).make_span (span_of limits request) span_is

  pub classifier_maker : MakerFollows MakesTwins Wanted (drive_tracing limits).make_classifier limits.classifier
  classifier_maker = record { made = λ req made q k. k }

  pub request_hook : RequestHookFollows RecordsStart Wanted (λ hook. hook ≡ default_on_request) (span_of limits request) (started (span_of limits request) ∷ [])
  request_hook = records_start Wanted default_on_request (span_of limits request)

-- THE ANSWERS, in a span.
module _ (span : Span) where
  response_is : (h : Head) (head : ResponseHead Ext) (latency : ℕ) → IsHead h head → response_record drive_on_response head.parts latency ≡ finished h.0 h.1 latency
  response_is h head latency k =
      ap (λ (m : Entries FieldValue). Finished Debug (in_nanos latency) (response_status m head.parts.status) None) k.headers_are
      ∙ ap (λ (n : ℕ). Finished Debug (in_nanos latency) (response_status (map_of h.1) n) None) k.status_is

  pub response_hook : ResponseHookFollows {B = WatchedBody} RecordsResponse IsHead span drive_on_response drive_events.response
  response_hook = records_response IsHead drive_on_response span (λ h latency. finished h.0 h.1 latency) response_is

  pub chunk_hook : ChunkHookFollows RecordsChunk span (λ hook. ⊤) drive_events.chunk
  chunk_hook = records_chunk span

  pub eos_hook : EosHookFollows RecordsEnd span drive_on_eos drive_events.eos
  eos_hook = records_end drive_on_eos span

  shows_text : (c : DriveFailureClass) → drive_class_text c ≡ Some (class_text c)
  shows_text (Http (server.StatusCode status)) = refl
  shows_text (Http (server.Error text)) = refl
  shows_text (Grpc (grpc.Status status)) = refl
  shows_text (Grpc (grpc.Error text)) = refl

  pub failure_hook : FailureHookFollows notes_failure span drive_on_failure drive_events.failure
  failure_hook = records_failure drive_class_text class_text shows_text drive_on_failure span

-- THE CLASSES.
ok_is : {A B : Type 0} (a b : A) → ◌≡◌ {A = Result A B} (Ok a) (Ok b) → a ≡ b
ok_is a b e = cc

response_class_is : (c : DriveClassifier) (h : Head) (head : ResponseHead Ext) (told : ClassifiedResponse DriveFailureClass DriveClassifyEos) → IsHead h head → DriveResponse c head.parts (Ok told) → told ≡ head_class c h
response_class_is named.Http h head told k d =
    ok_is told _ d ∙ ap (λ (n : ℕ). Ready (if is_between 500 599 n then Err (Http (server.StatusCode n)) else Ok tt)) k.status_is
response_class_is named.Grpc h head told k d = d ∙ ap (λ (m : Entries FieldValue). grpc_told (headers_told ok_alone (grpc_parsed ok_alone m))) k.headers_are

pub response_class : (c : DriveClassifier) → ResponseClassFollows DriveResponse IsHead c (head_class c)
response_class c = record { tells = response_class_is c }

error_class_is : (c : DriveClassifier) (error : List ℕ) (told : DriveFailureClass) → DriveError c (Some error) (Ok told) → told ≡ error_class c error
error_class_is named.Http error told d = d
error_class_is named.Grpc error told d = d

pub error_class_told : (c : DriveClassifier) → ErrorClassFollows DriveError Some c (error_class c)
error_class_told c = record { tells = error_class_is c }

eos_class_is : (k : DriveClassifyEos) (trailers : Option (Entries FieldValue)) (told : Result Unit DriveFailureClass) → DriveTrailers k trailers (Ok told) → told ≡ eos_class k trailers
eos_class_is k None told d = ok_is told (Ok tt) d
eos_class_is k (Some trailers) told d = d

pub eos_class_told : EosClassFollows DriveTrailers eos_class
eos_class_told = record { tells = eos_class_is }

fault_class_is : (k : DriveClassifyEos) (fault : BodyError (List ℕ)) (told : DriveFailureClass) → DriveEosError k (body_error_text Some fault) (Ok told) → told ≡ Grpc (grpc.Error (fault_text fault))
fault_class_is k Elapsed told d = d
fault_class_is k LengthLimit told d = d
fault_class_is k (Inner text) told d = d

pub fault_class_told : (k : DriveClassifyEos) → ErrorClassFollows DriveEosError (body_error_text Some) k (λ fault. Grpc (grpc.Error (fault_text fault)))
fault_class_told k = record { tells = fault_class_is k }
