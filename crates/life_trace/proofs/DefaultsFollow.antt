-- What the default hooks record, each one event; what the silent ones don't; and what the default maker of spans makes.
use Rattle.std.proofs.Common.{◌≡◌, ℕ, List, [], ◌∷◌, Option, Some, Ok, ap, ◌∙◌, subst}
use Rattle.std.specs.Prelude.{length, ⊤}
use Rattle.life_core.specs.History.{Adds}
use Rattle.life_core.specs.declared.event.Event.{Event}
use Rattle.life_core.specs.declared.message.Request.{Request}
use Rattle.life_core.specs.declared.message.ResponseHead.{ResponseHead}
use Rattle.life_core.specs.declared.span.Span.{Span}
use Rattle.life_core.proofs.Growth.{adds_none, adds_one}
use Rattle.life_trace.proofs.TraceFollows.{SpanFollows, RequestHookFollows, ResponseHookFollows, ChunkHookFollows, EosHookFollows, FailureHookFollows}
use Rattle.life_trace.specs.DefaultMakeSpan.{MakesRequestSpan, request_span}
use Rattle.life_trace.specs.DefaultOnEos.{RecordsEnd, end_record}
use Rattle.life_trace.specs.DefaultOnFailure.{RecordsFailure, failure_record}
use Rattle.life_trace.specs.DefaultOnRequest.{RecordsStart, start_record}
use Rattle.life_trace.specs.DefaultOnResponse.{RecordsResponse, response_record}
use Rattle.life_trace.specs.NoteChunk.{RecordsChunk, chunk_record}
use Rattle.life_trace.specs.Silent.{Silent, SilentEnd}
use Rattle.life_trace.specs.declared.trace.make_span.DefaultMakeSpan.{DefaultMakeSpan}
use Rattle.life_trace.specs.declared.trace.on_eos.DefaultOnEos.{DefaultOnEos}
use Rattle.life_trace.specs.declared.trace.on_failure.DefaultOnFailure.{DefaultOnFailure}
use Rattle.life_trace.specs.declared.trace.on_request.DefaultOnRequest.{DefaultOnRequest}
use Rattle.life_trace.specs.declared.trace.on_response.DefaultOnResponse.{DefaultOnResponse}

-- the span of each request that is wanted
pub makes_span : {B X : Type 0} (Wanted : Request B X → Type 0) (maker : DefaultMakeSpan) (span : Span) → ((req : Request B X) → Wanted req → request_span maker req.head.parts ≡ span) →
    SpanFollows MakesRequestSpan Wanted (λ m. m ≡ maker) span
makes_span Wanted maker span is = record {
  made = λ old req made new q k e. e.0 ∙ ap (λ m. request_span m req.head.parts) k ∙ is req q;
  stays = λ old req answer new k e. e.1 ∙ k;
}

pub records_start : {B X : Type 0} (Wanted : Request B X → Type 0) (hook : DefaultOnRequest) (span : Span) →
    RequestHookFollows RecordsStart Wanted (λ h. h ≡ hook) span (start_record hook span ∷ [])
records_start Wanted hook span = record {
  records = λ old req was u new now q k e. subst (λ h. Adds was now (start_record h span ∷ [])) k (adds_one was now (start_record old span) e.0);
  stays = λ old req any was answer new now k e. e.1 ∙ k;
}

-- by what is said of the head
pub records_response : {G B X : Type 0} (Heads : G → ResponseHead X → Type 0) (hook : DefaultOnResponse) (span : Span) (told : G → ℕ → Event) →
    ((g : G) (head : ResponseHead X) (latency : ℕ) → Heads g head → response_record hook head.parts latency ≡ told g latency) →
    ResponseHookFollows {B = B} RecordsResponse Heads span hook (λ g latency. told g latency ∷ [])
records_response Heads hook span told is = record {
  records = λ g r latency was u now k e. subst (λ x. Adds was now (x ∷ [])) (is g r.head latency k) (adds_one was now (response_record hook r.head.parts latency) e);
}

pub records_chunk : (span : Span) → ChunkHookFollows RecordsChunk span (λ h. ⊤) (λ chunk latency. chunk_record (length chunk) latency ∷ [])
records_chunk span = record { records = λ old chunk latency was u new now k e. (adds_one was now (chunk_record (length chunk) latency) e.0, tt) }

pub records_end : (hook : DefaultOnEos) (span : Span) → EosHookFollows RecordsEnd span hook (λ trailers duration. end_record hook trailers duration ∷ [])
records_end hook span = record { records = λ trailers duration was u now e. adds_one was now (end_record hook trailers duration) e }

-- where each class shows a text that is told
pub records_failure : {N : Type 0} (shows : N → Option (List ℕ)) (text : N → List ℕ) → ((c : N) → shows c ≡ Some (text c)) → (hook : DefaultOnFailure) (span : Span) →
    FailureHookFollows (λ old c. RecordsFailure old (shows c)) span hook (λ c latency. failure_record hook (text c) latency ∷ [])
records_failure shows text is hook span = record {
  records = λ c latency was u new now e. adds_one was now (failure_record hook (text c) latency) (subst (λ t. RecordsFailure hook t latency span was (Ok u) new now) (is c) e).0;
}

-- hooks that do nothing
pub silent_request : {H B X : Type 0} (Wanted : Request B X → Type 0) (hook : H) (span : Span) → RequestHookFollows {H = H} {B = B} {X = X} (λ old req sp. Silent old) Wanted (λ h. h ≡ hook) span []
silent_request Wanted hook span = record { records = λ old req was u new now q k e. adds_none was now e.2; stays = λ old req any was answer new now k e. e.1 ∙ k }

pub silent_response : {H G B X : Type 0} (Heads : G → ResponseHead X → Type 0) (span : Span) (hook : H) →
    ResponseHookFollows {H = H} {G = G} {B = B} {X = X} (λ h r latency sp. SilentEnd) Heads span hook (λ g latency. [])
silent_response Heads span hook = record { records = λ g r latency was u now k e. adds_none was now e.1 }

pub silent_chunk : {H D : Type 0} (span : Span) → ChunkHookFollows {H = H} {D = D} (λ old chunk latency sp. Silent old) span (λ h. ⊤) (λ chunk latency. [])
silent_chunk span = record { records = λ old chunk latency was u new now k e. (adds_none was now e.2, tt) }

pub silent_end : {H : Type 0} (span : Span) (hook : H) → EosHookFollows {H = H} (λ h trailers duration sp. SilentEnd) span hook (λ trailers duration. [])
silent_end span hook = record { records = λ trailers duration was u now e. adds_none was now e.1 }

pub silent_failure : {H N : Type 0} (span : Span) (hook : H) → FailureHookFollows {H = H} {N = N} (λ h c latency sp. Silent h) span hook (λ c latency. [])
silent_failure span hook = record { records = λ c latency was u new now e. adds_none was now e.2 }
