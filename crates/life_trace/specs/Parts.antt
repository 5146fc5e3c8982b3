-- What `TraceLayer` and `Trace` hold.
use Rattle.life_trace.specs.DefaultMakeSpan.{default_make_span}
use Rattle.life_trace.specs.DefaultOnBodyChunk.{default_on_body_chunk}
use Rattle.life_trace.specs.DefaultOnEos.{default_on_eos}
use Rattle.life_trace.specs.DefaultOnFailure.{default_on_failure}
use Rattle.life_trace.specs.DefaultOnRequest.{default_on_request}
use Rattle.life_trace.specs.DefaultOnResponse.{default_on_response}
use Rattle.life_trace.specs.declared.trace.future.CallHooks.{CallHooks}
use Rattle.life_trace.specs.declared.trace.layer.TraceLayer.{TraceLayer}
use Rattle.life_trace.specs.declared.trace.service.Trace.{Trace}
use Rattle.life_trace.specs.declared.trace.make_span.DefaultMakeSpan.{DefaultMakeSpan}
use Rattle.life_trace.specs.declared.trace.on_body_chunk.DefaultOnBodyChunk.{DefaultOnBodyChunk}
use Rattle.life_trace.specs.declared.trace.on_eos.DefaultOnEos.{DefaultOnEos}
use Rattle.life_trace.specs.declared.trace.on_failure.DefaultOnFailure.{DefaultOnFailure}
use Rattle.life_trace.specs.declared.trace.on_request.DefaultOnRequest.{DefaultOnRequest}
use Rattle.life_trace.specs.declared.trace.on_response.DefaultOnResponse.{DefaultOnResponse}

-- the layer with this classifier maker and the default hooks
abbrev pub trace_layer : {M : Type 0} → M
    → TraceLayer M DefaultMakeSpan DefaultOnRequest DefaultOnResponse DefaultOnBodyChunk DefaultOnEos DefaultOnFailure
trace_layer make_classifier = record {
  make_classifier = make_classifier;
  make_span = default_make_span;
  on_request = default_on_request;
  on_response = default_on_response;
  on_body_chunk = default_on_body_chunk;
  on_eos = default_on_eos;
  on_failure = default_on_failure;
}

-- the service that a layer makes of an inner one
abbrev pub trace_service : {S M MS RQ RS CH EO FA : Type 0} → S → TraceLayer M MS RQ RS CH EO FA → Trace S M MS RQ RS CH EO FA
trace_service inner layer = record { inner = inner; layer = layer }

-- the layer with another span maker
abbrev pub with_make_span : {M MS RQ RS CH EO FA N : Type 0} → TraceLayer M MS RQ RS CH EO FA → N → TraceLayer M N RQ RS CH EO FA
with_make_span layer make_span = record {
  make_classifier = layer.make_classifier;
  make_span = make_span;
  on_request = layer.on_request;
  on_response = layer.on_response;
  on_body_chunk = layer.on_body_chunk;
  on_eos = layer.on_eos;
  on_failure = layer.on_failure;
}

-- the layer with another hook of requests
abbrev pub with_on_request : {M MS RQ RS CH EO FA N : Type 0} → TraceLayer M MS RQ RS CH EO FA → N → TraceLayer M MS N RS CH EO FA
with_on_request layer on_request = record {
  make_classifier = layer.make_classifier;
  make_span = layer.make_span;
  on_request = on_request;
  on_response = layer.on_response;
  on_body_chunk = layer.on_body_chunk;
  on_eos = layer.on_eos;
  on_failure = layer.on_failure;
}

-- the layer with another hook of responses
abbrev pub with_on_response : {M MS RQ RS CH EO FA N : Type 0} → TraceLayer M MS RQ RS CH EO FA → N → TraceLayer M MS RQ N CH EO FA
with_on_response layer on_response = record {
  make_classifier = layer.make_classifier;
  make_span = layer.make_span;
  on_request = layer.on_request;
  on_response = on_response;
  on_body_chunk = layer.on_body_chunk;
  on_eos = layer.on_eos;
  on_failure = layer.on_failure;
}

-- the layer with another hook of chunks
abbrev pub with_on_body_chunk : {M MS RQ RS CH EO FA N : Type 0} → TraceLayer M MS RQ RS CH EO FA → N → TraceLayer M MS RQ RS N EO FA
with_on_body_chunk layer on_body_chunk = record {
  make_classifier = layer.make_classifier;
  make_span = layer.make_span;
  on_request = layer.on_request;
  on_response = layer.on_response;
  on_body_chunk = on_body_chunk;
  on_eos = layer.on_eos;
  on_failure = layer.on_failure;
}

-- the layer with another hook of ends
abbrev pub with_on_eos : {M MS RQ RS CH EO FA N : Type 0} → TraceLayer M MS RQ RS CH EO FA → N → TraceLayer M MS RQ RS CH N FA
with_on_eos layer on_eos = record {
  make_classifier = layer.make_classifier;
  make_span = layer.make_span;
  on_request = layer.on_request;
  on_response = layer.on_response;
  on_body_chunk = layer.on_body_chunk;
  on_eos = on_eos;
  on_failure = layer.on_failure;
}

-- the layer with another hook of failures
abbrev pub with_on_failure : {M MS RQ RS CH EO FA N : Type 0} → TraceLayer M MS RQ RS CH EO FA → N → TraceLayer M MS RQ RS CH EO N
with_on_failure layer on_failure = record {
  make_classifier = layer.make_classifier;
  make_span = layer.make_span;
  on_request = layer.on_request;
  on_response = layer.on_response;
  on_body_chunk = layer.on_body_chunk;
  on_eos = layer.on_eos;
  on_failure = on_failure;
}

-- what the answer to a call calls: the call's classifier, and hooks that equal the layer's
abbrev pub call_hooks : {M MS RQ RS CH EO FA C : Type 0} → TraceLayer M MS RQ RS CH EO FA → C → CallHooks C RS CH EO FA
call_hooks layer classifier = record {
  classifier = classifier;
  on_response = layer.on_response;
  on_body_chunk = layer.on_body_chunk;
  on_eos = layer.on_eos;
  on_failure = layer.on_failure;
}
