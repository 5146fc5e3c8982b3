-- What `Trace` does: it begins a span, and then calls the inner service in it.
use Rattle.std.specs.Prelude.{◌≡◌, ◌⊎◌, Some, Result, Ok, Err}
use Rattle.std.specs.Borrow.{Lends, MutBor, Fml}
use denote.RattleType.{RattleType}
use Rattle.life_classify.specs.Classifier.{MakesClassifier}
use Rattle.life_core.specs.Calls.{Abandons, Calls, Abandoned}
use Rattle.life_core.specs.Moment.{Moment, in_span}
use Rattle.life_core.specs.Recorded.{Recorded}
use Rattle.life_core.specs.declared.message.Request.{Request}
use Rattle.life_core.specs.declared.recorder.NoMemory.{NoMemory}
use Rattle.life_core.specs.declared.span.Span.{Span}
use Rattle.life_trace.specs.Hooks.{MakesSpan, SeesRequest}
use Rattle.life_trace.specs.Parts.{call_hooks}
use Rattle.life_trace.specs.contracts.trace.service.Trace.{the_row}
use Rattle.life_trace.specs.declared.trace.future.ResponseFuture.{ResponseFuture}
use Rattle.life_trace.specs.declared.trace.layer.Begun.{Begun}
use Rattle.life_trace.specs.declared.trace.layer.TraceLayer.{TraceLayer}
use Rattle.life_trace.specs.declared.trace.service.Trace.{Trace}

-- once the borrow r ends, the service has the inner one that was left
abbrev pub LendsTraceInner : (S M MS RQ RS CH EO FA : RattleType)
    → MutBor (Trace S.Denot M.Denot MS.Denot RQ.Denot RS.Denot CH.Denot EO.Denot FA.Denot) → MutBor S.Denot → Fml
LendsTraceInner S M MS RQ RS CH EO FA s r = Lends (the_row S M MS RQ RS CH EO FA) S s r (λ w. record s.now { inner = w })

-- the makers and the hooks of a layer may be called
pub record LayerMay {M MS RQ RS CH EO FA : Type 0} (classifier_may : M → Type 0) (span_may : MS → Type 0) (request_may : RQ → Type 0) (response_may : RS → Type 0)
    (chunk_may : CH → Type 0) (eos_may : EO → Type 0) (failure_may : FA → Type 0) (layer : TraceLayer M MS RQ RS CH EO FA) : Type 0 where
  pub make_classifier : classifier_may layer.make_classifier
  pub make_span : span_may layer.make_span
  pub on_request : request_may layer.on_request
  pub on_response : response_may layer.on_response
  pub on_body_chunk : chunk_may layer.on_body_chunk
  pub on_eos : eos_may layer.on_eos
  pub on_failure : failure_may layer.on_failure

-- the inner service, the makers and the hooks may be called
abbrev pub TraceMay : {S M MS RQ RS CH EO FA : Type 0} → (S → Type 0) → (M → Type 0) → (MS → Type 0) → (RQ → Type 0) → (RS → Type 0) → (CH → Type 0) → (EO → Type 0) → (FA → Type 0)
    → Trace S M MS RQ RS CH EO FA → Type 0
TraceMay may classifier_may span_may request_may response_may chunk_may eos_may failure_may s =
    may s.inner × LayerMay classifier_may span_may request_may response_may chunk_may eos_may failure_may s.layer

module _ {M MS RQ RS CH EO FA C B X : Type 0} (makes : MakesClassifier M X C) (makes_span : MakesSpan MS B X) (sees_request : SeesRequest RQ B X) where
  -- the span, the classifier and the request's hook, in this order, and then twins of the hooks for the answer
  pub record Begins (old : TraceLayer M MS RQ RS CH EO FA) (req : Request B X) (was : Recorded) (begun : Begun C RS CH EO FA)
      (new : TraceLayer M MS RQ RS CH EO FA) (now : Recorded) : Type 0 where
    pub span : makes_span old.make_span req (Ok begun.span) new.make_span
    pub classifier : makes old.make_classifier req.head (Ok begun.hooks.classifier)
    pub request : sees_request old.on_request req begun.span was (Ok tt) new.on_request now
    pub hooks : begun.hooks ≡ call_hooks old begun.hooks.classifier
    pub same : new ≡ record old { make_span = new.make_span; on_request = new.on_request }

  -- the span maker finds no memory
  pub record SpanRefused (old : TraceLayer M MS RQ RS CH EO FA) (req : Request B X) (was : Recorded) (e : NoMemory)
      (new : TraceLayer M MS RQ RS CH EO FA) (now : Recorded) : Type 0 where
    pub refused : makes_span old.make_span req (Err e) new.make_span
    pub same : new ≡ record old { make_span = new.make_span }
    pub unrecorded : now ≡ was

  -- the classifier maker finds no memory
  pub record ClassifierRefused (old : TraceLayer M MS RQ RS CH EO FA) (req : Request B X) (was : Recorded) (e : NoMemory)
      (new : TraceLayer M MS RQ RS CH EO FA) (now : Recorded) : Type 0 where
    pub span : Span
    pub made : makes_span old.make_span req (Ok span) new.make_span
    pub refused : makes old.make_classifier req.head (Err e)
    pub same : new ≡ record old { make_span = new.make_span }
    pub unrecorded : now ≡ was

  -- the request's hook answers so, once the span and the classifier are made
  pub record RequestSeen (old : TraceLayer M MS RQ RS CH EO FA) (req : Request B X) (was : Recorded) (answer : Result Unit NoMemory)
      (new : TraceLayer M MS RQ RS CH EO FA) (now : Recorded) : Type 0 where
    pub span : Span
    pub made : makes_span old.make_span req (Ok span) new.make_span
    pub classifier : C
    pub classifier_made : makes old.make_classifier req.head (Ok classifier)
    pub request : sees_request old.on_request req span was answer new.on_request now
    pub same : new ≡ record old { make_span = new.make_span; on_request = new.on_request }

  -- one of them finds no memory: the span maker, the classifier maker, the request's hook, or a twin
  abbrev pub BeginRefused : TraceLayer M MS RQ RS CH EO FA → Request B X → Recorded → NoMemory → TraceLayer M MS RQ RS CH EO FA → Recorded → Type 0
  BeginRefused old req was e new now =
      SpanRefused old req was e new now ⊎ ClassifierRefused old req was e new now ⊎ RequestSeen old req was (Err e) new now ⊎ RequestSeen old req was (Ok tt) new now

  -- the layer begins a call, unless memory is wanting
  abbrev pub BeginsCall : TraceLayer M MS RQ RS CH EO FA → Request B X → Recorded → Result (Begun C RS CH EO FA) NoMemory → TraceLayer M MS RQ RS CH EO FA → Recorded → Type 0
  BeginsCall old req was (Ok begun) new now = Begins old req was begun new now
  BeginsCall old req was (Err e) new now = BeginRefused old req was e new now

module _ {S F M MS RQ RS CH EO FA C B X : Type 0} (calls : Calls S (Request B X) F) (makes : MakesClassifier M X C) (makes_span : MakesSpan MS B X)
    (sees_request : SeesRequest RQ B X) (abandons : Abandons B) where
  -- a call begins, and the inner service gives its future in the span
  pub record TraceGives (old : Trace S M MS RQ RS CH EO FA) (req : Request B X) (was : Recorded) (m : Moment) (f : ResponseFuture F C RS CH EO FA)
      (new : Trace S M MS RQ RS CH EO FA) (now : Recorded) : Type 0 where
    pub begun : Begun C RS CH EO FA
    pub between : Recorded
    pub begins : Begins makes makes_span sees_request old.layer req was begun new.layer between
    pub inner : calls old.inner req between (in_span m (Some begun.span)) (Ok f.inner) new.inner now
    pub future : f ≡ record { inner = f.inner; start = m.now; span = Some begun.span; hooks = Some begun.hooks }

  -- no call begins: the request's body is abandoned, and the inner service is not called
  pub record TraceBeginRefused (old : Trace S M MS RQ RS CH EO FA) (req : Request B X) (was : Recorded) (m : Moment) (e : NoMemory)
      (new : Trace S M MS RQ RS CH EO FA) (now : Recorded) : Type 0 where
    pub between : Recorded
    pub refused : BeginRefused makes makes_span sees_request old.layer req was e new.layer between
    pub abandoned : Abandoned abandons req.body between m now
    pub same : new.inner ≡ old.inner

  -- a call begins, and the inner service finds no memory
  pub record TraceInnerRefused (old : Trace S M MS RQ RS CH EO FA) (req : Request B X) (was : Recorded) (m : Moment) (e : NoMemory)
      (new : Trace S M MS RQ RS CH EO FA) (now : Recorded) : Type 0 where
    pub begun : Begun C RS CH EO FA
    pub between : Recorded
    pub begins : Begins makes makes_span sees_request old.layer req was begun new.layer between
    pub inner : calls old.inner req between (in_span m (Some begun.span)) (Err e) new.inner now

  -- a call begins, and then the inner service is called in its span; each may find no memory
  abbrev pub TraceCalls : Calls (Trace S M MS RQ RS CH EO FA) (Request B X) (ResponseFuture F C RS CH EO FA)
  TraceCalls old req was m (Ok f) new now = TraceGives old req was m f new now
  TraceCalls old req was m (Err e) new now = TraceBeginRefused old req was m e new now ⊎ TraceInnerRefused old req was m e new now
