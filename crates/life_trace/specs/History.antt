-- Where the values of this layer stand after some polls, and what their histories are.
use Rattle.std.specs.Prelude.{◌≡◌, ℕ, List, [], ◌∷◌, ◌++◌, Bool, true, false, ◌||◌, if◌then◌else◌, Option, Some, None, Result, Ok, Err, ⊤}
use Rattle.http_body.specs.declared.frame.Frame.{Frame}
use Rattle.http_body.specs.declared.frame.Kind.{Kind}
use Rattle.http_body.specs.declared.frame.Kind.TheVariants.{Data, Trailers}
use Rattle.http_header.specs.FieldValue.{FieldValue}
use Rattle.http_header.specs.HeaderMap.{Entries}
use Rattle.life_classify.specs.declared.classify.traits.ClassifiedResponse.{ClassifiedResponse}
use Rattle.life_classify.specs.declared.classify.traits.ClassifiedResponse.TheVariants as class
use Rattle.life_core.specs.History.{BodyHistory, FutureHistory, Said, Waits, Gives, Fails, said_under, Where, Waiting, Answered}
use Rattle.life_core.specs.Life.{life_begun, life_on}
use Rattle.life_core.specs.Timer.{since}
use Rattle.life_core.specs.declared.event.Event.{Event}
use Rattle.life_core.specs.declared.life.Life.{Life}
use Rattle.life_core.specs.declared.poll.Poll.{Poll}
use Rattle.life_core.specs.declared.poll.Poll.TheVariants.{Ready, Pending}
use Rattle.life_core.specs.declared.span.Span.{Span}
use Rattle.life_trace.specs.Tail.{times_at}
use Rattle.life_trace.specs.declared.trace.body.ResponseBody.{ResponseBody}
use Rattle.life_trace.specs.declared.trace.future.CallHooks.{CallHooks}
use Rattle.life_trace.specs.declared.trace.future.ResponseFuture.{ResponseFuture}
use Rattle.life_trace.specs.declared.trace.layer.TraceLayer.{TraceLayer}
use Rattle.life_trace.specs.declared.trace.service.Trace.{Trace}
use Rattle.life_trace.specs.declared.trace.tail.Tail.{Tail}
use Rattle.life_trace.specs.declared.trace.tail.Tail.TheVariants.{Classed, Unclassed, Spent}
use Rattle.life_trace.specs.declared.trace.tail.Times.{Times}

-- what the hooks of a call record: of a response's head, a chunk, an end and the class of a failure, each after so many nanoseconds
pub record HookEvents (G D N : Type 0) : Type 0 where
  pub response : G → ℕ → List Event
  pub chunk : D → ℕ → List Event
  pub eos : Option (Entries FieldValue) → ℕ → List Event
  pub failure : N → ℕ → List Event

-- how the classifier of a call classes a response by its head, its end, a fault of its body, and an error of the service
pub record Classes (G K N E T : Type 0) : Type 0 where
  pub response : G → ClassifiedResponse N K
  pub eos : K → Option (Entries FieldValue) → Result Unit N
  pub fault : K → E → N
  pub error : T → N

-- what classes the end of a response, unless its class is told already
abbrev pub still_open : {N K : Type 0} → ClassifiedResponse N K → Bool → Option K
still_open (class.Ready c) told = None
still_open (class.RequiresEos k) told = if told then None else Some k

-- the same after such a life: an end or a fault has told the class
abbrev pub open_class : {N K : Type 0} → ClassifiedResponse N K → Life → Option K
open_class c life = still_open c (life.closed || life.faulted)

module _ {G K N D E T : Type 0} (events : HookEvents G D N) (classes : Classes G K N E T) where
  -- a failure is told, a success is not
  abbrev pub failure_told : Result Unit N → ℕ → List Event
  failure_told (Ok u) latency = []
  failure_told (Err c) latency = events.failure c latency

  -- the class of the end is told where it is open
  abbrev pub class_told : Option K → Option (Entries FieldValue) → ℕ → List Event
  class_told None trailers latency = []
  class_told (Some k) trailers latency = failure_told (classes.eos k trailers) latency

  -- the class of a fault is told where it is open
  abbrev pub fault_told : Option K → E → ℕ → List Event
  fault_told None fault latency = []
  fault_told (Some k) fault latency = events.failure (classes.fault k fault) latency

  -- the class, and then the end, unless one came before
  abbrev pub end_told : Bool → Option K → Option (Entries FieldValue) → Times → List Event
  end_told true k trailers times = []
  end_told false k trailers times = class_told k trailers times.latency ++ events.eos trailers times.duration

  -- a chunk, after which the body tells its end or does not; or trailers
  abbrev pub frame_told : Bool → Option K → Kind D → Bool → Times → List Event
  frame_told closed k (Data chunk) ended times = events.chunk chunk times.latency ++ (if ended then end_told closed k None times else [])
  frame_told closed k (Trailers trailers) ended times = end_told closed k (Some trailers) times

  -- what the hooks record of a body's answer
  abbrev pub answer_told : Bool → Option K → Poll (Option (Result (Frame D) E)) → Bool → Times → List Event
  answer_told closed k Pending ended times = []
  answer_told closed k (Ready None) ended times = end_told closed k None times
  answer_told closed k (Ready (Some (Err fault))) ended times = fault_told k fault times.latency
  answer_told closed k (Ready (Some (Ok frame))) ended times = frame_told closed k frame.kind ended times

  -- a class that a response has at once is told where it is a failure
  abbrev pub ready_told : ClassifiedResponse N K → ℕ → List Event
  ready_told (class.Ready c) latency = failure_told c latency
  ready_told (class.RequiresEos k) latency = []

  -- what the hooks record of a future's answer
  abbrev pub said_told : {P : Type 0} → Said G P T → ℕ → List Event
  said_told Waits latency = []
  said_told (Gives g p) latency = events.response g latency ++ ready_told (classes.response g) latency
  said_told (Fails x) latency = events.failure (classes.error x) latency

-- the plan of a body: the head and the time of its response, and the inner plan
pub record TracePlan (G P : Type 0) : Type 0 where
  pub head : G
  pub responded : ℕ
  pub inner : P

-- what has come of a body after these polls, of a request that was called at one time and answered at another
abbrev pub life_at : {D E : Type 0} → ℕ → ℕ → BodyHistory D E → List ℕ → Life
life_at called now h [] = life_begun called now (h.ends [])
life_at called now h (q ∷ past) = life_on (life_at called now h past) q (Ok (h.frame past q)) (h.ends (q ∷ past))

-- the inner answers; what the hooks record of the answer comes after what the poll records. The plan of a body keeps its response's head and time
abbrev pub trace_history : {G K N D E T P : Type 0} → HookEvents G D N → Classes G K N E T → ℕ → FutureHistory G P T → FutureHistory G (TracePlan G P) T
trace_history events classes start h = record {
  says = λ past t. said_under (λ head p. record { head = head; responded = t; inner = p }) (h.says past t);
  events = λ past t. h.events past t ++ said_told events classes (h.says past t) (since start t);
  abandoned = h.abandoned;
}

-- the inner answers; what the hooks record of each comes after what the poll records, by what has come of the body before
abbrev pub trace_body_history : {G K N D E T P : Type 0} → HookEvents G D N → Classes G K N E T → ℕ → (P → BodyHistory D E) → TracePlan G P → BodyHistory D E
trace_body_history events classes start h p = record {
  frame = (h p.inner).frame;
  events = λ past q. let life = life_at start p.responded (h p.inner) past in
      (h p.inner).events past q
      ++ answer_told events classes life.closed (open_class (classes.response p.head) life) ((h p.inner).frame past q) ((h p.inner).ends (q ∷ past)) (times_at life q);
  ends = (h p.inner).ends;
  abandoned = (h p.inner).abandoned;
}

-- the span and the hooks of a future that was called at this time are there until the answer
abbrev pub Keeps : {F C RS CH EO FA : Type 0} → ℕ → Span → CallHooks C RS CH EO FA → ResponseFuture F C RS CH EO FA → Where → Type 0
Keeps start span hooks f (Waiting past) = f ≡ record { inner = f.inner; start = start; span = Some span; hooks = Some hooks }
Keeps start span hooks f Answered = ⊤

-- a future that was called at this time, with this span and these hooks
pub record TraceStands {F C RS CH EO FA : Type 0} (start : ℕ) (span : Span) (hooks : CallHooks C RS CH EO FA) (Stands : F → Where → Type 0) (f : ResponseFuture F C RS CH EO FA) (w : Where) : Type 0 where
  pub keeps : Keeps start span hooks f w
  pub inner : Stands f.inner w

-- what is left to be called: the end's hook, with the class where that is open
abbrev pub tail_of : {K EO FA : Type 0} → Option K → EO → FA → Tail K EO FA
tail_of None eos failure = Unclassed eos
tail_of (Some k) eos failure = Classed k eos failure

-- what is left to be called after such a life, of a response of this class
abbrev pub tail_at : {N K EO FA : Type 0} → ClassifiedResponse N K → EO → FA → Life → Tail K EO FA
tail_at c eos failure life = if life.closed then Spent else tail_of (open_class c life) eos failure

-- a body in this span: its life and what is left to be called are by what has come of it
pub record TraceBodyStands {G N K B CH EO FA P D E : Type 0} (start : ℕ) (span : Span) (classed : G → ClassifiedResponse N K) (Chunks : CH → Type 0) (eos : EO) (failure : FA)
    (h : P → BodyHistory D E) (Stands : P → B → List ℕ → Type 0) (p : TracePlan G P) (b : ResponseBody B K CH EO FA) (past : List ℕ) : Type 0 where
  pub span_is : b.span ≡ Some span
  pub life_is : b.life ≡ life_at start p.responded (h p.inner) past
  pub on_body_chunk : Chunks b.hooks.on_body_chunk
  pub tail_is : b.hooks.tail ≡ tail_at (classed p.head) eos failure (life_at start p.responded (h p.inner) past)
  pub inner : Stands p.inner b.inner past

-- a `Trace` with this layer, but for its span maker and its hook of requests, which may change, over a service that serves
pub record TraceServes {S M MS RQ RS CH EO FA : Type 0} (layer : TraceLayer M MS RQ RS CH EO FA) (Spans : MS → Type 0) (Requests : RQ → Type 0) (Serves : S → Type 0)
    (s : Trace S M MS RQ RS CH EO FA) : Type 0 where
  pub layer_is : s.layer ≡ record layer { make_span = s.layer.make_span; on_request = s.layer.on_request }
  pub make_span : Spans s.layer.make_span
  pub on_request : Requests s.layer.on_request
  pub inner : Serves s.inner
