-- What `ResponseFuture` does: the inner answer, and for a ready one its hooks.
use Rattle.std.specs.Prelude.{◌≡◌, ℕ, Bool, ◌⊎◌, List, Option, Some, None, Result, Ok, Err, IfOk, IfSome, IsErr, IsSome, IsSomeAnd}
use Rattle.life_classify.specs.Classifier.{ClassifiesResponse, ClassifiesError}
use Rattle.life_classify.specs.declared.classify.traits.ClassifiedResponse.{ClassifiedResponse}
use Rattle.life_core.specs.Calls.{Polls, Abandons, Abandoned, spent}
use Rattle.life_core.specs.Life.{life_begun}
use Rattle.life_core.specs.Moment.{Moment, in_span}
use Rattle.life_core.specs.Recorded.{Recorded}
use Rattle.life_core.specs.Timer.{since}
use Rattle.life_core.specs.declared.message.Response.{Response}
use Rattle.life_core.specs.declared.poll.Poll.TheVariants.{Ready, Pending}
use Rattle.life_core.specs.declared.recorder.NoMemory.{NoMemory}
use Rattle.life_core.specs.declared.span.Span.{Span}
use Rattle.life_trace.specs.Hooks.{Ends, SeesResponse, SeesFailure}
use Rattle.life_trace.specs.Tail.{FaultClassified, TailBegins}
use Rattle.life_trace.specs.declared.trace.body.BodyHooks.{BodyHooks}
use Rattle.life_trace.specs.declared.trace.body.ResponseBody.{ResponseBody}
use Rattle.life_trace.specs.declared.trace.future.CallHooks.{CallHooks}
use Rattle.life_trace.specs.declared.trace.future.ResponseFuture.{ResponseFuture}
use Rattle.life_trace.specs.declared.trace.tail.Tail.{Tail}

-- the classifier and the hooks of a call may be called
pub record CallHooksMay {C RS CH EO FA : Type 0} (classifier_may : C → Type 0) (response_may : RS → Type 0) (chunk_may : CH → Type 0)
    (eos_may : EO → Type 0) (failure_may : FA → Type 0) (hooks : CallHooks C RS CH EO FA) : Type 0 where
  pub classifier : classifier_may hooks.classifier
  pub on_response : response_may hooks.on_response
  pub on_body_chunk : chunk_may hooks.on_body_chunk
  pub on_eos : eos_may hooks.on_eos
  pub on_failure : failure_may hooks.on_failure

-- the inner future may be called, and the hooks where they are still there
abbrev pub TraceFutureMay : {F C RS CH EO FA : Type 0} → (F → Type 0) → (C → Type 0) → (RS → Type 0) → (CH → Type 0) → (EO → Type 0) → (FA → Type 0) → ResponseFuture F C RS CH EO FA → Type 0
TraceFutureMay may classifier_may response_may chunk_may eos_may failure_may f =
    may f.inner × IfSome f.hooks (CallHooksMay classifier_may response_may chunk_may eos_may failure_may)

-- the inner future may be polled, and the span and the hooks are there
abbrev pub TraceFutureLive : {F C RS CH EO FA : Type 0} → (F → Type 0) → ResponseFuture F C RS CH EO FA → Type 0
TraceFutureLive live f = live f.inner × IsSome f.span × IsSome f.hooks

-- the tail of a body's hooks, where memory was there
abbrev pub tail_in : {K CH EO FA : Type 0} → Result (BodyHooks K CH EO FA) NoMemory → Result (Tail K EO FA) NoMemory
tail_in (Ok hooks) = Ok hooks.tail
tail_in (Err e) = Err e

module _ {C RS CH EO FA N K B X : Type 0} (classifies : ClassifiesResponse C N K) (sees_response : SeesResponse RS B X) (sees_failure : SeesFailure FA N) where
  -- the response's hook, and then its class
  abbrev pub ClassifiedSeen : CallHooks C RS CH EO FA → Response B X → ClassifiedResponse N K → ℕ → Span → Recorded → Result (Tail K EO FA) NoMemory → Recorded → Type 0
  ClassifiedSeen hooks r class latency span was answer now =
      (sees_response hooks.on_response r latency span was (spent answer) now × IsErr answer)
      ⊎ ((between : Recorded) × sees_response hooks.on_response r latency span was (Ok tt) between
      × TailBegins sees_failure class hooks.on_eos hooks.on_failure latency span between answer now)

  -- the response is classified, its hook is called, and then its class is seen
  pub record ResponseSeen (hooks : CallHooks C RS CH EO FA) (r : Response B X) (latency : ℕ) (span : Span) (was : Recorded)
      (answer : Result (BodyHooks K CH EO FA) NoMemory) (now : Recorded) : Type 0 where
    pub seen : ((e : NoMemory) × classifies hooks.classifier r.head.parts (Err e) × (answer ≡ Err e) × (now ≡ was))
        ⊎ ((class : ClassifiedResponse N K) × classifies hooks.classifier r.head.parts (Ok class)
        × ClassifiedSeen hooks r class latency span was (tail_in answer) now)
    pub kept : IfOk answer (λ b. b.on_body_chunk ≡ hooks.on_body_chunk)

-- an error of the service is classified, and the hook of failures is called with its class
abbrev pub ErrorSeen : {C RS CH EO FA N : Type 0} → ClassifiesError C N → SeesFailure FA N → CallHooks C RS CH EO FA → Option (List ℕ) → ℕ → Span → Ends
ErrorSeen classifies sees_failure hooks = FaultClassified classifies sees_failure hooks.classifier hooks.on_failure

-- the inner service's answer in one of ours
abbrev pub inner_answer : {B X E K CH EO FA : Type 0} → Result (Response (ResponseBody B K CH EO FA) X) E → Result (Response B X) E
inner_answer (Ok r) = Ok (record { head = r.head; body = r.body.inner })
inner_answer (Err error) = Err error

module _ {C RS CH EO FA N K B X E : Type 0} (ends : B → Bool) (classifies : ClassifiesResponse C N K) (classifies_error : ClassifiesError C N)
    (shows : E → Option (List ℕ)) (sees_response : SeesResponse RS B X) (sees_failure : SeesFailure FA N) where
  -- the hooks see the inner response; its body stands in the span, with what they leave, at the beginning of its life
  pub record Responds (hooks : CallHooks C RS CH EO FA) (start : ℕ) (span : Span) (was : Recorded) (m : Moment)
      (r : Response (ResponseBody B K CH EO FA) X) (now : Recorded) : Type 0 where
    pub seen : ResponseSeen classifies sees_response sees_failure hooks (record { head = r.head; body = r.body.inner }) (since start m.now) span was
        (Ok r.body.hooks) now
    pub span_is : r.body.span ≡ Some span
    pub life : r.body.life ≡ life_begun start m.now (ends r.body.inner)

  -- the hooks see the inner service's answer
  abbrev pub AnswerSeen : CallHooks C RS CH EO FA → ℕ → Span → Recorded → Moment → Result (Response (ResponseBody B K CH EO FA) X) E → Recorded → Type 0
  AnswerSeen hooks start span was m (Ok r) now = Responds hooks start span was m r now
  AnswerSeen hooks start span was m (Err error) now =
      ErrorSeen classifies_error sees_failure hooks (shows error) (since start m.now) span was (Ok tt) now

module _ {C RS CH EO FA N K B X E : Type 0} (abandons : Abandons B) (classifies : ClassifiesResponse C N K) (classifies_error : ClassifiesError C N)
    (shows : E → Option (List ℕ)) (sees_response : SeesResponse RS B X) (sees_failure : SeesFailure FA N) where
  -- a call for the inner service's answer is refused for memory: a response's body is abandoned
  abbrev pub AnswerRefused : CallHooks C RS CH EO FA → ℕ → Span → Result (Response B X) E → Recorded → Moment → NoMemory → Recorded → Type 0
  AnswerRefused hooks start span (Ok r) was m e now =
      (between : Recorded) × ResponseSeen {CH = CH} {EO = EO} classifies sees_response sees_failure hooks r (since start m.now) span was (Err e) between
      × Abandoned abandons r.body between m now
  AnswerRefused hooks start span (Err error) was m e now =
      ErrorSeen classifies_error sees_failure hooks (shows error) (since start m.now) span was (Err e) now

module _ {C RS CH EO FA N K B X E : Type 0} (ends : B → Bool) (abandons : Abandons B) (classifies : ClassifiesResponse C N K)
    (classifies_error : ClassifiesError C N) (shows : E → Option (List ℕ)) (sees_response : SeesResponse RS B X) (sees_failure : SeesFailure FA N) where
  -- the inner service's answer is seen, or a call for it is refused for memory
  abbrev pub Settles : CallHooks C RS CH EO FA → ℕ → Span → Result (Response B X) E → Recorded → Moment
      → Result (Result (Response (ResponseBody B K CH EO FA) X) E) NoMemory → Recorded → Type 0
  Settles hooks start span item was m (Ok settled) now =
      (item ≡ inner_answer settled) × AnswerSeen ends classifies classifies_error shows sees_response sees_failure hooks start span was m settled now
  Settles hooks start span item was m (Err e) now =
      AnswerRefused abandons classifies classifies_error shows sees_response sees_failure hooks start span item was m e now

module _ {F C RS CH EO FA N K B X E : Type 0} (polls : Polls F (Result (Response B X) E)) (ends : B → Bool) (abandons : Abandons B)
    (classifies : ClassifiesResponse C N K) (classifies_error : ClassifiesError C N) (shows : E → Option (List ℕ))
    (sees_response : SeesResponse RS B X) (sees_failure : SeesFailure FA N) where
  -- the inner future answers in the span, and the hooks see it; the future is over
  pub record Answers (old : ResponseFuture F C RS CH EO FA) (was : Recorded) (m : Moment) (settled : Result (Response (ResponseBody B K CH EO FA) X) E)
      (new : ResponseFuture F C RS CH EO FA) (now : Recorded) : Type 0 where
    pub between : Recorded
    pub inner : polls old.inner was (in_span m old.span) (Ok (Ready (inner_answer settled))) new.inner between
    pub seen : IsSomeAnd old.hooks (λ hooks. IsSomeAnd old.span (λ span.
        AnswerSeen ends classifies classifies_error shows sees_response sees_failure hooks old.start span between m settled now))
    pub over : new ≡ record old { inner = new.inner; span = None; hooks = None }

  -- the inner future answers in the span, and a call for that is refused for memory; the future is over
  pub record HooksRefuse (old : ResponseFuture F C RS CH EO FA) (was : Recorded) (m : Moment) (e : NoMemory)
      (new : ResponseFuture F C RS CH EO FA) (now : Recorded) : Type 0 where
    pub item : Result (Response B X) E
    pub between : Recorded
    pub inner : polls old.inner was (in_span m old.span) (Ok (Ready item)) new.inner between
    pub refused : IsSomeAnd old.hooks (λ hooks. IsSomeAnd old.span (λ span.
        AnswerRefused abandons classifies classifies_error shows sees_response sees_failure hooks old.start span item between m e now))
    pub over : new ≡ record old { inner = new.inner; span = None; hooks = None }

  -- the inner future is polled in the span, and the hooks see what it answers
  abbrev pub TracePolls : Polls (ResponseFuture F C RS CH EO FA) (Result (Response (ResponseBody B K CH EO FA) X) E)
  TracePolls old was m (Ok Pending) new now =
      polls old.inner was (in_span m old.span) (Ok Pending) new.inner now × (new ≡ record old { inner = new.inner })
  TracePolls old was m (Ok (Ready settled)) new now = Answers old was m settled new now
  TracePolls old was m (Err e) new now =
      (polls old.inner was (in_span m old.span) (Err e) new.inner now × (new ≡ record old { inner = new.inner })) ⊎ HooksRefuse old was m e new now
