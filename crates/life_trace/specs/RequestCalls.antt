-- How often, in which order and with which times the hooks of a whole request are called, however its future and its body are polled.
use Rattle.std.specs.Prelude.{◌≡◌, ℕ, Bool, ◌⊎◌, List, [], ◌∷◌, ◌++◌, Option, Some, None, Result, Ok, Err, IsErr, IsOkAnd, IsSomeAnd, ⊤}
use Rattle.life_classify.specs.Classifier.{ClassifiesResponse, ClassifiesEos, ClassifiesError}
use Rattle.life_core.specs.Calls.{Polls, Frames, Abandons, Abandoned, Reply}
use Rattle.life_core.specs.FramePolls.{FramePoll, PolledFrom}
use Rattle.life_core.specs.Moment.{Moment, in_span}
use Rattle.life_core.specs.Recorded.{Recorded}
use Rattle.life_core.specs.Timer.{since}
use Rattle.life_core.specs.declared.message.Response.{Response}
use Rattle.life_core.specs.declared.poll.Poll.{Poll}
use Rattle.life_core.specs.declared.poll.Poll.TheVariants.{Ready, Pending}
use Rattle.life_core.specs.declared.recorder.NoMemory.{NoMemory}
use Rattle.life_core.specs.declared.span.Span.{Span}
use Rattle.life_trace.specs.Body.{TraceFrames}
use Rattle.life_trace.specs.Future.{TracePolls, inner_answer}
use Rattle.life_trace.specs.HookCalls.{HookCall, but_chunks, FailureThenEos, InOrder, Given, end_comes, NoneRefused, tells_end, BodyCalls}
use Rattle.life_trace.specs.HookCalls.HookCall.{ResponseHook, ChunkHook, EosHook, FailureHook}
use Rattle.life_trace.specs.Hooks.{Ends, SeesResponse, SeesChunk, SeesEos, SeesFailure}
use Rattle.life_trace.specs.declared.trace.body.ResponseBody.{ResponseBody}
use Rattle.life_trace.specs.declared.trace.future.CallHooks.{CallHooks}
use Rattle.life_trace.specs.declared.trace.future.ResponseFuture.{ResponseFuture}

-- no call, or one with a failure
abbrev pub FailureOnce : {D N : Type 0} → List (HookCall D N) → Type 0
FailureOnce [] = ⊤
FailureOnce (ResponseHook latency ∷ calls) = ⊥
FailureOnce (ChunkHook chunk latency ∷ calls) = ⊥
FailureOnce (EosHook trailers duration ∷ calls) = ⊥
FailureOnce (FailureHook class latency ∷ calls) = calls ≡ []

-- for a response one call of its hook and then perhaps one with a failure, for an error one call with a failure;
-- no call where the class is refused for memory
abbrev pub AnswerOrder : {B X E D N : Type 0} → Result (Response B X) E → Result Unit NoMemory → List (HookCall D N) → Type 0
AnswerOrder item answer [] = IsErr answer
AnswerOrder (Ok r) answer (ResponseHook latency ∷ calls) = FailureOnce calls
AnswerOrder (Err error) answer (ResponseHook latency ∷ calls) = ⊥
AnswerOrder item answer (ChunkHook chunk latency ∷ calls) = ⊥
AnswerOrder item answer (EosHook trailers duration ∷ calls) = ⊥
AnswerOrder (Ok r) answer (FailureHook class latency ∷ calls) = ⊥
AnswerOrder (Err error) answer (FailureHook class latency ∷ calls) = calls ≡ []

-- the calls of a whole request but for those with chunks: none; or one with a failure alone; or one with the response, and then
-- perhaps one with a failure, and then perhaps one at the end
abbrev pub ResponseThenEnds : {D N : Type 0} → List (HookCall D N) → Type 0
ResponseThenEnds [] = ⊤
ResponseThenEnds (ResponseHook latency ∷ calls) = FailureThenEos calls
ResponseThenEnds (ChunkHook chunk latency ∷ calls) = ⊥
ResponseThenEnds (EosHook trailers duration ∷ calls) = ⊥
ResponseThenEnds (FailureHook class latency ∷ calls) = calls ≡ []

-- what may still be called by what the future holds, chunks aside
abbrev pub RequestOrder : {C RS CH EO FA D N : Type 0} → Option (CallHooks C RS CH EO FA) → List (HookCall D N) → Type 0
RequestOrder (Some hooks) calls = ResponseThenEnds calls
RequestOrder None calls = calls ≡ []

-- one poll of a future: the recorder before, when, the answer, future and recorder after
pub record FuturePoll (F A : Type 0) : Type 0 where
  pub was : Recorded
  pub moment : Moment
  pub answer : Result (Poll A) NoMemory
  pub after : F
  pub now : Recorded

-- a fact of the response where one is answered, and another fact where none is
abbrev pub IfAnswered : {B X E : Type 0} → Reply B X E → (Response B X → Type 0) → Type 0 → Type 0
IfAnswered (Ok (Ready (Ok r))) P Q = P r
IfAnswered (Ok (Ready (Err error))) P Q = Q
IfAnswered (Ok Pending) P Q = Q
IfAnswered (Err e) P Q = Q

-- the future was polled so, one poll after another, and the body of the response that it answered, where it did, so
abbrev pub ServedFrom : {F B X E D G : Type 0} → Polls F (Result (Response B X) E) → Frames B D G
    → F → List (FuturePoll F (Result (Response B X) E)) → List (FramePoll B D G) → Type 0
ServedFrom polled frames f [] body_polls = body_polls ≡ []
ServedFrom polled frames f (p ∷ polls) body_polls =
    polled f p.was p.moment p.answer p.after p.now
    × IfAnswered p.answer (λ r. PolledFrom frames r.body body_polls × ServedFrom polled frames p.after polls []) (ServedFrom polled frames p.after polls body_polls)

module _ {C RS CH EO FA N D B X E : Type 0} (sees_response : SeesResponse RS B X) (sees_failure : SeesFailure FA N) where
  -- a hook of the future is called: the response's, where there is one, or the failure's
  abbrev pub FutureHookCalled : CallHooks C RS CH EO FA → Result (Response B X) E → Span → HookCall D N → Ends
  FutureHookCalled hooks item span (ResponseHook latency) was answer now =
      IsOkAnd item (λ r. sees_response hooks.on_response r latency span was answer now)
  FutureHookCalled hooks item span (ChunkHook chunk latency) was answer now = ⊥
  FutureHookCalled hooks item span (EosHook trailers duration) was answer now = ⊥
  FutureHookCalled hooks item span (FailureHook class latency) was answer now =
      (later : FA) × sees_failure hooks.on_failure class latency span was answer later now

  -- for an answer of the inner future these calls are made and no others, each with this latency
  pub record AnswerCalls (hooks : CallHooks C RS CH EO FA) (item : Result (Response B X) E) (latency : ℕ) (calls : List (HookCall D N)) (span : Span)
      (was : Recorded) (answer : Result Unit NoMemory) (now : Recorded) : Type 0 where
    pub made : InOrder (FutureHookCalled hooks item span) calls was answer now
    pub given : Given None (record { latency = latency; duration = 0 }) calls
    pub order : AnswerOrder item answer calls

-- a response that is given up for want of memory: its body is abandoned
abbrev pub GivenUp : {B X E : Type 0} → Abandons B → Result (Response B X) E → Recorded → Moment → Recorded → Type 0
GivenUp abandons (Ok r) was m now = Abandoned abandons r.body was m now
GivenUp abandons (Err error) was m now = now ≡ was

module _ {F C RS CH EO FA N B X E D : Type 0} (sees_response : SeesResponse RS B X) (sees_failure : SeesFailure FA N) where
  -- these calls are made in the future's span where its hooks are there
  abbrev pub CallsHeld : ResponseFuture F C RS CH EO FA → Result (Response B X) E → ℕ → List (HookCall D N) → Ends
  CallsHeld f item latency calls was answer now =
      IsSomeAnd f.hooks (λ hooks. IsSomeAnd f.span (λ span. AnswerCalls sees_response sees_failure hooks item latency calls span was answer now))

module _ {F C RS CH EO FA N K B X E D : Type 0} (polls : Polls F (Result (Response B X) E)) (abandons : Abandons B)
    (sees_response : SeesResponse RS B X) (sees_failure : SeesFailure FA N) where
  -- the inner answer and then these calls, of which there is none where it is pending or refused
  abbrev pub FuturePollCalls : ResponseFuture F C RS CH EO FA → Recorded → Moment → Reply (ResponseBody B K CH EO FA) X E → ℕ → List (HookCall D N)
      → ResponseFuture F C RS CH EO FA → Recorded → Type 0
  FuturePollCalls old was m (Ok Pending) latency calls new now = polls old.inner was (in_span m old.span) (Ok Pending) new.inner now × (calls ≡ [])
  FuturePollCalls old was m (Ok (Ready settled)) latency calls new now =
      (between : Recorded) × polls old.inner was (in_span m old.span) (Ok (Ready (inner_answer settled))) new.inner between
      × CallsHeld sees_response sees_failure old (inner_answer settled) latency calls between (Ok tt) now
  FuturePollCalls old was m (Err e) latency calls new now =
      (polls old.inner was (in_span m old.span) (Err e) new.inner now × (calls ≡ []))
      ⊎ ((item : Result (Response B X) E) × (between seen : Recorded) × polls old.inner was (in_span m old.span) (Ok (Ready item)) new.inner between
      × CallsHeld sees_response sees_failure old item latency calls between (Err e) seen × GivenUp abandons item seen m now)

module _ {F C RS CH EO FA N K B X E D G : Type 0} (polls : Polls F (Result (Response B X) E)) (abandons : Abandons B)
    (sees_response : SeesResponse RS B X) (frames : Frames B D G) (sees_chunk : SeesChunk CH D) (sees_eos : SeesEos EO) (sees_failure : SeesFailure FA N) where
  -- polls of the future and then of the response's body make these calls: those of the future with the time since the start, those of
  -- the body with the time since the last ready answer, before the first since the start, or since the response
  abbrev pub RequestCalls : ResponseFuture F C RS CH EO FA → ℕ → List (FuturePoll (ResponseFuture F C RS CH EO FA) (Result (Response (ResponseBody B K CH EO FA) X) E))
      → List (FramePoll (ResponseBody B K CH EO FA) D G) → List (HookCall D N) → Type 0
  RequestCalls f start [] body_polls calls = calls ≡ []
  RequestCalls f start (p ∷ future_polls) body_polls calls =
      (here : List (HookCall D N)) × (later : List (HookCall D N)) × (calls ≡ here ++ later)
      × FuturePollCalls polls abandons sees_response sees_failure f p.was p.moment p.answer (since start p.moment.now) here p.after p.now
      × IfAnswered p.answer (λ r. BodyCalls frames sees_chunk sees_eos sees_failure r.body start p.moment.now body_polls later × RequestCalls p.after start future_polls [] [])
      (RequestCalls p.after start future_polls body_polls later)

module _ {F C RS CH EO FA N K B X E D G : Type 0} (polls : Polls F (Result (Response B X) E)) (abandons : Abandons B) (ends : B → Bool)
    (classifies : ClassifiesResponse C N K) (classifies_error : ClassifiesError C N) (shows : E → Option (List ℕ)) (sees_response : SeesResponse RS B X)
    (frames : Frames B D G) (classifies_eos : ClassifiesEos K N) (classifies_fault : ClassifiesError K N) (sees_chunk : SeesChunk CH D)
    (sees_eos : SeesEos EO) (sees_failure : SeesFailure FA N) where
  -- however the future is polled from here on, and then the body of its response, their hooks are called so: the response's, the failure's
  -- and the end's once at most, in this order, and the end's where the body's end came and no poll of it is refused; whatever text a fault
  -- of the body shows
  pub record OrderlyFuture (f : ResponseFuture F C RS CH EO FA) : Type 0 where
    pub calls_of : (shows_fault : G → Option (List ℕ))
        (future_polls : List (FuturePoll (ResponseFuture F C RS CH EO FA) (Result (Response (ResponseBody B K CH EO FA) X) E)))
        (body_polls : List (FramePoll (ResponseBody B K CH EO FA) D G))
        → ServedFrom (TracePolls polls ends abandons classifies classifies_error shows sees_response sees_failure)
        (TraceFrames frames ends classifies_eos classifies_fault shows_fault sees_chunk sees_eos sees_failure) f future_polls body_polls
        → (calls : List (HookCall D N)) × RequestCalls polls abandons sees_response frames sees_chunk sees_eos sees_failure f f.start future_polls body_polls calls
        × RequestOrder f.hooks (but_chunks calls)
        × (NoneRefused body_polls → tells_end calls ≡ end_comes (λ b. ends b.inner) body_polls)
