-- How often, in which order and with which times the hooks of a response are called, however it is polled.
use Rattle.std.specs.Prelude.{◌≡◌, ℕ, Bool, true, false, not, ◌&&◌, ◌||◌, ◌⊎◌, List, [], ◌∷◌, ◌++◌, Option, Some, None, Result, Ok, Err, IsOk, IsErr, IsSomeAnd, ⊤}
use Rattle.http_header.specs.FieldValue.{FieldValue}
use Rattle.http_header.specs.HeaderMap.{Entries}
use Rattle.http_body.specs.Frame.{trailers_in}
use Rattle.http_body.specs.declared.frame.Frame.{Frame}
use Rattle.http_body.specs.declared.frame.Kind.{Kind}
use Rattle.http_body.specs.declared.frame.Kind.TheVariants.{Data, Trailers}
use Rattle.life_classify.specs.Classifier.{ClassifiesEos, ClassifiesError}
use Rattle.life_core.specs.Calls.{Frames, Answer}
use Rattle.life_core.specs.FramePolls.{FramePoll, PolledFrom}
use Rattle.life_core.specs.Life.{passed_of}
use Rattle.life_core.specs.Moment.{Moment, in_span}
use Rattle.life_core.specs.Recorded.{Recorded}
use Rattle.life_core.specs.Timer.{since}
use Rattle.life_core.specs.declared.life.Passed.{Passed}
use Rattle.life_core.specs.declared.life.Passed.TheVariants as passed
use Rattle.life_core.specs.declared.life.Passed.TheVariants.{Chunk, End, Fault}
use Rattle.life_core.specs.declared.poll.Poll.TheVariants.{Ready, Pending}
use Rattle.life_core.specs.declared.recorder.NoMemory.{NoMemory}
use Rattle.life_core.specs.declared.span.Span.{Span}
use Rattle.life_trace.specs.Body.{TraceFrames}
use Rattle.life_trace.specs.Hooks.{Ends, SeesChunk, SeesEos, SeesFailure}
use Rattle.life_trace.specs.declared.trace.body.BodyHooks.{BodyHooks}
use Rattle.life_trace.specs.declared.trace.body.ResponseBody.{ResponseBody}
use Rattle.life_trace.specs.declared.trace.tail.Tail.{Tail}
use Rattle.life_trace.specs.declared.trace.tail.Tail.TheVariants.{Classed, Unclassed, Spent}
use Rattle.life_trace.specs.declared.trace.tail.Times.{Times}

-- a call of a hook: of the response with its latency, of a chunk with its latency, of the end with the trailers and the duration,
-- of a failure with its class and latency
pub data HookCall (D N : Type 0) : Type 0 where
  ResponseHook : ℕ → HookCall D N
  ChunkHook : D → ℕ → HookCall D N
  EosHook : Option (Entries FieldValue) → ℕ → HookCall D N
  FailureHook : N → ℕ → HookCall D N

-- the calls but for those with chunks
abbrev pub but_chunks : {D N : Type 0} → List (HookCall D N) → List (HookCall D N)
but_chunks [] = []
but_chunks (ResponseHook latency ∷ calls) = ResponseHook latency ∷ but_chunks calls
but_chunks (ChunkHook chunk latency ∷ calls) = but_chunks calls
but_chunks (EosHook trailers duration ∷ calls) = EosHook trailers duration ∷ but_chunks calls
but_chunks (FailureHook class latency ∷ calls) = FailureHook class latency ∷ but_chunks calls

-- no call, or one at the end
abbrev pub EosOnce : {D N : Type 0} → List (HookCall D N) → Type 0
EosOnce [] = ⊤
EosOnce (ResponseHook latency ∷ calls) = ⊥
EosOnce (ChunkHook chunk latency ∷ calls) = ⊥
EosOnce (EosHook trailers duration ∷ calls) = calls ≡ []
EosOnce (FailureHook class latency ∷ calls) = ⊥

-- no call, or one with a failure, or one at the end, or one with a failure and then one at the end
abbrev pub FailureThenEos : {D N : Type 0} → List (HookCall D N) → Type 0
FailureThenEos [] = ⊤
FailureThenEos (ResponseHook latency ∷ calls) = ⊥
FailureThenEos (ChunkHook chunk latency ∷ calls) = ⊥
FailureThenEos (EosHook trailers duration ∷ calls) = calls ≡ []
FailureThenEos (FailureHook class latency ∷ calls) = EosOnce calls

-- what may still be called by what the tail holds, chunks aside
abbrev pub EndCalls : {K EO FA D N : Type 0} → Tail K EO FA → List (HookCall D N) → Type 0
EndCalls (Classed k e f) calls = FailureThenEos calls
EndCalls (Unclassed e) calls = EosOnce calls
EndCalls Spent calls = calls ≡ []

-- these calls are made one after another and no others; one that is refused for memory is the last, and refuses what they are made for;
-- where none of them is, that may still be refused, by a class that finds no memory
abbrev pub InOrder : {D N : Type 0} → (HookCall D N → Ends) → List (HookCall D N) → Ends
InOrder called [] was answer now = now ≡ was
InOrder called (c ∷ calls) was answer now =
    (called c was answer now × IsErr answer × (calls ≡ [])) ⊎ ((between : Recorded) × called c was (Ok tt) between × InOrder called calls between answer now)

-- the hook of the end, where the tail holds it
abbrev pub eos_hook : {K EO FA : Type 0} → Tail K EO FA → Option EO
eos_hook (Classed k e f) = Some e
eos_hook (Unclassed e) = Some e
eos_hook Spent = None

-- the hook of failures, where the tail holds it
abbrev pub failure_hook : {K EO FA : Type 0} → Tail K EO FA → Option FA
failure_hook (Classed k e f) = Some f
failure_hook (Unclassed e) = None
failure_hook Spent = None

-- each call is given these trailers and times
abbrev pub Given : {D N : Type 0} → Option (Entries FieldValue) → Times → List (HookCall D N) → Type 0
Given came times [] = ⊤
Given came times (ResponseHook latency ∷ calls) = (latency ≡ times.latency) × Given came times calls
Given came times (ChunkHook chunk latency ∷ calls) = (latency ≡ times.latency) × Given came times calls
Given came times (EosHook trailers duration ∷ calls) = (trailers ≡ came) × (duration ≡ times.duration) × Given came times calls
Given came times (FailureHook class latency ∷ calls) = (latency ≡ times.latency) × Given came times calls

-- the call with a frame's chunk, if it is one
abbrev pub frame_chunk : {D N : Type 0} → Kind D → ℕ → List (HookCall D N)
frame_chunk (Data chunk) latency = ChunkHook chunk latency ∷ []
frame_chunk (Trailers trailers) latency = []

-- the same for a ready answer
abbrev pub item_chunk : {D E N : Type 0} → Option (Result (Frame D) E) → ℕ → List (HookCall D N)
item_chunk None latency = []
item_chunk (Some (Err fault)) latency = []
item_chunk (Some (Ok frame)) latency = frame_chunk frame.kind latency

-- the trailers of a ready answer, if they are one
abbrev pub item_trailers : {D E : Type 0} → Option (Result (Frame D) E) → Option (Entries FieldValue)
item_trailers None = None
item_trailers (Some (Err fault)) = None
item_trailers (Some (Ok frame)) = trailers_in frame.kind

-- the time of the last ready answer, after an answer at `now`
abbrev pub ready_at : {D E : Type 0} → ℕ → ℕ → Answer D E → ℕ
ready_at last now (Ok (Ready item)) = now
ready_at last now (Ok Pending) = last
ready_at last now (Err e) = last

-- whether a ready answer is the end: the end itself, trailers, or a chunk after which the body tells its end
abbrev pub is_end : Passed → Bool
is_end (Chunk ended) = ended
is_end (passed.Trailers ended) = true
is_end End = true
is_end Fault = false

-- whether it is a fault
abbrev pub is_fault : Passed → Bool
is_fault (Chunk ended) = false
is_fault (passed.Trailers ended) = false
is_fault End = false
is_fault Fault = true

-- whether an answer, after which the body tells its end or does not, is the end
abbrev pub answers_end : {D E : Type 0} → Answer D E → Bool → Bool
answers_end (Ok (Ready item)) ended = is_end (passed_of item ended)
answers_end (Ok Pending) ended = false
answers_end (Err e) ended = false

-- whether it is a fault
abbrev pub answers_fault : {D E : Type 0} → Answer D E → Bool → Bool
answers_fault (Ok (Ready item)) ended = is_fault (passed_of item ended)
answers_fault (Ok Pending) ended = false
answers_fault (Err e) ended = false

-- whether one of the polls answers the end, of a body that tells its end so
abbrev pub end_comes : {B D E : Type 0} → (B → Bool) → List (FramePoll B D E) → Bool
end_comes ends [] = false
end_comes ends (p ∷ polls) = answers_end p.answer (ends p.after) || end_comes ends polls

-- whether one of them answers a fault, and none before it the end
abbrev pub fault_comes_first : {B D E : Type 0} → (B → Bool) → List (FramePoll B D E) → Bool
fault_comes_first ends [] = false
fault_comes_first ends (p ∷ polls) =
    answers_fault p.answer (ends p.after) || (not (answers_end p.answer (ends p.after)) && fault_comes_first ends polls)

-- none of the polls is refused for memory
abbrev pub NoneRefused : {B D E : Type 0} → List (FramePoll B D E) → Type 0
NoneRefused [] = ⊤
NoneRefused (p ∷ polls) = IsOk p.answer × NoneRefused polls

-- whether the hook of the end is among the calls
abbrev pub tells_end : {D N : Type 0} → List (HookCall D N) → Bool
tells_end [] = false
tells_end (ResponseHook latency ∷ calls) = tells_end calls
tells_end (ChunkHook chunk latency ∷ calls) = tells_end calls
tells_end (EosHook trailers duration ∷ calls) = true
tells_end (FailureHook class latency ∷ calls) = tells_end calls

-- whether the hook of failures is among the calls
abbrev pub tells_failure : {D N : Type 0} → List (HookCall D N) → Bool
tells_failure [] = false
tells_failure (ResponseHook latency ∷ calls) = tells_failure calls
tells_failure (ChunkHook chunk latency ∷ calls) = tells_failure calls
tells_failure (EosHook trailers duration ∷ calls) = tells_failure calls
tells_failure (FailureHook class latency ∷ calls) = true

-- what the tail holds is called when it is due: the hook of the end where the end came; where the class was open, that of failures
-- where a fault came before any end, and not where neither came; where the end came first, the class decides
abbrev pub CalledWhenDue : {K EO FA D N : Type 0} → Tail K EO FA → Bool → Bool → List (HookCall D N) → Type 0
CalledWhenDue (Classed k e f) ended faulted calls =
    (tells_end calls ≡ ended) × (faulted ≡ true → tells_failure calls ≡ true) × (ended ≡ false → tells_failure calls ≡ faulted)
CalledWhenDue (Unclassed e) ended faulted calls = tells_end calls ≡ ended
CalledWhenDue Spent ended faulted calls = ⊤

module _ {K CH EO FA N D : Type 0} (sees_chunk : SeesChunk CH D) (sees_eos : SeesEos EO) (sees_failure : SeesFailure FA N) where
  -- a hook of the body is called: the chunk's, which it leaves as `after`, or one that the tail holds
  abbrev pub BodyHookCalled : CH → Tail K EO FA → CH → Span → HookCall D N → Ends
  BodyHookCalled before tail after span (ResponseHook latency) was answer now = ⊥
  BodyHookCalled before tail after span (ChunkHook chunk latency) was answer now = sees_chunk before chunk latency span was answer after now
  BodyHookCalled before tail after span (EosHook trailers duration) was answer now =
      IsSomeAnd (eos_hook tail) (λ hook. sees_eos hook trailers duration span was answer now)
  BodyHookCalled before tail after span (FailureHook class latency) was answer now =
      IsSomeAnd (failure_hook tail) (λ hook. (later : FA) × sees_failure hook class latency span was answer later now)

  -- for a ready answer these calls are made and no others: first its chunk's, if it is one, and then those of the end and of a failure
  pub record ItemCalls {E : Type 0} (old : BodyHooks K CH EO FA) (item : Option (Result (Frame D) E)) (times : Times) (calls : List (HookCall D N)) (span : Span)
      (was : Recorded) (answer : Result Unit NoMemory) (new : BodyHooks K CH EO FA) (now : Recorded) : Type 0 where
    pub made : InOrder (BodyHookCalled old.on_body_chunk old.tail new.on_body_chunk span) calls was answer now
    pub given : Given (item_trailers item) times calls
    pub chunk : calls ≡ item_chunk item times.latency ++ but_chunks calls

module _ {B K CH EO FA N D E : Type 0} (frames : Frames B D E) (sees_chunk : SeesChunk CH D) (sees_eos : SeesEos EO) (sees_failure : SeesFailure FA N) where
  -- the inner answer and then these calls, of which there is none where it is pending or refused
  abbrev pub PollCalls : ResponseBody B K CH EO FA → Recorded → Moment → Answer D E → Times → List (HookCall D N) → ResponseBody B K CH EO FA → Recorded → Type 0
  PollCalls old was m (Ok Pending) times calls new now = frames old.inner was (in_span m old.span) (Ok Pending) new.inner now × (calls ≡ [])
  PollCalls old was m (Ok (Ready item)) times calls new now =
      (between : Recorded) × frames old.inner was (in_span m old.span) (Ok (Ready item)) new.inner between
      × IsSomeAnd old.span (λ span. ItemCalls sees_chunk sees_eos sees_failure old.hooks item times calls span between (Ok tt) new.hooks now)
  PollCalls old was m (Err e) times calls new now =
      (frames old.inner was (in_span m old.span) (Err e) new.inner now × (calls ≡ []))
      ⊎ ((item : Option (Result (Frame D) E)) × (between : Recorded) × frames old.inner was (in_span m old.span) (Ok (Ready item)) new.inner between
      × IsSomeAnd old.span (λ span. ItemCalls sees_chunk sees_eos sees_failure old.hooks item times calls span between (Err e) new.hooks now))

  -- polls one after another make these calls, each with the time since the last ready answer or since the response
  abbrev pub BodyCalls : ResponseBody B K CH EO FA → ℕ → ℕ → List (FramePoll (ResponseBody B K CH EO FA) D E) → List (HookCall D N) → Type 0
  BodyCalls b last responded [] calls = calls ≡ []
  BodyCalls b last responded (p ∷ polls) calls =
      (here : List (HookCall D N)) × (later : List (HookCall D N)) × (calls ≡ here ++ later)
      × PollCalls b p.was p.moment p.answer (record { latency = since last p.moment.now; duration = since responded p.moment.now }) here p.after p.now
      × BodyCalls p.after (ready_at last p.moment.now p.answer) responded polls later

module _ {B K CH EO FA N D E : Type 0} (frames : Frames B D E) (ends : B → Bool) (classifies : ClassifiesEos K N)
    (classifies_error : ClassifiesError K N) (shows : E → Option (List ℕ)) (sees_chunk : SeesChunk CH D) (sees_eos : SeesEos EO)
    (sees_failure : SeesFailure FA N) where
  -- however the body is polled from here on, its hooks are called so: the failure's and the end's once at most, in this order, and when
  -- they are due where no poll is refused
  pub record OrderlyBody (b : ResponseBody B K CH EO FA) : Type 0 where
    pub calls_of : (polls : List (FramePoll (ResponseBody B K CH EO FA) D E))
        → PolledFrom (TraceFrames frames ends classifies classifies_error shows sees_chunk sees_eos sees_failure) b polls
        → (calls : List (HookCall D N)) × BodyCalls frames sees_chunk sees_eos sees_failure b b.life.last b.life.responded polls calls
        × EndCalls b.hooks.tail (but_chunks calls)
        × (NoneRefused polls → CalledWhenDue b.hooks.tail (end_comes (λ b. ends b.inner) polls) (fault_comes_first (λ b. ends b.inner) polls) calls)
