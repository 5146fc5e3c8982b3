-- What `ResponseBody` does: the inner answers, and for each ready one its hooks.
use Rattle.std.specs.Prelude.{◌≡◌, ℕ, Bool, true, false, ◌⊎◌, List, Option, Some, None, Result, Ok, Err, IsErr, IsSome, IsSomeAnd}
use Rattle.http_body.specs.declared.frame.Frame.{Frame}
use Rattle.http_body.specs.declared.frame.Kind.{Kind}
use Rattle.http_body.specs.declared.frame.Kind.TheVariants.{Data, Trailers}
use Rattle.life_classify.specs.Classifier.{ClassifiesEos, ClassifiesError}
use Rattle.life_core.specs.Calls.{Frames, Answer}
use Rattle.life_core.specs.Life.{life_on}
use Rattle.life_core.specs.Moment.{Moment, in_span}
use Rattle.life_core.specs.Recorded.{Recorded}
use Rattle.life_core.specs.declared.life.Life.{Life}
use Rattle.life_core.specs.declared.poll.Poll.TheVariants.{Ready, Pending}
use Rattle.life_core.specs.declared.recorder.NoMemory.{NoMemory}
use Rattle.life_core.specs.declared.span.Span.{Span}
use Rattle.life_trace.specs.Hooks.{SeesChunk, SeesEos, SeesFailure}
use Rattle.life_trace.specs.Silent.{SilentEnd}
use Rattle.life_trace.specs.Tail.{TailMay, Closes, Faults, times_at}
use Rattle.life_trace.specs.declared.trace.body.BodyHooks.{BodyHooks}
use Rattle.life_trace.specs.declared.trace.body.ResponseBody.{ResponseBody}
use Rattle.life_trace.specs.declared.trace.tail.Tail.{Tail}
use Rattle.life_trace.specs.declared.trace.tail.Times.{Times}

-- the life of a response
abbrev pub life_of : {B K CH EO FA : Type 0} → ResponseBody B K CH EO FA → Life
life_of b = b.life

-- the hooks of a body may be called
abbrev pub BodyHooksMay : {K CH EO FA : Type 0} → (K → Type 0) → (CH → Type 0) → (EO → Type 0) → (FA → Type 0) → BodyHooks K CH EO FA → Type 0
BodyHooksMay classifier_may chunk_may eos_may failure_may hooks =
    chunk_may hooks.on_body_chunk × TailMay classifier_may eos_may failure_may hooks.tail

-- the inner body and the hooks may be called, in the span that is there
abbrev pub TraceBodyMay : {B K CH EO FA : Type 0} → (B → Type 0) → (K → Type 0) → (CH → Type 0) → (EO → Type 0) → (FA → Type 0) → ResponseBody B K CH EO FA → Type 0
TraceBodyMay may classifier_may chunk_may eos_may failure_may b =
    may b.inner × IsSome b.span × BodyHooksMay classifier_may chunk_may eos_may failure_may b.hooks

module _ {K CH EO FA N D : Type 0} (classifies : ClassifiesEos K N) (sees_chunk : SeesChunk CH D) (sees_eos : SeesEos EO)
    (sees_failure : SeesFailure FA N) where
  -- the end, where the body tells it
  abbrev pub ClosesIf : Bool → Tail K EO FA → Times → Span → Recorded → Result Unit NoMemory → Tail K EO FA → Recorded → Type 0
  ClosesIf true old times span was answer new now = Closes classifies sees_eos sees_failure old None times span was answer new now
  ClosesIf false old times span was answer new now = SilentEnd was answer now × (new ≡ old)

  -- a chunk, and then the end where the body tells it
  abbrev pub ChunkSeen : BodyHooks K CH EO FA → D → Bool → Times → Span → Recorded → Result Unit NoMemory → BodyHooks K CH EO FA → Recorded → Type 0
  ChunkSeen old chunk ended times span was answer new now =
      (sees_chunk old.on_body_chunk chunk times.latency span was answer new.on_body_chunk now × IsErr answer × (new.tail ≡ old.tail))
      ⊎ ((between : Recorded) × sees_chunk old.on_body_chunk chunk times.latency span was (Ok tt) new.on_body_chunk between
      × ClosesIf ended old.tail times span between answer new.tail now)

module _ {K CH EO FA N D E : Type 0} (classifies : ClassifiesEos K N) (classifies_error : ClassifiesError K N) (shows : E → Option (List ℕ))
    (sees_chunk : SeesChunk CH D) (sees_eos : SeesEos EO) (sees_failure : SeesFailure FA N) where
  -- a frame: a chunk, or trailers, which are the end whatever the body tells
  abbrev pub FrameSeen : BodyHooks K CH EO FA → Kind D → Bool → Times → Span → Recorded → Result Unit NoMemory → BodyHooks K CH EO FA → Recorded → Type 0
  FrameSeen old (Data chunk) ended times span was answer new now = ChunkSeen classifies sees_chunk sees_eos sees_failure old chunk ended times span was answer new now
  FrameSeen old (Trailers trailers) ended times span was answer new now =
      Closes classifies sees_eos sees_failure old.tail (Some trailers) times span was answer new.tail now × (new.on_body_chunk ≡ old.on_body_chunk)

  -- a ready answer of the inner body
  abbrev pub ItemSeen : BodyHooks K CH EO FA → Option (Result (Frame D) E) → Bool → Times → Span → Recorded → Result Unit NoMemory → BodyHooks K CH EO FA → Recorded → Type 0
  ItemSeen old None ended times span was answer new now =
      Closes classifies sees_eos sees_failure old.tail None times span was answer new.tail now × (new.on_body_chunk ≡ old.on_body_chunk)
  ItemSeen old (Some (Err fault)) ended times span was answer new now =
      Faults classifies_error sees_failure old.tail (shows fault) times.latency span was answer new.tail now × (new.on_body_chunk ≡ old.on_body_chunk)
  ItemSeen old (Some (Ok frame)) ended times span was answer new now = FrameSeen old frame.kind ended times span was answer new now

module _ {B K CH EO FA N D E : Type 0} (frames : Frames B D E) (ends : B → Bool) (classifies : ClassifiesEos K N)
    (classifies_error : ClassifiesError K N) (shows : E → Option (List ℕ)) (sees_chunk : SeesChunk CH D) (sees_eos : SeesEos EO)
    (sees_failure : SeesFailure FA N) where
  -- the hooks see the inner body's answer of this moment in the body's span
  abbrev pub HooksSee : ResponseBody B K CH EO FA → Option (Result (Frame D) E) → Moment → Recorded → Result Unit NoMemory → ResponseBody B K CH EO FA → Recorded → Type 0
  HooksSee old item m was answer new now =
      IsSomeAnd old.span (λ span. ItemSeen classifies classifies_error shows sees_chunk sees_eos sees_failure old.hooks item (ends new.inner)
      (times_at old.life m.now) span was answer new.hooks now)

  -- the inner answer, and then the hooks where it is ready; a hook that is refused refuses the poll
  abbrev pub InnerThenHooks : ResponseBody B K CH EO FA → Recorded → Moment → Answer D E → ResponseBody B K CH EO FA → Recorded → Type 0
  InnerThenHooks old was m (Ok Pending) new now = frames old.inner was (in_span m old.span) (Ok Pending) new.inner now × (new.hooks ≡ old.hooks)
  InnerThenHooks old was m (Ok (Ready item)) new now =
      (between : Recorded) × frames old.inner was (in_span m old.span) (Ok (Ready item)) new.inner between × HooksSee old item m between (Ok tt) new now
  InnerThenHooks old was m (Err e) new now =
      (frames old.inner was (in_span m old.span) (Err e) new.inner now × (new.hooks ≡ old.hooks))
      ⊎ ((item : Option (Result (Frame D) E)) × (between : Recorded) × frames old.inner was (in_span m old.span) (Ok (Ready item)) new.inner between
      × HooksSee old item m between (Err e) new now)

  -- the inner body is polled in the span, and its ready answers are seen and pass
  pub record TraceFrames (old : ResponseBody B K CH EO FA) (was : Recorded) (m : Moment) (answer : Answer D E) (new : ResponseBody B K CH EO FA)
      (now : Recorded) : Type 0 where
    pub answered : InnerThenHooks old was m answer new now
    pub life : new.life ≡ life_on old.life m.now answer (ends new.inner)
    pub span : new.span ≡ old.span
