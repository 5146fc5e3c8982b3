-- What the tail of a body does: its classifier and its hooks, each of which is called once at most.
use Rattle.std.specs.Prelude.{◌≡◌, ℕ, ◌⊎◌, List, Option, Result, Ok, Err, IfOk, IsErr, ⊤}
use Rattle.http_header.specs.FieldValue.{FieldValue}
use Rattle.http_header.specs.HeaderMap.{Entries}
use Rattle.life_classify.specs.Classifier.{ClassifiesEos, ClassifiesError}
use Rattle.life_classify.specs.declared.classify.traits.ClassifiedResponse.{ClassifiedResponse}
use Rattle.life_classify.specs.declared.classify.traits.ClassifiedResponse.TheVariants.{Ready, RequiresEos}
use Rattle.life_core.specs.Calls.{spent}
use Rattle.life_core.specs.Recorded.{Recorded}
use Rattle.life_core.specs.Timer.{since}
use Rattle.life_core.specs.declared.life.Life.{Life}
use Rattle.life_core.specs.declared.recorder.NoMemory.{NoMemory}
use Rattle.life_core.specs.declared.span.Span.{Span}
use Rattle.life_trace.specs.Hooks.{Ends, SeesEos, SeesFailure}
use Rattle.life_trace.specs.Silent.{SilentEnd}
use Rattle.life_trace.specs.declared.trace.tail.Tail.{Tail}
use Rattle.life_trace.specs.declared.trace.tail.Tail.TheVariants.{Classed, Unclassed, Spent}
use Rattle.life_trace.specs.declared.trace.tail.Times.{Times}

-- the times since the last ready answer and since the response
abbrev pub times_at : Life → ℕ → Times
times_at life now = record { latency = since life.last now; duration = since life.responded now }

-- what the tail holds may be called
abbrev pub TailMay : {K EO FA : Type 0} → (K → Type 0) → (EO → Type 0) → (FA → Type 0) → Tail K EO FA → Type 0
TailMay classifier_may eos_may failure_may (Classed k e f) = classifier_may k × eos_may e × failure_may f
TailMay classifier_may eos_may failure_may (Unclassed e) = eos_may e
TailMay classifier_may eos_may failure_may Spent = ⊤

-- one call after another, unless the first is refused for memory
abbrev pub InTurn : Ends → Ends → Ends
InTurn first second was answer now =
    (first was answer now × IsErr answer) ⊎ ((between : Recorded) × first was (Ok tt) between × second between answer now)

-- the hook is called where the class is a failure
abbrev pub FailureSeen : {FA N : Type 0} → SeesFailure FA N → Result Unit N → FA → ℕ → Span → Ends
FailureSeen sees (Ok u) hook latency span was answer now = SilentEnd was answer now
FailureSeen {FA} sees (Err class) hook latency span was answer now = (after : FA) × sees hook class latency span was answer after now

-- the end is classified, and the hook is called where it is a failure
abbrev pub EndClassified : {K FA N : Type 0} → ClassifiesEos K N → SeesFailure FA N → K → FA → Option (Entries FieldValue) → ℕ → Span → Ends
EndClassified {N = N} classifies sees k hook trailers latency span was answer now =
    ((e : NoMemory) × classifies k trailers (Err e) × (answer ≡ Err e) × (now ≡ was))
    ⊎ ((class : Result Unit N) × classifies k trailers (Ok class) × FailureSeen sees class hook latency span was answer now)

-- a fault is classified by the text that it shows, and the hook is called with its class
abbrev pub FaultClassified : {K FA N : Type 0} → ClassifiesError K N → SeesFailure FA N → K → FA → Option (List ℕ) → ℕ → Span → Ends
FaultClassified {FA = FA} {N = N} classifies sees k hook text latency span was answer now =
    ((e : NoMemory) × classifies k text (Err e) × (answer ≡ Err e) × (now ≡ was))
    ⊎ ((class : N) × (after : FA) × classifies k text (Ok class) × sees hook class latency span was answer after now)

module _ {K EO FA N : Type 0} (classifies : ClassifiesEos K N) (sees_eos : SeesEos EO) (sees_failure : SeesFailure FA N) where
  -- the class where it is open, and then the end
  abbrev pub EndSeen : Tail K EO FA → Option (Entries FieldValue) → Times → Span → Ends
  EndSeen (Classed k e f) trailers times span was answer now =
      InTurn (EndClassified classifies sees_failure k f trailers times.latency span) (sees_eos e trailers times.duration span) was answer now
  EndSeen (Unclassed e) trailers times span was answer now = sees_eos e trailers times.duration span was answer now
  EndSeen Spent trailers times span was answer now = SilentEnd was answer now

  -- the end: whatever was left is taken, also where a call is refused
  pub record Closes (old : Tail K EO FA) (trailers : Option (Entries FieldValue)) (times : Times) (span : Span) (was : Recorded)
      (answer : Result Unit NoMemory) (new : Tail K EO FA) (now : Recorded) : Type 0 where
    pub seen : EndSeen old trailers times span was answer now
    pub taken : new ≡ Spent

module _ {K EO FA N : Type 0} (classifies : ClassifiesError K N) (sees_failure : SeesFailure FA N) where
  -- a fault: the class is taken where it is open, also where a call is refused; the hook of the end stays
  abbrev pub Faults : Tail K EO FA → Option (List ℕ) → ℕ → Span → Recorded → Result Unit NoMemory → Tail K EO FA → Recorded → Type 0
  Faults (Classed k e f) text latency span was answer new now = FaultClassified classifies sees_failure k f text latency span was answer now × (new ≡ Unclassed e)
  Faults (Unclassed e) text latency span was answer new now = SilentEnd was answer now × (new ≡ Unclassed e)
  Faults Spent text latency span was answer new now = SilentEnd was answer now × (new ≡ Spent)

-- what a response leaves for its end, by its class; a ready one that is a failure calls the hook
abbrev pub TailBegins : {K EO FA N : Type 0} → SeesFailure FA N → ClassifiedResponse N K → EO → FA → ℕ → Span → Recorded → Result (Tail K EO FA) NoMemory → Recorded → Type 0
TailBegins sees (Ready class) on_eos on_failure latency span was answer now =
    FailureSeen sees class on_failure latency span was (spent answer) now × IfOk answer (λ tail. tail ≡ Unclassed on_eos)
TailBegins sees (RequiresEos k) on_eos on_failure latency span was answer now = (answer ≡ Ok (Classed k on_eos on_failure)) × (now ≡ was)
