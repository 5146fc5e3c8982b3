-- Early drops as failures: their texts, and what the hook that tells them so does.
use Rattle.std.specs.Prelude.{◌≡◌, ℕ, List, [], ◌++◌, codes, Option, Some, None, Result, Ok, IfOk}
use Rattle.http.specs.StatusCode.{status_text}
use Rattle.life_core.specs.Moment.{Moment}
use Rattle.life_core.specs.Recorded.{Recorded}
use Rattle.life_core.specs.Timer.{since}
use Rattle.life_core.specs.declared.event.Level.TheVariants as level
use Rattle.life_core.specs.declared.message.Request.{Request}
use Rattle.life_core.specs.declared.message.ResponseHead.{ResponseHead}
use Rattle.life_core.specs.declared.recorder.NoMemory.{NoMemory}
use Rattle.life_core.specs.declared.span.Span.{Span}
use Rattle.life_trace.specs.Hooks.{SeesFailure}
use Rattle.life_drop.specs.declared.on_early_drop.early_drops_as_failures.BodyDropFailureCallback.{BodyDropFailureCallback}
use Rattle.life_drop.specs.declared.on_early_drop.early_drops_as_failures.EarlyDropsAsFailures.{EarlyDropsAsFailures}
use Rattle.life_drop.specs.declared.on_early_drop.early_drops_as_failures.FutureDropFailureCallback.{FutureDropFailureCallback}
use Rattle.life_drop.specs.declared.on_early_drop.early_drops_as_failures.PreResponseBodyDropCallback.{PreResponseBodyDropCallback}
use Rattle.life_drop.specs.declared.on_early_drop.failure.DroppedFailure.{DroppedFailure}
use Rattle.life_drop.specs.declared.on_early_drop.failure.DroppedFailure.TheVariants.{Future, Body}

-- the text of an early drop
abbrev pub dropped_text : DroppedFailure → Option (List ℕ)
dropped_text (Future f) = Some (codes "response future dropped before completion")
dropped_text (Body b) = Some (codes "response body dropped before end-of-stream (status: " ++ status_text b.status ++ codes ")")

-- the hook that calls this one
abbrev pub drops_as_failures : {F : Type 0} → F → EarlyDropsAsFailures F
drops_as_failures on_failure = record { on_failure = on_failure }

-- the span of a call; where it has none, one at the lowest level with an empty name
abbrev pub span_or_empty : Option Span → Span
span_or_empty (Some span) = span
span_or_empty None = record { level = level.Trace; name = []; fields = []; headers = None }

-- a callback with the hook, the time and the span of the call
abbrev pub MakesFailure : {F B X : Type 0} → EarlyDropsAsFailures F → Request B X → Moment → Result (FutureDropFailureCallback F) NoMemory → EarlyDropsAsFailures F → Type 0
MakesFailure old request m answer new =
    IfOk answer (λ made. made ≡ record { on_failure = old.on_failure; start = m.now; span = span_or_empty m.span }) × (new ≡ old)

-- the same is kept for the response
abbrev pub KeepsFailure : {F B X : Type 0} → EarlyDropsAsFailures F → Request B X → Moment → Result (PreResponseBodyDropCallback F) NoMemory → EarlyDropsAsFailures F → Type 0
KeepsFailure old request m answer new =
    IfOk answer (λ kept. kept ≡ record { on_failure = old.on_failure; start = m.now; span = span_or_empty m.span }) × (new ≡ old)

-- a callback with what was kept of the call and the status of the response; no memory is wanted
abbrev pub RespondsFailure : {F X : Type 0} → EarlyDropsAsFailures F → PreResponseBodyDropCallback F → ResponseHead X → Result (BodyDropFailureCallback F) NoMemory → EarlyDropsAsFailures F → Type 0
RespondsFailure old kept head answer new =
    (answer ≡ Ok (record { on_failure = kept.on_failure; start = kept.start; span = kept.span; status = head.parts.status })) × (new ≡ old)

-- the hook sees the drop of a future, with the time since the call
abbrev pub FutureFails : {F : Type 0} → SeesFailure F DroppedFailure → FutureDropFailureCallback F → ℕ → Recorded → Result Unit NoMemory → Recorded → Type 0
FutureFails {F} sees callback at was answer now =
    (after : F) × sees callback.on_failure (Future (record {})) (since callback.start at) callback.span was answer after now

-- the hook sees the drop of a body with the status of its response, with the time since the call
abbrev pub BodyFails : {F : Type 0} → SeesFailure F DroppedFailure → BodyDropFailureCallback F → ℕ → Recorded → Result Unit NoMemory → Recorded → Type 0
BodyFails {F} sees callback at was answer now =
    (after : F) × sees callback.on_failure (Body (record { status = callback.status })) (since callback.start at) callback.span was answer after now
