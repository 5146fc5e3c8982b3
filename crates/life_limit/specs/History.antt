-- Where the values of these layers stand after some polls, and what their histories are.
use Rattle.std.specs.Prelude.{◌≡◌, ℕ, List, ◌++◌, Bool, true, false, None, ⊤}
use Rattle.life_core.specs.History.{BodyHistory, FutureHistory, Said, Waits, Gives, Fails, Where, Waiting, Answered}
use Rattle.life_core.specs.OneChunk.{FullStands}
use Rattle.life_core.specs.declared.event.Event.{Event}
use Rattle.life_core.specs.declared.fault.Fault.{Fault}
use Rattle.life_core.specs.declared.fault.Fault.TheVariants.{Panicked, Err}
use Rattle.life_core.specs.declared.fault.PanicText.{PanicText}
use Rattle.life_core.specs.declared.message.Request.{Request}
use Rattle.life_core.specs.declared.body.limited.Limited.{Limited}
use Rattle.life_limit.specs.Limit.{is_large, limited}
use Rattle.life_limit.specs.declared.catch_panic.future.Kind.{Kind as CatchKind}
use Rattle.life_limit.specs.declared.catch_panic.future.Kind.TheVariants as catch_kind
use Rattle.life_limit.specs.declared.catch_panic.future.ResponseFuture.{ResponseFuture as CatchFuture}
use Rattle.life_limit.specs.declared.catch_panic.service.CatchPanic.{CatchPanic}
use Rattle.life_limit.specs.declared.limit.body.ResponseBody.{ResponseBody}
use Rattle.life_limit.specs.declared.limit.body.ResponseBody.TheVariants.{PayloadTooLarge, Body}
use Rattle.life_limit.specs.declared.limit.future.Kind.{Kind}
use Rattle.life_limit.specs.declared.limit.future.Kind.TheVariants as kind
use Rattle.life_limit.specs.declared.limit.future.ResponseFuture.{ResponseFuture}
use Rattle.life_limit.specs.declared.limit.service.RequestBodyLimit.{RequestBodyLimit}

-- the body in it stands
abbrev pub LimitBodyStands : {P B E : Type 0} → (P → BodyHistory (List ℕ) E) → (P → B → List ℕ → Type 0) → P → ResponseBody B → List ℕ → Type 0
LimitBodyStands h Stands p (Body b) past = Stands p b past
LimitBodyStands h Stands p (PayloadTooLarge b) past = FullStands h p b past

-- the inner future is there, and stands, where the request was not too large
abbrev pub HeldUnless : {F : Type 0} → Bool → (F → Where → Type 0) → Kind F → Where → Type 0
HeldUnless true Stands kind.PayloadTooLarge w = ⊤
HeldUnless true Stands (kind.Future f) w = ⊥
HeldUnless false Stands kind.PayloadTooLarge w = ⊥
HeldUnless false Stands (kind.Future f) w = Stands f w

-- a future of `RequestBodyLimit`, whose request was too large or not
abbrev pub LimitStands : {F : Type 0} → Bool → (F → Where → Type 0) → ResponseFuture F → Where → Type 0
LimitStands large Stands f w = HeldUnless large Stands f.kind w

-- a request that is too large, or one that the inner service takes with its body bounded
abbrev pub AsksBounded : {B X : Type 0} → Bool → ℕ → (Request (Limited B) X → Type 0) → Request B X → Type 0
AsksBounded large limit Asks req = (is_large limit req ≡ large) × (large ≡ false → Asks (limited limit req))

-- a `RequestBodyLimit` with this limit, over a service that serves
pub record LimitServes {S : Type 0} (limit : ℕ) (Serves : S → Type 0) (s : RequestBodyLimit S) : Type 0 where
  pub limit_is : s.limit ≡ limit
  pub inner : Serves s.inner

-- the handler is as it is kept until the answer
abbrev pub KeepsUntil : {T : Type 0} → (T → Type 0) → T → Where → Type 0
KeepsUntil Keeps handler (Waiting past) = Keeps handler
KeepsUntil Keeps handler Answered = ⊤

-- a future of `CatchPanic` that was called with no text kept: the inner one stands, and its handler is kept until the answer
abbrev pub Watches : {F T : Type 0} → (T → Type 0) → (F → Where → Type 0) → CatchKind F → T → Where → Type 0
Watches Keeps Stands (catch_kind.Future f) handler w = KeepsUntil Keeps handler w × Stands f w
Watches Keeps Stands (catch_kind.Panicked text) handler w = ⊥

-- a future of `CatchPanic`, by what is in it
abbrev pub CatchStands : {F T : Type 0} → (T → Type 0) → (F → Where → Type 0) → CatchFuture F T → Where → Type 0
CatchStands Keeps Stands f w = Watches Keeps Stands f.kind f.panic_handler w

-- the inner answer, a panic told as a response
abbrev pub caught : {H P X : Type 0} → H → P → Said H P (Fault X) → Said H P X
caught head p Waits = Waits
caught head p (Gives h q) = Gives h q
caught head p (Fails (Panicked text)) = Gives head p
caught head p (Fails (Err e)) = Fails e

-- what is recorded, and at a panic what the handler records then
abbrev pub with_panic : {H P X : Type 0} → (PanicText → List Event) → Said H P (Fault X) → List Event → List Event
with_panic fired Waits es = es
with_panic fired (Gives h q) es = es
with_panic fired (Fails (Panicked text)) es = es ++ fired text
with_panic fired (Fails (Err e)) es = es

-- the inner answers, a panic told as a response, with what the handler records then
abbrev pub catch_history : {H P X : Type 0} → (PanicText → List Event) → H → P → FutureHistory H P (Fault X) → FutureHistory H P X
catch_history fired head p h = record {
  says = λ past t. caught head p (h.says past t);
  events = λ past t. with_panic fired (h.says past t) (h.events past t);
  abandoned = h.abandoned;
}

-- no text is kept
pub record CatchServes {S T : Type 0} (Keeps : T → Type 0) (Serves : S → Type 0) (s : CatchPanic S T) : Type 0 where
  pub none_kept : s.kept ≡ None
  pub handler : Keeps s.panic_handler
  pub inner : Serves s.inner
