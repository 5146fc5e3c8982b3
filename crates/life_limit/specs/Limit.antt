-- What `RequestBodyLimit` does: it refuses a request that tells too long a body, and bounds the body of any other.
use Rattle.std.specs.Prelude.{◌≡◌, ℕ, min, nat_lt, Bool, true, false, Option, Some, None, Result, Ok, Err, IfOk, codes, ⊤}
use Rattle.std.specs.Borrow.{Lends, MutBor, Fml}
use denote.RattleType.{RattleType}
use Rattle.life_core.specs.Full.{full_of}
use Rattle.life_core.specs.Limited.{limited_of}
use Rattle.life_core.specs.Calls.{CallsOver, NothingToAbandon, Polls, Abandons, Calls, Reply, spent}
use Rattle.life_core.specs.Message.{IsText}
use Rattle.life_core.specs.Moment.{Moment}
use Rattle.life_core.specs.Recorded.{Recorded}
use Rattle.life_core.specs.declared.body.limited.Limited.{Limited}
use Rattle.life_core.specs.declared.message.Request.{Request}
use Rattle.life_core.specs.declared.message.Response.{Response}
use Rattle.life_core.specs.declared.message.ResponseHead.{ResponseHead}
use Rattle.life_core.specs.declared.poll.Poll.TheVariants.{Ready, Pending}
use Rattle.life_core.specs.declared.recorder.NoMemory.{NoMemory}
use Rattle.life_limit.specs.Length.{declared}
use Rattle.life_limit.specs.declared.limit.body.ResponseBody.{ResponseBody}
use Rattle.life_limit.specs.declared.limit.body.ResponseBody.TheVariants.{PayloadTooLarge, Body}
use Rattle.life_limit.specs.declared.limit.future.Kind.{Kind}
use Rattle.life_limit.specs.declared.limit.future.Kind.TheVariants as kind
use Rattle.life_limit.specs.declared.limit.future.ResponseFuture.{ResponseFuture}
use Rattle.life_limit.specs.declared.limit.layer.RequestBodyLimitLayer.{RequestBodyLimitLayer}
use Rattle.life_limit.specs.declared.limit.service.RequestBodyLimit.{RequestBodyLimit}
use Rattle.life_limit.specs.contracts.limit.service.RequestBodyLimit.{the_row as limit_row}

-- the layer with this limit, in bytes
abbrev pub limit_layer : ℕ → RequestBodyLimitLayer
limit_layer limit = record { limit = limit }

-- the service with this limit
abbrev pub limit_service : {S : Type 0} → S → ℕ → RequestBodyLimit S
limit_service inner limit = record { inner = inner; limit = limit }

-- once the borrow r ends, the service has the inner one that was left
abbrev pub LendsLimitInner : (S : RattleType) → MutBor (RequestBodyLimit S.Denot) → MutBor S.Denot → Fml
LendsLimitInner S s r = Lends (limit_row S) S s r (λ w. record s.now { inner = w })

-- the future over an inner one
abbrev pub future_over : {F : Type 0} → F → ResponseFuture F
future_over future = record { kind = kind.Future future }

-- the future of a request that is too large
abbrev pub too_large_future : {F : Type 0} → ResponseFuture F
too_large_future = record { kind = kind.PayloadTooLarge }

-- the inner future may be called, if there is one
abbrev pub LimitKindMay : {F : Type 0} → (F → Type 0) → Kind F → Type 0
LimitKindMay may (kind.Future f) = may f
LimitKindMay may kind.PayloadTooLarge = ⊤

-- the inner future is abandoned, if there is one
abbrev pub LimitKindAbandons : {F : Type 0} → Abandons F → Abandons (Kind F)
LimitKindAbandons abandons (kind.Future f) was m answer now = abandons f was m answer now
LimitKindAbandons {F = F} abandons kind.PayloadTooLarge was m answer now = NothingToAbandon {S = Kind F} kind.PayloadTooLarge was m answer now

-- a length is told, and it is above the limit
abbrev pub is_above : ℕ → Option ℕ → Bool
is_above limit (Some length) = nat_lt limit length
is_above limit None = false

-- the lesser of the limit and the length that is told
abbrev pub room_of : ℕ → Option ℕ → ℕ
room_of limit (Some length) = min limit length
room_of limit None = limit

-- whether a request is too large
abbrev pub is_large : {B X : Type 0} → ℕ → Request B X → Bool
is_large limit req = is_above limit (declared req.head.parts.headers)

-- the request with its body bounded
abbrev pub limited : {B X : Type 0} → ℕ → Request B X → Request (Limited B) X
limited limit req = record { head = req.head; body = limited_of req.body (room_of limit (declared req.head.parts.headers)) }

-- the body is abandoned, and the future says that the request was too large
pub record LimitRefusedBy {B F : Type 0} (abandons : Abandons B) (body : B) (was : Recorded) (m : Moment)
    (answer : Result (ResponseFuture F) NoMemory) (now : Recorded) : Type 0 where
  pub abandoned : abandons body was m (spent answer) now
  pub future : IfOk answer (λ f. f ≡ too_large_future)

module _ {S B X F : Type 0} (calls : Calls S (Request (Limited B) X) F) (abandons : Abandons B) where
  -- the inner service is not called
  pub record LimitRefuses (old : RequestBodyLimit S) (req : Request B X) (was : Recorded) (m : Moment)
      (answer : Result (ResponseFuture F) NoMemory) (new : RequestBodyLimit S) (now : Recorded) : Type 0 where
    pub refused : LimitRefusedBy abandons req.body was m answer now
    pub same : new ≡ old

  -- the inner service is called with the body bounded
  pub record LimitPasses (old : RequestBodyLimit S) (req : Request B X) (was : Recorded) (m : Moment)
      (answer : Result (ResponseFuture F) NoMemory) (new : RequestBodyLimit S) (now : Recorded) : Type 0 where
    pub inner : CallsOver calls (λ given f. f ≡ future_over given) old.inner (limited old.limit req) was m answer new.inner now
    pub same : new ≡ record old { inner = new.inner }

  -- by the length that the request tells
  pub record LimitCalls (old : RequestBodyLimit S) (req : Request B X) (was : Recorded) (m : Moment)
      (answer : Result (ResponseFuture F) NoMemory) (new : RequestBodyLimit S) (now : Recorded) : Type 0 where
    pub above : is_large old.limit req ≡ true → LimitRefuses old req was m answer new now
    pub within : is_large old.limit req ≡ false → LimitPasses old req was m answer new now

-- 413 with a plain text
pub record IsTooLarge {B X : Type 0} (is_ext : X → Type 0) (r : Response (ResponseBody B) X) : Type 0 where
  pub head : IsText is_ext 413 r.head
  pub body : r.body ≡ PayloadTooLarge (full_of (codes "length limit exceeded"))

-- a poll that answers so, or finds no memory
abbrev pub SaysTooLarge : {B X E : Type 0} → (X → Type 0) → Reply (ResponseBody B) X E → Type 0
SaysTooLarge is_ext (Ok (Ready (Ok r))) = IsTooLarge is_ext r
SaysTooLarge is_ext (Ok (Ready (Err e))) = ⊥
SaysTooLarge is_ext (Ok Pending) = ⊥
SaysTooLarge is_ext (Err e) = Unit

module _ {F B X E : Type 0} (polls : Polls F (Result (Response B X) E)) (is_ext : X → Type 0) where
  -- a response with the inner body
  abbrev pub LimitInnerBody : F → Recorded → Moment → ResponseHead X → ResponseBody B → F → Recorded → Type 0
  LimitInnerBody old was m head (Body b) new now = polls old was m (Ok (Ready (Ok (record { head = head; body = b })))) new now
  LimitInnerBody old was m head (PayloadTooLarge b) new now = ⊥

  -- the inner answer, with the inner body
  abbrev pub LimitInnerReplies : Polls F (Result (Response (ResponseBody B) X) E)
  LimitInnerReplies old was m (Ok (Ready (Ok r))) new now = LimitInnerBody old was m r.head r.body new now
  LimitInnerReplies old was m (Ok (Ready (Err e))) new now = polls old was m (Ok (Ready (Err e))) new now
  LimitInnerReplies old was m (Ok Pending) new now = polls old was m (Ok Pending) new now
  LimitInnerReplies old was m (Err e) new now = polls old was m (Err e) new now

  -- the inner answer, or that the request was too large
  abbrev pub LimitKindPolls : Polls (Kind F) (Result (Response (ResponseBody B) X) E)
  LimitKindPolls kind.PayloadTooLarge was m answer kind.PayloadTooLarge now = SaysTooLarge is_ext answer × (now ≡ was)
  LimitKindPolls kind.PayloadTooLarge was m answer (kind.Future g) now = ⊥
  LimitKindPolls (kind.Future f) was m answer kind.PayloadTooLarge now = ⊥
  LimitKindPolls (kind.Future f) was m answer (kind.Future g) now = LimitInnerReplies f was m answer g now

  -- the answer by what is in the future
  abbrev pub LimitPolls : Polls (ResponseFuture F) (Result (Response (ResponseBody B) X) E)
  LimitPolls old was m answer new now = LimitKindPolls old.kind was m answer new.kind now
