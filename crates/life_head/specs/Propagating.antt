-- What `PropagateRequestId` does: it keeps the request's value, and puts it into a response that has none.
use Rattle.std.specs.Prelude.{◌≡◌, ℕ, ◌⊎◌, List, Option, None, Result, Ok, Err}
use Rattle.std.specs.Borrow.{Lends, MutBor, Fml}
use denote.RattleType.{RattleType}
use Rattle.http_header.specs.FieldValue.{FieldValue}
use Rattle.http_header.specs.HeaderMap.{Entries, get}
use Rattle.life_core.specs.Calls.{Polls, Abandons, Calls, Abandoned}
use Rattle.life_core.specs.Moment.{Moment}
use Rattle.life_core.specs.Recorded.{Recorded}
use Rattle.life_core.specs.declared.message.Request.{Request}
use Rattle.life_core.specs.declared.message.Response.{Response}
use Rattle.life_core.specs.declared.message.ResponseHead.{ResponseHead}
use Rattle.life_core.specs.declared.poll.Poll.TheVariants.{Ready, Pending}
use Rattle.life_head.specs.Ids.{marked}
use Rattle.life_head.specs.declared.request_id.id.RequestId.{RequestId}
use Rattle.life_head.specs.declared.request_id.propagate.PropagateRequestId.{PropagateRequestId}
use Rattle.life_head.specs.declared.request_id.propagate.PropagateRequestIdLayer.{PropagateRequestIdLayer}
use Rattle.life_head.specs.declared.request_id.propagating.PropagateRequestIdResponseFuture.{PropagateRequestIdResponseFuture}
use Rattle.life_head.specs.contracts.request_id.propagate.PropagateRequestId.{the_row as propagate_row}

-- the layer for this header name
abbrev pub propagate_layer : List ℕ → PropagateRequestIdLayer
propagate_layer name = record { header_name = name }

-- the service for this header name
abbrev pub propagate_service : {S : Type 0} → S → List ℕ → PropagateRequestId S
propagate_service inner name = record { inner = inner; header_name = name }

-- once the borrow r ends, the service has the inner one that was left
abbrev pub LendsPropagateInner : (S : RattleType) → MutBor (PropagateRequestId S.Denot) → MutBor S.Denot → Fml
LendsPropagateInner S s r = Lends (propagate_row S) S s r (λ w. record s.now { inner = w })

-- the future has the layer's name, and the first value of the request
pub record Keeps {S F : Type 0} (s : PropagateRequestId S) (headers : Entries FieldValue) (f : PropagateRequestIdResponseFuture F) : Type 0 where
  pub name : f.header_name ≡ s.header_name
  pub value : f.kept ≡ get headers s.header_name

module _ {S B X F : Type 0} (calls : Calls S (Request B X) F) (abandons : Abandons B) where
  -- the inner call, and a future over what it gave; or no memory, and then the request's body is abandoned
  abbrev pub PropagateCalls : Calls (PropagateRequestId S) (Request B X) (PropagateRequestIdResponseFuture F)
  PropagateCalls old req was m (Ok f) new now =
      calls old.inner req was m (Ok f.inner) new.inner now × Keeps old req.head.parts.headers f × (new ≡ record old { inner = new.inner })
  PropagateCalls old req was m (Err e) new now =
      (calls old.inner req was m (Err e) new.inner now × (new ≡ record old { inner = new.inner }))
      ⊎ (Abandoned abandons req.body was m now × (new ≡ old))

module _ {F B X E : Type 0} (polls : Polls F (Result (Response B X) E)) (abandons : Abandons B)
    (holds : X → Option RequestId) (after : X → RequestId → X) where
  -- the inner response, with its id
  pub record PropagateGives (old : PropagateRequestIdResponseFuture F) (was : Recorded) (m : Moment) (r : Response B X)
      (new : PropagateRequestIdResponseFuture F) (now : Recorded) : Type 0 where
    pub head : ResponseHead X
    pub inner : polls old.inner was m (Ok (Ready (Ok (record { head = head; body = r.body })))) new.inner now
    pub marks : r.head ≡ marked holds after old.header_name old.kept head
    pub same : new ≡ record old { inner = new.inner; kept = None }

  -- no memory for the id: the response's body is abandoned
  pub record PropagateRefused (old : PropagateRequestIdResponseFuture F) (was : Recorded) (m : Moment)
      (new : PropagateRequestIdResponseFuture F) (now : Recorded) : Type 0 where
    pub response : Response B X
    pub between : Recorded
    pub inner : polls old.inner was m (Ok (Ready (Ok response))) new.inner between
    pub abandoned : Abandoned abandons response.body between m now
    pub same : new ≡ record old { inner = new.inner; kept = None }

  -- the inner answer, a response with its id; or no memory
  abbrev pub PropagatePolls : Polls (PropagateRequestIdResponseFuture F) (Result (Response B X) E)
  PropagatePolls old was m (Ok (Ready (Ok r))) new now = PropagateGives old was m r new now
  PropagatePolls old was m (Ok (Ready (Err e))) new now =
      polls old.inner was m (Ok (Ready (Err e))) new.inner now × (new ≡ record old { inner = new.inner })
  PropagatePolls old was m (Ok Pending) new now =
      polls old.inner was m (Ok Pending) new.inner now × (new ≡ record old { inner = new.inner })
  PropagatePolls old was m (Err e) new now =
      (polls old.inner was m (Err e) new.inner now × (new ≡ record old { inner = new.inner })) ⊎ PropagateRefused old was m new now
