-- Where the values of these layers stand after some polls, and what their histories are.
use Rattle.std.specs.Prelude.{◌≡◌, ℕ, List, Option, Some, None, ⊤}
use Rattle.http_header.specs.FieldValue.{FieldValue}
use Rattle.http_header.specs.HeaderMap.{get}
use Rattle.life_core.specs.History.{FutureHistory, said_with, Where, Waiting, Answered}
use Rattle.life_core.specs.declared.message.Request.{Request}
use Rattle.life_head.specs.declared.request_id.propagate.PropagateRequestId.{PropagateRequestId}
use Rattle.life_head.specs.declared.request_id.propagating.PropagateRequestIdResponseFuture.{PropagateRequestIdResponseFuture}
use Rattle.life_head.specs.declared.request_id.set.SetRequestId.{SetRequestId}

-- the value is there until the answer
abbrev pub KeptUntil : Option FieldValue → Option FieldValue → Where → Type 0
KeptUntil id kept (Waiting past) = kept ≡ id
KeptUntil id kept Answered = ⊤

-- a future of `PropagateRequestId` for this name, whose request had this value
pub record PropagateStands {F : Type 0} (name : List ℕ) (id : Option FieldValue) (Stands : F → Where → Type 0)
    (f : PropagateRequestIdResponseFuture F) (w : Where) : Type 0 where
  pub name_is : f.header_name ≡ name
  pub kept_is : KeptUntil id f.kept w
  pub inner : Stands f.inner w

-- the inner answers, with the head that mark tells
abbrev pub propagate_history : {H G P X : Type 0} → (H → G) → FutureHistory H P X → FutureHistory G P X
propagate_history mark h = record { says = λ past t. said_with mark (h.says past t); events = h.events; abandoned = h.abandoned }

-- a request whose first value under the name is this
abbrev pub AsksWith : {B X : Type 0} → List ℕ → Option FieldValue → (Request B X → Type 0) → Request B X → Type 0
AsksWith name id Asks req = Asks req × (get req.head.parts.headers name ≡ id)

-- a `PropagateRequestId` for this name, over a service that serves
pub record PropagateServes {S : Type 0} (name : List ℕ) (Serves : S → Type 0) (s : PropagateRequestId S) : Type 0 where
  pub name_is : s.header_name ≡ name
  pub inner : Serves s.inner

-- a `SetRequestId` for this name with a maker that is kept, over a service that serves
pub record SetServes {S M : Type 0} (name : List ℕ) (Keeps : M → Type 0) (Serves : S → Type 0) (s : SetRequestId S M) : Type 0 where
  pub name_is : s.header_name ≡ name
  pub maker : Keeps s.make_request_id
  pub inner : Serves s.inner

-- the first value of the header once a message has its id: the one that was there, else the one that is given
abbrev pub first_of : Option FieldValue → Option FieldValue → Option FieldValue
first_of (Some there) given = Some there
first_of None given = given
