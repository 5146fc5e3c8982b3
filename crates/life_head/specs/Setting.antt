-- What `SetRequestId` does: the id into extension and header, then the inner call.
use Rattle.std.specs.Prelude.{◌≡◌, ℕ, ◌⊎◌, List, Option, Some, None, Result, Ok, Err}
use Rattle.std.specs.Borrow.{Lends, MutBor, Fml}
use denote.RattleType.{RattleType}
use Rattle.http_header.specs.FieldValue.{FieldValue}
use Rattle.http_header.specs.HeaderMap.{get}
use Rattle.life_core.specs.Calls.{Abandons, Calls, Abandoned}
use Rattle.life_core.specs.Moment.{Moment}
use Rattle.life_core.specs.Recorded.{Recorded}
use Rattle.life_core.specs.declared.message.Request.{Request}
use Rattle.life_core.specs.declared.recorder.NoMemory.{NoMemory}
use Rattle.life_head.specs.Ids.{Makes, tagged_by}
use Rattle.life_head.specs.declared.request_id.id.RequestId.{RequestId}
use Rattle.life_head.specs.declared.request_id.set.SetRequestId.{SetRequestId}
use Rattle.life_head.specs.declared.request_id.set.SetRequestIdLayer.{SetRequestIdLayer}
use Rattle.life_head.specs.contracts.request_id.set.SetRequestId.{the_row as set_row}

-- the layer for this header name, with this maker
abbrev pub set_layer : {M : Type 0} → List ℕ → M → SetRequestIdLayer M
set_layer name maker = record { header_name = name; make_request_id = maker }

-- the service for this header name, with this maker
abbrev pub set_service : {S M : Type 0} → S → List ℕ → M → SetRequestId S M
set_service inner name maker = record { inner = inner; header_name = name; make_request_id = maker }

-- once the borrow r ends, the service has the inner one that was left
abbrev pub LendsSetInner : (S M : RattleType) → MutBor (SetRequestId S.Denot M.Denot) → MutBor S.Denot → Fml
LendsSetInner S M s r = Lends (set_row S M) S s r (λ w. record s.now { inner = w })

-- the inner service and the maker may be called
abbrev pub SetMay : {S M : Type 0} → (S → Type 0) → (M → Type 0) → SetRequestId S M → Type 0
SetMay may maker_may s = may s.inner × maker_may s.make_request_id

module _ {M B X : Type 0} (makes : Makes M B X) (holds : X → Option RequestId) (after : X → RequestId → X) where
  -- by the first value of the header: where there is none, the maker is asked
  abbrev pub TagsBy : Option FieldValue → List ℕ → M → Request B X → M → Request B X → Type 0
  TagsBy (Some v) name maker old maker_new new = (maker_new ≡ maker) × (new ≡ tagged_by holds after (Some v) None name old)
  TagsBy None name maker old maker_new new =
      (made : Option RequestId) × makes maker old (Ok made) maker_new × (new ≡ tagged_by holds after None made name old)

  -- the maker was not asked, or it was asked once
  abbrev pub MakerAsked : M → Request B X → M → Type 0
  MakerAsked maker request maker_new =
      (maker_new ≡ maker) ⊎ ((made : Result (Option RequestId) NoMemory) × makes maker request made maker_new)

  -- the request gets its id; for want of memory the maker may have been asked all the same
  abbrev pub Tags : List ℕ → M → Request B X → Result Unit NoMemory → M → Request B X → Type 0
  Tags name maker old (Ok u) maker_new new = TagsBy (get old.head.parts.headers name) name maker old maker_new new
  Tags name maker old (Err e) maker_new new = MakerAsked maker old maker_new

module _ {S M B X F : Type 0} (calls : Calls S (Request B X) F) (makes : Makes M B X)
    (holds : X → Option RequestId) (after : X → RequestId → X) (abandons : Abandons B) where
  -- the inner service is called with the request that has its id
  pub record SetServed (old : SetRequestId S M) (req : Request B X) (was : Recorded) (m : Moment)
      (answer : Result F NoMemory) (new : SetRequestId S M) (now : Recorded) : Type 0 where
    pub tagged : Request B X
    pub tags : Tags makes holds after old.header_name old.make_request_id req (Ok tt) new.make_request_id tagged
    pub inner : calls old.inner tagged was m answer new.inner now
    pub same : new ≡ record old { inner = new.inner; make_request_id = new.make_request_id }

  -- no memory for the id: the request's body is abandoned
  pub record SetRefused (old : SetRequestId S M) (req : Request B X) (was : Recorded) (m : Moment)
      (new : SetRequestId S M) (now : Recorded) : Type 0 where
    pub asked : MakerAsked makes holds after old.make_request_id req new.make_request_id
    pub abandoned : Abandoned abandons req.body was m now
    pub same : new ≡ record old { make_request_id = new.make_request_id }

  -- the inner call with the request that has its id; or no memory for the id
  abbrev pub SetCalls : Calls (SetRequestId S M) (Request B X) F
  SetCalls old req was m answer new now =
      SetServed old req was m answer new now ⊎ ((e : NoMemory) × (answer ≡ Err e) × SetRefused old req was m new now)
