-- Where a gate's values stand after some polls, and what it asks.
use Rattle.std.specs.Prelude.{◌≡◌, ℕ, List, [], Bool, true, false, Option, Some, None, ⊤}
use Rattle.life_core.specs.History.{Where, Waiting, Answered}
use Rattle.life_core.specs.declared.message.Request.{Request}
use Rattle.life_core.specs.declared.message.Response.{Response}
use Rattle.life_core.specs.declared.message.ResponseHead.{ResponseHead}
use Rattle.life_gate.specs.Gate.{Validates}
use Rattle.life_gate.specs.Judged.{Judged, Verdict}
use Rattle.life_gate.specs.declared.validate_request.future.Kind.{Kind}
use Rattle.life_gate.specs.declared.validate_request.future.Kind.TheVariants.{Future, Error}
use Rattle.life_gate.specs.declared.validate_request.future.ResponseFuture.{ResponseFuture}
use Rattle.life_gate.specs.declared.validate_request.service.ValidateRequestHeader.{ValidateRequestHeader}

module _ {H Q P X : Type 0} (Heads : H → ResponseHead X → Type 0) (BodyStands : Q → P → List ℕ → Type 0) (head : H) (plan : Q) where
  -- a response with this head, whose body has this plan
  abbrev pub Refusal : Response P X → Type 0
  Refusal r = Heads head r.head × BodyStands plan r.body []

  -- the refusal is there until it is answered
  abbrev pub RefusalStands : Option (Response P X) → Where → Type 0
  RefusalStands (Some r) (Waiting past) = Refusal r
  RefusalStands (Some r) Answered = ⊥
  RefusalStands None (Waiting past) = ⊥
  RefusalStands None Answered = ⊤

  -- by whether the gate was shut, the refusal or the inner future stands
  abbrev pub GateKindStands : {F : Type 0} → Bool → (F → Where → Type 0) → Kind F P X → Where → Type 0
  GateKindStands true Stands (Error refusal) w = RefusalStands refusal w
  GateKindStands true Stands (Future f) w = ⊥
  GateKindStands false Stands (Future f) w = Stands f w
  GateKindStands false Stands (Error refusal) w = ⊥

-- a future of `ValidateRequestHeader`, whose request was refused or not
abbrev pub GateStands : {H Q F P X : Type 0} → Bool → (H → ResponseHead X → Type 0) → (Q → P → List ℕ → Type 0) → H → Q → (F → Where → Type 0) → ResponseFuture F P X → Where → Type 0
GateStands shut Heads BodyStands head plan Stands f w = GateKindStands Heads BodyStands head plan shut Stands f.kind w

-- the validator is as it is kept, and the inner service serves
pub record GateServes {S V : Type 0} (Keeps : V → Type 0) (Serves : S → Type 0) (s : ValidateRequestHeader S V) : Type 0 where
  pub validate : Keeps s.validate
  pub inner : Serves s.inner

-- a request that is refused, or one that the inner service takes
abbrev pub AsksPast : {B X : Type 0} → Bool → (Request B X → Bool) → (Request B X → Type 0) → Request B X → Type 0
AsksPast shut refuses Asks req = (refuses req ≡ shut) × (shut ≡ false → Asks req)

-- a validator that keeps judges by the test, leaves the request as it was, keeps, and refuses with this head and plan
pub record Judges {H Q V B P X : Type 0} (validates : Validates V B P X) (Keeps : V → Type 0) (refuses : Request B X → Bool)
    (Heads : H → ResponseHead X → Type 0) (BodyStands : Q → P → List ℕ → Type 0) (head : H) (plan : Q) : Type 0 where
  pub keeps : (old : V) (req : Request B X) (answer : Verdict P X) (new : V) (seen : Request B X) → Keeps old → validates old req answer new seen → Keeps new
  pub same : (old : V) (req : Request B X) (answer : Verdict P X) (new : V) (seen : Request B X) → Keeps old → validates old req answer new seen → seen ≡ req
  pub judged : (old : V) (req : Request B X) (answer : Verdict P X) (new : V) (seen : Request B X) → Keeps old → validates old req answer new seen →
      Judged (refuses req ≡ false) (refuses req ≡ true) (Refusal Heads BodyStands head plan) answer
