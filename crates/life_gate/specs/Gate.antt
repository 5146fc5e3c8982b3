-- What `ValidateRequestHeader` does: it has a request judged, and calls its inner service or refuses.
use Rattle.std.specs.Prelude.{◌≡◌, Some, None, Result, Ok, Err, IsSome, IfSome}
use denote.RattleType.{RattleType}
use Rattle.std.specs.Borrow.{MutBor, Lends, Fml}
use Rattle.std.specs.Fn.{Called, Mut}
use Rattle.life_core.specs.Calls.{CallsOver, Polls, Abandons, Calls, AbandonsIfAny, Abandoned}
use Rattle.life_core.specs.Moment.{Moment}
use Rattle.life_core.specs.Recorded.{Recorded}
use Rattle.life_core.specs.declared.message.Request.{Request}
use Rattle.life_core.specs.declared.message.Response.{Response}
use Rattle.life_core.specs.declared.poll.Poll.TheVariants.{Ready}
use Rattle.life_core.specs.declared.recorder.NoMemory.{NoMemory}
use Rattle.life_gate.specs.Judged.{Verdict}
use Rattle.life_gate.specs.declared.validate_request.future.Kind.{Kind}
use Rattle.life_gate.specs.declared.validate_request.future.Kind.TheVariants.{Future, Error}
use Rattle.life_gate.specs.declared.validate_request.future.ResponseFuture.{ResponseFuture}
use Rattle.life_gate.specs.declared.validate_request.layer.ValidateRequestHeaderLayer.{ValidateRequestHeaderLayer}
use Rattle.life_gate.specs.declared.validate_request.service.ValidateRequestHeader.{ValidateRequestHeader}
use Rattle.life_gate.specs.contracts.validate_request.service.ValidateRequestHeader.{the_row as gate_row}

-- Validator and request before, the answer, validator and request after.
abbrev pub Validates : Type 0 → Type 0 → Type 0 → Type 0 → Type 1
Validates V B P X = V → Request B X → Verdict P X → V → Request B X → Type 0

-- the closure is called once, at the request
pub record ClosureValidates {F A B P X : Type 0} (calls : Mut F (A × (MutBor (Request B X) × Unit {0})) (Verdict P X × (MutBor (Request B X) × Unit {0})))
    (closure : F) (request : Request B X) (answer : Verdict P X) (after : F) (seen : Request B X) : Type 0 where
  pub alloc : A
  pub lent : MutBor (Request B X)
  pub left : MutBor (Request B X)
  pub called : Called calls closure (alloc, (lent, tt)) (answer, (left, tt)) after
  pub begins : lent.now ≡ request
  pub ends : left.now ≡ seen

-- the layer with this validator
abbrev pub gate_layer : {T : Type 0} → T → ValidateRequestHeaderLayer T
gate_layer validate = record { validate = validate }

-- the service with this validator
abbrev pub gate_service : {S T : Type 0} → S → T → ValidateRequestHeader S T
gate_service inner validate = record { inner = inner; validate = validate }

-- once the borrow r ends, the service has the inner one that was left
abbrev pub LendsGateInner : (S T : RattleType) → MutBor (ValidateRequestHeader S.Denot T.Denot) → MutBor S.Denot → Fml
LendsGateInner S T s r = Lends (gate_row S T) S s r (λ w. record s.now { inner = w })

-- the inner service and the validator may be called, and what a validator that may be called leaves and gives may be abandoned
pub record GateMay {S V B P X : Type 0} (may : S → Type 0) (validate_may : V → Type 0) (validates : Validates V B P X)
    (request_body_may : B → Type 0) (refusal_body_may : P → Type 0) (s : ValidateRequestHeader S V) : Type 0 where
  pub inner : may s.inner
  pub validate : validate_may s.validate
  pub request_may : (old : V) (req : Request B X) (answer : Verdict P X) (new : V) (seen : Request B X) →
      validate_may old → request_body_may req.body → validates old req answer new seen → request_body_may seen.body
  pub refusal_may : (old : V) (req : Request B X) (r : Response P X) (new : V) (seen : Request B X) →
      validate_may old → request_body_may req.body → validates old req (Ok (Err r)) new seen → refusal_body_may r.body

-- the future over an inner one
abbrev pub passing : {F P X : Type 0} → F → ResponseFuture F P X
passing future = record { kind = Future future }

-- the future of a refusal
abbrev pub refusing : {F P X : Type 0} → Response P X → ResponseFuture F P X
refusing refusal = record { kind = Error (Some refusal) }

-- the request's body is abandoned, and the future has the refusal; where that finds no memory, the body of the refusal is abandoned too
abbrev pub RefusedBy : {F B P X : Type 0} → Abandons B → Abandons P → B → Response P X → Recorded → Moment → Result (ResponseFuture F P X) NoMemory → Recorded → Type 0
RefusedBy abandons body_abandons body refusal was m (Ok f) now = abandons body was m (Ok tt) now × (f ≡ refusing refusal)
RefusedBy abandons body_abandons body refusal was m (Err e) now = (between : Recorded) × abandons body was m (Err e) between × Abandoned body_abandons refusal.body between m now

module _ {S V B P X F : Type 0} (calls : Calls S (Request B X) F) (validates : Validates V B P X) (abandons : Abandons B) (body_abandons : Abandons P) where
  -- what comes of the request that the validator left: the inner service is called where it passes, and else stays as it was
  abbrev pub Follows : Verdict P X → S → Request B X → Recorded → Moment → Result (ResponseFuture F P X) NoMemory → S → Recorded → Type 0
  Follows (Ok (Ok u)) old seen was m answer new now = CallsOver calls (λ given f. f ≡ passing given) old seen was m answer new now
  Follows (Ok (Err refusal)) old seen was m answer new now = RefusedBy abandons body_abandons seen.body refusal was m answer now × (new ≡ old)
  Follows (Err e) old seen was m answer new now = (answer ≡ Err e) × Abandoned abandons seen.body was m now × (new ≡ old)

  -- the validator judges the request, and the inner call or the refusal follows
  pub record GateCalls (old : ValidateRequestHeader S V) (req : Request B X) (was : Recorded) (m : Moment)
      (answer : Result (ResponseFuture F P X) NoMemory) (new : ValidateRequestHeader S V) (now : Recorded) : Type 0 where
    pub verdict : Verdict P X
    pub seen : Request B X
    pub validated : validates old.validate req verdict new.validate seen
    pub follows : Follows verdict old.inner seen was m answer new.inner now

-- the inner future, or the refusal's body, may be polled and abandoned
abbrev pub GateKindMay : {F P X : Type 0} → (F → Type 0) → (P → Type 0) → Kind F P X → Type 0
GateKindMay may body_may (Future f) = may f
GateKindMay may body_may (Error refusal) = IfSome refusal (λ r. body_may r.body)

-- the inner future may be polled, or the refusal is still there
abbrev pub GateKindLive : {F P X : Type 0} → (F → Type 0) → Kind F P X → Type 0
GateKindLive live (Future f) = live f
GateKindLive live (Error refusal) = IsSome refusal

-- the inner answer, or the refusal, once
abbrev pub GateKindPolls : {F P X E : Type 0} → Polls F (Result (Response P X) E) → Polls (Kind F P X) (Result (Response P X) E)
GateKindPolls polls (Future f) was m answer (Future g) now = polls f was m answer g now
GateKindPolls polls (Future f) was m answer (Error r) now = ⊥
GateKindPolls polls (Error (Some refusal)) was m answer (Error None) now = (answer ≡ Ok (Ready (Ok refusal))) × (now ≡ was)
GateKindPolls polls (Error (Some refusal)) was m answer (Error (Some r)) now = ⊥
GateKindPolls polls (Error (Some refusal)) was m answer (Future g) now = ⊥
GateKindPolls polls (Error None) was m answer new now = ⊥

-- the inner answer, or the refusal, which is taken and records nothing
abbrev pub GatePolls : {F P X E : Type 0} → Polls F (Result (Response P X) E) → Polls (ResponseFuture F P X) (Result (Response P X) E)
GatePolls polls old was m answer new now = GateKindPolls polls old.kind was m answer new.kind now

-- the inner future, or the refusal's body, is abandoned
abbrev pub GateKindAbandons : {F P X : Type 0} → Abandons F → Abandons P → Abandons (Kind F P X)
GateKindAbandons abandons body_abandons (Future f) was m answer now = abandons f was m answer now
GateKindAbandons abandons body_abandons (Error refusal) was m answer now = AbandonsIfAny (λ r was m answer now. body_abandons r.body was m answer now) refusal was m answer now
