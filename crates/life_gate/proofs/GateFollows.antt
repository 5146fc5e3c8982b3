-- `ValidateRequestHeader` answers as its inner future, or refuses by its validator's judgement.
use Rattle.std.proofs.Common.{◌≡◌, ℕ, ◌<◌, List, [], length, Bool, true, false, Some, None, Ok, Err, Result, refl, ◌∙◌, subst}
use Rattle.std.specs.Prelude.{⊤}
use Rattle.life_core.proofs.Growth.{adds_none}
use Rattle.life_core.specs.History.{Adds, BodyHistory, BodyFollows, FutureHistory, FutureFollows, Where, Waiting, Answered, IsSaid, where_after, abandoned_at, ServiceFollows, answers_instead, records_unless}
use Rattle.life_core.specs.Calls.{Polls, Abandons, Frames, Calls, Reply}
use Rattle.life_core.specs.Message.{IsBare}
use Rattle.life_core.specs.Moment.{Moment}
use Rattle.life_core.specs.Recorded.{Recorded}
use Rattle.life_core.specs.declared.event.Event.{Event}
use Rattle.life_core.specs.declared.message.Request.{Request}
use Rattle.life_core.specs.declared.message.Response.{Response}
use Rattle.life_core.specs.declared.message.ResponseHead.{ResponseHead}
use Rattle.life_core.specs.declared.poll.Poll.{Poll}
use Rattle.life_core.specs.declared.poll.Poll.TheVariants.{Ready, Pending}
use Rattle.life_core.specs.declared.recorder.NoMemory.{NoMemory}
use Rattle.life_gate.specs.Gate.{Validates, GateCalls, Follows, GatePolls, GateKindPolls, GateKindAbandons}
use Rattle.life_gate.specs.Judged.{Judged, IsBareRefusal, Verdict}
use Rattle.life_gate.specs.Required.{RequiredValidates, is_refused, required_of}
use Rattle.life_gate.specs.History.{GateStands, GateKindStands, Refusal, GateServes, AsksPast, Judges}
use Rattle.life_gate.specs.declared.validate_request.future.Kind.{Kind}
use Rattle.life_gate.specs.declared.validate_request.future.Kind.TheVariants.{Future, Error}
use Rattle.life_gate.specs.declared.validate_request.future.ResponseFuture.{ResponseFuture}
use Rattle.life_gate.specs.declared.validate_request.service.ValidateRequestHeader.{ValidateRequestHeader}

abbrev responds : {B X E : Type 0} → Response B X → Reply B X E
responds r = Ok (Ready (Ok r))

same_reply : {B X E : Type 0} (q r : Response B X) → responds {E = E} q ≡ responds r → q ≡ r
same_reply q r e = cc e

-- head and plan are those of the refusal; to abandon its body before any poll records nothing
module _ {H Q F B X E D A : Type 0} (polls : Polls F (Result (Response B X) E)) (abandons : Abandons F) (frames : Frames B A D) (body_abandons : Abandons B) (ends : B → Bool)
    (Heads : H → ResponseHead X → Type 0) (Stands : F → Where → Type 0) (BodyStands : Q → B → List ℕ → Type 0) (hb : Q → BodyHistory A D)
    (head : H) (plan : Q) (h : FutureHistory H Q E)
    (silent : (t : ℕ) → (hb plan).abandoned [] t ≡ [])
    (inner : FutureFollows polls abandons Heads Stands BodyStands h) (body : BodyFollows frames body_abandons ends BodyStands hb) where
  abbrev Here : Bool → Kind F B X → Where → Type 0
  Here shut = GateKindStands Heads BodyStands head plan shut Stands

  abbrev history : Bool → FutureHistory H Q E
  history shut = answers_instead shut head plan h

  abbrev Polled : Bool → List ℕ → Recorded → Moment → Poll (Result (Response B X) E) → Kind F B X → Recorded → Type 0
  Polled shut past was m a new now =
      IsSaid Heads BodyStands ((history shut).says past m.now) a × Adds was now ((history shut).events past m.now) × Here shut new (where_after past m.now a)

  refused_poll : (past : List ℕ) (r : Response B X) (new : Kind F B X) (was : Recorded) (m : Moment) (a : Poll (Result (Response B X) E)) (now : Recorded) →
      Refusal Heads BodyStands head plan r → GateKindPolls polls (Error (Some r)) was m (Ok a) new now → Polled true past was m a new now
  refused_poll past r (Future g) was m a now s d = elim d [ ]
  refused_poll past r (Error (Some q)) was m a now s d = elim d [ ]
  refused_poll past r (Error None) was m (Ready (Ok q)) now s d = (rw (same_reply q r d.0) s, adds_none was now d.1, tt)
  refused_poll past r (Error None) was m (Ready (Err x)) now s d = absurd (cc d.0)
  refused_poll past r (Error None) was m Pending now s d = absurd (cc d.0)

  polled : (shut : Bool) (past : List ℕ) (f new : Kind F B X) (was : Recorded) (m : Moment) (a : Poll (Result (Response B X) E)) (now : Recorded) →
      Here shut f (Waiting past) → GateKindPolls polls f was m (Ok a) new now → Polled shut past was m a new now
  polled true past (Future f) new was m a now s d = elim s [ ]
  polled true past (Error None) new was m a now s d = elim s [ ]
  polled true past (Error (Some r)) new was m a now s d = refused_poll past r new was m a now s d
  polled false past (Future f) (Future g) was m a now s d = let i = inner.poll past f was m a g now s d in (i.answer, i.adds, i.stands)
  polled false past (Future f) (Error r) was m a now s d = elim d [ ]
  polled false past (Error r) new was m a now s d = elim s [ ]

  abandoned : (shut : Bool) (w : Where) (f : Kind F B X) (was : Recorded) (m : Moment) (u : Unit) (now : Recorded) →
      Here shut f w → GateKindAbandons abandons body_abandons f was m (Ok u) now → Adds was now (abandoned_at (history shut).abandoned w m.now)
  abandoned true w (Future f) was m u now s d = elim s [ ]
  abandoned true (Waiting past) (Error (Some r)) was m u now s d = subst (λ es. Adds was now es) (silent m.now) (body.abandoned plan [] r.body was m u now s.1 d)
  abandoned true Answered (Error (Some r)) was m u now s d = elim s [ ]
  abandoned true (Waiting past) (Error None) was m u now s d = elim s [ ]
  abandoned true Answered (Error None) was m u now s d = adds_none was now d.1
  abandoned false w (Future f) was m u now s d = inner.abandoned w f was m u now s d
  abandoned false w (Error r) was m u now s d = elim s [ ]

  unable : (shut : Bool) (w : Where) (f : Kind F B X) (was : Recorded) (m : Moment) (e : NoMemory) (now : Recorded) →
      Here shut f w → GateKindAbandons abandons body_abandons f was m (Err e) now → was.spare < length (abandoned_at (history shut).abandoned w m.now)
  unable true w (Future f) was m e now s d = elim s [ ]
  unable true (Waiting past) (Error (Some r)) was m e now s d = subst (λ (es : List Event). was.spare < length es) (silent m.now) (body.refused plan [] r.body was m e now s.1 d)
  unable true Answered (Error (Some r)) was m e now s d = elim s [ ]
  unable true (Waiting past) (Error None) was m e now s d = elim s [ ]
  unable true Answered (Error None) was m e now s d = absurd (cc d.0)
  unable false w (Future f) was m e now s d = inner.refused w f was m e now s d
  unable false w (Error r) was m e now s d = elim s [ ]

  -- by whether the request was refused
  pub gate_follows : (shut : Bool) →
      FutureFollows (GatePolls polls) (λ f. GateKindAbandons abandons body_abandons f.kind) Heads (GateStands shut Heads BodyStands head plan Stands) BodyStands (answers_instead shut head plan h)
  gate_follows shut = record {
    poll = λ past f was m a new now s d. let r = polled shut past f.kind new.kind was m a now s d in record { answer = r.0; adds = r.1; stands = r.2 };
    abandoned = λ w f was m u now s d. abandoned shut w f.kind was m u now s d;
    refused = λ w f was m e now s d. unable shut w f.kind was m e now s d;
  }

-- quiet: to abandon a request's body records nothing
module _ {H Q S V B P X F : Type 0} (calls : Calls S (Request B X) F) (validates : Validates V B P X) (abandons : Abandons B) (body_abandons : Abandons P)
    (Asks : Request B X → Type 0) (Serves : S → Type 0) (Stands : ℕ → F → Where → Type 0) (es : List Event)
    (Keeps : V → Type 0) (refuses : Request B X → Bool) (Heads : H → ResponseHead X → Type 0) (BodyStands : Q → P → List ℕ → Type 0) (head : H) (plan : Q)
    (quiet : (body : B) (was : Recorded) (m : Moment) (u : Unit) (now : Recorded) → abandons body was m (Ok u) now → Adds was now [])
    (judges : Judges validates Keeps refuses Heads BodyStands head plan)
    (inner : ServiceFollows calls Asks Serves Stands es) where
  abbrev Served : Bool → S → Moment → ResponseFuture F P X → Recorded → Recorded → Type 0
  Served shut new m f was now = Serves new × GateStands shut Heads BodyStands head plan (Stands m.now) f (Waiting []) × Adds was now (records_unless shut es)

  abbrev JudgedTo : Bool → Verdict P X → Type 0
  JudgedTo shut verdict = Judged (shut ≡ false) (shut ≡ true) (Refusal Heads BodyStands head plan) verdict

  gives : (shut : Bool) (verdict : Verdict P X) (s new : S) (req seen : Request B X) (was : Recorded) (m : Moment) (f : ResponseFuture F P X) (now : Recorded) →
      JudgedTo shut verdict → seen ≡ req → (shut ≡ false → Asks req) → Serves s → Follows calls validates abandons body_abandons verdict s seen was m (Ok f) new now →
      Served shut new m f was now
  gives true (Ok (Ok u)) s new req seen was m f now j e asks k d = absurd (cc j)
  gives true (Ok (Err r)) s new req seen was m f now j e asks k d = (rw d.1 k, rw d.0.1 j.1, quiet seen.body was m tt now d.0.0)
  gives false (Ok (Ok u)) s new req seen was m f now j e asks k d =
      let i = inner.call s req was m d.0 new now (asks refl) k (rw e at d.1) in (i.0, rw d.2 i.1, i.2)
  gives false (Ok (Err r)) s new req seen was m f now j e asks k d = absurd (cc j.0)
  gives true (Err x) s new req seen was m f now j e asks k d = absurd (cc d.0)
  gives false (Err x) s new req seen was m f now j e asks k d = absurd (cc d.0)

  stays : (verdict : Verdict P X) (s new : S) (seen : Request B X) (was : Recorded) (m : Moment) (e : NoMemory) (now : Recorded) →
      Serves s → Follows calls validates abandons body_abandons verdict s seen was m (Err e) new now → Serves new
  stays (Ok (Ok u)) s new seen was m e now k d = inner.refused s seen was m e new now k d
  stays (Ok (Err r)) s new seen was m e now k d = rw d.1 k
  stays (Err x) s new seen was m e now k d = rw d.2 k

  serves_on : (s : ValidateRequestHeader S V) (req : Request B X) (was : Recorded) (m : Moment) (answer : Result (ResponseFuture F P X) NoMemory) (new : ValidateRequestHeader S V) (now : Recorded) →
      GateServes Keeps Serves s → GateCalls calls validates abandons body_abandons s req was m answer new now → Serves new.inner → GateServes Keeps Serves new
  serves_on s req was m answer new now k c i = record { validate = judges.keeps s.validate req c.verdict new.validate c.seen k.validate c.validated; inner = i }

  -- by whether the requests are refused
  pub gate_serves : (shut : Bool) →
      ServiceFollows (GateCalls calls validates abandons body_abandons) (AsksPast shut refuses Asks) (GateServes Keeps Serves) (λ t. GateStands shut Heads BodyStands head plan (Stands t)) (records_unless shut es)
  gate_serves shut = record {
    call = λ s req was m f new now q k c.
        let a = rw q.0 at (judges.judged s.validate req c.verdict new.validate c.seen k.validate c.validated) in
        let e = judges.same s.validate req c.verdict new.validate c.seen k.validate c.validated in
        let r = gives shut c.verdict s.inner new.inner req c.seen was m f now a e q.1 k.inner c.follows in
        (serves_on s req was m (Ok f) new now k c r.0, r.1, r.2);
    refused = λ s req was m e new now k c. serves_on s req was m (Err e) new now k c (stays c.verdict s.inner new.inner c.seen was m e now k.inner c.follows);
  }

module _ {H Q S V B P X F : Type 0} (calls : Calls S (Request B X) F) (validates : Validates V B P X) (abandons : Abandons B) (body_abandons : Abandons P)
    (Serves : S → Type 0) (Any : ℕ → F → Where → Type 0) (Keeps : V → Type 0) (refuses : Request B X → Bool)
    (Heads : H → ResponseHead X → Type 0) (BodyStands : Q → P → List ℕ → Type 0) (head : H) (plan : Q)
    (quiet : (body : B) (was : Recorded) (m : Moment) (u : Unit) (now : Recorded) → abandons body was m (Ok u) now → Adds was now [])
    (judges : Judges validates Keeps refuses Heads BodyStands head plan)
    (inner : ServiceFollows calls (λ req. ⊤) Serves Any []) where
  gave : (verdict : Verdict P X) (s new : S) (seen : Request B X) (was : Recorded) (m : Moment) (f : ResponseFuture F P X) (now : Recorded) →
      Serves s → Follows calls validates abandons body_abandons verdict s seen was m (Ok f) new now → Serves new × Adds was now []
  gave (Ok (Ok u)) s new seen was m f now k d = let i = inner.call s seen was m d.0 new now tt k d.1 in (i.0, i.2)
  gave (Ok (Err r)) s new seen was m f now k d = (rw d.1 k, quiet seen.body was m tt now d.0.0)
  gave (Err x) s new seen was m f now k d = absurd (cc d.0)

  -- whatever is asked, the service serves on as before
  pub gate_keeps : ServiceFollows (GateCalls calls validates abandons body_abandons) (λ req. ⊤) (GateServes Keeps Serves) (λ t (f : ResponseFuture F P X) (w : Where). ⊤) []
  gate_keeps = record {
    call = λ s req was m f new now q k c.
        let r = gave c.verdict s.inner new.inner c.seen was m f now k.inner c.follows in
        (serves_on calls validates abandons body_abandons (λ req. ⊤) Serves Any [] Keeps refuses Heads BodyStands head plan quiet judges inner s req was m (Ok f) new now k c r.0, tt, r.1);
    refused = λ s req was m e new now k c.
        serves_on calls validates abandons body_abandons (λ req. ⊤) Serves Any [] Keeps refuses Heads BodyStands head plan quiet judges inner s req was m (Err e) new now k c
        (stays calls validates abandons body_abandons (λ req. ⊤) Serves Any [] Keeps refuses Heads BodyStands head plan quiet judges inner c.verdict s.inner new.inner c.seen was m e now k.inner c.follows);
  }

-- head and plan are those of a bare 403 with a default body
module _ {H Q R X : Type 0} (is_body : R → Type 0) (is_ext : X → Type 0) (name value : List ℕ)
    (Heads : H → ResponseHead X → Type 0) (BodyStands : Q → R → List ℕ → Type 0) (head : H) (plan : Q)
    (heads : (r : ResponseHead X) → IsBare is_ext 403 r → Heads head r) (bodies : (b : R) → is_body b → BodyStands plan b []) where
  answers : (Passes Fails : Type 0) (answer : Verdict R X) → Judged Passes Fails (IsBareRefusal is_body is_ext 403) answer → Judged Passes Fails (Refusal Heads BodyStands head plan) answer
  answers Passes Fails (Ok (Ok u)) j = j
  answers Passes Fails (Ok (Err r)) j = (j.0, (heads r.head j.1.head, bodies r.body j.1.body))
  answers Passes Fails (Err e) j = tt

  pub required_judges : {B : Type 0} → Judges (RequiredValidates {B = B} is_body is_ext) (λ v. v ≡ required_of name value) (λ (req : Request B X). is_refused name value req.head.parts.headers) Heads BodyStands head plan
  required_judges = record {
    keeps = λ old req answer new seen k d. d.same ∙ k;
    same = λ old req answer new seen k d. d.kept;
    judged = λ old req answer new seen k d. answers _ _ answer (rw k at d.judged);
  }
