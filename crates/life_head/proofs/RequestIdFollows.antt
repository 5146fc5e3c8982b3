-- `PropagateRequestId` answers as its inner future, with the id in the head; `SetRequestId` calls with the id.
use Rattle.std.proofs.Common.{◌≡◌, ℕ, List, false, Option, Some, None, Ok, Err, Result, refl, ap, ◌∙◌, ⊎_elim, ◌≢◌, option_map}
use Rattle.std.specs.Prelude.{⊤}
use Rattle.http_header.specs.FieldValue.{FieldValue}
use Rattle.http_header.specs.HeaderMap.{get, get_all}
use Rattle.life_core.proofs.Headers.{get_put, get_all_put_other}
use Rattle.life_core.specs.Header.{is_full_for}
use Rattle.life_core.specs.History.{FutureHistory, FutureFollows, PollSteps, Said, Waits, Gives, Fails, Where, Waiting, IsSaid, said_with, ServiceFollows}
use Rattle.life_core.specs.Calls.{Polls, Abandons, Calls}
use Rattle.life_core.specs.Moment.{Moment}
use Rattle.life_core.specs.Recorded.{Recorded}
use Rattle.life_core.specs.declared.event.Event.{Event}
use Rattle.life_core.specs.declared.message.Request.{Request}
use Rattle.life_core.specs.declared.message.Response.{Response}
use Rattle.life_core.specs.declared.message.ResponseHead.{ResponseHead}
use Rattle.life_core.specs.declared.poll.Poll.{Poll}
use Rattle.life_core.specs.declared.poll.Poll.TheVariants.{Ready, Pending}
use Rattle.life_core.specs.declared.recorder.NoMemory.{NoMemory}
use Rattle.life_head.specs.Ids.{Makes, id_value, marked, marked_by, tagged, tagged_by}
use Rattle.life_head.specs.Propagating.{PropagateCalls, PropagatePolls}
use Rattle.life_head.specs.Setting.{TagsBy, Tags, MakerAsked, SetCalls, SetServed}
use Rattle.life_head.specs.History.{PropagateStands, PropagateServes, SetServes, AsksWith, propagate_history, first_of}
use Rattle.life_head.specs.declared.request_id.id.RequestId.{RequestId}
use Rattle.life_head.specs.declared.request_id.propagate.PropagateRequestId.{PropagateRequestId}
use Rattle.life_head.specs.declared.request_id.propagating.PropagateRequestIdResponseFuture.{PropagateRequestIdResponseFuture}
use Rattle.life_head.specs.declared.request_id.set.SetRequestId.{SetRequestId}

-- Heads ties the inner head to what is said of it, Told the marked one; mark is what the id makes of what is said
module _ {H G P F B X E : Type 0} (polls : Polls F (Result (Response B X) E)) (abandons : Abandons F) (body_abandons : Abandons B)
    (holds : X → Option RequestId) (after : X → RequestId → X) (name : List ℕ) (id : Option FieldValue)
    (Heads : H → ResponseHead X → Type 0) (Told : G → ResponseHead X → Type 0) (mark : H → G)
    (told : (h : H) (head : ResponseHead X) → Heads h head → Told (mark h) (marked holds after name id head))
    (Stands : F → Where → Type 0) (BodyStands : P → B → List ℕ → Type 0) (h : FutureHistory H P E)
    (inner : FutureFollows polls abandons Heads Stands BodyStands h) where
  gave : (s : Said H P E) (head : ResponseHead X) (r : Response B X) → r.head ≡ marked holds after name id head →
      IsSaid Heads BodyStands s (Ready (Ok (record { head = head; body = r.body }))) → IsSaid Told BodyStands (said_with mark s) (Ready (Ok r))
  gave Waits head r k m = elim m [ ]
  gave (Gives h p) head r k m = (rw k (told h head m.0), m.1)
  gave (Fails x) head r k m = elim m [ ]

  failed : (s : Said H P E) (x : E) → IsSaid Heads BodyStands s (Ready (Err x)) → IsSaid Told BodyStands (said_with mark s) (Ready (Err x))
  failed Waits x m = elim m [ ]
  failed (Gives h p) x m = elim m [ ]
  failed (Fails y) x m = m

  waited : (s : Said H P E) → IsSaid Heads BodyStands s Pending → IsSaid Told BodyStands (said_with mark s) Pending
  waited Waits m = tt
  waited (Gives h p) m = elim m [ ]
  waited (Fails y) m = elim m [ ]

  abbrev Here : PropagateRequestIdResponseFuture F → Where → Type 0
  Here = PropagateStands name id Stands

  step : (past : List ℕ) (f : PropagateRequestIdResponseFuture F) (was : Recorded) (m : Moment) (a : Poll (Result (Response B X) E)) (new : PropagateRequestIdResponseFuture F) (now : Recorded) →
      Here f (Waiting past) → PropagatePolls polls body_abandons holds after f was m (Ok a) new now → PollSteps Told Here BodyStands (propagate_history mark h) past was m.now a new now
  step past f was m (Ready (Ok r)) new now s d = let i = inner.poll past f.inner was m _ new.inner now s.inner d.inner in record {
    answer = gave (h.says past m.now) d.head r (rw (s.name_is, s.kept_is) at d.marks) i.answer;
    adds = i.adds;
    stands = record { name_is = ap (λ x. x.header_name) d.same ∙ s.name_is; kept_is = tt; inner = i.stands };
  }
  step past f was m (Ready (Err x)) new now s d = let i = inner.poll past f.inner was m _ new.inner now s.inner d.0 in record {
    answer = failed (h.says past m.now) x i.answer;
    adds = i.adds;
    stands = record { name_is = ap (λ x. x.header_name) d.1 ∙ s.name_is; kept_is = tt; inner = i.stands };
  }
  step past f was m Pending new now s d = let i = inner.poll past f.inner was m _ new.inner now s.inner d.0 in record {
    answer = waited (h.says past m.now) i.answer;
    adds = i.adds;
    stands = record { name_is = ap (λ x. x.header_name) d.1 ∙ s.name_is; kept_is = ap (λ x. x.kept) d.1 ∙ s.kept_is; inner = i.stands };
  }

  pub propagate_follows : FutureFollows (PropagatePolls polls body_abandons holds after) (λ f. abandons f.inner) Told (PropagateStands name id Stands) BodyStands (propagate_history mark h)
  propagate_follows = record {
    poll = step;
    abandoned = λ w f was m u now s d. inner.abandoned w f.inner was m u now s.inner d;
    refused = λ w f was m e now s d. inner.refused w f.inner was m e now s.inner d;
  }

module _ {S B X F : Type 0} (calls : Calls S (Request B X) F) (abandons : Abandons B) (Asks : Request B X → Type 0) (Serves : S → Type 0) (Stands : ℕ → F → Where → Type 0) (es : List Event)
    (inner : ServiceFollows calls Asks Serves Stands es) where
  serves_on : (name : List ℕ) (s new : PropagateRequestId S) → s.header_name ≡ name → new ≡ record s { inner = new.inner } → Serves new.inner → PropagateServes name Serves new
  serves_on name s new e same k = record { name_is = ap (λ x. x.header_name) same ∙ e; inner = k }

  pub propagate_serves : (name : List ℕ) (id : Option FieldValue) → ServiceFollows (PropagateCalls calls abandons) (AsksWith name id Asks) (PropagateServes name Serves) (λ t. PropagateStands name id (Stands t)) es
  propagate_serves name id = record {
    call = λ s req was m f new now q k c. let i = inner.call s.inner req was m f.inner new.inner now q.0 k.inner c.0 in (
      serves_on name s new k.name_is c.2 i.0,
      record { name_is = c.1.name ∙ k.name_is; kept_is = c.1.value ∙ ap (λ n. get req.head.parts.headers n) k.name_is ∙ q.1; inner = i.1 },
      i.2,
    );
    refused = λ s req was m e new now k c. ⊎_elim
        (λ d. serves_on name s new k.name_is d.1 (inner.refused s.inner req was m e new.inner now k.inner d.0))
        (λ d. rw d.1 k) c;
  }

module _ {S B X F : Type 0} (calls : Calls S (Request B X) F) (abandons : Abandons B) (Serves : S → Type 0) (Any : ℕ → F → Where → Type 0) (es : List Event)
    (inner : ServiceFollows calls (λ req. ⊤) Serves Any es) where
  keeps_on : (name : List ℕ) (s new : PropagateRequestId S) → s.header_name ≡ name → new ≡ record s { inner = new.inner } → Serves new.inner → PropagateServes name Serves new
  keeps_on name s new e same k = record { name_is = ap (λ x. x.header_name) same ∙ e; inner = k }

  -- whatever is asked, the service serves on as before
  pub propagate_keeps : (name : List ℕ) → ServiceFollows (PropagateCalls calls abandons) (λ req. ⊤) (PropagateServes name Serves) (λ t (f : PropagateRequestIdResponseFuture F) (w : Where). ⊤) es
  propagate_keeps name = record {
    call = λ s req was m f new now q k c. let i = inner.call s.inner req was m f.inner new.inner now tt k.inner c.0 in (keeps_on name s new k.name_is c.2 i.0, tt, i.2);
    refused = λ s req was m e new now k c. ⊎_elim
        (λ d. keeps_on name s new k.name_is d.1 (inner.refused s.inner req was m e new.inner now k.inner d.0))
        (λ d. rw d.1 k) c;
  }

-- Keeps holds of the maker at each call; Before of the requests that come, whose ids make them requests that Asks takes
module _ {S M B X F : Type 0} (calls : Calls S (Request B X) F) (makes : Makes M B X) (holds : X → Option RequestId) (after : X → RequestId → X) (abandons : Abandons B)
    (Asks : Request B X → Type 0) (Serves : S → Type 0) (Stands : ℕ → F → Where → Type 0) (es : List Event)
    (Keeps : M → Type 0) (keeps : (maker : M) (req : Request B X) (made : Result (Option RequestId) NoMemory) (new : M) → Keeps maker → makes maker req made new → Keeps new)
    (name : List ℕ) (Before : Request B X → Type 0)
    (asks : (maker : M) (req : Request B X) (maker_new : M) (new : Request B X) → Keeps maker → Before req → Tags makes holds after name maker req (Ok tt) maker_new new → Asks new)
    (inner : ServiceFollows calls Asks Serves Stands es) where
  kept_by : (x : Option FieldValue) (at : List ℕ) (maker : M) (req : Request B X) (maker_new : M) (new : Request B X) → Keeps maker → TagsBy makes holds after x at maker req maker_new new → Keeps maker_new
  kept_by None at maker req maker_new new k t = keeps maker req (Ok t.0) maker_new k t.1
  kept_by (Some v) at maker req maker_new new k t = rw t.0 k

  kept_asked : (maker : M) (req : Request B X) (maker_new : M) → Keeps maker → MakerAsked makes holds after maker req maker_new → Keeps maker_new
  kept_asked maker req maker_new k t = ⊎_elim (λ d. rw d k) (λ d. keeps maker req d.0 maker_new k d.1) t

  served : (s : SetRequestId S M) (req : Request B X) (was : Recorded) (m : Moment) (a : Result F NoMemory) (new : SetRequestId S M) (now : Recorded) → SetServes name Keeps Serves s →
      SetServed calls makes holds after abandons s req was m a new now → Serves new.inner → SetServes name Keeps Serves new
  served s req was m a new now k d i = record {
    name_is = ap (λ x. x.header_name) d.same ∙ k.name_is;
    maker = kept_by (get req.head.parts.headers s.header_name) s.header_name s.make_request_id req new.make_request_id d.tagged k.maker d.tags;
    inner = i;
  }

  pub set_serves : ServiceFollows (SetCalls calls makes holds after abandons) Before (SetServes name Keeps Serves) Stands es
  set_serves = record {
    call = λ s req was m f new now q k c. ⊎_elim
        (λ d. let i = inner.call s.inner d.tagged was m f new.inner now (asks s.make_request_id req new.make_request_id d.tagged k.maker q (rw k.name_is at d.tags)) k.inner d.inner in
        (served s req was m (Ok f) new now k d i.0, i.1, i.2))
        (λ d. absurd (cc d.1)) c;
    refused = λ s req was m e new now k c. ⊎_elim
        (λ d. served s req was m (Err e) new now k d (inner.refused s.inner d.tagged was m e new.inner now k.inner d.inner))
        (λ d. let r = d.2 in record {
          name_is = ap (λ x. x.header_name) r.same ∙ k.name_is;
          maker = kept_asked s.make_request_id req new.make_request_id k.maker r.asked;
          inner = rw (ap (λ x. x.inner) r.same) k.inner;
        }) c;
  }

-- a request with its id, where one call of the maker can give this alone
module _ {M B X : Type 0} (makes : Makes M B X) (holds : X → Option RequestId) (after : X → RequestId → X) (name : List ℕ) (maker : M) (req : Request B X) (maker_new : M) (new : Request B X)
    (given : Option RequestId) (made_is : (made : Option RequestId) → makes maker req (Ok made) maker_new → made ≡ given) where
  tagged_as : (x : Option FieldValue) → TagsBy makes holds after x name maker req maker_new new → new ≡ tagged_by holds after x given name req
  tagged_as (Some v) t = t.1
  tagged_as None t = t.2 ∙ ap (λ made. tagged_by holds after None made name req) (made_is t.0 t.1)

  pub tagged_is : Tags makes holds after name maker req (Ok tt) maker_new new → new ≡ tagged holds after name given req
  tagged_is = tagged_as (get req.head.parts.headers name)

-- the headers of messages with an id: the first value under the name, and all values under another
module _ {X : Type 0} (holds : X → Option RequestId) (after : X → RequestId → X) (name : List ℕ) where
  marked_value_by : (x given : Option FieldValue) (head : ResponseHead X) → get head.parts.headers name ≡ x → is_full_for head.parts.headers name ≡ false →
      get (marked_by holds after x given name head).parts.headers name ≡ first_of x given
  marked_value_by (Some v) given head e room = e
  marked_value_by None None head e room = e
  marked_value_by None (Some v) head e room = get_put head.parts.headers name v room

  pub marked_value : (given : Option FieldValue) (head : ResponseHead X) → is_full_for head.parts.headers name ≡ false →
      get (marked holds after name given head).parts.headers name ≡ first_of (get head.parts.headers name) given
  marked_value given head room = marked_value_by (get head.parts.headers name) given head refl room

  marked_others_by : (x given : Option FieldValue) (other : List ℕ) (head : ResponseHead X) → name ≢ other →
      get_all (marked_by holds after x given name head).parts.headers other ≡ get_all head.parts.headers other
  marked_others_by (Some v) given other head differ = refl
  marked_others_by None None other head differ = refl
  marked_others_by None (Some v) other head differ = get_all_put_other head.parts.headers name other v differ

  pub marked_others : (given : Option FieldValue) (other : List ℕ) (head : ResponseHead X) → name ≢ other →
      get_all (marked holds after name given head).parts.headers other ≡ get_all head.parts.headers other
  marked_others given other head differ = marked_others_by (get head.parts.headers name) given other head differ

  tagged_value_by : {B : Type 0} (x : Option FieldValue) (given : Option RequestId) (req : Request B X) → get req.head.parts.headers name ≡ x → is_full_for req.head.parts.headers name ≡ false →
      get (tagged_by holds after x given name req).head.parts.headers name ≡ first_of x (option_map id_value given)
  tagged_value_by (Some v) given req e room = e
  tagged_value_by None None req e room = e
  tagged_value_by None (Some id) req e room = get_put req.head.parts.headers name (id_value id) room

  pub tagged_value : {B : Type 0} (given : Option RequestId) (req : Request B X) → is_full_for req.head.parts.headers name ≡ false →
      get (tagged holds after name given req).head.parts.headers name ≡ first_of (get req.head.parts.headers name) (option_map id_value given)
  tagged_value given req room = tagged_value_by (get req.head.parts.headers name) given req refl room

  tagged_others_by : {B : Type 0} (x : Option FieldValue) (given : Option RequestId) (other : List ℕ) (req : Request B X) → name ≢ other →
      get_all (tagged_by holds after x given name req).head.parts.headers other ≡ get_all req.head.parts.headers other
  tagged_others_by (Some v) given other req differ = refl
  tagged_others_by None None other req differ = refl
  tagged_others_by None (Some id) other req differ = get_all_put_other req.head.parts.headers name other (id_value id) differ

  pub tagged_others : {B : Type 0} (given : Option RequestId) (other : List ℕ) (req : Request B X) → name ≢ other →
      get_all (tagged holds after name given req).head.parts.headers other ≡ get_all req.head.parts.headers other
  tagged_others given other req differ = tagged_others_by (get req.head.parts.headers name) given other req differ
