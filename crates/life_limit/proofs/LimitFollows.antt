-- `RequestBodyLimit` answers as its inner future, or refuses; its body answers as the one in it.
use Rattle.std.proofs.Common.{◌≡◌, ℕ, ◌<◌, List, [], length, Bool, true, false, Option, Ok, Err, Result, refl, ap, ◌∙◌}
use Rattle.std.specs.Prelude.{⊤, codes}
use Rattle.http_body.specs.declared.frame.Frame.{Frame}
use Rattle.life_core.proofs.Growth.{adds_none}
use Rattle.life_core.specs.UnsyncBoxBody.{NeverFaults}
use Rattle.life_core.specs.Full.{FullFrames, full_ends}
use Rattle.life_core.specs.History.{Adds, BodyHistory, BodyFollows, FrameSteps, FutureHistory, FutureFollows, Said, Waits, Gives, Fails, Where, Waiting, Answered, IsSaid, where_after, abandoned_at, ServiceFollows, answers_instead, records_unless}
use Rattle.life_core.specs.Calls.{Polls, Abandons, Frames, Calls, NothingToAbandon}
use Rattle.life_core.specs.Message.{IsText}
use Rattle.life_core.specs.Moment.{Moment}
use Rattle.life_core.specs.OneChunk.{TellsChunk, FullStands}
use Rattle.life_core.specs.Recorded.{Recorded}
use Rattle.life_core.specs.declared.body.limited.Limited.{Limited}
use Rattle.life_core.specs.declared.event.Event.{Event}
use Rattle.life_core.specs.declared.message.Request.{Request}
use Rattle.life_core.specs.declared.message.Response.{Response}
use Rattle.life_core.specs.declared.message.ResponseHead.{ResponseHead}
use Rattle.life_core.specs.declared.poll.Poll.{Poll}
use Rattle.life_core.specs.declared.poll.Poll.TheVariants.{Ready, Pending}
use Rattle.life_core.specs.declared.recorder.NoMemory.{NoMemory}
use Rattle.life_limit.specs.Limit.{LimitCalls, LimitPolls, LimitKindAbandons, LimitInnerBody, LimitInnerReplies, LimitKindPolls, SaysTooLarge, LimitRefuses, LimitPasses, is_large, limited}
use Rattle.life_limit.specs.LimitBody.{LimitBodyFrames, LimitBodyAbandons, limit_body_ends}
use Rattle.life_limit.specs.History.{LimitBodyStands, LimitStands, HeldUnless, LimitServes, AsksBounded}
use Rattle.life_limit.specs.declared.limit.body.ResponseBody.{ResponseBody}
use Rattle.life_limit.specs.declared.limit.body.ResponseBody.TheVariants.{PayloadTooLarge, Body}
use Rattle.life_limit.specs.declared.limit.future.Kind.{Kind}
use Rattle.life_limit.specs.declared.limit.future.Kind.TheVariants as kind
use Rattle.life_limit.specs.declared.limit.future.ResponseFuture.{ResponseFuture}
use Rattle.life_limit.specs.declared.limit.service.RequestBodyLimit.{RequestBodyLimit}

module _ {P B E : Type 0} (frames : Frames B (List ℕ) E) (abandons : Abandons B) (ends : B → Bool) (Stands : P → B → List ℕ → Type 0) (h : P → BodyHistory (List ℕ) E)
    (inner : BodyFollows frames abandons ends Stands h) (full : BodyFollows (NeverFaults {N = ⊥} FullFrames) NothingToAbandon full_ends (FullStands h) h) where
  abbrev HereBody : P → ResponseBody B → List ℕ → Type 0
  HereBody = LimitBodyStands h Stands

  tells : (p : P) (b : ResponseBody B) (past : List ℕ) → HereBody p b past → limit_body_ends ends b ≡ (h p).ends past
  tells p (Body b) past s = inner.tells p b past s
  tells p (PayloadTooLarge b) past s = full.tells p b past s

  frame_step : (p : P) (past : List ℕ) (b : ResponseBody B) (was : Recorded) (m : Moment) (a : Poll (Option (Result (Frame (List ℕ)) E))) (new : ResponseBody B) (now : Recorded) →
      HereBody p b past → LimitBodyFrames frames b was m (Ok a) new now → FrameSteps HereBody (h p) p past was m.now a new now
  frame_step p past (Body b) was m a (Body c) now s d = let i = inner.frame p past b was m a c now s d in record { answer = i.answer; adds = i.adds; stands = i.stands }
  frame_step p past (Body b) was m a (PayloadTooLarge c) now s d = elim d [ ]
  frame_step p past (PayloadTooLarge b) was m a (Body c) now s d = elim d [ ]
  frame_step p past (PayloadTooLarge b) was m a (PayloadTooLarge c) now s d = let i = full.frame p past b was m a c now s d in record { answer = i.answer; adds = i.adds; stands = i.stands }

  abandoned : (p : P) (past : List ℕ) (b : ResponseBody B) (was : Recorded) (m : Moment) (u : Unit) (now : Recorded) →
      HereBody p b past → LimitBodyAbandons abandons b was m (Ok u) now → Adds was now ((h p).abandoned past m.now)
  abandoned p past (Body b) was m u now s d = inner.abandoned p past b was m u now s d
  abandoned p past (PayloadTooLarge b) was m u now s d = full.abandoned p past b was m u now s d

  refused : (p : P) (past : List ℕ) (b : ResponseBody B) (was : Recorded) (m : Moment) (e : NoMemory) (now : Recorded) →
      HereBody p b past → LimitBodyAbandons abandons b was m (Err e) now → was.spare < length ((h p).abandoned past m.now)
  refused p past (Body b) was m e now s d = inner.refused p past b was m e now s d
  refused p past (PayloadTooLarge b) was m e now s d = full.refused p past b was m e now s d

  pub limit_body_follows : BodyFollows (LimitBodyFrames frames) (LimitBodyAbandons abandons) (limit_body_ends ends) HereBody h
  limit_body_follows = record { tells = tells; frame = frame_step; abandoned = abandoned; refused = refused }

-- large_head and plan are those of the refusal
module _ {H P F B X E D : Type 0} (polls : Polls F (Result (Response B X) E)) (abandons : Abandons F) (is_ext : X → Type 0) (Heads : H → ResponseHead X → Type 0)
    (large_head : H) (heads : (head : ResponseHead X) → IsText is_ext 413 head → Heads large_head head)
    (Stands : F → Where → Type 0) (BodyStands : P → B → List ℕ → Type 0) (hb : P → BodyHistory (List ℕ) D)
    (plan : P) (told : TellsChunk (codes "length limit exceeded") (hb plan)) (h : FutureHistory H P E)
    (inner : FutureFollows polls abandons Heads Stands BodyStands h) where
  abbrev BS : P → ResponseBody B → List ℕ → Type 0
  BS = LimitBodyStands hb BodyStands

  gave : (s : Said H P E) (head : ResponseHead X) (b : B) → IsSaid Heads BodyStands s (Ready (Ok (record { head = head; body = b }))) → IsSaid Heads BS s (Ready (Ok (record { head = head; body = Body b })))
  gave Waits head b m = elim m [ ]
  gave (Gives g p) head b m = m
  gave (Fails x) head b m = elim m [ ]

  failed : (s : Said H P E) (x : E) → IsSaid Heads BodyStands s (Ready (Err x)) → IsSaid Heads BS s (Ready (Err x))
  failed Waits x m = elim m [ ]
  failed (Gives g p) x m = elim m [ ]
  failed (Fails y) x m = m

  waited : (s : Said H P E) → IsSaid Heads BodyStands s Pending → IsSaid Heads BS s Pending
  waited Waits m = tt
  waited (Gives g p) m = elim m [ ]
  waited (Fails y) m = elim m [ ]

  abbrev Polled : List ℕ → Recorded → Moment → Poll (Result (Response (ResponseBody B) X) E) → F → Recorded → Type 0
  Polled past was m a g now = IsSaid Heads BS (h.says past m.now) a × Adds was now (h.events past m.now) × Stands g (where_after past m.now a)

  responded : (past : List ℕ) (f g : F) (was : Recorded) (m : Moment) (head : ResponseHead X) (body : ResponseBody B) (now : Recorded) →
      Stands f (Waiting past) → LimitInnerBody polls is_ext f was m head body g now → Polled past was m (Ready (Ok (record { head = head; body = body }))) g now
  responded past f g was m head (Body b) now s d = let i = inner.poll past f was m _ g now s d in (gave (h.says past m.now) head b i.answer, i.adds, i.stands)
  responded past f g was m head (PayloadTooLarge b) now s d = elim d [ ]

  polled : (past : List ℕ) (f g : F) (was : Recorded) (m : Moment) (a : Poll (Result (Response (ResponseBody B) X) E)) (now : Recorded) →
      Stands f (Waiting past) → LimitInnerReplies polls is_ext f was m (Ok a) g now → Polled past was m a g now
  polled past f g was m (Ready (Ok r)) now s d = responded past f g was m r.head r.body now s d
  polled past f g was m (Ready (Err x)) now s d = let i = inner.poll past f was m _ g now s d in (failed (h.says past m.now) x i.answer, i.adds, i.stands)
  polled past f g was m Pending now s d = let i = inner.poll past f was m _ g now s d in (waited (h.says past m.now) i.answer, i.adds, i.stands)

  refusal : (a : Poll (Result (Response (ResponseBody B) X) E)) → SaysTooLarge is_ext (Ok a) → IsSaid Heads BS (Gives large_head plan) a
  refusal (Ready (Ok r)) d = (heads r.head d.head, rw d.body told)
  refusal (Ready (Err x)) d = elim d [ ]
  refusal Pending d = elim d [ ]

  -- by whether the request was too large, and what the future holds before and after
  abbrev Steps : Bool → List ℕ → Recorded → Moment → Poll (Result (Response (ResponseBody B) X) E) → Kind F → Recorded → Type 0
  Steps large past was m a g now =
      IsSaid Heads BS ((answers_instead large large_head plan h).says past m.now) a
      × Adds was now ((answers_instead large large_head plan h).events past m.now)
      × HeldUnless large Stands g (where_after past m.now a)

  step : (large : Bool) (past : List ℕ) (f g : Kind F) (was : Recorded) (m : Moment) (a : Poll (Result (Response (ResponseBody B) X) E)) (now : Recorded) →
      HeldUnless large Stands f (Waiting past) → LimitKindPolls polls is_ext f was m (Ok a) g now → Steps large past was m a g now
  step true past kind.PayloadTooLarge kind.PayloadTooLarge was m a now s d = (refusal a d.0, adds_none was now d.1, tt)
  step true past kind.PayloadTooLarge (kind.Future g) was m a now s d = elim d [ ]
  step true past (kind.Future f) g was m a now s d = elim s [ ]
  step false past kind.PayloadTooLarge g was m a now s d = elim s [ ]
  step false past (kind.Future f) kind.PayloadTooLarge was m a now s d = elim d [ ]
  step false past (kind.Future f) (kind.Future g) was m a now s d = polled past f g was m a now s d

  abandoned_by : (large : Bool) (w : Where) (f : Kind F) (was : Recorded) (m : Moment) (u : Unit) (now : Recorded) →
      HeldUnless large Stands f w → LimitKindAbandons abandons f was m (Ok u) now → Adds was now (abandoned_at (answers_instead large large_head plan h).abandoned w m.now)
  abandoned_by true (Waiting past) kind.PayloadTooLarge was m u now s d = adds_none was now d.1
  abandoned_by true Answered kind.PayloadTooLarge was m u now s d = adds_none was now d.1
  abandoned_by true w (kind.Future f) was m u now s d = elim s [ ]
  abandoned_by false w kind.PayloadTooLarge was m u now s d = elim s [ ]
  abandoned_by false w (kind.Future f) was m u now s d = inner.abandoned w f was m u now s d

  refused_by : (large : Bool) (w : Where) (f : Kind F) (was : Recorded) (m : Moment) (e : NoMemory) (now : Recorded) →
      HeldUnless large Stands f w → LimitKindAbandons abandons f was m (Err e) now → was.spare < length (abandoned_at (answers_instead large large_head plan h).abandoned w m.now)
  refused_by true w kind.PayloadTooLarge was m e now s d = absurd (cc d.0)
  refused_by true w (kind.Future f) was m e now s d = elim s [ ]
  refused_by false w kind.PayloadTooLarge was m e now s d = elim s [ ]
  refused_by false w (kind.Future f) was m e now s d = inner.refused w f was m e now s d

  -- by whether the request was too large
  pub limit_follows : (large : Bool) → FutureFollows (LimitPolls polls is_ext) (λ f. LimitKindAbandons abandons f.kind) Heads (LimitStands large Stands) BS (answers_instead large large_head plan h)
  limit_follows large = record {
    poll = λ past f was m a new now s d. let r = step large past f.kind new.kind was m a now s d in record { answer = r.0; adds = r.1; stands = r.2 };
    abandoned = λ w f was m u now s d. abandoned_by large w f.kind was m u now s d;
    refused = λ w f was m e now s d. refused_by large w f.kind was m e now s d;
  }

-- quiet: to abandon a request's body records nothing
module _ {S B X F : Type 0} (calls : Calls S (Request (Limited B) X) F) (abandons : Abandons B) (Asks : Request (Limited B) X → Type 0) (Serves : S → Type 0) (Stands : ℕ → F → Where → Type 0) (es : List Event)
    (quiet : (body : B) (was : Recorded) (m : Moment) (u : Unit) (now : Recorded) → abandons body was m (Ok u) now → Adds was now [])
    (inner : ServiceFollows calls Asks Serves Stands es) where
  serves_on : (limit : ℕ) (s new : RequestBodyLimit S) → s.limit ≡ limit → new ≡ record s { inner = new.inner } → Serves new.inner → LimitServes limit Serves new
  serves_on limit s new e same k = record { limit_is = ap (λ x. x.limit) same ∙ e; inner = k }

  abbrev Given : Bool → ℕ → List Event → RequestBodyLimit S → Moment → ResponseFuture F → Recorded → Recorded → Type 0
  Given large limit es new m f was now = LimitServes limit Serves new × LimitStands large (Stands m.now) f (Waiting []) × Adds was now es

  refuses : (limit : ℕ) (s : RequestBodyLimit S) (req : Request B X) (was : Recorded) (m : Moment) (f : ResponseFuture F) (new : RequestBodyLimit S) (now : Recorded) →
      LimitServes limit Serves s → LimitRefuses calls abandons s req was m (Ok f) new now → Given true limit [] new m f was now
  refuses limit s req was m f new now k d = (rw d.same k, rw d.refused.future tt, quiet req.body was m tt now d.refused.abandoned)

  passes : (limit : ℕ) (s : RequestBodyLimit S) (req : Request B X) (was : Recorded) (m : Moment) (f : ResponseFuture F) (new : RequestBodyLimit S) (now : Recorded) →
      LimitServes limit Serves s → Asks (limited limit req) → LimitPasses calls abandons s req was m (Ok f) new now → Given false limit es new m f was now
  passes limit s req was m f new now k q d = let g = d.inner in
      let i = inner.call s.inner (limited limit req) was m g.0 new.inner now q k.inner (rw k.limit_is at g.1) in
      (serves_on limit s new k.limit_is d.same i.0, rw g.2 i.1, i.2)

  stays : (limit : ℕ) (s : RequestBodyLimit S) (req : Request B X) (was : Recorded) (m : Moment) (e : NoMemory) (new : RequestBodyLimit S) (now : Recorded) →
      LimitServes limit Serves s → LimitCalls calls abandons s req was m (Err e) new now → LimitServes limit Serves new
  stays limit s req was m e new now k c = by_test (is_large s.limit req) refl
    where
      by_test : (x : Bool) → is_large s.limit req ≡ x → LimitServes limit Serves new
      by_test true t = rw (c.above t).same k
      by_test false t = let d = c.within t in serves_on limit s new k.limit_is d.same (inner.refused s.inner (limited s.limit req) was m e new.inner now k.inner d.inner)

  large_is : (large : Bool) (limit : ℕ) (s : RequestBodyLimit S) (req : Request B X) → LimitServes limit Serves s → is_large limit req ≡ large → is_large s.limit req ≡ large
  large_is large limit s req k e = ap (λ l. is_large l req) k.limit_is ∙ e

  gives : (large : Bool) (limit : ℕ) (s : RequestBodyLimit S) (req : Request B X) (was : Recorded) (m : Moment) (f : ResponseFuture F) (new : RequestBodyLimit S) (now : Recorded) →
      AsksBounded large limit Asks req → LimitServes limit Serves s → LimitCalls calls abandons s req was m (Ok f) new now → Given large limit (records_unless large es) new m f was now
  gives true limit s req was m f new now q k c = refuses limit s req was m f new now k (c.above (large_is true limit s req k q.0))
  gives false limit s req was m f new now q k c = passes limit s req was m f new now k (q.1 refl) (c.within (large_is false limit s req k q.0))

  -- by whether the requests are too large
  pub limit_serves : (large : Bool) (limit : ℕ) → ServiceFollows (LimitCalls calls abandons) (AsksBounded large limit Asks) (LimitServes limit Serves) (λ t. LimitStands large (Stands t)) (records_unless large es)
  limit_serves large limit = record {
    call = λ s req was m f new now q k c. gives large limit s req was m f new now q k c;
    refused = λ s req was m e new now k c. stays limit s req was m e new now k c;
  }

module _ {S B X F : Type 0} (calls : Calls S (Request (Limited B) X) F) (abandons : Abandons B) (Serves : S → Type 0) (Any : ℕ → F → Where → Type 0)
    (quiet : (body : B) (was : Recorded) (m : Moment) (u : Unit) (now : Recorded) → abandons body was m (Ok u) now → Adds was now [])
    (inner : ServiceFollows calls (λ req. ⊤) Serves Any []) where
  abbrev Kept : ℕ → RequestBodyLimit S → Recorded → Recorded → Type 0
  Kept limit new was now = LimitServes limit Serves new × Adds was now []

  -- whatever is asked, the service serves on as before
  pub limit_keeps : (limit : ℕ) → ServiceFollows (LimitCalls calls abandons) (λ req. ⊤) (LimitServes limit Serves) (λ t (f : ResponseFuture F) (w : Where). ⊤) []
  limit_keeps limit = record {
    call = λ s req was m f new now q k c. let r = by_test s req was m f new now k c (is_large s.limit req) refl in (r.0, tt, r.1);
    refused = λ s req was m e new now k c. stays calls abandons (λ req. ⊤) Serves Any [] quiet inner limit s req was m e new now k c;
  }
    where
      by_test : (s : RequestBodyLimit S) (req : Request B X) (was : Recorded) (m : Moment) (f : ResponseFuture F) (new : RequestBodyLimit S) (now : Recorded) →
          LimitServes limit Serves s → LimitCalls calls abandons s req was m (Ok f) new now → (x : Bool) → is_large s.limit req ≡ x → Kept limit new was now
      by_test s req was m f new now k c true t = let r = refuses calls abandons (λ req. ⊤) Serves Any [] quiet inner limit s req was m f new now k (c.above t) in (r.0, r.2)
      by_test s req was m f new now k c false t = let r = passes calls abandons (λ req. ⊤) Serves Any [] quiet inner limit s req was m f new now k tt (c.within t) in (r.0, r.2)
