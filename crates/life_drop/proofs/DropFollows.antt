-- `OnEarlyDropService` passes all answers on; its guards fire where nothing completed them.
use Rattle.std.proofs.Common.{◌≡◌, ℕ, ◌<◌, List, [], ◌∷◌, ◌++◌, length, Bool, true, false, Option, Some, None, Ok, Err, Result, refl, ap, ◌∙◌, subst, arith, length-append, inl, inr}
use Rattle.std.specs.Prelude.{◌≤◌, if◌then◌else◌, ◌||◌, IfErr, IsSomeAnd}
use Rattle.std.specs.Result.{result_and}
use Rattle.http_body.specs.declared.frame.Frame.{Frame}
use Rattle.http_body.specs.declared.frame.Kind.{Kind}
use Rattle.http_body.specs.declared.frame.Kind.TheVariants.{Data, Trailers}
use Rattle.life_core.specs.Calls.{Polls, Abandons, Frames, Calls}
use Rattle.life_core.specs.Life.{life_after, life_on, passed_frame}
use Rattle.life_core.specs.Moment.{Moment}
use Rattle.life_core.specs.Recorded.{Recorded}
use Rattle.life_core.specs.declared.event.Event.{Event}
use Rattle.life_core.specs.declared.life.Life.{Life}
use Rattle.life_core.specs.declared.message.Request.{Request}
use Rattle.life_core.specs.declared.message.Response.{Response}
use Rattle.life_core.specs.declared.message.ResponseHead.{ResponseHead}
use Rattle.life_core.specs.declared.poll.Poll.{Poll}
use Rattle.life_core.specs.declared.poll.Poll.TheVariants.{Ready, Pending}
use Rattle.life_core.specs.declared.recorder.NoMemory.{NoMemory}
use Rattle.life_core.specs.History.{Adds, BodyHistory, BodyFollows, FrameSteps, FutureHistory, FutureFollows, PollSteps, Said, Waits, Gives, Fails, Where, Waiting, Answered, IsSaid, abandoned_at, said_under, ServiceFollows}
use Rattle.life_core.proofs.Growth.{adds_none, adds_then}
use Rattle.life_drop.specs.declared.on_early_drop.guard.OnEarlyDropGuard.{OnEarlyDropGuard}
use Rattle.life_drop.specs.declared.on_early_drop.body.OnEarlyDropBody.{OnEarlyDropBody}
use Rattle.life_drop.specs.declared.on_early_drop.future.OnEarlyDropFuture.{OnEarlyDropFuture}
use Rattle.life_drop.specs.Guard.{Drops, FiresIf, Fires, callback_of}
use Rattle.life_drop.specs.EarlyBody.{AbandonsThenFires, EarlyBodyAbandons, EarlyFrames, is_ending_frame, left_by}
use Rattle.life_drop.specs.EarlyFuture.{MakesAtResponse, EarlyPolls, EarlyAbandons}
use Rattle.life_drop.specs.EarlyService.{MakesAtCall, EarlyCalls}
use Rattle.life_drop.specs.declared.on_early_drop.service.OnEarlyDropService.{OnEarlyDropService}
use Rattle.life_drop.specs.History.{DropStands, drop_history, DropBodyStands, drop_body_history, future_guard, ended, unless_ended}

-- what a callback records where it is called
pub record CallbackFollows {C : Type 0} (drops : Drops C) (fired : C → ℕ → List Event) : Type 0 where
  pub records : (c : C) (was : Recorded) (t : ℕ) (u : Unit) (now : Recorded) → drops c t was (Ok u) now → Adds was now (fired c t)
  pub refused : (c : C) (was : Recorded) (t : ℕ) (e : NoMemory) (now : Recorded) → drops c t was (Err e) now → was.spare < length (fired c t)

-- what the guard of these records
abbrev fires : {C : Type 0} → (C → ℕ → List Event) → Option C → ℕ → List Event
fires fired None t = []
fires fired (Some c) t = fired c t

module _ {C : Type 0} (drops : Drops C) (fired : C → ℕ → List Event) (hook : CallbackFollows drops fired) where
  fires_adds : (g : Option C) (was : Recorded) (t : ℕ) (u : Unit) (now : Recorded) → FiresIf drops g t was (Ok u) now → Adds was now (fires fired g t)
  fires_adds None was t u now f = adds_none was now f.1
  fires_adds (Some c) was t u now f = hook.records c was t u now f

  fires_refused : (g : Option C) (was : Recorded) (t : ℕ) (e : NoMemory) (now : Recorded) → FiresIf drops g t was (Err e) now → was.spare < length (fires fired g t)
  fires_refused None was t e now f = absurd (cc f.0)
  fires_refused (Some c) was t e now f = hook.refused c was t e now f

  -- an inner value that records these, and then a guard
  then_adds : {S : Type 0} (abandons : Abandons S) (s : S) (g : OnEarlyDropGuard C) (was : Recorded) (m : Moment) (now : Recorded) (es : List Event) →
      ((u : Unit) (mid : Recorded) → abandons s was m (Ok u) mid → Adds was mid es) → (u : Unit) → AbandonsThenFires abandons drops s g was m (Ok u) now → Adds was now (es ++ fires fired (callback_of g) m.now)
  then_adds abandons s g was m now es inner u l = go l.abandoned l.fired l.abandoning l.firing l.answer_is
    where
      go : (a b : Result Unit NoMemory) → abandons s was m a l.between → Fires drops g m.now l.between b now → Ok u ≡ result_and a b → Adds was now (es ++ fires fired (callback_of g) m.now)
      go (Ok v) (Ok x) f h e = adds_then was l.between now es (fires fired (callback_of g) m.now) (inner v l.between f) (fires_adds (callback_of g) l.between m.now x now h)
      go (Ok v) (Err x) f h e = absurd cc
      go (Err v) b f h e = absurd cc

  then_refused : {S : Type 0} (abandons : Abandons S) (s : S) (g : OnEarlyDropGuard C) (was : Recorded) (m : Moment) (now : Recorded) (es : List Event) →
      ((u : Unit) (mid : Recorded) → abandons s was m (Ok u) mid → Adds was mid es) → ((e : NoMemory) (mid : Recorded) → abandons s was m (Err e) mid → was.spare < length es) →
      (e : NoMemory) → AbandonsThenFires abandons drops s g was m (Err e) now → was.spare < length (es ++ fires fired (callback_of g) m.now)
  then_refused abandons s g was m now es inner refused x l = go l.abandoned l.fired l.abandoning l.firing l.answer_is
    where
      go : (a b : Result Unit NoMemory) → abandons s was m a l.between → Fires drops g m.now l.between b now → Err x ≡ result_and a b → was.spare < length (es ++ fires fired (callback_of g) m.now)
      go (Ok v) (Ok y) f h e = absurd cc
      go (Ok v) (Err y) f h e = rw length-append (omega (arith, (inner v l.between f).grew.spare, fires_refused (callback_of g) l.between m.now y now h))
      go (Err v) b f h e = rw length-append (omega (arith, refused v l.between f))

  -- where the inner value records nothing and is never refused, and a callback records one event, a refusal finds no room
  module _ (once : (c : C) (t : ℕ) → length (fired c t) ≤ 1) where
    fires_once : (g : Option C) (t : ℕ) → length (fires fired g t) ≤ 1
    fires_once None t = omega arith
    fires_once (Some c) t = once c t

    pub refused_without_room : {S : Type 0} (abandons : Abandons S) →
        ((s : S) (was : Recorded) (m : Moment) (made : Result Unit NoMemory) (now : Recorded) → abandons s was m made now → (made ≡ Ok tt) × (now ≡ was)) →
        (s : S) (g : OnEarlyDropGuard C) (was : Recorded) (m : Moment) (made : Result Unit NoMemory) (now : Recorded) → AbandonsThenFires abandons drops s g was m made now → IfErr made (λ e. was.spare ≡ 0)
    refused_without_room abandons none s g was m (Ok u) now l = tt
    refused_without_room abandons none s g was m (Err e) now l =
        let r = then_refused abandons s g was m now [] (λ u mid a. adds_none was mid (none s was m (Ok u) mid a).1) (λ x mid a. absurd (cc (none s was m (Err x) mid a).0)) e l in
        let o = fires_once (callback_of g) m.now in omega (arith, r, o)

-- what a body hook gives at the response: the callback by what was begun and by the head
pub record RespondFollows {G H I X K : Type 0} (Heads : G → ResponseHead X → Type 0) (responds : MakesAtResponse H I X K) (begun : I) (given : G → K) : Type 0 where
  pub gives : (hook : H) (i : I) (g : G) (head : ResponseHead X) (made : K) (new : H) → i ≡ begun → Heads g head → responds hook i head (Ok made) new → made ≡ given g

module _ {G P F B D E X T H I C K : Type 0} (Q : Type 0) (polls : Polls F (Result (Response B X) T)) (abandons : Abandons F) (frames : Frames B D E) (body_abandons : Abandons B) (ends : B → Bool)
    (Heads : G → ResponseHead X → Type 0) (Stands : F → Where → Type 0) (BodyStands : P → B → List ℕ → Type 0) (h : FutureHistory G P T) (hb : P → BodyHistory D E)
    (responds : MakesAtResponse H I X K) (begun : I) (given : G → K) (hook : RespondFollows Heads responds begun given)
    (drops : Drops C) (callback : C) (fired : C → ℕ → List Event) (callbacks : CallbackFollows drops fired)
    (inner : FutureFollows polls abandons Heads Stands BodyStands h) (body : BodyFollows frames body_abandons ends BodyStands hb) where
  abbrev BS : G × P → OnEarlyDropBody B K → List ℕ → Type 0
  BS = DropBodyStands given hb BodyStands

  abbrev Here : OnEarlyDropFuture F C H I Q → Where → Type 0
  Here = DropStands callback begun Stands

  abbrev said : Said G P T → Said G (G × P) T
  said s = said_under (λ head p. (head, p)) s

  gave : (s : Said G P T) (r : Response (OnEarlyDropBody B K) X) (old new : H) (i : I) (made : K) → i ≡ begun → responds old i r.head (Ok made) new →
      callback_of r.body.guard ≡ (if ends r.body.inner then None else Some made) → r.body.life.done ≡ ends r.body.inner →
      IsSaid Heads BodyStands s (Ready (Ok (record { head = r.head; body = r.body.inner }))) → IsSaid Heads BS (said s) (Ready (Ok r))
  gave Waits r old new i made b k e d m = elim m [ ]
  gave (Gives g p) r old new i made b k e d m =
      (m.0, record { done_is = d ∙ body.tells p r.body.inner [] m.1; guard_is = rw (← (body.tells p r.body.inner [] m.1), ← (hook.gives old i g r.head made new b m.0 k)) e; inner = m.1 })
  gave (Fails x) r old new i made b k e d m = elim m [ ]

  failed : (s : Said G P T) (x : T) → IsSaid Heads BodyStands s (Ready (Err x)) → IsSaid Heads BS (said s) (Ready (Err x))
  failed Waits x m = elim m [ ]
  failed (Gives g p) x m = elim m [ ]
  failed (Fails y) x m = m

  waited : (s : Said G P T) → IsSaid Heads BodyStands s Pending → IsSaid Heads BS (said s) Pending
  waited Waits m = tt
  waited (Gives g p) m = elim m [ ]
  waited (Fails y) m = elim m [ ]

  some_is : {A : Type 0} {a b : A} → ◌≡◌ {A = Option A} (Some a) (Some b) → a ≡ b
  some_is e = cc

  responded : (o : Option I) (R : I → Type 0) → o ≡ Some begun → IsSomeAnd o R → (i : I) × (i ≡ begun) × R i
  responded None R e r = elim r [ ]
  responded (Some i) R e r = (i, some_is e, r)

  step : (past : List ℕ) (f : OnEarlyDropFuture F C H I Q) (was : Recorded) (m : Moment) (a : Poll (Result (Response (OnEarlyDropBody B K) X) T)) (new : OnEarlyDropFuture F C H I Q) (now : Recorded) →
      Here f (Waiting past) → EarlyPolls polls responds ends body_abandons f was m (Ok a) new now → PollSteps Heads Here BS (drop_history (fired callback) h) past was m.now a new now
  step past f was m (Ready (Ok r)) new now s d = let i = inner.poll past f.inner was m _ new.inner now s.inner d.inner in
      let k = responded f.intermediate _ s.begun_is d.callback.1.hook in record {
        answer = gave (h.says past m.now) r f.on_body_drop new.on_body_drop k.0 d.callback.0 k.1 k.2 d.callback.2 (ap (λ l. l.done) d.life) i.answer;
        adds = i.adds;
        stands = record { guard_is = d.callback.1.guard; begun_is = tt; inner = i.stands };
      }
  step past f was m (Ready (Err x)) new now s d = let i = inner.poll past f.inner was m _ new.inner now s.inner d.0 in record {
    answer = failed (h.says past m.now) x i.answer;
    adds = i.adds;
    stands = record { guard_is = ap (λ z. callback_of z.guard) d.1; begun_is = tt; inner = i.stands };
  }
  step past f was m Pending new now s d = let i = inner.poll past f.inner was m _ new.inner now s.inner d.0 in record {
    answer = waited (h.says past m.now) i.answer;
    adds = i.adds;
    stands = record { guard_is = ap (λ z. callback_of z.guard) d.1 ∙ s.guard_is; begun_is = ap (λ z. z.intermediate) d.1 ∙ s.begun_is; inner = i.stands };
  }

  future_events : (w : Where) (g : Option C) (t : ℕ) → g ≡ future_guard callback w → abandoned_at h.abandoned w t ++ fires fired g t ≡ abandoned_at (drop_history (fired callback) h).abandoned w t
  future_events (Waiting past) g t e = rw e
  future_events Answered g t e = rw e

  pub drop_follows : FutureFollows (EarlyPolls polls responds ends body_abandons) (EarlyAbandons abandons drops) Heads Here BS (drop_history (fired callback) h)
  drop_follows = record {
    poll = step;
    abandoned = λ w f was m u now s d. subst (λ es. Adds was now es) (future_events w (callback_of f.guard) m.now s.guard_is)
        (then_adds drops fired callbacks abandons f.inner f.guard was m now (abandoned_at h.abandoned w m.now) (λ v mid l. inner.abandoned w f.inner was m v mid s.inner l) u d);
    refused = λ w f was m e now s d. subst (λ es. was.spare < length es) (future_events w (callback_of f.guard) m.now s.guard_is)
        (then_refused drops fired callbacks abandons f.inner f.guard was m now (abandoned_at h.abandoned w m.now) (λ v mid l. inner.abandoned w f.inner was m v mid s.inner l) (λ x mid l. inner.refused w f.inner was m x mid s.inner l) e d);
  }

module _ {G P B D E K : Type 0} (frames : Frames B D E) (body_abandons : Abandons B) (ends : B → Bool)
    (BodyStands : P → B → List ℕ → Type 0) (hb : P → BodyHistory D E) (given : G → K) (drops : Drops K) (fired : K → ℕ → List Event) (callbacks : CallbackFollows drops fired)
    (body : BodyFollows frames body_abandons ends BodyStands hb) where
  abbrev HereBody : G × P → OnEarlyDropBody B K → List ℕ → Type 0
  HereBody = DropBodyStands given hb BodyStands

  -- an ending answer leaves a body done, and nothing undoes that
  frame_done : (life : Life) (now : ℕ) (kind : Kind D) (ended : Bool) → (life_after life now (passed_frame kind ended)).done ≡ life.done || ended
  frame_done life now (Data chunk) ended = refl
  frame_done life now (Trailers trailers) ended = refl

  always_done : (a : Bool) → true ≡ a || true
  always_done true = refl
  always_done false = refl

  never_more : (a : Bool) → a ≡ a || false
  never_more true = refl
  never_more false = refl

  done_on : (life : Life) (now : ℕ) (a : Poll (Option (Result (Frame D) E))) (ended : Bool) → (life_on life now (Ok a) ended).done ≡ life.done || is_ending_frame a ended
  done_on life now (Ready (Some (Ok f))) ended = frame_done life now f.kind ended
  done_on life now (Ready (Some (Err e))) ended = always_done life.done
  done_on life now (Ready None) ended = always_done life.done
  done_on life now Pending ended = never_more life.done

  guards : (a b : Bool) (g : Option K) → (if a || b then None else if a then None else g) ≡ (if a || b then None else g)
  guards true b g = refl
  guards false b g = refl

  guard_left : (a : Poll (Option (Result (Frame D) E))) (ended done : Bool) (g : Option K) →
      left_by (Ok a) (done || is_ending_frame a ended) (if done then None else g) ≡ (if done || is_ending_frame a ended then None else g)
  guard_left (Ready (Some (Ok f))) ended done g = guards done ended g
  guard_left (Ready (Some (Err e))) ended done g = guards done true g
  guard_left (Ready None) ended done g = guards done true g
  guard_left Pending ended done g = ap (λ x. if x then None else g) (never_more done)

  body_events : (b : Bool) (k : K) (g : Option K) (t : ℕ) → g ≡ (if b then None else Some k) → fires fired g t ≡ unless_ended b (fired k t)
  body_events true k g t e = rw e
  body_events false k g t e = rw e

  frame_step : (p : G × P) (past : List ℕ) (b : OnEarlyDropBody B K) (was : Recorded) (m : Moment) (a : Poll (Option (Result (Frame D) E))) (new : OnEarlyDropBody B K) (now : Recorded) →
      HereBody p b past → EarlyFrames frames ends b was m (Ok a) new now → FrameSteps HereBody (drop_body_history (λ g t. fired (given g) t) hb p) p past was m.now a new now
  frame_step p past b was m a new now s d = let i = body.frame p.1 past b.inner was m a new.inner now s.inner d.inner in
      let ends_is = ap (λ x. is_ending_frame x (ends new.inner)) i.answer ∙ ap (is_ending_frame ((hb p.1).frame past m.now)) (body.tells p.1 new.inner (m.now ∷ past) i.stands) in
      let done_is = ap (λ (l : Life). l.done) d.life ∙ done_on b.life m.now a (ends new.inner) ∙ ap (λ x. x || is_ending_frame a (ends new.inner)) s.done_is in record {
        answer = i.answer;
        adds = i.adds;
        stands = record {
          guard_is = d.guard ∙ ap (λ g. left_by (Ok a) new.life.done g) s.guard_is ∙ ap (λ x. left_by (Ok a) x (if ended (hb p.1) past then None else Some (given p.0))) done_is
              ∙ guard_left a (ends new.inner) (ended (hb p.1) past) (Some (given p.0))
              ∙ ap (λ x. if ended (hb p.1) past || x then None else Some (given p.0)) ends_is;
          done_is = done_is ∙ ap (λ x. ended (hb p.1) past || x) ends_is;
          inner = i.stands;
        };
      }

  pub drop_body_follows : BodyFollows (EarlyFrames frames ends) (EarlyBodyAbandons body_abandons drops) (λ b. ends b.inner) HereBody (drop_body_history (λ g t. fired (given g) t) hb)
  drop_body_follows = record {
    tells = λ p b past s. body.tells p.1 b.inner past s.inner;
    frame = frame_step;
    abandoned = λ p past b was m u now s d. subst (λ es. Adds was now ((hb p.1).abandoned past m.now ++ es)) (body_events (ended (hb p.1) past) (given p.0) (callback_of b.guard) m.now s.guard_is)
        (then_adds drops fired callbacks body_abandons b.inner b.guard was m now ((hb p.1).abandoned past m.now) (λ v mid l. body.abandoned p.1 past b.inner was m v mid s.inner l) u d);
    refused = λ p past b was m e now s d. subst (λ es. was.spare < length ((hb p.1).abandoned past m.now ++ es)) (body_events (ended (hb p.1) past) (given p.0) (callback_of b.guard) m.now s.guard_is)
        (then_refused drops fired callbacks body_abandons b.inner b.guard was m now ((hb p.1).abandoned past m.now) (λ v mid l. body.abandoned p.1 past b.inner was m v mid s.inner l) (λ x mid l. body.refused p.1 past b.inner was m x mid s.inner l) e d);
  }

-- what a hook gives at the call, by its time
pub record MakeFollows {H B X A : Type 0} (makes : MakesAtCall H B X A) (given : ℕ → A) : Type 0 where
  pub gives : (hook : H) (req : Request B X) (m : Moment) (made : A) (new : H) → makes hook req m (Ok made) new → made ≡ given m.now

made_is : {A : Type 0} (o : Option A) (a : A) (P : A → Type 0) → ((x : A) → P x → x ≡ a) → IsSomeAnd o P → o ≡ Some a
made_is None a P h s = absurd s
made_is (Some x) a P h s = ap (λ y. Some y) (h x s)

module _ {S A H F B X C I : Type 0} (calls : Calls S (Request B X) F) (abandons : Abandons B) (Wanted : Request B X → Type 0) (Serves : S → Type 0) (Stands : ℕ → F → Where → Type 0) (es : List Event)
    (makes : MakesAtCall A B X C) (callback : ℕ → C) (future_hook : MakeFollows makes callback) (starts : MakesAtCall H B X I) (begun : ℕ → I) (body_hook : MakeFollows starts begun)
    (inner : ServiceFollows calls Wanted Serves Stands es) where
  refuses : (s : OnEarlyDropService S A H) (req : Request B X) (was : Recorded) (m : Moment) (e : NoMemory) (new : OnEarlyDropService S A H) (now : Recorded) →
      Serves s.inner → EarlyCalls calls makes starts abandons s req was m (Err e) new now → Serves new.inner
  refuses s req was m e new now k (inl d) = rw d.same k
  refuses s req was m e new now k (inr (inl d)) = rw d.same k
  refuses s req was m e new now k (inr (inr d)) = inner.refused s.inner req was m e new.inner now k d.inner

  pub drop_serves : ServiceFollows (EarlyCalls calls makes starts abandons) Wanted (λ s. Serves s.inner) (λ t. DropStands (callback t) (begun t) (Stands t)) es
  drop_serves = record {
    call = λ s req was m f new now q k c. let i = inner.call s.inner req was m f.inner new.inner now q k c.inner in (
      i.0,
      record {
        guard_is = made_is (callback_of f.guard) (callback m.now) _ (λ x e. future_hook.gives s.on_future_drop req m x new.on_future_drop e) c.future_hook;
        begun_is = made_is f.intermediate (begun m.now) _ (λ x e. body_hook.gives s.on_body_drop req m x new.on_body_drop e) c.body_hook;
        inner = i.1;
      },
      i.2,
    );
    refused = refuses;
  }
