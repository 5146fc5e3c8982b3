-- `CatchPanic` answers as its inner future, and for its panics as its handler.
use Rattle.std.proofs.Common.{◌≡◌, ℕ, ◌<◌, List, [], ◌∷◌, length, Option, Some, None, Ok, Err, Result, ap, ◌∙◌, subst, ⊎_elim, inl, inr}
use Rattle.std.specs.Prelude.{⊤, codes, IsSome}
use Rattle.life_core.proofs.Growth.{adds_one, adds_then}
use Rattle.life_core.specs.History.{Adds, BodyHistory, FutureHistory, FutureFollows, Said, Waits, Gives, Fails, Where, Waiting, Answered, IsSaid, where_after, abandoned_at, ServiceFollows}
use Rattle.life_core.specs.Calls.{Polls, Abandons, Calls}
use Rattle.life_core.specs.Message.{IsText}
use Rattle.life_core.specs.Moment.{Moment}
use Rattle.life_core.specs.OneChunk.{TellsChunk, FullStands, BoxStands}
use Rattle.life_core.specs.Recorded.{Recorded}
use Rattle.life_core.specs.declared.body.boxed.UnsyncBoxBody.{UnsyncBoxBody}
use Rattle.life_core.specs.declared.body.boxed.UnsyncBoxBody.TheVariants.{Inner, Panic, Empty}
use Rattle.life_core.specs.declared.event.Event.{Event}
use Rattle.life_core.specs.declared.fault.Fault.{Fault}
use Rattle.life_core.specs.declared.fault.Fault.TheVariants as fault
use Rattle.life_core.specs.declared.fault.PanicText.{PanicText}
use Rattle.life_core.specs.declared.message.Request.{Request}
use Rattle.life_core.specs.declared.message.Response.{Response}
use Rattle.life_core.specs.declared.message.ResponseHead.{ResponseHead}
use Rattle.life_core.specs.declared.poll.Poll.{Poll}
use Rattle.life_core.specs.declared.poll.Poll.TheVariants.{Ready, Pending}
use Rattle.life_core.specs.declared.recorder.NoMemory.{NoMemory}
use Rattle.life_limit.specs.Catch.{Handles, HandlerBody, CatchCalls, CatchPolls, CatchCatches, CatchKindAbandons, CatchKindPolls, CatchInnerBody, CatchInnerReplies, DefaultHandles, PanickedBy, panic_record, panicked_future}
use Rattle.life_limit.specs.History.{CatchStands, CatchServes, Watches, KeepsUntil, caught, with_panic, catch_history}
use Rattle.life_limit.specs.declared.catch_panic.future.Kind.{Kind}
use Rattle.life_limit.specs.declared.catch_panic.future.Kind.TheVariants as kind
use Rattle.life_limit.specs.declared.catch_panic.future.ResponseFuture.{ResponseFuture}
use Rattle.life_limit.specs.declared.catch_panic.service.CatchPanic.{CatchPanic}

-- a handler that is kept so answers every panic with a head tied to this one and a body of this plan, and records this
pub record HandlerFollows {H P T Q X : Type 0} (handles : Handles T Q X) (Keeps : T → Type 0) (Heads : H → ResponseHead X → Type 0) (Stands : P → Q → List ℕ → Type 0)
    (head : H) (plan : P) (fired : PanicText → List Event) : Type 0 where
  pub responds : (old : T) (text : PanicText) (was : Recorded) (r : Response Q X) (new : T) (now : Recorded) →
      Keeps old → handles old text was (Ok r) new now → Heads head r.head × Stands plan r.body [] × Adds was now (fired text)

module _ {H P F T B Q X E D : Type 0} (polls : Polls F (Result (Response B X) (Fault E))) (abandons : Abandons F) (handles : Handles T Q X) (Keeps : T → Type 0) (Heads : H → ResponseHead X → Type 0)
    (panic_head : H) (plan : P) (fired : PanicText → List Event)
    (Stands : F → Where → Type 0) (BodyStands : P → B → List ℕ → Type 0) (PanicStands : P → Q → List ℕ → Type 0) (hb : P → BodyHistory (List ℕ) D) (h : FutureHistory H P (Fault E))
    (handler : HandlerFollows handles Keeps Heads PanicStands panic_head plan fired)
    (inner : FutureFollows polls abandons Heads Stands BodyStands h) where
  abbrev BS : P → UnsyncBoxBody B Q → List ℕ → Type 0
  BS = BoxStands hb BodyStands PanicStands

  abbrev Reply : Type 0
  Reply = Poll (Result (Response (UnsyncBoxBody B Q) X) E)

  -- an answer, by what the inner one says and by what it records
  abbrev Steps : List ℕ → Recorded → ℕ → Reply → F → Recorded → Type 0
  Steps past was t a g now =
      IsSaid Heads BS (caught panic_head plan (h.says past t)) a × Adds was now (with_panic fired (h.says past t) (h.events past t)) × Stands g (where_after past t a)

  gave : (s : Said H P (Fault E)) (es : List Event) (head : ResponseHead X) (b : B) (was now : Recorded) → IsSaid Heads BodyStands s (Ready (Ok (record { head = head; body = b }))) → Adds was now es →
      IsSaid Heads BS (caught panic_head plan s) (Ready (Ok (record { head = head; body = Inner b }))) × Adds was now (with_panic fired s es)
  gave Waits es head b was now m g = elim m [ ]
  gave (Gives k p) es head b was now m g = (m, g)
  gave (Fails x) es head b was now m g = elim m [ ]

  failed : (s : Said H P (Fault E)) (es : List Event) (x : E) (was now : Recorded) → IsSaid Heads BodyStands s (Ready (Err (fault.Err x))) → Adds was now es →
      IsSaid Heads BS (caught panic_head plan s) (Ready (Err x)) × Adds was now (with_panic fired s es)
  failed Waits es x was now m g = elim m [ ]
  failed (Gives k p) es x was now m g = elim m [ ]
  failed (Fails (fault.Panicked text)) es x was now m g = absurd (cc m)
  failed (Fails (fault.Err y)) es x was now m g = (err_is m, g)
    where
      err_is : ◌≡◌ {A = Fault E} (fault.Err x) (fault.Err y) → x ≡ y
      err_is e = cc

  waited : (s : Said H P (Fault E)) (es : List Event) (was now : Recorded) → IsSaid Heads BodyStands s Pending → Adds was now es →
      IsSaid Heads BS (caught panic_head plan s) Pending × Adds was now (with_panic fired s es)
  waited Waits es was now m g = (tt, g)
  waited (Gives k p) es was now m g = elim m [ ]
  waited (Fails x) es was now m g = elim m [ ]

  -- a panic, and then the handler's response
  panicked : (s : Said H P (Fault E)) (es : List Event) (text : PanicText) (a : Reply) (was between now : Recorded) → IsSaid Heads BodyStands s (Ready (Err (fault.Panicked text))) → Adds was between es →
      IsSaid Heads BS (Gives panic_head plan) a → Adds between now (fired text) → IsSaid Heads BS (caught panic_head plan s) a × Adds was now (with_panic fired s es)
  panicked Waits es text a was between now m g r f = elim m [ ]
  panicked (Gives k p) es text a was between now m g r f = elim m [ ]
  panicked (Fails (fault.Panicked other)) es text a was between now m g r f =
      (r, adds_then was between now es (fired other) g (subst (λ t. Adds between now (fired t)) (text_is m) f))
    where
      text_is : ◌≡◌ {A = Fault E} (fault.Panicked text) (fault.Panicked other) → text ≡ other
      text_is e = cc
  panicked (Fails (fault.Err x)) es text a was between now m g r f = absurd (cc m)

  -- the handler's response
  handled : (old : T) (text : PanicText) (was : Recorded) (head : ResponseHead X) (body : UnsyncBoxBody B Q) (new : T) (now : Recorded) → Keeps old → HandlerBody handles old text was head body new now →
      IsSaid {E = E} Heads BS (Gives panic_head plan) (Ready (Ok (record { head = head; body = body }))) × Adds was now (fired text)
  handled old text was head (Inner b) new now k d = elim d [ ]
  handled old text was head (Panic q) new now k d = let r = handler.responds old text was (record { head = head; body = q }) new now k d in ((r.0, r.1), r.2)
  handled old text was head Empty new now k d = elim d [ ]

  passes : (past : List ℕ) (f : F) (was : Recorded) (m : Moment) (a : Reply) (new : F) (now : Recorded) →
      Stands f (Waiting past) → CatchInnerReplies polls handles f was m (Ok a) new now → Steps past was m.now a new now
  passes past f was m (Ready (Ok r)) new now s d = by_body r.head r.body d
    where
      by_body : (head : ResponseHead X) (body : UnsyncBoxBody B Q) → CatchInnerBody polls handles f was m head body new now → Steps past was m.now (Ready (Ok (record { head = head; body = body }))) new now
      by_body head (Inner b) d = let i = inner.poll past f was m _ new now s d in let g = gave (h.says past m.now) (h.events past m.now) head b was now i.answer i.adds in (g.0, g.1, i.stands)
      by_body head (Panic q) d = elim d [ ]
      by_body head Empty d = elim d [ ]
  passes past f was m (Ready (Err x)) new now s d =
      let i = inner.poll past f was m _ new now s d in let g = failed (h.says past m.now) (h.events past m.now) x was now i.answer i.adds in (g.0, g.1, i.stands)
  passes past f was m Pending new now s d =
      let i = inner.poll past f was m _ new now s d in let g = waited (h.says past m.now) (h.events past m.now) was now i.answer i.adds in (g.0, g.1, i.stands)

  catches : (past : List ℕ) (f : F) (handler : T) (was : Recorded) (m : Moment) (a : Reply) (new : F) (after : T) (now : Recorded) →
      Keeps handler → Stands f (Waiting past) → CatchCatches polls handles f handler was m (Ok a) new after now → Steps past was m.now a new now × KeepsUntil Keeps after (where_after past m.now a)
  catches past f handler was m (Ready (Ok r)) new after now k s d =
      let i = inner.poll past f was m _ new d.between s d.inner in
      let x = handled handler d.text d.between r.head r.body after now k d.handled in
      let g = panicked (h.says past m.now) (h.events past m.now) d.text (Ready (Ok r)) was d.between now i.answer i.adds x.0 x.1 in
      ((g.0, g.1, i.stands), tt)
  catches past f handler was m (Ready (Err x)) new after now k s d = absurd d.handled
  catches past f handler was m Pending new after now k s d = absurd d.handled

  until : (past : List ℕ) (t : ℕ) (a : Reply) (handler : T) → Keeps handler → KeepsUntil Keeps handler (where_after past t a)
  until past t (Ready x) handler k = tt
  until past t Pending handler k = k

  abbrev Goes : List ℕ → Recorded → ℕ → Reply → Kind F → T → Recorded → Type 0
  Goes past was t a new after now = IsSaid Heads BS (caught panic_head plan (h.says past t)) a × Adds was now (with_panic fired (h.says past t) (h.events past t)) × Watches Keeps Stands new after (where_after past t a)

  step : (past : List ℕ) (f : Kind F) (handler : T) (was : Recorded) (m : Moment) (a : Reply) (new : Kind F) (after : T) (now : Recorded) →
      Watches Keeps Stands f handler (Waiting past) → CatchKindPolls polls handles f handler was m (Ok a) new after now → Goes past was m.now a new after now
  step past (kind.Future f) handler was m a (kind.Future g) after now s (inl d) = let r = passes past f was m a g now s.1 d.0 in (r.0, r.1, (until past m.now a after (rw d.1 s.0), r.2))
  step past (kind.Future f) handler was m a (kind.Future g) after now s (inr d) = let r = catches past f handler was m a g after now s.0 s.1 d in (r.0.0, r.0.1, (r.1, r.0.2))
  step past (kind.Future f) handler was m a (kind.Panicked text) after now s d = elim d [ ]
  step past (kind.Panicked text) handler was m a new after now s d = elim s [ ]

  abandoned_by : (w : Where) (f : Kind F) (handler : T) (was : Recorded) (m : Moment) (u : Unit) (now : Recorded) →
      Watches Keeps Stands f handler w → CatchKindAbandons abandons f was m (Ok u) now → Adds was now (abandoned_at (catch_history fired panic_head plan h).abandoned w m.now)
  abandoned_by (Waiting past) (kind.Future f) handler was m u now s d = inner.abandoned (Waiting past) f was m u now s.1 d
  abandoned_by Answered (kind.Future f) handler was m u now s d = inner.abandoned Answered f was m u now s.1 d
  abandoned_by w (kind.Panicked text) handler was m u now s d = elim s [ ]

  refused_by : (w : Where) (f : Kind F) (handler : T) (was : Recorded) (m : Moment) (e : NoMemory) (now : Recorded) →
      Watches Keeps Stands f handler w → CatchKindAbandons abandons f was m (Err e) now → was.spare < length (abandoned_at (catch_history fired panic_head plan h).abandoned w m.now)
  refused_by (Waiting past) (kind.Future f) handler was m e now s d = inner.refused (Waiting past) f was m e now s.1 d
  refused_by Answered (kind.Future f) handler was m e now s d = inner.refused Answered f was m e now s.1 d
  refused_by w (kind.Panicked text) handler was m e now s d = elim s [ ]

  pub catch_follows : FutureFollows (CatchPolls polls handles) (λ f. CatchKindAbandons abandons f.kind) Heads (CatchStands Keeps Stands) BS (catch_history fired panic_head plan h)
  catch_follows = record {
    poll = λ past f was m a new now s d. let r = step past f.kind f.panic_handler was m a new.kind new.panic_handler now s d in record { answer = r.0; adds = r.1; stands = r.2 };
    abandoned = λ w f was m u now s d. abandoned_by w f.kind f.panic_handler was m u now s d;
    refused = λ w f was m e now s d. refused_by w f.kind f.panic_handler was m e now s d;
  }

-- no text is kept before a call, and none after it
module _ {S T Q X F : Type 0} (calls : Calls S (Request Q X) F) (abandons : Abandons Q) (Asks : Request Q X → Type 0) (Keeps : T → Type 0) (Serves : S → Type 0) (Stands : ℕ → F → Where → Type 0) (es : List Event)
    (inner : ServiceFollows calls Asks Serves Stands es) where
  serves_on : (s new : CatchPanic S T) → CatchServes Keeps Serves s → new ≡ record s { inner = new.inner } → Serves new.inner → CatchServes Keeps Serves new
  serves_on s new k same i = record { none_kept = ap (λ x. x.kept) same ∙ k.none_kept; handler = rw (ap (λ x. x.panic_handler) same) k.handler; inner = i }

  not_told : (o : Option PanicText) → o ≡ None → IsSome o → ⊥
  not_told None e x = absurd (cc x)
  not_told (Some text) e x = absurd (cc e)

  stays : (s : CatchPanic S T) (req : Request Q X) (was : Recorded) (m : Moment) (e : NoMemory) (new : CatchPanic S T) (now : Recorded) →
      CatchServes Keeps Serves s → CatchCalls {F = F} calls abandons s req was m (Err e) new now → CatchServes Keeps Serves new
  stays s req was m e new now k c = ⊎_elim
      (λ d. serves_on s new k d.same (inner.refused s.inner req was m e new.inner now k.inner d.inner))
      (λ d. rw d.same k) c

  pub catch_serves : ServiceFollows (CatchCalls calls abandons) Asks (CatchServes Keeps Serves) (λ t. CatchStands Keeps (Stands t)) es
  catch_serves = record {
    call = λ s req was m f new now q k c. ⊎_elim
        (λ d. let i = inner.call s.inner req was m d.given new.inner now q k.inner d.inner in
        (serves_on s new k d.same i.0, rw d.future (k.handler, i.1), i.2))
        (λ d. absurd (not_told s.kept k.none_kept d.is_kept)) c;
    refused = stays;
  }

module _ {S T Q X F : Type 0} (calls : Calls S (Request Q X) F) (abandons : Abandons Q) (Keeps : T → Type 0) (Serves : S → Type 0) (Any : ℕ → F → Where → Type 0) (es : List Event)
    (inner : ServiceFollows calls (λ req. ⊤) Serves Any es) where
  -- whatever is asked, the service serves on as before
  pub catch_keeps : ServiceFollows (CatchCalls calls abandons) (λ req. ⊤) (CatchServes Keeps Serves) (λ t (f : ResponseFuture F T) (w : Where). ⊤) es
  catch_keeps = record {
    call = λ s req was m f new now q k c. let i = (catch_serves calls abandons (λ req. ⊤) Keeps Serves Any es inner).call s req was m f new now tt k c in (i.0, tt, i.2);
    refused = stays calls abandons (λ req. ⊤) Keeps Serves Any es inner;
  }

-- the default handler: 500 with its text, and the panic recorded
module _ {H P X D : Type 0} (is_ext : X → Type 0) (Heads : H → ResponseHead X → Type 0) (panic_head : H) (heads : (head : ResponseHead X) → IsText is_ext 500 head → Heads panic_head head)
    (hb : P → BodyHistory (List ℕ) D) (plan : P) (told : TellsChunk (codes "Service panicked") (hb plan)) where
  pub panic_handler_follows : HandlerFollows (DefaultHandles is_ext) (λ handler. ⊤) Heads (FullStands hb) panic_head plan (λ text. panic_record text ∷ [])
  panic_handler_follows = record {
    responds = λ old text was r new now k d. (heads r.head d.1, rw d.2 told, adds_one was now _ d.0);
  }

-- a call that answers a panic: the body is abandoned, and the future has the text, or all stays as it was
pub catch_panicked : {S T Q X F : Type 0} (calls : Calls S (Request Q X) F) (abandons : Abandons Q) (old : CatchPanic S T) (req : Request Q X) (was : Recorded) (m : Moment)
    (handler : T) (made : Result (ResponseFuture F T) NoMemory) (kept : Option PanicText) (now : Recorded) → IsSome old.kept → handler ≡ old.panic_handler →
    PanickedBy abandons req.body was m old.kept handler made kept now → CatchCalls calls abandons old req was m made (record old { kept = kept }) now
catch_panicked calls abandons old req was m handler (Ok f) kept now is same p = inr (record {
  is_kept = is;
  abandoned = p.0;
  future = p.1 ∙ ap (λ h. panicked_future old.kept h) same;
  same = ap (λ k. record old { kept = k }) p.2;
})
catch_panicked calls abandons old req was m handler (Err e) kept now is same p = inr (record {
  abandoned = (Err e, p.0);
  same = ap (λ k. record old { kept = k }) p.1;
})
