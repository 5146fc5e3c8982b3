-- `Timeout` answers by its timer first, and else as its inner future.
use Rattle.std.proofs.Common.{◌≡◌, ℕ, ◌<◌, List, [], length, Bool, true, false, Option, Some, None, Ok, Err, Result, ap, ap₂, ◌∙◌, subst}
use Rattle.std.specs.Prelude.{if◌then◌else◌}
use Rattle.life_core.specs.Timer.{due}
use Rattle.life_core.specs.Calls.{Polls, Abandons, Calls, AbandonsIfAny, PollsWithin}
use Rattle.life_core.specs.Message.{IsBare}
use Rattle.life_core.specs.Moment.{Moment}
use Rattle.life_core.specs.Recorded.{Recorded}
use Rattle.life_core.specs.declared.event.Event.{Event}
use Rattle.life_core.specs.declared.message.Response.{Response}
use Rattle.life_core.specs.declared.message.ResponseHead.{ResponseHead}
use Rattle.life_core.specs.declared.poll.Poll.{Poll}
use Rattle.life_core.specs.declared.poll.Poll.TheVariants.{Ready, Pending}
use Rattle.life_core.specs.declared.recorder.NoMemory.{NoMemory}
use Rattle.life_core.specs.declared.clock.Timer.{Timer}
use Rattle.life_core.specs.History.{Adds, FutureHistory, FutureFollows, Gives, Where, Waiting, Answered, IsSaid, where_after, abandoned_at, ServiceFollows}
use Rattle.life_core.proofs.Growth.{adds_none}
use Rattle.life_time.specs.declared.timeout.service.ResponseFuture.{ResponseFuture}
use Rattle.life_time.specs.Timeout.{TimeoutCalls, TimeoutPolls, DuePolls, InnerPolls}
use Rattle.life_time.specs.History.{Held, TimeoutStands, TimeoutServes, timeout_history}

module _ {H P F B X E : Type 0} (polls : Polls F (Result (Response B X) E)) (abandons : Abandons F) (is_body : B → Type 0) (is_ext : X → Type 0) (Heads : H → ResponseHead X → Type 0)
    (timer : Timer) (status : ℕ) (late : H) (heads : (head : ResponseHead X) → IsBare is_ext status head → Heads late head)
    (Stands : F → Where → Type 0) (BodyStands : P → B → List ℕ → Type 0) (h : FutureHistory H P E)
    (p : P) (default : (b : B) → is_body b → BodyStands p b [])
    (inner : FutureFollows polls abandons Heads Stands BodyStands h) where
  Here : ResponseFuture F → Where → Type 0
  Here f w = TimeoutStands timer status Stands f w

  -- the test, with its outcome
  abbrev Steps : Bool → List ℕ → Recorded → Moment → Poll (Result (Response B X) E) → ResponseFuture F → Recorded → Type 0
  Steps b past was m a new now =
      IsSaid Heads BodyStands (if b then Gives late p else h.says past m.now) a
      × Adds was now (if b then h.abandoned past m.now else h.events past m.now)
      × TimeoutStands timer status Stands new (where_after past m.now a)

  abandoned_any : (past : List ℕ) (f : Option F) (was : Recorded) (m : Moment) (u : Unit) (now : Recorded) → Held Stands f (Waiting past) → AbandonsIfAny abandons f was m (Ok u) now → Adds was now (h.abandoned past m.now)
  abandoned_any past None was m u now s g = elim s [ ]
  abandoned_any past (Some f) was m u now s g = inner.abandoned (Waiting past) f was m u now s g

  on_due : (past : List ℕ) (f : ResponseFuture F) (was : Recorded) (m : Moment) (a : Poll (Result (Response B X) E)) (new : ResponseFuture F) (now : Recorded) →
      TimeoutStands timer status Stands f (Waiting past) → DuePolls abandons is_body is_ext f was m (Ok a) new now → Steps true past was m a new now
  on_due past f was m (Ready (Ok r)) new now s d = (
    (heads r.head (subst (λ x. IsBare is_ext x r.head) s.status_is d.reply.0), default r.body d.reply.1),
    abandoned_any past f.inner was m tt now s.inner d.abandoned,
    rw d.after (record { timer_is = s.timer_is; status_is = s.status_is; inner = tt }),
  )
  on_due past f was m (Ready (Err e)) new now s d = absurd d.reply
  on_due past f was m Pending new now s d = absurd d.reply

  polled : (past : List ℕ) (f g : Option F) (was : Recorded) (m : Moment) (a : Poll (Result (Response B X) E)) (now : Recorded) →
      Held Stands f (Waiting past) → PollsWithin polls f was m (Ok a) g now →
      IsSaid Heads BodyStands (h.says past m.now) a × Adds was now (h.events past m.now) × Held Stands g (where_after past m.now a)
  polled past None g was m a now s d = elim s [ ]
  polled past (Some f) None was m a now s d = elim d [ ]
  polled past (Some f) (Some g) was m a now s d = let r = inner.poll past f was m a g now s d in (r.answer, r.adds, r.stands)

  in_time : (past : List ℕ) (f : ResponseFuture F) (was : Recorded) (m : Moment) (a : Poll (Result (Response B X) E)) (new : ResponseFuture F) (now : Recorded) →
      TimeoutStands timer status Stands f (Waiting past) → InnerPolls polls f was m (Ok a) new now → Steps false past was m a new now
  in_time past f was m a new now s d = let r = polled past f.inner new.inner was m a now s.inner d.inner in (
    r.0,
    r.1,
    record { timer_is = ap (λ x. x.timer) d.same ∙ s.timer_is; status_is = ap (λ x. x.status_code) d.same ∙ s.status_is; inner = r.2 },
  )

  by_test : (b : Bool) (past : List ℕ) (f : ResponseFuture F) (was : Recorded) (m : Moment) (a : Poll (Result (Response B X) E)) (new : ResponseFuture F) (now : Recorded) →
      due f.timer.start f.timer.length m.now ≡ b → TimeoutStands timer status Stands f (Waiting past) → TimeoutPolls polls abandons is_body is_ext f was m (Ok a) new now → Steps b past was m a new now
  by_test true past f was m a new now e s d = on_due past f was m a new now s (d.on_due e)
  by_test false past f was m a new now e s d = in_time past f was m a new now s (d.in_time e)

  abandoned_held : (w : Where) (f : Option F) (was : Recorded) (m : Moment) (u : Unit) (now : Recorded) → Held Stands f w → AbandonsIfAny abandons f was m (Ok u) now → Adds was now (abandoned_at h.abandoned w m.now)
  abandoned_held (Waiting past) None was m u now s g = elim s [ ]
  abandoned_held Answered None was m u now s g = adds_none was now g.1
  abandoned_held w (Some f) was m u now s g = inner.abandoned w f was m u now s g

  refused_held : (w : Where) (f : Option F) (was : Recorded) (m : Moment) (e : NoMemory) (now : Recorded) → Held Stands f w → AbandonsIfAny abandons f was m (Err e) now → was.spare < length (abandoned_at h.abandoned w m.now)
  refused_held w None was m e now s g = absurd (cc g.0)
  refused_held w (Some f) was m e now s g = inner.refused w f was m e now s g

  pub timeout_follows : FutureFollows (TimeoutPolls polls abandons is_body is_ext) (λ f. AbandonsIfAny abandons f.inner) Heads (TimeoutStands timer status Stands) BodyStands (timeout_history timer late p h)
  timeout_follows = record {
    poll = λ past f was m a new now s d.
        let r = by_test (due timer.start timer.length m.now) past f was m a new now (ap (λ (x : Timer). due x.start x.length m.now) s.timer_is) s d in
        record { answer = r.0; adds = r.1; stands = r.2 };
    abandoned = λ w f was m u now s d. abandoned_held w f.inner was m u now s.inner d;
    refused = λ w f was m e now s d. refused_held w f.inner was m e now s.inner d;
  }

module _ {S R F : Type 0} (calls : Calls S R F) (Asks : R → Type 0) (Serves : S → Type 0) (Stands : ℕ → F → Where → Type 0) (es : List Event) (inner : ServiceFollows calls Asks Serves Stands es) where
  pub timeout_serves : (timeout status : ℕ) → ServiceFollows (TimeoutCalls calls) Asks (TimeoutServes timeout status Serves) (λ t. TimeoutStands (record { start = t; length = timeout }) status (Stands t)) es
  timeout_serves timeout status = record {
    call = λ s req was m f new now q k c. let g = c.inner in let i = inner.call s.inner req was m g.0 new.inner now q k.inner g.1 in (
      record { timeout_is = ap (λ x. x.timeout) c.same ∙ k.timeout_is; status_is = ap (λ x. x.status_code) c.same ∙ k.status_is; inner = i.0 },
      record {
        timer_is = ap₂ (λ a b. record { start = a; length = b }) g.2.start (g.2.length ∙ k.timeout_is);
        status_is = g.2.status ∙ k.status_is;
        inner = rw g.2.holds i.1;
      },
      i.2,
    );
    refused = λ s req was m e new now k c. record {
      timeout_is = ap (λ x. x.timeout) c.same ∙ k.timeout_is;
      status_is = ap (λ x. x.status_code) c.same ∙ k.status_is;
      inner = inner.refused s.inner req was m e new.inner now k.inner c.inner;
    };
  }
