-- `ResponseBodyDeadline` passes its future's answers on; its body answers by its timer first.
use Rattle.std.proofs.Common.{◌≡◌, ℕ, List, [], ◌∷◌, Bool, true, false, Option, Some, None, Ok, Err, Result, refl, ap, ◌∙◌}
use Rattle.http_body.specs.declared.frame.Frame.{Frame}
use Rattle.life_core.specs.Timer.{due}
use Rattle.life_core.specs.Calls.{Polls, Abandons, Frames, Calls, WrapsFaults}
use Rattle.life_core.specs.Moment.{Moment}
use Rattle.life_core.specs.Recorded.{Recorded}
use Rattle.life_core.specs.declared.event.Event.{Event}
use Rattle.life_core.specs.declared.message.Response.{Response}
use Rattle.life_core.specs.declared.message.ResponseHead.{ResponseHead}
use Rattle.life_core.specs.declared.body.BodyError.{BodyError}
use Rattle.life_core.specs.declared.body.BodyError.TheVariants.{Elapsed, LengthLimit, Inner}
use Rattle.life_core.specs.declared.poll.Poll.{Poll}
use Rattle.life_core.specs.declared.poll.Poll.TheVariants.{Ready, Pending}
use Rattle.life_core.specs.declared.clock.Timer.{Timer}
use Rattle.life_core.specs.History.{Latest, Adds, BodyHistory, BodyFollows, FrameSteps, FutureHistory, FutureFollows, PollSteps, Said, Waits, Gives, Fails, Where, Waiting, Answered, IsSaid, said_under, ServiceFollows}
use Rattle.life_core.proofs.Growth.{adds_none}
use Rattle.life_core.proofs.Timers.{undue_before}
use Rattle.life_time.specs.declared.timeout.deadline_body.DeadlineBody.{DeadlineBody}
use Rattle.life_time.specs.declared.timeout.deadline_service.ResponseBodyDeadlineFuture.{ResponseBodyDeadlineFuture}
use Rattle.life_time.specs.DeadlineBody.{DeadlineFrames, ElapsedFrames, InTimeFrames}
use Rattle.life_time.specs.DeadlineService.{DeadlineCalls, DeadlinePolls}
use Rattle.life_time.specs.History.{DeadlineStands, DeadlineServes, deadline_history, DeadlineBodyStands, deadline_body_history, undue, wrapped}

-- where the polls came in order and none is due now, none of them was
pub undue_all : (start len q : ℕ) (past : List ℕ) → Latest q past → due start len q ≡ false → undue start len past ≡ past
undue_all start len q [] l e = refl
undue_all start len q (p ∷ past) l e = rw (undue_before start len p q l.0 e) (ap (λ ps. p ∷ ps) (undue_all start len q past l.1 e))

module _ {H P F B X E : Type 0} (polls : Polls F (Result (Response B X) E)) (abandons : Abandons F) (Heads : H → ResponseHead X → Type 0)
    (Stands : F → Where → Type 0) (BodyStands : P → B → List ℕ → Type 0) (h : FutureHistory H P E) (len : ℕ)
    (inner : FutureFollows polls abandons Heads Stands BodyStands h) where
  abbrev BS : ℕ × P → DeadlineBody B → List ℕ → Type 0
  BS = DeadlineBodyStands len BodyStands

  abbrev said : ℕ → Said H P E → Said H (ℕ × P) E
  said t s = said_under (λ head p. (t, p)) s

  gave : (t : ℕ) (s : Said H P E) (r : Response (DeadlineBody B) X) → r.body.timer ≡ record { start = t; length = len } →
      IsSaid Heads BodyStands s (Ready (Ok (record { head = r.head; body = r.body.body }))) → IsSaid Heads BS (said t s) (Ready (Ok r))
  gave t Waits r e m = elim m [ ]
  gave t (Gives head p) r e m = (m.0, record { timer_is = e; inner = m.1 })
  gave t (Fails x) r e m = elim m [ ]

  failed : (t : ℕ) (s : Said H P E) (x : E) → IsSaid Heads BodyStands s (Ready (Err x)) → IsSaid Heads BS (said t s) (Ready (Err x))
  failed t Waits x m = elim m [ ]
  failed t (Gives head p) x m = elim m [ ]
  failed t (Fails y) x m = m

  waited : (t : ℕ) (s : Said H P E) → IsSaid Heads BodyStands s Pending → IsSaid Heads BS (said t s) Pending
  waited t Waits m = tt
  waited t (Gives head p) m = elim m [ ]
  waited t (Fails y) m = elim m [ ]

  kept : (w : Where) (f new : ResponseBodyDeadlineFuture F) → f.timeout ≡ len → new ≡ record f { inner = new.inner } → Stands new.inner w → DeadlineStands len Stands new w
  kept w f new e same s = record { timeout_is = ap (λ x. x.timeout) same ∙ e; inner = s }

  step : (past : List ℕ) (f : ResponseBodyDeadlineFuture F) (was : Recorded) (m : Moment) (a : Poll (Result (Response (DeadlineBody B) X) E)) (new : ResponseBodyDeadlineFuture F) (now : Recorded) →
      DeadlineStands len Stands f (Waiting past) → DeadlinePolls polls f was m (Ok a) new now → PollSteps Heads (DeadlineStands len Stands) BS (deadline_history h) past was m.now a new now
  step past f was m (Ready (Ok r)) new now s d = let i = inner.poll past f.inner was m _ new.inner now s.inner d.inner in record {
    answer = gave m.now (h.says past m.now) r (d.timer ∙ ap (λ l. record { start = m.now; length = l }) s.timeout_is) i.answer;
    adds = i.adds;
    stands = kept Answered f new s.timeout_is d.same i.stands;
  }
  step past f was m (Ready (Err x)) new now s d = let i = inner.poll past f.inner was m _ new.inner now s.inner d.inner in record {
    answer = failed m.now (h.says past m.now) x i.answer;
    adds = i.adds;
    stands = kept Answered f new s.timeout_is d.same i.stands;
  }
  step past f was m Pending new now s d = let i = inner.poll past f.inner was m _ new.inner now s.inner d.inner in record {
    answer = waited m.now (h.says past m.now) i.answer;
    adds = i.adds;
    stands = kept (Waiting (m.now ∷ past)) f new s.timeout_is d.same i.stands;
  }

  pub deadline_follows : FutureFollows (DeadlinePolls polls) (λ f. abandons f.inner) Heads (DeadlineStands len Stands) BS (deadline_history h)
  deadline_follows = record {
    poll = step;
    abandoned = λ w f was m u now s d. inner.abandoned w f.inner was m u now s.inner d;
    refused = λ w f was m e now s d. inner.refused w f.inner was m e now s.inner d;
  }

module _ {P B D E : Type 0} (frames : Frames B D E) (abandons : Abandons B) (ends : B → Bool)
    (Stands : P → B → List ℕ → Type 0) (h : P → BodyHistory D E) (len : ℕ)
    (inner : BodyFollows frames abandons ends Stands h) where
  abbrev Here : ℕ × P → DeadlineBody B → List ℕ → Type 0
  Here = DeadlineBodyStands len Stands

  on_due : (p : ℕ × P) (past : List ℕ) (b : DeadlineBody B) (was : Recorded) (m : Moment) (a : Poll (Option (Result (Frame D) (BodyError E)))) (new : DeadlineBody B) (now : Recorded) →
      due p.0 len m.now ≡ true → Here p b past → ElapsedFrames b was (Ok a) new now → FrameSteps Here (deadline_body_history len h p) p past was m.now a new now
  on_due p past b was m a new now e s d = record {
    answer = rw e (cc d.answer_is);
    adds = rw e (adds_none was now d.unrecorded);
    stands = record { timer_is = ap (λ x. x.timer) d.same ∙ s.timer_is; inner = rw e (rw d.same s.inner) };
  }

  polled : (p : P) (past : List ℕ) (b : B) (was : Recorded) (m : Moment) (a : Poll (Option (Result (Frame D) (BodyError E)))) (new : B) (now : Recorded) →
      Stands p b past → WrapsFaults frames b was m (Ok a) new now → (a ≡ wrapped ((h p).frame past m.now)) × Adds was now ((h p).events past m.now) × Stands p new (m.now ∷ past)
  polled p past b was m Pending new now s f = let i = inner.frame p past b was m _ new now s f in (ap wrapped i.answer, i.adds, i.stands)
  polled p past b was m (Ready None) new now s f = let i = inner.frame p past b was m _ new now s f in (ap wrapped i.answer, i.adds, i.stands)
  polled p past b was m (Ready (Some (Ok x))) new now s f = let i = inner.frame p past b was m _ new now s f in (ap wrapped i.answer, i.adds, i.stands)
  polled p past b was m (Ready (Some (Err Elapsed))) new now s f = elim f [ ]
  polled p past b was m (Ready (Some (Err LengthLimit))) new now s f = elim f [ ]
  polled p past b was m (Ready (Some (Err (Inner e)))) new now s f = let i = inner.frame p past b was m _ new now s f in (ap wrapped i.answer, i.adds, i.stands)

  in_time : (p : ℕ × P) (past : List ℕ) (b : DeadlineBody B) (was : Recorded) (m : Moment) (a : Poll (Option (Result (Frame D) (BodyError E)))) (new : DeadlineBody B) (now : Recorded) →
      due p.0 len m.now ≡ false → Here p b past → InTimeFrames frames b was m (Ok a) new now → FrameSteps Here (deadline_body_history len h p) p past was m.now a new now
  in_time p past b was m a new now e s d =
      let i = polled p.1 (undue p.0 len past) b.body was m a new.body now s.inner d.inner in record {
        answer = rw e i.0;
        adds = rw e i.1;
        stands = record { timer_is = ap (λ x. x.timer) d.same ∙ s.timer_is; inner = rw e i.2 };
      }

  by_test : (x : Bool) (p : ℕ × P) (past : List ℕ) (b : DeadlineBody B) (was : Recorded) (m : Moment) (a : Poll (Option (Result (Frame D) (BodyError E)))) (new : DeadlineBody B) (now : Recorded) →
      due p.0 len m.now ≡ x → Here p b past → DeadlineFrames frames b was m (Ok a) new now → FrameSteps Here (deadline_body_history len h p) p past was m.now a new now
  by_test true p past b was m a new now e s d = on_due p past b was m a new now e s (d.on_due (ap (λ (x : Timer). due x.start x.length m.now) s.timer_is ∙ e))
  by_test false p past b was m a new now e s d = in_time p past b was m a new now e s (d.in_time (ap (λ (x : Timer). due x.start x.length m.now) s.timer_is ∙ e))

  pub deadline_body_follows : BodyFollows (DeadlineFrames frames) (λ b. abandons b.body) (λ b. ends b.body) Here (deadline_body_history len h)
  deadline_body_follows = record {
    tells = λ p b past s. inner.tells p.1 b.body (undue p.0 len past) s.inner;
    frame = λ p past b was m a new now s d. by_test (due p.0 len m.now) p past b was m a new now refl s d;
    abandoned = λ p past b was m u now s d. inner.abandoned p.1 (undue p.0 len past) b.body was m u now s.inner d;
    refused = λ p past b was m e now s d. inner.refused p.1 (undue p.0 len past) b.body was m e now s.inner d;
  }

module _ {S R F : Type 0} (calls : Calls S R F) (Asks : R → Type 0) (Serves : S → Type 0) (Stands : ℕ → F → Where → Type 0) (es : List Event) (inner : ServiceFollows calls Asks Serves Stands es) where
  pub deadline_serves : (timeout : ℕ) → ServiceFollows (DeadlineCalls calls) Asks (DeadlineServes timeout Serves) (λ t. DeadlineStands timeout (Stands t)) es
  deadline_serves timeout = record {
    call = λ s req was m f new now q k c. let i = inner.call s.inner req was m f.inner new.inner now q k.inner c.inner in (
      record { timeout_is = ap (λ x. x.timeout) c.same ∙ k.timeout_is; inner = i.0 },
      record { timeout_is = c.timeout ∙ k.timeout_is; inner = i.1 },
      i.2,
    );
    refused = λ s req was m e new now k c. record {
      timeout_is = ap (λ x. x.timeout) c.same ∙ k.timeout_is;
      inner = inner.refused s.inner req was m e new.inner now k.inner c.inner;
    };
  }
