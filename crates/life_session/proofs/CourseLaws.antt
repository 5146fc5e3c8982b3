-- A stack that follows the course of its histories keeps each table that tells this course.
use Rattle.std.proofs.Common.{◌≡◌, ◌∙◌, ℕ, List, [], ◌∷◌, ◌++◌, Bool, Option, Some, None, Result, Ok, Err, refl, sym, ap, subst, arith, IfOk, IfErr}
use Rattle.http_body.specs.declared.frame.Frame.{Frame}
use Rattle.http_body.specs.declared.frame.Kind.{Kind}
use Rattle.http_body.specs.declared.frame.Kind.TheVariants.{Data, Trailers}
use Rattle.life_core.specs.History.{Adds, Grew, IsSaid, Said, Waits, Gives, Fails, Waiting, Answered, where_after}
use Rattle.life_core.specs.Calls.{Calls, Frames, Abandons, Polls}
use Rattle.life_core.specs.Moment.{Moment}
use Rattle.life_core.specs.Recorded.{Recorded}
use Rattle.life_core.specs.declared.body.BodyError.{BodyError}
use Rattle.life_core.specs.declared.event.Event.{Event}
use Rattle.life_core.specs.declared.message.Response.{Response}
use Rattle.life_core.specs.declared.poll.Poll.{Poll}
use Rattle.life_core.specs.declared.poll.Poll.TheVariants.{Ready, Pending}
use Rattle.life_core.specs.declared.recorder.NoMemory.{NoMemory}
use Rattle.life_script.specs.declared.answer.Answer.TheVariants as ans
use Rattle.life_script.specs.declared.scenario.Act.TheVariants as act
use Rattle.life_session.specs.Acts.{NotBefore, Own}
use Rattle.life_session.specs.Course.{AnsweredAt, AwaitedAt, Course, FollowsCourse, Fresh, Awaited, Streamed, Over, Histories, Standing, StreamedAt, ShowsCourse, after_answer, answered, course_from, course_of, course_places, course_table, frame_told, abandoned, after_act, recorded, kind_seen, told, Turns}
use Rattle.life_session.specs.Table.{CalledAt, Dropped, FrameSaid, Framed, Idles, KeepsTable, PollLeft, PollSaid, Polled, Shows, Table}
use Rattle.life_session.proofs.ActLaws.{not_before_push}

-- THE TABLE OF THE HISTORIES tells the course.

module _ {K H P : Type 0} (h : Histories K H P) where
  more_course : (k : K) (c : Course P) (acts : List Own) (x : Own) → course_from h k c (acts ++ x ∷ []) ≡ after_act h k (course_from h k c acts) x
  more_course k c [] x = refl
  more_course k c (y ∷ acts) x = more_course k (after_act h k c y) acts x

  pub course_told : ShowsCourse h (course_table h) (λ k acts c. course_of h k acts ≡ c)
  course_told = record {
    first = λ k. refl;
    turn = λ k acts c x at in_time. record {
      answer = ap (λ d. answered h k d x) at;
      events = ap (λ d. recorded h k d x) at;
      course = more_course k Fresh acts x ∙ ap (λ d. after_act h k d x) at;
    };
    at_end = λ k acts c t at. ap (λ d. abandoned h k d t) at;
  }

-- WHAT IS TOLD of a frame shows it.

kind_shown : (kind : Kind (List ℕ)) → Shows (kind_seen kind) (record { kind = kind })
kind_shown (Data bytes) = refl
kind_shown (Trailers map) = (map, refl, refl)

frame_said : (a : Poll (Option (Result (Frame (List ℕ)) (BodyError (List ℕ))))) (ended : Bool) → FrameSaid a ended (frame_told a ended)
frame_said Pending ended = refl
frame_said (Ready None) ended = refl
frame_said (Ready (Some (Ok f))) ended = (kind_seen f.kind, kind_shown f.kind, refl)
frame_said (Ready (Some (Err e))) ended = refl

-- A STACK that follows it.

module _ {K H P S R F B X : Type 0} (calls : Calls S R F) (polls : Polls F (Result (Response B X) (List ℕ))) (abandons : Abandons F)
    (frames : Frames B (List ℕ) (BodyError (List ℕ))) (body_abandons : Abandons B) (ends : B → Bool) (h : Histories K H P) (st : Standing K H P S R F B X)
    (stack : FollowsCourse calls polls abandons frames body_abandons ends h st)
    (table : K → Table) (At : K → List Own → Course P → Type 0) (shows : ShowsCourse h table At) where
  abbrev grew_as : (was now : Recorded) (es fs : List Event) → es ≡ fs → Adds was now fs → Grew was now es
  grew_as was now es fs e a = subst (λ l. Grew was now l) (sym e) a.grew

  called : (k : K) (acts : List Own) (s : S) (req : R) (was : Recorded) (m : Moment) (made : Result F NoMemory) (new : S) (now : Recorded) →
      st.asks k req → At k acts Fresh → st.serves k s → calls s req was m made new now → IfOk made (λ f. CalledAt (course_places st At) table k acts m.now was f now)
  called k acts s req was m (Err e) new now asks at serves c = tt
  called k acts s req was m (Ok f) new now asks at serves c =
      let g = (stack.service k).call s req was m f new now asks serves c in
      let t = shows.turn k acts Fresh (m.now, act.Call) at tt in
      record { said = t.answer; left = record { t0 = m.now; past = []; course = t.course; stands = g.1 }; grew = grew_as was now _ _ t.events g.2; numbers = g.2.numbers }

  -- What an answered poll tells and leaves.
  poll_told : (k : K) (acts : List Own) (t0 : ℕ) (past : List ℕ) (t : ℕ) (said : Said H P (List ℕ)) (a : Poll (Result (Response B X) (List ℕ))) (new : F) →
      IsSaid st.heads (st.body k t0) said a → At k acts (after_answer h k t0 past t said) → st.future k t0 new (where_after past t a) →
      PollSaid ends a (told h k t0 said) × PollLeft (course_places st At) k acts a new
  poll_told k acts t0 past t Waits Pending new m at stands = (refl, record { t0 = t0; past = t ∷ past; course = at; stands = stands })
  poll_told k acts t0 past t (Gives head plan) (Ready (Ok r)) new m at stands =
      let parts = stack.shown head r.head m.0 in (
        rw (parts.0, parts.1, (stack.body k t0).tells plan r.body [] m.1) refl,
        ((t0, stands), record { t0 = t0; plan = plan; past = []; course = at; latest = λ u n. tt; stands = m.1 }),
      )
  poll_told k acts t0 past t (Fails error) (Ready (Err e)) new m at stands = (ap ans.ServiceError (sym m), ((t0, stands), at))
  poll_told k acts t0 past t Waits (Ready a) new m at stands = absurd m
  poll_told k acts t0 past t (Gives head plan) Pending new m at stands = absurd m
  poll_told k acts t0 past t (Gives head plan) (Ready (Err e)) new m at stands = absurd m
  poll_told k acts t0 past t (Fails error) Pending new m at stands = absurd m
  poll_told k acts t0 past t (Fails error) (Ready (Ok r)) new m at stands = absurd m

  polled : (k : K) (acts : List Own) (f : F) (was : Recorded) (m : Moment) (made : Result (Poll (Result (Response B X) (List ℕ))) NoMemory) (new : F) (now : Recorded) →
      AwaitedAt st At k acts f → polls f was m made new now → IfOk made (λ a. Polled ends (course_places st At) table k acts m.now was a new now)
  polled k acts f was m (Err e) new now at p = tt
  polled k acts f was m (Ok a) new now at p =
      let i = (stack.future k at.t0).poll at.past f was m a new now at.stands p in
      let t = shows.turn k acts (Awaited at.t0 at.past) (m.now, act.Poll) at.course tt in
      let both = poll_told k (acts ++ (m.now, act.Poll) ∷ []) at.t0 at.past m.now _ a new i.answer t.course i.stands in
      record { said = rw t.answer both.0; left = both.1; grew = grew_as was now _ _ t.events i.adds; numbers = i.adds.numbers }

  framed : (k : K) (acts : List Own) (b : B) (was : Recorded) (m : Moment) (made : Result (Poll (Option (Result (Frame (List ℕ)) (BodyError (List ℕ))))) NoMemory) (new : B) (now : Recorded) →
      NotBefore m.now acts → StreamedAt st At k acts b → frames b was m made new now → IfOk made (λ a. Framed ends (course_places st At) table k acts m.now was a new now)
  framed k acts b was m (Err e) new now late at p = tt
  framed k acts b was m (Ok a) new now late at p =
      let latest = at.latest m.now late in
      let i = (stack.body k at.t0).frame at.plan at.past b was m a new now at.stands p in
      let t = shows.turn k acts (Streamed at.t0 at.plan at.past) (m.now, act.Poll) at.course latest in
      let ended = (stack.body k at.t0).tells at.plan new (m.now ∷ at.past) i.stands in record {
        said = rw (i.answer, ended, t.answer) (frame_said _ _);
        left = record {
          t0 = at.t0;
          plan = at.plan;
          past = m.now ∷ at.past;
          course = t.course;
          latest = λ u n. let r = not_before_push u acts (m.now, act.Poll) n in (r.1, at.latest u r.0);
          stands = i.stands;
        };
        grew = grew_as was now _ _ t.events i.adds;
        numbers = i.adds.numbers;
      }

  idles : Idles (course_places st At) table
  idles = record {
    ready_at_rest = λ k was rest. tt;
    fresh_first = shows.first;
    fresh_polled = λ k acts t at. let u = shows.turn k acts Fresh (t, act.Poll) at tt in ((u.answer, u.events), u.course);
    fresh_dropped = λ k acts t at. let u = shows.turn k acts Fresh (t, act.Drop) at tt in ((u.answer, u.events), u.course);
    fresh_end = λ k acts t at. shows.at_end k acts Fresh t at;
    waiting_called = λ k acts f t at.
        let u = shows.turn k acts (Awaited at.t0 at.past) (t, act.Call) at.course tt in ((u.answer, u.events), record { t0 = at.t0; past = at.past; course = u.course; stands = at.stands });
    streaming_called = λ k acts b t at.
        let u = shows.turn k acts (Streamed at.t0 at.plan at.past) (t, act.Call) at.course tt in (
          (u.answer, u.events),
          record {
            t0 = at.t0;
            plan = at.plan;
            past = at.past;
            course = u.course;
            latest = λ v n. at.latest v (not_before_push v acts (t, act.Call) n).0;
            stands = at.stands;
          },
        );
    over_idle = λ k acts x at. let u = shows.turn k acts Over x at tt in ((u.answer, u.events), u.course);
    over_end = λ k acts t at. shows.at_end k acts Over t at;
  }

  -- What abandoning records.
  dropped : (k : K) (acts : List Own) (c : Course P) (t : ℕ) (was now : Recorded) → At k acts c → Turns h table At k acts c (t, act.Drop) → (table k).answer acts (t, act.Drop) ≡ ans.Dropped →
      At k (acts ++ (t, act.Drop) ∷ []) Over → Adds was now (abandoned h k c t) → Dropped (course_places st At) table k acts t was now
  dropped k acts c t was now at turn said over a = record {
    said = said;
    left = over;
    grew = grew_as was now _ _ turn.events a;
    ended = grew_as was now _ _ (shows.at_end k acts c t at) a;
    numbers = a.numbers;
  }

  future_abandoned : (k : K) (acts : List Own) (f : F) (was : Recorded) (m : Moment) (made : Result Unit NoMemory) (now : Recorded) →
      AwaitedAt st At k acts f → abandons f was m made now → IfOk made (λ u. Dropped (course_places st At) table k acts m.now was now)
  future_abandoned k acts f was m (Err e) now at l = tt
  future_abandoned k acts f was m (Ok u) now at l =
      let turn = shows.turn k acts (Awaited at.t0 at.past) (m.now, act.Drop) at.course tt in
      dropped k acts (Awaited at.t0 at.past) m.now was now at.course turn turn.answer turn.course ((stack.future k at.t0).abandoned (Waiting at.past) f was m u now at.stands l)

  future_refused : (k : K) (acts : List Own) (f : F) (was : Recorded) (m : Moment) (made : Result Unit NoMemory) (now : Recorded) →
      AwaitedAt st At k acts f → abandons f was m made now → IfErr made (λ e. was.spare ≡ 0)
  future_refused k acts f was m (Ok u) now at l = tt
  future_refused k acts f was m (Err e) now at l =
      let r = (stack.future k at.t0).refused (Waiting at.past) f was m e now at.stands l in omega (arith, r, stack.future_once k at.t0 (Waiting at.past) m.now)

  answered_abandoned : (k : K) (acts : List Own) (f : F) (was : Recorded) (m : Moment) (made : Result Unit NoMemory) (now : Recorded) →
      AnsweredAt st At k f → abandons f was m made now → IfOk made (λ u. Adds was now [])
  answered_abandoned k acts f was m (Err e) now at l = tt
  answered_abandoned k acts f was m (Ok u) now at l = (stack.future k at.0).abandoned Answered f was m u now at.1 l

  -- one that answered has nothing to record
  answered_refused : (k : K) (acts : List Own) (f : F) (was : Recorded) (m : Moment) (made : Result Unit NoMemory) (now : Recorded) →
      AnsweredAt st At k f → abandons f was m made now → IfErr made (λ e. ⊥)
  answered_refused k acts f was m (Ok u) now at l = tt
  answered_refused k acts f was m (Err e) now at l = let r = (stack.future k at.0).refused Answered f was m e now at.1 l in omega (arith, r)

  body_abandoned : (k : K) (acts : List Own) (b : B) (was : Recorded) (m : Moment) (made : Result Unit NoMemory) (now : Recorded) →
      StreamedAt st At k acts b → body_abandons b was m made now → IfOk made (λ u. Dropped (course_places st At) table k acts m.now was now)
  body_abandoned k acts b was m (Err e) now at l = tt
  body_abandoned k acts b was m (Ok u) now at l =
      let turn = shows.turn k acts (Streamed at.t0 at.plan at.past) (m.now, act.Drop) at.course tt in
      dropped k acts (Streamed at.t0 at.plan at.past) m.now was now at.course turn turn.answer turn.course ((stack.body k at.t0).abandoned at.plan at.past b was m u now at.stands l)

  body_refused : (k : K) (acts : List Own) (b : B) (was : Recorded) (m : Moment) (made : Result Unit NoMemory) (now : Recorded) →
      StreamedAt st At k acts b → body_abandons b was m made now → IfErr made (λ e. was.spare ≡ 0)
  body_refused k acts b was m (Ok u) now at l = tt
  body_refused k acts b was m (Err e) now at l =
      let r = (stack.body k at.t0).refused at.plan at.past b was m e now at.stands l in omega (arith, r, stack.body_once k at.t0 at.plan at.past m.now)

  pub keeps : KeepsTable calls polls abandons frames body_abandons ends (course_places st At) table
  keeps = record {
    called = λ k acts s req was m made new now asks at ready serves c. called k acts s req was m made new now asks at serves c;
    kept = stack.kept;
    polled = polled;
    future_abandoned = future_abandoned;
    future_refused = future_refused;
    answered_abandoned = answered_abandoned;
    answered_refused = answered_refused;
    framed = framed;
    body_abandoned = body_abandoned;
    body_refused = body_refused;
    idles = idles;
  }
