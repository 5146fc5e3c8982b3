-- `InFlightRequests`, its future and its bodies answer and record as what they are round.
use Rattle.std.proofs.Common.{◌≡◌, ℕ, List, Bool, true, false, Option, Ok, Err, Result, ap, ◌∙◌}
use Rattle.http_body.specs.declared.frame.Frame.{Frame}
use Rattle.life_core.specs.Calls.{Polls, Abandons, Frames, Calls}
use Rattle.life_core.specs.Moment.{Moment}
use Rattle.life_core.specs.Recorded.{Recorded}
use Rattle.life_core.specs.declared.event.Event.{Event}
use Rattle.life_core.specs.declared.message.Response.{Response}
use Rattle.life_core.specs.declared.message.ResponseHead.{ResponseHead}
use Rattle.life_core.specs.declared.poll.Poll.{Poll}
use Rattle.life_core.specs.declared.poll.Poll.TheVariants.{Ready, Pending}
use Rattle.life_core.specs.History.{BodyHistory, BodyFollows, FutureHistory, FutureFollows, Grew, Said, Waits, Gives, Fails, Where, Waiting, IsSaid, ServiceFollows}
use Rattle.life_count.specs.History.{FrameTells, BodyTells, PollTells, FutureTells, ServiceTells, InFlightServes, InFlightStands, InFlightBodyStands}
use Rattle.life_count.specs.InFlight.{InFlightAbandons, InFlightCalls, InFlightFrames, InFlightPolls, entered, has_room, left}
use Rattle.life_count.specs.declared.in_flight_requests.body.ResponseBody.{ResponseBody}
use Rattle.life_count.specs.declared.in_flight_requests.future.ResponseFuture.{ResponseFuture}

-- entering records nothing
grew_entered : (counted : Bool) (was now : Recorded) (es : List Event) → Grew (entered counted was) now es → Grew was now es
grew_entered true was now es g = record { log = g.log; spare = g.spare }
grew_entered false was now es g = g

-- leaving records nothing
grew_left : (counted : Bool) (was between now : Recorded) (es : List Event) → now ≡ left counted between → Grew was between es → Grew was now es
grew_left true was between now es e g = record { log = ap (λ r. r.log) e ∙ g.log; spare = rw (ap (λ r. r.spare) e) g.spare }
grew_left false was between now es e g = rw e g

module _ {H P F B X E : Type 0} (polls : Polls F (Result (Response B X) E)) (abandons : Abandons F) (Heads : H → ResponseHead X → Type 0)
    (Stands : F → Where → Type 0) (BodyStands : P → B → List ℕ → Type 0) (h : FutureHistory H P E)
    (inner : FutureFollows polls abandons Heads Stands BodyStands h) where
  gave : (s : Said H P E) (r : Response (ResponseBody B) X) → IsSaid Heads BodyStands s (Ready (Ok (record { head = r.head; body = r.body.inner }))) →
      IsSaid Heads (InFlightBodyStands BodyStands) s (Ready (Ok r))
  gave Waits r m = elim m [ ]
  gave (Gives head p) r m = m
  gave (Fails x) r m = elim m [ ]

  failed : (s : Said H P E) (x : E) → IsSaid Heads BodyStands s (Ready (Err x)) → IsSaid Heads (InFlightBodyStands BodyStands) s (Ready (Err x))
  failed Waits x m = elim m [ ]
  failed (Gives head p) x m = elim m [ ]
  failed (Fails y) x m = m

  waited : (s : Said H P E) → IsSaid Heads BodyStands s Pending → IsSaid Heads (InFlightBodyStands BodyStands) s Pending
  waited Waits m = tt
  waited (Gives head p) m = elim m [ ]
  waited (Fails y) m = elim m [ ]

  step : (past : List ℕ) (f : ResponseFuture F) (was : Recorded) (m : Moment) (a : Poll (Result (Response (ResponseBody B) X) E)) (new : ResponseFuture F) (now : Recorded) →
      Stands f.inner (Waiting past) → InFlightPolls polls f was m (Ok a) new now →
      PollTells Heads (InFlightStands Stands) (InFlightBodyStands BodyStands) h past was m.now a new now
  step past f was m (Ready (Ok r)) new now s d = let i = inner.poll past f.inner was m _ new.inner now s d.inner in
      record { answer = gave (h.says past m.now) r i.answer; grew = i.adds.grew; stands = i.stands }
  step past f was m (Ready (Err x)) new now s d = let i = inner.poll past f.inner was m _ new.inner now s d.inner in
      record { answer = failed (h.says past m.now) x i.answer; grew = i.adds.grew; stands = i.stands }
  step past f was m Pending new now s d = let i = inner.poll past f.inner was m _ new.inner now s d.inner in
      record { answer = waited (h.says past m.now) i.answer; grew = i.adds.grew; stands = i.stands }

  pub in_flight_follows : FutureTells (InFlightPolls polls) (λ f. InFlightAbandons abandons f.inner f.counted) Heads (InFlightStands Stands) (InFlightBodyStands BodyStands) h
  in_flight_follows = record {
    poll = step;
    abandoned = λ w f was m u now s d. grew_left f.counted was d.between now _ d.gone (inner.abandoned w f.inner was m u d.between s d.abandoned).grew;
    refused = λ w f was m e now s d. inner.refused w f.inner was m e d.between s d.abandoned;
  }

module _ {P B D E : Type 0} (frames : Frames B D E) (abandons : Abandons B) (ends : B → Bool)
    (Stands : P → B → List ℕ → Type 0) (h : P → BodyHistory D E)
    (inner : BodyFollows frames abandons ends Stands h) where
  frame_step : (p : P) (past : List ℕ) (b : ResponseBody B) (was : Recorded) (m : Moment) (a : Poll (Option (Result (Frame D) E))) (new : ResponseBody B) (now : Recorded) →
      Stands p b.inner past → InFlightFrames frames b was m (Ok a) new now → FrameTells (InFlightBodyStands Stands) (h p) p past was m.now a new now
  frame_step p past b was m a new now s d = let i = inner.frame p past b.inner was m a new.inner now s d.inner in
      record { answer = i.answer; grew = i.adds.grew; stands = i.stands }

  pub in_flight_body_follows : BodyTells (InFlightFrames frames) (λ b. InFlightAbandons abandons b.inner b.counted) (λ b. ends b.inner) (InFlightBodyStands Stands) h
  in_flight_body_follows = record {
    tells = λ p b past s. inner.tells p b.inner past s;
    frame = frame_step;
    abandoned = λ p past b was m u now s d. grew_left b.counted was d.between now _ d.gone (inner.abandoned p past b.inner was m u d.between s d.abandoned).grew;
    refused = λ p past b was m e now s d. inner.refused p past b.inner was m e d.between s d.abandoned;
  }

module _ {S R F : Type 0} (calls : Calls S R F) (Asks : R → Type 0) (Serves : S → Type 0) (Stands : ℕ → F → Where → Type 0) (es : List Event)
    (inner : ServiceFollows calls Asks Serves Stands es) where
  pub in_flight_serves : ServiceTells (InFlightCalls calls) Asks (InFlightServes Serves) (λ t. InFlightStands (Stands t)) es
  in_flight_serves = record {
    call = λ s req was m f new now q k c. let i = inner.call s.inner req (entered (has_room was) was) m f.inner new.inner now q k c.inner in
        (i.0, i.1, grew_entered (has_room was) was now es i.2.grew);
    refused = λ s req was m e new now k c. inner.refused s.inner req (entered (has_room was) was) m e new.inner c.refused k c.inner;
  }
