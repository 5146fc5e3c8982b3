-- A counted request leaves the live number as often as it entered it: each call moves the number with what counts.
use Rattle.std.proofs.Common.{◌≡◌, ℕ, ◌+◌, ◌≤◌, Bool, true, false, Result, Ok, Err, refl, ap, sym, ◌∙◌, arith}
use Rattle.life_core.specs.Calls.{Polls, Frames, Abandons, Calls, Answer, Reply}
use Rattle.life_core.specs.Moment.{Moment}
use Rattle.life_core.specs.Recorded.{Counted, Recorded}
use Rattle.life_core.specs.declared.message.Response.{Response}
use Rattle.life_core.specs.declared.poll.Poll.TheVariants.{Ready, Pending}
use Rattle.life_core.specs.declared.recorder.NoMemory.{NoMemory}
use Rattle.life_count.specs.InFlight.{InFlightAbandons, InFlightCalls, InFlightFrames, InFlightPolls, entered, has_room, left}
use Rattle.life_count.specs.LiveNumber.{Moves, weight, future_weight, body_weight, made_weight, response_weight, CountsNothing, CallsCountNothing, AbandonsCountNothing}
use Rattle.life_count.specs.declared.in_flight_requests.body.ResponseBody.{ResponseBody}
use Rattle.life_count.specs.declared.in_flight_requests.future.ResponseFuture.{ResponseFuture}
use Rattle.life_count.specs.declared.in_flight_requests.service.InFlightRequests.{InFlightRequests}

-- the same number of requests count, and the numbers stay
stays : (a b : ℕ) (was now : Counted) → now ≡ was → a ≡ b → Moves a b was now
stays a b was now e same = record { live = rw (e, same) refl; cap = ap (λ c. c.cap) e; others = ap (λ c. c.others) e }

-- a request comes, by whether it counts
enters : (counted : Bool) (was now : Recorded) → now.rest ≡ (entered counted was).rest → Moves 0 (weight counted) was.rest now.rest
enters true was now e = record { live = omega (arith, ap (λ c. c.live) e); cap = ap (λ c. c.cap) e; others = ap (λ c. c.others) e }
enters false was now e = stays 0 0 was.rest now.rest e refl

-- a request is over, by whether it counted
leaves : (counted : Bool) (was between now : Recorded) → between.rest ≡ was.rest → now ≡ left counted between → weight counted ≤ was.rest.live →
    Moves (weight counted) 0 was.rest now.rest
leaves true was between now e l fits = record {
  live = omega (arith, fits, ap (λ c. c.live) e, ap (λ r. r.rest.live) l);
  cap = ap (λ r. r.rest.cap) l ∙ ap (λ c. c.cap) e;
  others = ap (λ r. r.rest.others) l ∙ ap (λ c. c.others) e;
}
leaves false was between now e l fits = stays 0 0 was.rest now.rest (ap (λ r. r.rest) l ∙ e) refl

-- a request that came and is over at once
comes_and_leaves : (counted : Bool) (was between now : Recorded) → between.rest ≡ (entered counted was).rest → now ≡ left counted between →
    Moves 0 0 was.rest now.rest
comes_and_leaves true was between now e l = record {
  live = omega (arith, ap (λ c. c.live) e, ap (λ r. r.rest.live) l);
  cap = ap (λ r. r.rest.cap) l ∙ ap (λ c. c.cap) e;
  others = ap (λ r. r.rest.others) l ∙ ap (λ c. c.others) e;
}
comes_and_leaves false was between now e l = stays 0 0 was.rest now.rest (ap (λ r. r.rest) l ∙ e) refl

module _ {S R F : Type 0} (calls : Calls S R F) (counts_nothing : CallsCountNothing calls) where
  -- a call over a service that counts nothing: by what it gave, the request counts, and nothing does where it was refused
  pub call_moves : (old : InFlightRequests S) (req : R) (was : Recorded) (m : Moment) (made : Result (ResponseFuture F) NoMemory) (new : InFlightRequests S) (now : Recorded) →
      InFlightCalls calls old req was m made new now → Moves 0 (made_weight made) was.rest now.rest
  call_moves old req was m (Ok f) new now c =
      rw c.counted (enters (has_room was) was now (counts_nothing old.inner req (entered (has_room was) was) m (Ok f.inner) new.inner now c.inner))
  call_moves old req was m (Err e) new now c =
      comes_and_leaves (has_room was) was c.refused now (counts_nothing old.inner req (entered (has_room was) was) m (Err e) new.inner c.refused c.inner) c.gone

module _ {F B X E : Type 0} (polls : Polls F (Result (Response B X) E)) (counts_nothing : CountsNothing polls) where
  -- a poll of a future: a request counts by the future or by the body of its response
  pub poll_moves : (old : ResponseFuture F) (was : Recorded) (m : Moment) (answer : Reply (ResponseBody B) X E) (new : ResponseFuture F) (now : Recorded) →
      InFlightPolls polls old was m answer new now → Moves (future_weight old) (future_weight new + response_weight answer) was.rest now.rest
  poll_moves old was m (Ok (Ready (Ok r))) new now p =
      stays (future_weight old) (future_weight new + body_weight r.body) was.rest now.rest (counts_nothing old.inner was m _ new.inner now p.inner) (rw (p.counted, p.given) (omega arith))
  poll_moves old was m (Ok (Ready (Err e))) new now p =
      stays (future_weight old) (future_weight new + 0) was.rest now.rest (counts_nothing old.inner was m _ new.inner now p.inner) (rw p.counted (omega arith))
  poll_moves old was m (Ok Pending) new now p =
      stays (future_weight old) (future_weight new + 0) was.rest now.rest (counts_nothing old.inner was m _ new.inner now p.inner) (rw p.counted (omega arith))
  poll_moves old was m (Err e) new now p =
      stays (future_weight old) (future_weight new + 0) was.rest now.rest (counts_nothing old.inner was m _ new.inner now p.inner) (rw p.counted (omega arith))

module _ {B D E : Type 0} (frames : Frames B D E) (counts_nothing : CountsNothing frames) where
  -- a poll of a body
  pub frame_moves : (old : ResponseBody B) (was : Recorded) (m : Moment) (answer : Answer D E) (new : ResponseBody B) (now : Recorded) →
      InFlightFrames frames old was m answer new now → Moves (body_weight old) (body_weight new) was.rest now.rest
  frame_moves old was m answer new now p =
      stays (body_weight old) (body_weight new) was.rest now.rest (counts_nothing old.inner was m answer new.inner now p.inner) (ap weight (sym p.counted))

module _ {S : Type 0} (abandons : Abandons S) (counts_nothing : AbandonsCountNothing abandons) where
  -- a future or a body is abandoned: nothing counts by it any longer, whatever that answers
  pub abandon_moves : (inner : S) (counted : Bool) (was : Recorded) (m : Moment) (answer : Result Unit NoMemory) (now : Recorded) →
      weight counted ≤ was.rest.live → InFlightAbandons abandons inner counted was m answer now → Moves (weight counted) 0 was.rest now.rest
  abandon_moves inner counted was m answer now fits a =
      leaves counted was a.between now (counts_nothing inner was m answer a.between a.abandoned) a.gone fits
