-- What `InFlightRequests` does: a request counts from its call until its future, with no response yet, or the body of
-- its response is abandoned.
use Rattle.std.specs.Prelude.{◌≡◌, Bool, false, not, if◌then◌else◌, Result, Ok, Err}
use Rattle.std.specs.Borrow.{Lends, MutBor, Fml}
use denote.RattleType.{RattleType}
use Rattle.life_core.specs.Calls.{Polls, Abandons, Frames, Answer, Calls, Reply, under, OnResponse}
use Rattle.life_core.specs.Moment.{Moment}
use Rattle.life_core.specs.Recorded.{Recorded}
use Rattle.life_core.specs.declared.message.Response.{Response}
use Rattle.life_core.specs.declared.poll.Poll.TheVariants.{Ready, Pending}
use Rattle.life_core.specs.declared.recorder.NoMemory.{NoMemory}
use Rattle.life_count.specs.Meter.{is_full, one_more, one_less}
use Rattle.life_count.specs.declared.in_flight_requests.body.ResponseBody.{ResponseBody}
use Rattle.life_count.specs.declared.in_flight_requests.future.ResponseFuture.{ResponseFuture}
use Rattle.life_count.specs.declared.in_flight_requests.layer.InFlightRequestsLayer.{InFlightRequestsLayer}
use Rattle.life_count.specs.declared.in_flight_requests.service.InFlightRequests.{InFlightRequests}
use Rattle.life_count.specs.contracts.in_flight_requests.service.InFlightRequests.{the_row as service_row}

-- the layer
abbrev pub in_flight_layer : InFlightRequestsLayer
in_flight_layer = record {}

-- the service round an inner one
abbrev pub in_flight : {S : Type 0} → S → InFlightRequests S
in_flight inner = record { inner = inner }

-- once the borrow r ends, the service has the inner one that was left
abbrev pub LendsInFlightInner : (S : RattleType) → MutBor (InFlightRequests S.Denot) → MutBor S.Denot → Fml
LendsInFlightInner S s r = Lends (service_row S) S s r (λ w. record s.now { inner = w })

-- a recorder's meter takes one more request
abbrev pub has_room : Recorded → Bool
has_room recorded = not (is_full recorded.rest)

-- a recorder after a call, by whether its request counts; its events and its room are as they were
abbrev pub entered : Bool → Recorded → Recorded
entered counted was = if counted then record was { rest = one_more was.rest } else was

-- a recorder after a request is over, by whether it counted; its events and its room are as they were
abbrev pub left : Bool → Recorded → Recorded
left counted was = if counted then record was { rest = one_less was.rest } else was

module _ {S R F : Type 0} (calls : Calls S R F) where
  -- the request counts where the meter is not full, and then the inner service is called
  pub record InFlightServes (old : InFlightRequests S) (req : R) (was : Recorded) (m : Moment) (f : ResponseFuture F)
      (new : InFlightRequests S) (now : Recorded) : Type 0 where
    pub counted : f.counted ≡ has_room was
    pub inner : calls old.inner req (entered (has_room was) was) m (Ok f.inner) new.inner now

  -- the inner service finds no memory: the request counts no longer
  pub record InFlightRefuses (old : InFlightRequests S) (req : R) (was : Recorded) (m : Moment) (e : NoMemory)
      (new : InFlightRequests S) (now : Recorded) : Type 0 where
    pub refused : Recorded
    pub inner : calls old.inner req (entered (has_room was) was) m (Err e) new.inner refused
    pub gone : now ≡ left (has_room was) refused

  -- the inner call; its request counts from before it on where the meter is not full, and no longer where it is refused
  abbrev pub InFlightCalls : Calls (InFlightRequests S) R (ResponseFuture F)
  InFlightCalls old req was m (Ok f) new now = InFlightServes old req was m f new now
  InFlightCalls old req was m (Err e) new now = InFlightRefuses old req was m e new now

-- the inner value is abandoned, and then the request counts no longer, whatever that answered
pub record InFlightAbandons {F : Type 0} (abandons : Abandons F) (inner : F) (counted : Bool)
    (was : Recorded) (m : Moment) (answer : Result Unit NoMemory) (now : Recorded) : Type 0 where
  pub between : Recorded
  pub abandoned : abandons inner was m answer between
  pub gone : now ≡ left counted between

-- whether the request counts by the future after this answer: no longer where that is a response
abbrev pub counts_on : {B X E : Type 0} → Bool → Reply B X E → Bool
counts_on counted (Ok (Ready (Ok r))) = false
counts_on counted (Ok (Ready (Err e))) = counted
counts_on counted (Ok Pending) = counted
counts_on counted (Err e) = counted

-- the inner answer; a request that counts does so by the body of its response from then on
pub record InFlightPolls {F B X E : Type 0} (polls : Polls F (Result (Response B X) E)) (old : ResponseFuture F)
    (was : Recorded) (m : Moment) (answer : Reply (ResponseBody B) X E) (new : ResponseFuture F) (now : Recorded) : Type 0 where
  pub inner : polls old.inner was m (under (λ b. b.inner) answer) new.inner now
  pub given : OnResponse answer (λ r. r.body.counted ≡ old.counted)
  pub counted : new.counted ≡ counts_on old.counted answer

-- the inner answer; the request counts as before
pub record InFlightFrames {B D E : Type 0} (frames : Frames B D E) (old : ResponseBody B) (was : Recorded) (m : Moment)
    (answer : Answer D E) (new : ResponseBody B) (now : Recorded) : Type 0 where
  pub inner : frames old.inner was m answer new.inner now
  pub counted : new.counted ≡ old.counted
