-- Where the values of this layer stand after some polls: they answer and record as the inner ones, and a recorder's
-- numbers move with the requests that count.
use Rattle.std.specs.Prelude.{◌≡◌, ℕ, ◌<◌, List, [], ◌∷◌, length, Bool, Option, Result, Ok, Err}
use Rattle.http_body.specs.declared.frame.Frame.{Frame}
use Rattle.life_core.specs.Calls.{Polls, Abandons, Frames, Calls}
use Rattle.life_core.specs.History.{BodyHistory, FutureHistory, Grew, IsSaid, Where, Waiting, abandoned_at, where_after}
use Rattle.life_core.specs.Moment.{Moment}
use Rattle.life_core.specs.Recorded.{Recorded}
use Rattle.life_core.specs.declared.event.Event.{Event}
use Rattle.life_core.specs.declared.message.Response.{Response}
use Rattle.life_core.specs.declared.message.ResponseHead.{ResponseHead}
use Rattle.life_core.specs.declared.poll.Poll.{Poll}
use Rattle.life_core.specs.declared.recorder.NoMemory.{NoMemory}
use Rattle.life_count.specs.declared.in_flight_requests.body.ResponseBody.{ResponseBody}
use Rattle.life_count.specs.declared.in_flight_requests.future.ResponseFuture.{ResponseFuture}
use Rattle.life_count.specs.declared.in_flight_requests.service.InFlightRequests.{InFlightRequests}

-- a service that counts over one that serves
abbrev pub InFlightServes : {S : Type 0} → (S → Type 0) → InFlightRequests S → Type 0
InFlightServes Serves s = Serves s.inner

-- its future, over one that stands so
abbrev pub InFlightStands : {F : Type 0} → (F → Where → Type 0) → ResponseFuture F → Where → Type 0
InFlightStands Stands f w = Stands f.inner w

-- the body of its response, over one that stands so
abbrev pub InFlightBodyStands : {P B : Type 0} → (P → B → List ℕ → Type 0) → P → ResponseBody B → List ℕ → Type 0
InFlightBodyStands Stands p b past = Stands p b.inner past

-- one poll of a future answers and records by its history, whatever it does to a recorder's numbers
pub record PollTells {H P F B X E : Type 0} (Heads : H → ResponseHead X → Type 0) (Stands : F → Where → Type 0) (BodyStands : P → B → List ℕ → Type 0) (h : FutureHistory H P E)
    (past : List ℕ) (was : Recorded) (t : ℕ) (a : Poll (Result (Response B X) E)) (new : F) (now : Recorded) : Type 0 where
  pub answer : IsSaid Heads BodyStands (h.says past t) a
  pub grew : Grew was now (h.events past t)
  pub stands : Stands new (where_after past t a)

-- a future that stands after some polls tells by its history
pub record FutureTells {H P F B X E : Type 0} (polls : Polls F (Result (Response B X) E)) (abandons : Abandons F) (Heads : H → ResponseHead X → Type 0)
    (Stands : F → Where → Type 0) (BodyStands : P → B → List ℕ → Type 0) (h : FutureHistory H P E) : Type 0 where
  pub poll : (past : List ℕ) (f : F) (was : Recorded) (m : Moment) (a : Poll (Result (Response B X) E)) (new : F) (now : Recorded) →
      Stands f (Waiting past) → polls f was m (Ok a) new now → PollTells Heads Stands BodyStands h past was m.now a new now
  pub abandoned : (w : Where) (f : F) (was : Recorded) (m : Moment) (u : Unit) (now : Recorded) →
      Stands f w → abandons f was m (Ok u) now → Grew was now (abandoned_at h.abandoned w m.now)
  pub refused : (w : Where) (f : F) (was : Recorded) (m : Moment) (e : NoMemory) (now : Recorded) →
      Stands f w → abandons f was m (Err e) now → was.spare < length (abandoned_at h.abandoned w m.now)

-- one poll of a body answers and records by its history, whatever it does to a recorder's numbers
pub record FrameTells {P B D E : Type 0} (Stands : P → B → List ℕ → Type 0) (h : BodyHistory D E) (p : P) (past : List ℕ)
    (was : Recorded) (q : ℕ) (a : Poll (Option (Result (Frame D) E))) (new : B) (now : Recorded) : Type 0 where
  pub answer : a ≡ h.frame past q
  pub grew : Grew was now (h.events past q)
  pub stands : Stands p new (q ∷ past)

-- a body of this plan that stands after some polls tells by the history of the plan
pub record BodyTells {P B D E : Type 0} (frames : Frames B D E) (abandons : Abandons B) (ends : B → Bool)
    (Stands : P → B → List ℕ → Type 0) (history : P → BodyHistory D E) : Type 0 where
  pub tells : (p : P) (b : B) (past : List ℕ) → Stands p b past → ends b ≡ (history p).ends past
  pub frame : (p : P) (past : List ℕ) (b : B) (was : Recorded) (m : Moment) (a : Poll (Option (Result (Frame D) E))) (new : B) (now : Recorded) →
      Stands p b past → frames b was m (Ok a) new now → FrameTells Stands (history p) p past was m.now a new now
  pub abandoned : (p : P) (past : List ℕ) (b : B) (was : Recorded) (m : Moment) (u : Unit) (now : Recorded) →
      Stands p b past → abandons b was m (Ok u) now → Grew was now ((history p).abandoned past m.now)
  pub refused : (p : P) (past : List ℕ) (b : B) (was : Recorded) (m : Moment) (e : NoMemory) (now : Recorded) →
      Stands p b past → abandons b was m (Err e) now → was.spare < length ((history p).abandoned past m.now)

-- a service gives for such a request a future that stands at the time of the call, and serves on as before, also where
-- it is refused
pub record ServiceTells {S R F : Type 0} (calls : Calls S R F) (Asks : R → Type 0) (Serves : S → Type 0) (Stands : ℕ → F → Where → Type 0) (events : List Event) : Type 0 where
  pub call : (s : S) (req : R) (was : Recorded) (m : Moment) (f : F) (new : S) (now : Recorded) →
      Asks req → Serves s → calls s req was m (Ok f) new now → Serves new × Stands m.now f (Waiting []) × Grew was now events
  pub refused : (s : S) (req : R) (was : Recorded) (m : Moment) (e : NoMemory) (new : S) (now : Recorded) →
      Serves s → calls s req was m (Err e) new now → Serves new
