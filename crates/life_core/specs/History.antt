-- How a future or a body answers over its polls: a function of the times of its polls so far, the last one first.
use Rattle.std.specs.Prelude.{◌≡◌, ℕ, ◌+◌, ◌≤◌, ◌<◌, List, [], ◌∷◌, ◌++◌, length, Bool, true, false, Option, Result, Ok, Err, ⊤}
use Rattle.http_body.specs.declared.frame.Frame.{Frame}
use Rattle.life_core.specs.Calls.{Polls, Abandons, Frames, Calls}
use Rattle.life_core.specs.Moment.{Moment}
use Rattle.life_core.specs.Recorded.{Recorded}
use Rattle.life_core.specs.declared.event.Event.{Event}
use Rattle.life_core.specs.declared.message.Response.{Response}
use Rattle.life_core.specs.declared.message.ResponseHead.{ResponseHead}
use Rattle.life_core.specs.declared.poll.Poll.{Poll}
use Rattle.life_core.specs.declared.poll.Poll.TheVariants.{Ready, Pending}
use Rattle.life_core.specs.declared.recorder.NoMemory.{NoMemory}

-- a time that is at or after all these
abbrev pub Latest : ℕ → List ℕ → Type 0
Latest q [] = ⊤
Latest q (p ∷ past) = (p ≤ q) × Latest q past

-- what a body answers after these polls, what it records, whether it tells its end, and what abandoning it records
pub record BodyHistory (D E : Type 0) : Type 0 where
  pub frame : List ℕ → ℕ → Poll (Option (Result (Frame D) E))
  pub events : List ℕ → ℕ → List Event
  pub ends : List ℕ → Bool
  pub abandoned : List ℕ → ℕ → List Event

-- what a future answers: nothing yet, a response by its head and the plan of its body, or an error
pub data Said (H P X : Type 0) : Type 0 where
  Waits : Said H P X
  Gives : H → P → Said H P X
  Fails : X → Said H P X

-- the same answer, its plan with more in it
abbrev pub said_under : {H P Q X : Type 0} → (H → P → Q) → Said H P X → Said H Q X
said_under f Waits = Waits
said_under f (Gives h p) = Gives h (f h p)
said_under f (Fails x) = Fails x

-- the same answer with another head
abbrev pub said_with : {H G P X : Type 0} → (H → G) → Said H P X → Said G P X
said_with f Waits = Waits
said_with f (Gives h p) = Gives (f h) p
said_with f (Fails x) = Fails x

-- what a future answers after these polls, what it records, and what abandoning it records
pub record FutureHistory (H P X : Type 0) : Type 0 where
  pub says : List ℕ → ℕ → Said H P X
  pub events : List ℕ → ℕ → List Event
  pub abandoned : List ℕ → ℕ → List Event

-- a response at the first poll, with nothing recorded
abbrev pub answers_at_once : {H P X : Type 0} → H → P → FutureHistory H P X
answers_at_once head p = record { says = λ past t. Gives head p; events = λ past t. []; abandoned = λ past t. [] }

-- this response at once where the layer answers in the inner value's place, else the inner answers
abbrev pub answers_instead : {H P X : Type 0} → Bool → H → P → FutureHistory H P X → FutureHistory H P X
answers_instead true head p h = answers_at_once head p
answers_instead false head p h = h

-- what the call records: nothing where the layer answers in the inner value's place
abbrev pub records_unless : Bool → List Event → List Event
records_unless true es = []
records_unless false es = es

-- where a future is: polled at these times and waiting, or it has answered
pub data Where : Type 0 where
  Waiting : List ℕ → Where
  Answered : Where

-- where a future is after one more poll with this answer
abbrev pub where_after : {A : Type 0} → List ℕ → ℕ → Poll A → Where
where_after past t Pending = Waiting (t ∷ past)
where_after past t (Ready a) = Answered

-- what abandoning it records where it is: nothing once it has answered
abbrev pub abandoned_at : (List ℕ → ℕ → List Event) → Where → ℕ → List Event
abandoned_at abandoned (Waiting past) t = abandoned past t
abandoned_at abandoned Answered t = []

-- these events were recorded, which used at most as much room
pub record Grew (was now : Recorded) (es : List Event) : Type 0 where
  pub log : now.log ≡ was.log ++ es
  pub spare : was.spare ≤ now.spare + length es

-- a recorder's numbers are as they were
abbrev pub NumbersStay : Recorded → Recorded → Type 0
NumbersStay was now = now.rest ≡ was.rest

-- what is done to a recorder by what counts nothing: these events were recorded, and its numbers stay
pub record Adds (was now : Recorded) (es : List Event) : Type 0 where
  pub grew : Grew was now es
  pub numbers : NumbersStay was now

-- the answer is what is said; Heads ties a response's head to what is said of it, Stands its body to its plan
abbrev pub IsSaid : {H P B X E : Type 0} → (H → ResponseHead X → Type 0) → (P → B → List ℕ → Type 0) → Said H P E → Poll (Result (Response B X) E) → Type 0
IsSaid Heads Stands Waits Pending = ⊤
IsSaid Heads Stands (Gives h p) (Ready (Ok r)) = Heads h r.head × Stands p r.body []
IsSaid Heads Stands (Fails x) (Ready (Err e)) = e ≡ x
IsSaid Heads Stands Waits (Ready a) = ⊥
IsSaid Heads Stands (Gives h p) Pending = ⊥
IsSaid Heads Stands (Gives h p) (Ready (Err e)) = ⊥
IsSaid Heads Stands (Fails x) Pending = ⊥
IsSaid Heads Stands (Fails x) (Ready (Ok r)) = ⊥

-- one poll of a body answers and records by its history
pub record FrameSteps {P B D E : Type 0} (Stands : P → B → List ℕ → Type 0) (h : BodyHistory D E) (p : P) (past : List ℕ)
    (was : Recorded) (q : ℕ) (a : Poll (Option (Result (Frame D) E))) (new : B) (now : Recorded) : Type 0 where
  pub answer : a ≡ h.frame past q
  pub adds : Adds was now (h.events past q)
  pub stands : Stands p new (q ∷ past)

-- a body of this plan that stands after some polls goes on by the history of the plan
pub record BodyFollows {P B D E : Type 0} (frames : Frames B D E) (abandons : Abandons B) (ends : B → Bool)
    (Stands : P → B → List ℕ → Type 0) (history : P → BodyHistory D E) : Type 0 where
  pub tells : (p : P) (b : B) (past : List ℕ) → Stands p b past → ends b ≡ (history p).ends past
  pub frame : (p : P) (past : List ℕ) (b : B) (was : Recorded) (m : Moment) (a : Poll (Option (Result (Frame D) E))) (new : B) (now : Recorded) →
      Stands p b past → frames b was m (Ok a) new now → FrameSteps Stands (history p) p past was m.now a new now
  pub abandoned : (p : P) (past : List ℕ) (b : B) (was : Recorded) (m : Moment) (u : Unit) (now : Recorded) →
      Stands p b past → abandons b was m (Ok u) now → Adds was now ((history p).abandoned past m.now)
  pub refused : (p : P) (past : List ℕ) (b : B) (was : Recorded) (m : Moment) (e : NoMemory) (now : Recorded) →
      Stands p b past → abandons b was m (Err e) now → was.spare < length ((history p).abandoned past m.now)

-- one poll of a future answers and records by its history
pub record PollSteps {H P F B X E : Type 0} (Heads : H → ResponseHead X → Type 0) (Stands : F → Where → Type 0) (BodyStands : P → B → List ℕ → Type 0) (h : FutureHistory H P E)
    (past : List ℕ) (was : Recorded) (t : ℕ) (a : Poll (Result (Response B X) E)) (new : F) (now : Recorded) : Type 0 where
  pub answer : IsSaid Heads BodyStands (h.says past t) a
  pub adds : Adds was now (h.events past t)
  pub stands : Stands new (where_after past t a)

-- a future that stands after some polls goes on by its history
pub record FutureFollows {H P F B X E : Type 0} (polls : Polls F (Result (Response B X) E)) (abandons : Abandons F) (Heads : H → ResponseHead X → Type 0)
    (Stands : F → Where → Type 0) (BodyStands : P → B → List ℕ → Type 0) (h : FutureHistory H P E) : Type 0 where
  pub poll : (past : List ℕ) (f : F) (was : Recorded) (m : Moment) (a : Poll (Result (Response B X) E)) (new : F) (now : Recorded) →
      Stands f (Waiting past) → polls f was m (Ok a) new now → PollSteps Heads Stands BodyStands h past was m.now a new now
  pub abandoned : (w : Where) (f : F) (was : Recorded) (m : Moment) (u : Unit) (now : Recorded) →
      Stands f w → abandons f was m (Ok u) now → Adds was now (abandoned_at h.abandoned w m.now)
  pub refused : (w : Where) (f : F) (was : Recorded) (m : Moment) (e : NoMemory) (now : Recorded) →
      Stands f w → abandons f was m (Err e) now → was.spare < length (abandoned_at h.abandoned w m.now)

-- a service gives for such a request a future that stands at the time of the call, and serves on as before, also where it is refused
pub record ServiceFollows {S R F : Type 0} (calls : Calls S R F) (Asks : R → Type 0) (Serves : S → Type 0) (Stands : ℕ → F → Where → Type 0) (events : List Event) : Type 0 where
  pub call : (s : S) (req : R) (was : Recorded) (m : Moment) (f : F) (new : S) (now : Recorded) →
      Asks req → Serves s → calls s req was m (Ok f) new now → Serves new × Stands m.now f (Waiting []) × Adds was now events
  pub refused : (s : S) (req : R) (was : Recorded) (m : Moment) (e : NoMemory) (new : S) (now : Recorded) →
      Serves s → calls s req was m (Err e) new now → Serves new
