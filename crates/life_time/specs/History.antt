-- Where the values of these layers stand after some polls, and what their histories are.
use Rattle.std.specs.Prelude.{◌≡◌, ℕ, List, [], ◌∷◌, if◌then◌else◌, Option, Some, None, Ok, Err, Result, ⊤}
use Rattle.http_body.specs.declared.frame.Frame.{Frame}
use Rattle.life_core.specs.Timer.{due}
use Rattle.life_core.specs.History.{BodyHistory, Gives, said_under, FutureHistory, Where, Waiting, Answered}
use Rattle.life_core.specs.declared.body.BodyError.{BodyError}
use Rattle.life_core.specs.declared.body.BodyError.TheVariants.{Elapsed, Inner}
use Rattle.life_core.specs.declared.poll.Poll.{Poll}
use Rattle.life_core.specs.declared.poll.Poll.TheVariants.{Ready, Pending}
use Rattle.life_core.specs.declared.clock.Timer.{Timer}
use Rattle.life_time.specs.declared.timeout.deadline_body.DeadlineBody.{DeadlineBody}
use Rattle.life_time.specs.declared.timeout.deadline_service.ResponseBodyDeadline.{ResponseBodyDeadline}
use Rattle.life_time.specs.declared.timeout.deadline_service.ResponseBodyDeadlineFuture.{ResponseBodyDeadlineFuture}
use Rattle.life_time.specs.declared.timeout.service.ResponseFuture.{ResponseFuture}
use Rattle.life_time.specs.declared.timeout.service.Timeout.{Timeout}

-- the inner future is there until the answer, and stands where it was polled
abbrev pub Held : {F : Type 0} → (F → Where → Type 0) → Option F → Where → Type 0
Held Stands (Some f) w = Stands f w
Held Stands None (Waiting past) = ⊥
Held Stands None Answered = ⊤

-- a future of `Timeout` with this timer and status
pub record TimeoutStands {F : Type 0} (timer : Timer) (status : ℕ) (Stands : F → Where → Type 0) (f : ResponseFuture F) (w : Where) : Type 0 where
  pub timer_is : f.timer ≡ timer
  pub status_is : f.status_code ≡ status
  pub inner : Held Stands f.inner w

-- where the timer is due, the late answer, with what abandoning the inner future records; else the inner answer
abbrev pub timeout_history : {H P X : Type 0} → Timer → H → P → FutureHistory H P X → FutureHistory H P X
timeout_history timer late p h = record {
  says = λ past t. if due timer.start timer.length t then Gives late p else h.says past t;
  events = λ past t. if due timer.start timer.length t then h.abandoned past t else h.events past t;
  abandoned = h.abandoned;
}

-- a `Timeout` with this time and status, over a service that serves
pub record TimeoutServes {S : Type 0} (timeout status : ℕ) (Serves : S → Type 0) (s : Timeout S) : Type 0 where
  pub timeout_is : s.timeout ≡ timeout
  pub status_is : s.status_code ≡ status
  pub inner : Serves s.inner

-- a future of `ResponseBodyDeadline`
pub record DeadlineStands {F : Type 0} (timeout : ℕ) (Stands : F → Where → Type 0) (f : ResponseBodyDeadlineFuture F) (w : Where) : Type 0 where
  pub timeout_is : f.timeout ≡ timeout
  pub inner : Stands f.inner w

-- the inner answers; the plan of a body keeps the time of its response
abbrev pub deadline_history : {H P X : Type 0} → FutureHistory H P X → FutureHistory H (ℕ × P) X
deadline_history h = record { says = λ past t. said_under (λ head p. (t, p)) (h.says past t); events = h.events; abandoned = h.abandoned }

-- a `ResponseBodyDeadline` with this time, over a service that serves
pub record DeadlineServes {S : Type 0} (timeout : ℕ) (Serves : S → Type 0) (s : ResponseBodyDeadline S) : Type 0 where
  pub timeout_is : s.timeout ≡ timeout
  pub inner : Serves s.inner

-- the polls that were in time
abbrev pub undue : ℕ → ℕ → List ℕ → List ℕ
undue start length [] = []
undue start length (q ∷ past) = if due start length q then undue start length past else q ∷ undue start length past

-- a body under a deadline from the time that its plan keeps: the inner body was asked by the polls in time
pub record DeadlineBodyStands {P B : Type 0} (timeout : ℕ) (Stands : P → B → List ℕ → Type 0) (p : ℕ × P) (b : DeadlineBody B) (past : List ℕ) : Type 0 where
  pub timer_is : b.timer ≡ record { start = p.0; length = timeout }
  pub inner : Stands p.1 b.body (undue p.0 timeout past)

-- the inner answer, its fault told as an inner one
abbrev pub wrapped : {D E : Type 0} → Poll (Option (Result (Frame D) E)) → Poll (Option (Result (Frame D) (BodyError E)))
wrapped Pending = Pending
wrapped (Ready None) = Ready None
wrapped (Ready (Some (Ok f))) = Ready (Some (Ok f))
wrapped (Ready (Some (Err e))) = Ready (Some (Err (Inner e)))

-- a fault where the timer is due, and nothing is recorded then; else the inner body answers, as after the polls that were in time
abbrev pub deadline_body_history : {P D E : Type 0} → ℕ → (P → BodyHistory D E) → ℕ × P → BodyHistory D (BodyError E)
deadline_body_history timeout h p = record {
  frame = λ past q. if due p.0 timeout q then Ready (Some (Err Elapsed)) else wrapped ((h p.1).frame (undue p.0 timeout past) q);
  events = λ past q. if due p.0 timeout q then [] else (h p.1).events (undue p.0 timeout past) q;
  ends = λ past. (h p.1).ends (undue p.0 timeout past);
  abandoned = λ past q. (h p.1).abandoned (undue p.0 timeout past) q;
}
