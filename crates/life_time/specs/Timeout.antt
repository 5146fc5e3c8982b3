-- What `Timeout` does: its timer first, then the inner future.
use Rattle.std.specs.Prelude.{◌≡◌, ℕ, true, false, Some, None, Result, Ok, Err, IfOk}
use Rattle.std.specs.Borrow.{Lends, MutBor, Fml}
use denote.RattleType.{RattleType}
use Rattle.life_core.specs.Timer.{due}
use Rattle.life_core.specs.Calls.{CallsOver, Polls, Abandons, Calls, spent, AbandonsIfAny, PollsWithin}
use Rattle.life_core.specs.Message.{IsBare}
use Rattle.life_core.specs.Moment.{Moment}
use Rattle.life_core.specs.Recorded.{Recorded}
use Rattle.life_core.specs.declared.message.Response.{Response}
use Rattle.life_core.specs.declared.poll.Poll.{Poll}
use Rattle.life_core.specs.declared.poll.Poll.TheVariants.{Ready, Pending}
use Rattle.life_core.specs.declared.recorder.NoMemory.{NoMemory}
use Rattle.life_time.specs.declared.timeout.service.Timeout.{Timeout}
use Rattle.life_time.specs.declared.timeout.service.ResponseFuture.{ResponseFuture}
use Rattle.life_time.specs.contracts.timeout.service.Timeout.{the_row as timeout_row}

-- once the borrow r ends, the service has the inner one that was left
abbrev pub LendsTimeoutInner : (S : RattleType) → MutBor (Timeout S.Denot) → MutBor S.Denot → Fml
LendsTimeoutInner S s r = Lends (timeout_row S) S s r (λ w. record s.now { inner = w })

-- the future holds an inner one, a timer that started now, and the layer's parts
pub record IsStarted {S F : Type 0} (s : Timeout S) (m : Moment) (inner : F) (f : ResponseFuture F) : Type 0 where
  pub holds : f.inner ≡ Some inner
  pub start : f.timer.start ≡ m.now
  pub length : f.timer.length ≡ s.timeout
  pub status : f.status_code ≡ s.status_code

-- the inner call, and a future over what it gave
pub record TimeoutCalls {S R F : Type 0} (calls : Calls S R F) (old : Timeout S) (req : R) (was : Recorded) (m : Moment)
    (answer : Result (ResponseFuture F) NoMemory) (new : Timeout S) (now : Recorded) : Type 0 where
  pub inner : CallsOver calls (IsStarted old m) old.inner req was m answer new.inner now
  pub same : new ≡ record old { inner = new.inner }

-- the status with no headers and a default body
abbrev pub IsTimedOut : {B X E : Type 0} → (B → Type 0) → (X → Type 0) → ℕ → Poll (Result (Response B X) E) → Type 0
IsTimedOut is_body is_ext status (Ready (Ok r)) = IsBare is_ext status r.head × is_body r.body
IsTimedOut is_body is_ext status (Ready (Err e)) = ⊥
IsTimedOut is_body is_ext status Pending = ⊥

-- the inner future is abandoned and not polled
pub record DuePolls {F B X E : Type 0} (abandons : Abandons F) (is_body : B → Type 0) (is_ext : X → Type 0)
    (old : ResponseFuture F) (was : Recorded) (m : Moment) (answer : Result (Poll (Result (Response B X) E)) NoMemory)
    (new : ResponseFuture F) (now : Recorded) : Type 0 where
  pub abandoned : AbandonsIfAny abandons old.inner was m (spent answer) now
  pub reply : IfOk answer (IsTimedOut is_body is_ext old.status_code)
  pub after : new ≡ record old { inner = None }

-- the inner future is polled
pub record InnerPolls {F A : Type 0} (polls : Polls F A) (old : ResponseFuture F) (was : Recorded) (m : Moment)
    (answer : Result (Poll A) NoMemory) (new : ResponseFuture F) (now : Recorded) : Type 0 where
  pub inner : PollsWithin polls old.inner was m answer new.inner now
  pub same : new ≡ record old { inner = new.inner }

-- by its timer: due, it answers the status; else the inner future answers
pub record TimeoutPolls {F B X E : Type 0} (polls : Polls F (Result (Response B X) E)) (abandons : Abandons F)
    (is_body : B → Type 0) (is_ext : X → Type 0) (old : ResponseFuture F) (was : Recorded) (m : Moment)
    (answer : Result (Poll (Result (Response B X) E)) NoMemory) (new : ResponseFuture F) (now : Recorded) : Type 0 where
  pub on_due : due old.timer.start old.timer.length m.now ≡ true → DuePolls abandons is_body is_ext old was m answer new now
  pub in_time : due old.timer.start old.timer.length m.now ≡ false → InnerPolls polls old was m answer new now
