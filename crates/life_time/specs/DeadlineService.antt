-- What `ResponseBodyDeadline` does: the inner answers, with a timer round each body.
use Rattle.std.specs.Prelude.{◌≡◌, Result, Ok, Err, IfOk}
use Rattle.std.specs.Borrow.{Lends, MutBor, Fml}
use denote.RattleType.{RattleType}
use Rattle.life_core.specs.Calls.{Polls, Calls, Reply, under, OnResponse}
use Rattle.life_core.specs.Moment.{Moment}
use Rattle.life_core.specs.Recorded.{Recorded}
use Rattle.life_core.specs.declared.message.Response.{Response}
use Rattle.life_core.specs.declared.recorder.NoMemory.{NoMemory}
use Rattle.life_time.specs.declared.timeout.deadline_body.DeadlineBody.{DeadlineBody}
use Rattle.life_time.specs.declared.timeout.deadline_service.ResponseBodyDeadline.{ResponseBodyDeadline}
use Rattle.life_time.specs.declared.timeout.deadline_service.ResponseBodyDeadlineFuture.{ResponseBodyDeadlineFuture}
use Rattle.life_time.specs.contracts.timeout.deadline_service.ResponseBodyDeadline.{the_row as deadline_row}

-- once the borrow r ends, the service has the inner one that was left
abbrev pub LendsDeadlineInner : (S : RattleType) → MutBor (ResponseBodyDeadline S.Denot) → MutBor S.Denot → Fml
LendsDeadlineInner S s r = Lends (deadline_row S) S s r (λ w. record s.now { inner = w })

-- what the inner call gave
abbrev pub given : {F : Type 0} → Result (ResponseBodyDeadlineFuture F) NoMemory → Result F NoMemory
given (Ok f) = Ok f.inner
given (Err e) = Err e

-- the inner call, and a future over what it gave that keeps the time
pub record DeadlineCalls {S R F : Type 0} (calls : Calls S R F) (old : ResponseBodyDeadline S) (req : R) (was : Recorded)
    (m : Moment) (answer : Result (ResponseBodyDeadlineFuture F) NoMemory) (new : ResponseBodyDeadline S) (now : Recorded)
    : Type 0 where
  pub inner : calls old.inner req was m (given answer) new.inner now
  pub timeout : IfOk answer (λ f. f.timeout ≡ old.timeout)
  pub same : new ≡ record old { inner = new.inner }

-- the inner answer, with a timer round the body that starts now
pub record DeadlinePolls {F B X E : Type 0} (polls : Polls F (Result (Response B X) E)) (old : ResponseBodyDeadlineFuture F)
    (was : Recorded) (m : Moment) (answer : Reply (DeadlineBody B) X E)
    (new : ResponseBodyDeadlineFuture F) (now : Recorded) : Type 0 where
  pub inner : polls old.inner was m (under (λ b. b.body) answer) new.inner now
  pub timer : OnResponse answer (λ r. r.body.timer ≡ record { start = m.now; length = old.timeout })
  pub same : new ≡ record old { inner = new.inner }
