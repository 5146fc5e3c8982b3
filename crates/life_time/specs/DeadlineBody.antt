-- What `DeadlineBody` does: its timer first, then the inner body.
use Rattle.std.specs.Prelude.{◌≡◌, ℕ, ◌≤◌, true, false, List, Some, Ok, Err}
use Rattle.std.specs.List.{All}
use Rattle.life_core.specs.Timer.{due}
use Rattle.life_core.specs.Calls.{Frames, Answer, WrapsFaults}
use Rattle.life_core.specs.FramePolls.{FramePoll, PolledFrom}
use Rattle.life_core.specs.Moment.{Moment}
use Rattle.life_core.specs.Recorded.{Recorded}
use Rattle.life_core.specs.declared.poll.Poll.TheVariants.{Ready}
use Rattle.life_core.specs.declared.body.BodyError.{BodyError}
use Rattle.life_core.specs.declared.body.BodyError.TheVariants.{Elapsed}
use Rattle.life_time.specs.declared.timeout.deadline_body.DeadlineBody.{DeadlineBody}

-- the time is over: the inner body is not asked
pub record ElapsedFrames {B D E : Type 0} (old : DeadlineBody B) (was : Recorded) (answer : Answer D (BodyError E))
    (new : DeadlineBody B) (now : Recorded) : Type 0 where
  pub answer_is : answer ≡ Ok (Ready (Some (Err Elapsed)))
  pub same : new ≡ old
  pub unrecorded : now ≡ was

-- the inner answer, its faults told as inner ones
pub record InTimeFrames {B D E : Type 0} (frames : Frames B D E) (old : DeadlineBody B) (was : Recorded) (m : Moment)
    (answer : Answer D (BodyError E)) (new : DeadlineBody B) (now : Recorded) : Type 0 where
  pub inner : WrapsFaults frames old.body was m answer new.body now
  pub same : new ≡ record old { body = new.body }

-- by its timer: due, it faults; else the inner body answers
pub record DeadlineFrames {B D E : Type 0} (frames : Frames B D E) (old : DeadlineBody B) (was : Recorded) (m : Moment)
    (answer : Answer D (BodyError E)) (new : DeadlineBody B) (now : Recorded) : Type 0 where
  pub on_due : due old.timer.start old.timer.length m.now ≡ true → ElapsedFrames old was answer new now
  pub in_time : due old.timer.start old.timer.length m.now ≡ false → InTimeFrames frames old was m answer new now

-- the answer of a wait that is over
abbrev pub IsElapsed : {D E : Type 0} → Answer D (BodyError E) → Type 0
IsElapsed answer = answer ≡ Ok (Ready (Some (Err Elapsed)))

-- however it is polled from here on, each poll that is not earlier than this time finds the wait over
abbrev pub StaysElapsed : {B D E : Type 0} → Frames B D (BodyError E) → ℕ → B → Type 0
StaysElapsed {B} {D} {E} frames time b =
    (polls : List (FramePoll B D (BodyError E))) → PolledFrom frames b polls → All (λ p. time ≤ p.moment.now → IsElapsed p.answer) polls
