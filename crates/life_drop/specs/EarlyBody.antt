-- What `OnEarlyDropBody` does: the inner answers; one that leaves it done completes its guard.
use Rattle.std.specs.Prelude.{◌≡◌, Bool, true, false, Option, Some, None, Result, Ok, Err, if◌then◌else◌}
use Rattle.std.specs.Result.{result_and}
use Rattle.life_core.specs.Calls.{Abandons, Frames, Answer}
use Rattle.life_core.specs.Life.{life_on}
use Rattle.life_core.specs.Moment.{Moment}
use Rattle.life_core.specs.Recorded.{Recorded}
use Rattle.life_core.specs.declared.poll.Poll.{Poll}
use Rattle.life_core.specs.declared.poll.Poll.TheVariants.{Ready, Pending}
use Rattle.life_core.specs.declared.recorder.NoMemory.{NoMemory}
use Rattle.life_drop.specs.declared.on_early_drop.guard.OnEarlyDropGuard.{OnEarlyDropGuard}
use Rattle.life_drop.specs.declared.on_early_drop.body.OnEarlyDropBody.{OnEarlyDropBody}
use Rattle.life_drop.specs.Guard.{Drops, Fires, GuardMay, callback_of}

-- the inner body and the guard's callback may be called
abbrev pub EarlyBodyMay : {B C : Type 0} → (B → Type 0) → (C → Type 0) → OnEarlyDropBody B C → Type 0
EarlyBodyMay may callback_may b = may b.inner × GuardMay callback_may b.guard

-- the inner value is abandoned, and then the guard fires, whatever the first answered
pub record AbandonsThenFires {B C : Type 0} (abandons : Abandons B) (drops : Drops C) (inner : B) (guard : OnEarlyDropGuard C)
    (was : Recorded) (m : Moment) (answer : Result Unit NoMemory) (now : Recorded) : Type 0 where
  pub between : Recorded
  pub abandoned : Result Unit NoMemory
  pub fired : Result Unit NoMemory
  pub abandoning : abandons inner was m abandoned between
  pub firing : Fires drops guard m.now between fired now
  pub answer_is : answer ≡ result_and abandoned fired

-- the inner body is abandoned, and then the guard fires
abbrev pub EarlyBodyAbandons : {B C : Type 0} → Abandons B → Drops C → Abandons (OnEarlyDropBody B C)
EarlyBodyAbandons abandons drops b = AbandonsThenFires abandons drops b.inner b.guard

-- whether an answer is an ending one, where the body then tells this of its end
abbrev pub is_ending_frame : {D E : Type 0} → Poll (Option (Result D E)) → Bool → Bool
is_ending_frame (Ready (Some (Ok f))) ends = ends
is_ending_frame (Ready (Some (Err e))) ends = true
is_ending_frame (Ready None) ends = true
is_ending_frame Pending ends = false

-- the callback that an answer leaves: none where a ready one leaves the body done
abbrev pub left_by : {C D E : Type 0} → Answer D E → Bool → Option C → Option C
left_by (Ok (Ready a)) done callback = if done then None else callback
left_by (Ok Pending) done callback = callback
left_by (Err e) done callback = callback

-- the inner answer; a ready one passes, and completes the guard where the body is done
pub record EarlyFrames {B C D E : Type 0} (frames : Frames B D E) (ends : B → Bool) (old : OnEarlyDropBody B C)
    (was : Recorded) (m : Moment) (answer : Answer D E) (new : OnEarlyDropBody B C) (now : Recorded) : Type 0 where
  pub inner : frames old.inner was m answer new.inner now
  pub life : new.life ≡ life_on old.life m.now answer (ends new.inner)
  pub guard : callback_of new.guard ≡ left_by answer new.life.done (callback_of old.guard)
