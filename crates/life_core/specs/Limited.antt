-- A body with room for so many bytes.
use Rattle.std.specs.Prelude.{◌≡◌, ℕ, ◌≤◌, ◌<◌, ◌-◌, nat_le, List, length, Option, Some, None, Ok, Err, if◌then◌else◌}
use Rattle.http_body.specs.declared.frame.Frame.{Frame}
use Rattle.http_body.specs.Frame.{data_of}
use Rattle.life_core.specs.Calls.{Frames}
use Rattle.life_core.specs.Moment.{Moment}
use Rattle.life_core.specs.Recorded.{Recorded}
use Rattle.life_core.specs.declared.body.BodyError.{BodyError}
use Rattle.life_core.specs.declared.body.BodyError.TheVariants.{Elapsed, LengthLimit, Inner}
use Rattle.life_core.specs.declared.body.limited.Limited.{Limited}
use Rattle.life_core.specs.declared.poll.Poll.TheVariants.{Ready, Pending}

-- the body under a limit, with this room for its bytes
abbrev pub limited_of : {B : Type 0} → B → ℕ → Limited B
limited_of body room = record { body = body; room = room }

-- the body under the limit
abbrev pub body_in : {B : Type 0} → Limited B → B
body_in b = b.body

-- how many bytes of data it still lets through
abbrev pub room_in : {B : Type 0} → Limited B → ℕ
room_in b = b.room

-- how many bytes a chunk has, if there is one
abbrev pub chunk_length : Option (List ℕ) → ℕ
chunk_length (Some chunk) = length chunk
chunk_length None = 0

-- how many bytes of data a frame holds
abbrev pub length_of : Frame (List ℕ) → ℕ
length_of frame = chunk_length (data_of frame)

-- the inner chunk is longer than the room, and no room is left
pub record TooLong {B E : Type 0} (frames : Frames B (List ℕ) E) (old : Limited B) (was : Recorded) (m : Moment) (new : Limited B) (now : Recorded) : Type 0 where
  pub frame : Frame (List ℕ)
  pub inner : frames old.body was m (Ok (Ready (Some (Ok frame)))) new.body now
  pub long : old.room < length_of frame
  pub gone : new.room ≡ 0

-- the frame fits, and its data lessens the room
abbrev pub LimitedFrames : {B E : Type 0} → Frames B (List ℕ) E → Frames (Limited B) (List ℕ) (BodyError E)
LimitedFrames frames old was m (Ok (Ready (Some (Ok f)))) new now =
    frames old.body was m (Ok (Ready (Some (Ok f)))) new.body now × (length_of f ≤ old.room) × (new.room ≡ old.room - length_of f)
LimitedFrames frames old was m (Ok (Ready (Some (Err Elapsed)))) new now = ⊥
LimitedFrames frames old was m (Ok (Ready (Some (Err LengthLimit)))) new now = TooLong frames old was m new now
LimitedFrames frames old was m (Ok (Ready (Some (Err (Inner e))))) new now = frames old.body was m (Ok (Ready (Some (Err e)))) new.body now × (new.room ≡ old.room)
LimitedFrames frames old was m (Ok (Ready None)) new now = frames old.body was m (Ok (Ready None)) new.body now × (new.room ≡ old.room)
LimitedFrames frames old was m (Ok Pending) new now = frames old.body was m (Ok Pending) new.body now × (new.room ≡ old.room)
LimitedFrames frames old was m (Err e) new now = frames old.body was m (Err e) new.body now × (new.room ≡ old.room)

-- an upper bound that is no more than the room
abbrev pub at_most : ℕ → Option ℕ → Option ℕ
at_most room (Some most) = if nat_le most room then Some most else Some room
at_most room None = Some room

-- exactly the room where so much is to come, else no more than the room
abbrev pub hints_within : ℕ → ℕ × Option ℕ → ℕ × Option ℕ
hints_within room hints = if nat_le room hints.0 then (room, Some room) else (hints.0, at_most room hints.1)
