-- The history of a body with room for so many bytes, and where such a body stands.
use Rattle.std.specs.Prelude.{◌≡◌, ℕ, ◌-◌, nat_le, List, [], ◌∷◌, Option, Some, None, Result, Ok, Err, if◌then◌else◌}
use Rattle.http_body.specs.declared.frame.Frame.{Frame}
use Rattle.life_core.specs.History.{BodyHistory}
use Rattle.life_core.specs.Limited.{length_of}
use Rattle.life_core.specs.declared.body.BodyError.{BodyError}
use Rattle.life_core.specs.declared.body.BodyError.TheVariants.{LengthLimit, Inner}
use Rattle.life_core.specs.declared.body.limited.Limited.{Limited}
use Rattle.life_core.specs.declared.poll.Poll.{Poll}
use Rattle.life_core.specs.declared.poll.Poll.TheVariants.{Ready, Pending}

-- the room after this inner answer: a chunk takes its length, and one that is longer takes all
abbrev pub room_after : {E : Type 0} → ℕ → Poll (Option (Result (Frame (List ℕ)) E)) → ℕ
room_after room Pending = room
room_after room (Ready None) = room
room_after room (Ready (Some (Ok f))) = if nat_le (length_of f) room then room - length_of f else 0
room_after room (Ready (Some (Err e))) = room

-- the room after these polls
abbrev pub room_left : {E : Type 0} → ℕ → BodyHistory (List ℕ) E → List ℕ → ℕ
room_left room h [] = room
room_left room h (q ∷ past) = room_after (room_left room h past) (h.frame past q)

-- the inner answer, where its chunk is at most as long as the room
abbrev pub within : {E : Type 0} → ℕ → Poll (Option (Result (Frame (List ℕ)) E)) → Poll (Option (Result (Frame (List ℕ)) (BodyError E)))
within room Pending = Pending
within room (Ready None) = Ready None
within room (Ready (Some (Ok f))) = if nat_le (length_of f) room then Ready (Some (Ok f)) else Ready (Some (Err LengthLimit))
within room (Ready (Some (Err e))) = Ready (Some (Err (Inner e)))

-- what a body with this room at its start answers; all else is the inner one's
abbrev pub limited_history : {E : Type 0} → ℕ → BodyHistory (List ℕ) E → BodyHistory (List ℕ) (BodyError E)
limited_history room h = record {
  frame = λ past q. within (room_left room h past) (h.frame past q);
  events = h.events;
  ends = h.ends;
  abandoned = h.abandoned;
}

-- the plan keeps the room at the start
pub record LimitedStands {P B E : Type 0} (h : P → BodyHistory (List ℕ) E) (Stands : P → B → List ℕ → Type 0) (p : ℕ × P) (b : Limited B) (past : List ℕ) : Type 0 where
  pub room_is : b.room ≡ room_left p.0 (h p.1) past
  pub inner : Stands p.1 b.body past
