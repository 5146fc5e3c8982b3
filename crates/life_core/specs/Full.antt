-- Bodies of one chunk, and of none.
use Rattle.std.specs.Prelude.{◌≡◌, ℕ, Bool, List, [], ◌∷◌, length, Option, Some, None, Ok, is_none}
use Rattle.http_body.specs.Frame.{data_frame}
use Rattle.life_core.specs.Calls.{Answer}
use Rattle.life_core.specs.Moment.{Moment}
use Rattle.life_core.specs.Recorded.{Recorded}
use Rattle.life_core.specs.declared.body.empty.Empty.{Empty}
use Rattle.life_core.specs.declared.body.full.Full.{Full}
use Rattle.life_core.specs.declared.poll.Poll.TheVariants.{Ready}

-- an empty chunk is none
abbrev pub chunk_of : List ℕ → Option (List ℕ)
chunk_of [] = None
chunk_of (byte ∷ bytes) = Some (byte ∷ bytes)

-- a body of this chunk
abbrev pub full_of : List ℕ → Full
full_of chunk = record { chunk = chunk_of chunk }

-- at its end from the start
abbrev pub IsEmptyFull : Full → Type 0
IsEmptyFull b = b ≡ full_of []

-- a body of nothing
abbrev pub empty_body : Empty
empty_body = record {}

-- the chunk, or the end where it is gone
abbrev pub full_answer : {E : Type 0} → Option (List ℕ) → Answer (List ℕ) E
full_answer (Some chunk) = Ok (Ready (Some (Ok (data_frame chunk))))
full_answer None = Ok (Ready None)

-- the chunk once, then the end; nothing is recorded
pub record FullFrames {E : Type 0} (old : Full) (was : Recorded) (m : Moment) (answer : Answer (List ℕ) E) (new : Full) (now : Recorded) : Type 0 where
  pub answer_is : answer ≡ full_answer old.chunk
  pub taken : new.chunk ≡ None
  pub unrecorded : now ≡ was

-- it tells its end once the chunk is gone
abbrev pub full_ends : Full → Bool
full_ends b = is_none b.chunk

-- exactly the length of what is to come
abbrev pub hints_of : Option (List ℕ) → ℕ × Option ℕ
hints_of (Some chunk) = (length chunk, Some (length chunk))
hints_of None = (0, Some 0)

-- exactly the length of the chunk, or 0 where it is gone
abbrev pub full_hints : Full → ℕ × Option ℕ
full_hints b = hints_of b.chunk

-- the end, each time; nothing is recorded
pub record EmptyFrames {E : Type 0} (old : Empty) (was : Recorded) (m : Moment) (answer : Answer (List ℕ) E) (new : Empty) (now : Recorded) : Type 0 where
  pub answer_is : answer ≡ Ok (Ready None)
  pub unrecorded : now ≡ was
