-- The polls of a body, one after another.
use Rattle.std.specs.Prelude.{List, [], ◌∷◌, ⊤}
use Rattle.life_core.specs.Calls.{Frames, Answer}
use Rattle.life_core.specs.Moment.{Moment}
use Rattle.life_core.specs.Recorded.{Recorded}

-- one poll of a body: the recorder before, when, the answer, body and recorder after
pub record FramePoll (B D E : Type 0) : Type 0 where
  pub was : Recorded
  pub moment : Moment
  pub answer : Answer D E
  pub after : B
  pub now : Recorded

-- the body was polled so, one poll after another
abbrev pub PolledFrom : {B D E : Type 0} → Frames B D E → B → List (FramePoll B D E) → Type 0
PolledFrom frames b [] = ⊤
PolledFrom frames b (p ∷ polls) = frames b p.was p.moment p.answer p.after p.now × PolledFrom frames p.after polls
