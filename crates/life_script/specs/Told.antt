-- What turns are seen as.
use Rattle.std.specs.Prelude.{List}
use Rattle.life_core.specs.declared.event.Event.{Event}
use Rattle.life_script.specs.declared.answer.Answer.{Answer}

-- what a step answered, and what was recorded in it
pub record TurnView : Type 0 where
  pub answer : Answer
  pub events : List Event

-- the turns of a request, and what was recorded at the end
pub record ToldView : Type 0 where
  pub turns : List TurnView
  pub at_end : List Event
