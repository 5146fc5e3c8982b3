-- What a scripted response is seen as.
use Rattle.std.specs.Prelude.{ℕ, List, Bool}
use Rattle.life_script.specs.Headers.{Headers}
use Rattle.life_script.specs.declared.scenario.BodyItem.{BodyItem}

-- its status, its headers, what its body gives, and whether the body tells its end
pub record ReplyView : Type 0 where
  pub status : ℕ
  pub headers : Headers
  pub body : List BodyItem
  pub tells : Bool
