-- What scripts and scenarios are seen as.
use Rattle.std.specs.Prelude.{ℕ, List}
use Rattle.http_uri.specs.declared.uri.Uri.{Uri}
use Rattle.life_script.specs.Headers.{Headers}
use Rattle.life_script.specs.declared.scenario.BodyItem.{BodyItem}
use Rattle.life_script.specs.declared.scenario.CallItem.{CallItem}
use Rattle.life_script.specs.declared.scenario.PollItem.{PollItem}
use Rattle.life_script.specs.declared.scenario.Step.{Step}

-- the script of one request; its method is seen as its bytes
pub record ScriptView : Type 0 where
  pub method : List ℕ
  pub uri : Uri
  pub headers : Headers
  pub body : List BodyItem
  pub call : CallItem
  pub polls : List PollItem

-- the scripts of the requests, the steps, and the time of the end in nanoseconds
pub record ScenarioView : Type 0 where
  pub requests : List ScriptView
  pub steps : List Step
  pub end : ℕ
