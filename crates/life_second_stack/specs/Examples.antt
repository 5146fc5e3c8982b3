-- A worked scenario: a body that is abandoned past its deadline counts as dropped early.
use Rattle.std.specs.Prelude.{◌≡◌, refl, List, [], ◌∷◌, codes, true, false}
use Rattle.http_uri.specs.declared.uri.Uri.{Uri}
use Rattle.life_core.specs.declared.body.BodyError.TheVariants.{Elapsed}
use Rattle.life_core.specs.declared.event.DropKind.TheVariants as drop_kind
use Rattle.life_core.specs.declared.event.Event.TheVariants as event
use Rattle.life_core.specs.declared.latency.LatencyUnit.TheVariants.{Nanos}
use Rattle.life_script.specs.Scenario.{ScriptView}
use Rattle.life_script.specs.declared.answer.Answer.TheVariants as ans
use Rattle.life_script.specs.declared.scenario.Act.TheVariants as act
use Rattle.life_script.specs.declared.scenario.BodyItem.TheVariants as body_item
use Rattle.life_script.specs.declared.scenario.CallItem.TheVariants.{Serve}
use Rattle.life_script.specs.declared.scenario.Then.TheVariants as then_
use Rattle.life_session.specs.Acts.{Own}
use Rattle.life_session.specs.Table.{story_by}
use Rattle.life_stack.specs.Table.Request.{numbered}
use Rattle.life_second_stack.specs.Stack.{second_meaning}

-- whatever the target is
module _ (uri : Uri) where
  -- a script that answers status 200 with one chunk at its first poll
  abbrev script : ScriptView
  script = record {
    method = codes "GET";
    uri = uri;
    headers = [];
    body = [];
    call = Serve;
    polls = record { asks = 0; then = then_.Respond (record { status = 200; headers = []; body = body_item.Chunk (codes "hi") ∷ []; tells = true }) } ∷ [];
  }

  -- a call, a poll that answers, one past the deadline, and a drop
  abbrev acts : List Own
  acts = (1, act.Call) ∷ (5, act.Poll) ∷ (30, act.Poll) ∷ (31, act.Drop) ∷ []

  -- the poll past the deadline is a fault, and the drop after it is recorded as early
  pub dropped_past_its_deadline : story_by (second_meaning.table (20, numbered 0 script)) acts 40 ≡ record {
    turns = record { answer = ans.Called; events = [] }
        ∷ record { answer = ans.Response 200 [] false; events = [] }
        ∷ record { answer = ans.Fault Elapsed; events = [] }
        ∷ record { answer = ans.Dropped; events = event.Dropped (drop_kind.Body 200) (record { unit = Nanos; nanos = 30 }) ∷ [] }
        ∷ [];
    at_end = [];
  }
  dropped_past_its_deadline = refl
