-- The scripted service with its panics caught, from which a stack may start: its calls, where its values stand, and what their histories are.
use Rattle.std.specs.Prelude.{ℕ, Bool, List, [], length, slice_get, Option, Some, None, Result, ⊤}
use Rattle.life_core.specs.History.{Said, Waits, Fails, FutureHistory, Where}
use Rattle.life_core.specs.Calls.{Abandons, Calls, Frames, NothingToAbandon, Polls}
use Rattle.life_core.specs.declared.message.Request.{Request}
use Rattle.life_core.specs.declared.message.Response.{Response}
use Rattle.life_core.specs.UnsyncBoxBody.{BoxFrames, BoxAbandons, BoxMay, box_ends}
use Rattle.life_core.specs.Full.{FullFrames, full_ends}
use Rattle.life_core.specs.declared.body.limited.Limited.{Limited}
use Rattle.life_core.specs.OneChunk.{BoxStands, FullStands}
use Rattle.life_core.specs.declared.body.boxed.UnsyncBoxBody.{UnsyncBoxBody}
use Rattle.life_core.specs.declared.body.full.Full.{Full}
use Rattle.life_limit.specs.Catch.{CatchCalls, CatchFutureLive, CatchKindAbandons, CatchKindMay, CatchMay, CatchPolls, DefaultHandles}
use Rattle.life_limit.specs.History.{CatchServes, CatchStands}
use Rattle.life_limit.specs.declared.catch_panic.future.ResponseFuture.{ResponseFuture as CatchFuture}
use Rattle.life_limit.specs.declared.catch_panic.handler.DefaultResponseForPanic.{DefaultResponseForPanic}
use Rattle.life_limit.specs.declared.catch_panic.service.CatchPanic.{CatchPanic}
use Rattle.std.specs.declared.convert.Infallible.{Infallible}
use Rattle.life_script.specs.Scenario.{ScriptView}
use Rattle.life_script.specs.declared.scenario.PollItem.{PollItem}
use Rattle.life_script.specs.declared.scenario.Then.{Then}
use Rattle.life_script.specs.declared.scenario.Then.TheVariants as then_
use Rattle.life_stack.specs.Table.Decision.{Decision, TooLarge, Forbidden, Panicked, Served, forbidden_reply, panic_reply, too_large_reply}
use Rattle.life_stack.specs.Table.Handed.{decided_events}
use Rattle.life_stack.specs.Service.Script.{SharedScripts, IsDefaultExt, Finds, ScriptCalls, ScriptFrames, ScriptPolls, tells_end}
use Rattle.life_stack.specs.declared.service.ext.Ext.{Ext}
use Rattle.life_stack.specs.declared.service.body.ScriptBody.{ScriptBody}
use Rattle.life_stack.specs.declared.service.future.ScriptFuture.{ScriptFuture}
use Rattle.life_stack.specs.Service.History.{Head, BodyPlan, reply_says, ScriptStands, ScriptBodyStands, script_body_history}

-- THE TYPES.

-- the scripted service with its panics caught, and its futures
abbrev pub CaughtService : Type 0
CaughtService = CatchPanic SharedScripts DefaultResponseForPanic

abbrev pub CaughtFuture : Type 0
CaughtFuture = CatchFuture ScriptFuture DefaultResponseForPanic

-- a scripted body, the text of a panic, or none
abbrev pub Caught : Type 0
Caught = UnsyncBoxBody ScriptBody Full

-- THE CALLS.

-- what calls, polls and abandoning do, of the service, its futures and its bodies, and whether a body tells its end
abbrev pub caught_calls : Calls CaughtService (Request (Limited ScriptBody) Ext) CaughtFuture
caught_calls = CatchCalls ScriptCalls NothingToAbandon

abbrev pub caught_polls : Polls CaughtFuture (Result (Response Caught Ext) (List ℕ))
caught_polls = CatchPolls ScriptPolls (DefaultHandles IsDefaultExt)

abbrev pub caught_future_abandons : Abandons CaughtFuture
caught_future_abandons f = CatchKindAbandons NothingToAbandon f.kind

abbrev pub caught_frames : Frames Caught (List ℕ) (List ℕ)
caught_frames = BoxFrames ScriptFrames (FullFrames {E = Infallible})

abbrev pub caught_abandons : Abandons Caught
caught_abandons = BoxAbandons NothingToAbandon NothingToAbandon

abbrev pub caught_ends : Caught → Bool
caught_ends = box_ends tells_end full_ends

-- what may be called, polled and abandoned
abbrev pub CaughtMay : CaughtService → Type 0
CaughtMay = CatchMay (λ _. ⊤) (λ _. ⊤)

abbrev pub CaughtFutureLive : CaughtFuture → Type 0
CaughtFutureLive = CatchFutureLive (λ _. ⊤) (λ _. ⊤)

abbrev pub CaughtFutureMay : CaughtFuture → Type 0
CaughtFutureMay f = CatchKindMay (λ _. ⊤) f.kind

abbrev pub caught_may : Caught → Type 0
caught_may = BoxMay (λ _. ⊤) (λ _. ⊤)

-- WHERE ITS VALUES STAND: no panic is kept, so each is told by the next poll.

-- a service that finds this script for number i
abbrev pub CaughtServes : ScriptView → ℕ → CaughtService → Type 0
CaughtServes script i = CatchServes (λ _. ⊤) (Finds script i)

-- a future of this script, with so much room for its request's body at the start
abbrev pub CaughtFutureStands : ℕ → ScriptView → CaughtFuture → Where → Type 0
CaughtFutureStands left script = CatchStands (λ _. ⊤) (ScriptStands left script)

-- a body of this plan, after polls at these times
abbrev pub CaughtStands : BodyPlan → Caught → List ℕ → Type 0
CaughtStands = BoxStands script_body_history ScriptBodyStands (FullStands script_body_history)

-- WHAT IT SAYS AND RECORDS at each poll, by what is decided before its script is asked.

-- what is said at an item of the script, a panic as the reply that tells it
abbrev pub then_says : Then → Said Head BodyPlan (List ℕ)
then_says then_.Pending = Waits
then_says (then_.Panic text) = reply_says panic_reply
then_says (then_.Fail error) = Fails error
then_says (then_.Respond reply) = reply_says reply

-- the same at an item, or at none past the list
abbrev pub item_says : Option PollItem → Said Head BodyPlan (List ℕ)
item_says None = Waits
item_says (Some item) = then_says item.then

-- what is said at poll k, by the decision
abbrev pub decided_says : Decision → List PollItem → ℕ → Said Head BodyPlan (List ℕ)
decided_says TooLarge polls k = reply_says too_large_reply
decided_says Forbidden polls k = reply_says forbidden_reply
decided_says (Panicked text) polls k = reply_says panic_reply
decided_says Served polls k = item_says (slice_get polls k)

-- what a future says and records at each poll; abandoning it records nothing
abbrev pub caught_history : Decision → ℕ → ScriptView → FutureHistory Head BodyPlan (List ℕ)
caught_history what left script = record {
  says = λ past t. decided_says what script.polls (length past);
  events = λ past t. decided_events what left script (length past);
  abandoned = λ past t. [];
}
