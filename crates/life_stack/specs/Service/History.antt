-- Where the values of the scripted service stand after some polls, and what their histories are.
use Rattle.std.specs.Prelude.{◌≡◌, ◌≤◌, ℕ, Bool, ◌&&◌, nat_le, List, [], length, drop, slice_get, Option, Some, None, ⊤}
use Rattle.life_core.specs.History.{BodyHistory, Said, Waits, Gives, Fails, FutureHistory, Where, Waiting, Answered}
use Rattle.life_core.specs.declared.message.ResponseHead.{ResponseHead}
use Rattle.life_core.specs.Limited.{room_in}
use Rattle.life_core.specs.declared.event.Event.{Event}
use Rattle.life_script.specs.Headers.{Headers, map_of}
use Rattle.life_script.specs.Valid.{ScriptFits}
use Rattle.life_script.specs.declared.checks.TheConstants.{MAX_HEADER_VALUES}
use Rattle.life_script.specs.Scenario.{ScriptView}
use Rattle.life_script.specs.Reply.{ReplyView}
use Rattle.life_script.specs.declared.scenario.BodyItem.{BodyItem}
use Rattle.life_script.specs.declared.scenario.PollItem.{PollItem}
use Rattle.life_script.specs.declared.scenario.Then.{Then}
use Rattle.life_script.specs.declared.scenario.Then.TheVariants as then_
use Rattle.life_core.specs.declared.fault.Fault.{Fault}
use Rattle.life_core.specs.declared.fault.Fault.TheVariants as fault
use Rattle.life_script.specs.declared.scenario.CallItem.{CallItem}
use Rattle.life_script.specs.declared.scenario.CallItem.TheVariants as call_item
use Rattle.life_stack.specs.Table.Handed.{asked_before, asks_of, handed_from, room_before}
use Rattle.life_stack.specs.Service.Script.{asked_of, item_frame, items_of, panic_of, polls_of}
use Rattle.life_stack.specs.declared.service.ext.Ext.{Ext}
use Rattle.life_stack.specs.declared.service.body.ScriptBody.{ScriptBody}
use Rattle.life_stack.specs.declared.service.future.ScriptFuture.{ScriptFuture}

-- HEADS AND PLANS: what is said of a response.

-- what is said of a response's head: its status and its headers
abbrev pub Head : Type 0
Head = ℕ × Headers

-- a head with this status and these headers
pub record IsHead (h : Head) (head : ResponseHead Ext) : Type 0 where
  pub status_is : head.parts.status ≡ h.0
  pub headers_are : head.parts.headers ≡ map_of h.1

-- the same, where the list is short enough for a map, as those of a valid scenario are
abbrev pub Heads : Head → ResponseHead Ext → Type 0
Heads h head = IsHead h head × (length h.1 ≤ MAX_HEADER_VALUES)

-- the items of a body, and whether it tells its end
pub record BodyPlan : Type 0 where
  pub items : List BodyItem
  pub tells : Bool

-- the plan of the body of a reply
abbrev pub body_plan : ReplyView → BodyPlan
body_plan reply = record { items = reply.body; tells = reply.tells }

-- what is said of a response by its reply
abbrev pub reply_says : {X : Type 0} → ReplyView → Said Head BodyPlan X
reply_says reply = Gives (reply.status, reply.headers) (body_plan reply)

-- THE SERVICE: what is not used up.

-- after k polls the future has the items after them, and its request's body those that were not asked for, with the room that is left
pub record ServesOn (left : ℕ) (script : ScriptView) (f : ScriptFuture) (k : ℕ) : Type 0 where
  pub polls : polls_of f ≡ drop k script.polls
  pub room : room_in f.body ≡ room_before left script.body (asked_before script.polls k)
  pub items : asked_of f.body ≡ drop (asked_before script.polls k) script.body

-- left is the room at the start
abbrev pub StandsBy : CallItem → ℕ → ScriptView → ScriptFuture → Where → Type 0
StandsBy call left script f (Waiting past) = (f.panic ≡ panic_of call) × ServesOn left script f (length past) × ScriptFits script
StandsBy call left script f Answered = ⊤

-- a future of this script after some polls, or after its answer
abbrev pub ScriptStands : ℕ → ScriptView → ScriptFuture → Where → Type 0
ScriptStands left script = StandsBy script.call left script

-- what the scripted service says at an item, or at none
abbrev pub then_gives : Then → Said Head BodyPlan (Fault (List ℕ))
then_gives then_.Pending = Waits
then_gives (then_.Panic text) = Fails (fault.Panicked text)
then_gives (then_.Fail error) = Fails (fault.Err error)
then_gives (then_.Respond reply) = reply_says reply

-- what a poll item gives; without one the service waits
abbrev pub item_gives : Option PollItem → Said Head BodyPlan (Fault (List ℕ))
item_gives None = Waits
item_gives (Some item) = then_gives item.then

-- a panic of the call is told first
abbrev pub call_gives : CallItem → Option PollItem → Said Head BodyPlan (Fault (List ℕ))
call_gives call_item.Serve o = item_gives o
call_gives (call_item.Panic text) o = Fails (fault.Panicked text)

-- what is handed at poll k: nothing where the call panics
abbrev pub call_hands : CallItem → ℕ → ScriptView → ℕ → List Event
call_hands call_item.Serve left script k = handed_from left script.body (asked_before script.polls k) (asks_of (slice_get script.polls k))
call_hands (call_item.Panic text) left script k = []

-- what a future of this script says and records at each poll; abandoning it records nothing
abbrev pub script_history : ℕ → ScriptView → FutureHistory Head BodyPlan (Fault (List ℕ))
script_history left script = record {
  says = λ past t. call_gives script.call (slice_get script.polls (length past));
  events = λ past t. call_hands script.call left script (length past);
  abandoned = λ past t. [];
}

-- ITS BODIES.

-- a body of this plan after polls at these times: it has the items after them
pub record ScriptBodyStands (p : BodyPlan) (b : ScriptBody) (past : List ℕ) : Type 0 where
  pub items : items_of b ≡ drop (length past) p.items
  pub tells : b.tells ≡ p.tells

-- what such a body gives at each poll: the items in order, and then its end
abbrev pub script_body_history : BodyPlan → BodyHistory (List ℕ) (List ℕ)
script_body_history p = record {
  frame = λ past q. item_frame (slice_get p.items (length past));
  events = λ past q. [];
  ends = λ past. p.tells && nat_le (length p.items) (length past);
  abandoned = λ past q. [];
}
