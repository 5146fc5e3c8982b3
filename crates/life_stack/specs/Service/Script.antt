-- What the scripted service, its future and its bodies do: the items of their lists in order.
use Rattle.std.specs.Prelude.{◌≡◌, ℕ, Bool, true, false, ◌&&◌, nat_le, List, [], ◌++◌, length, drop, slice_get, Option, Some, None, Result, Ok, Err, IfOk}
use Rattle.http.specs.declared.version.TheConstants.Version.{HTTP_11}
use Rattle.http.specs.Request.{IsHeadFor}
use Rattle.http_body.specs.Frame.{data_frame, trailers_frame}
use Rattle.http_body.specs.declared.frame.Frame.{Frame}
use Rattle.life_core.specs.History.{Adds}
use Rattle.life_core.specs.Limited.{body_in, room_in}
use Rattle.life_core.specs.Calls.{Answer, Reply}
use Rattle.life_core.specs.Moment.{Moment}
use Rattle.life_core.specs.Recorded.{Recorded}
use Rattle.life_core.specs.declared.body.limited.Limited.{Limited}
use Rattle.life_core.specs.declared.event.Event.{Event}
use Rattle.life_core.specs.declared.fault.Fault.{Fault}
use Rattle.life_core.specs.declared.fault.Fault.TheVariants as fault
use Rattle.life_core.specs.declared.fault.PanicText.{PanicText}
use Rattle.life_core.specs.declared.message.Request.{Request}
use Rattle.life_core.specs.declared.message.Response.{Response}
use Rattle.life_core.specs.declared.message.ResponseHead.{ResponseHead}
use Rattle.life_core.specs.declared.poll.Poll.{Poll}
use Rattle.life_core.specs.declared.poll.Poll.TheVariants.{Ready, Pending}
use Rattle.life_core.specs.declared.recorder.NoMemory.{NoMemory}
use Rattle.life_script.specs.Headers.{Headers, map_of}
use Rattle.life_script.specs.Scenario.{ScriptView}
use Rattle.life_script.specs.Reply.{ReplyView}
use Rattle.life_script.specs.declared.scenario.BodyItem.{BodyItem}
use Rattle.life_script.specs.declared.scenario.BodyItem.TheVariants as body_item
use Rattle.life_script.specs.declared.scenario.CallItem.{CallItem}
use Rattle.life_script.specs.declared.scenario.CallItem.TheVariants as call_item
use Rattle.life_script.specs.declared.scenario.PollItem.{PollItem}
use Rattle.life_script.specs.declared.scenario.Then.{Then}
use Rattle.life_script.specs.declared.scenario.Then.TheVariants as then_
use Rattle.life_head.specs.declared.request_id.id.RequestId.{RequestId}
use Rattle.life_head.specs.declared.request_id.number.Number.{Number}
use Rattle.life_script.specs.Valid.{ScriptFits}
use Rattle.life_stack.specs.Table.Handed.{handed_from, room_before}
use Rattle.life_stack.specs.declared.service.ext.Ext.{Ext}
use Rattle.life_stack.specs.declared.service.body.ScriptBody.{ScriptBody}
use Rattle.life_stack.specs.declared.service.future.ScriptFuture.{ScriptFuture}

-- the items that a body has left
abbrev pub items_of : ScriptBody → List BodyItem
items_of b = elim b.items [ None ↦ [] | Some l ↦ drop b.next l ]

-- the items that a future has left
abbrev pub polls_of : ScriptFuture → List PollItem
polls_of f = drop f.next f.polls

-- what no one has set
abbrev pub IsDefaultExt : Ext → Type 0
IsDefaultExt e = (e.number ≡ None) × (e.id ≡ None)

-- the number and the id of an extension, and the extension with another id
abbrev pub ext_number : Ext → Option Number
ext_number e = e.number

-- the extension with this number, in place of any
abbrev pub with_number : Ext → Number → Ext
with_number e number = record e { number = Some number }

-- the id in an extension, if any
abbrev pub ext_id : Ext → Option RequestId
ext_id e = e.id

-- the extension with this id, in place of any
abbrev pub with_id : Ext → RequestId → Ext
with_id e id = record e { id = Some id }

-- the body of a response by this reply
pub record IsBodyOf (reply : ReplyView) (b : ScriptBody) : Type 0 where
  pub items : items_of b ≡ reply.body
  pub tells : b.tells ≡ reply.tells

-- the body of a request: these items, and it does not tell its end
pub record IsRequestBody (items : List BodyItem) (b : ScriptBody) : Type 0 where
  pub items_are : items_of b ≡ items
  pub tells : b.tells ≡ false

-- a body of no items, which tells its end
pub record IsDefaultScriptBody (b : ScriptBody) : Type 0 where
  pub items : items_of b ≡ []
  pub tells : b.tells ≡ true

-- whether a body tells that it is at its end
abbrev pub tells_end : ScriptBody → Bool
tells_end b = b.tells && nat_le (length (items_of b)) 0

-- what a body tells of its length: nothing
abbrev pub hint_of : ScriptBody → ℕ × Option ℕ
hint_of b = (0, None)

-- what an item, or none, answers
abbrev pub item_frame : Option BodyItem → Poll (Option (Result (Frame (List ℕ)) (List ℕ)))
item_frame None = Ready None
item_frame (Some body_item.Pending) = Pending
item_frame (Some (body_item.Chunk bytes)) = Ready (Some (Ok (data_frame bytes)))
item_frame (Some (body_item.Trailers trailers)) = Ready (Some (Ok (trailers_frame (map_of trailers))))
item_frame (Some (body_item.Fault fault)) = Ready (Some (Err fault))

-- the next item is answered; nothing is recorded
pub record NextItem (old : ScriptBody) (a : Poll (Option (Result (Frame (List ℕ)) (List ℕ)))) (new : ScriptBody) : Type 0 where
  pub answer_is : a ≡ item_frame (slice_get (items_of old) 0)
  pub rest : items_of new ≡ drop 1 (items_of old)
  pub tells : new.tells ≡ old.tells

-- what a poll of a body does; one without memory records nothing
abbrev pub ScriptFrames : ScriptBody → Recorded → Moment → Answer (List ℕ) (List ℕ) → ScriptBody → Recorded → Type 0
ScriptFrames old was m (Ok a) new now = NextItem old a new × (now ≡ was)
ScriptFrames old was m (Err e) new now = now ≡ was

-- the head of a scripted response: its status and its headers
pub record IsReplyHead (status : ℕ) (headers : Headers) (head : ResponseHead Ext) : Type 0 where
  pub status_is : head.parts.status ≡ status
  pub version_is : head.parts.version ≡ HTTP_11
  pub headers_are : head.parts.headers ≡ map_of headers
  pub ext_is : IsDefaultExt head.ext

-- the scripted response: its head and its body
pub record IsReply (reply : ReplyView) (r : Response ScriptBody Ext) : Type 0 where
  pub head : IsReplyHead reply.status reply.headers r.head
  pub body : IsBodyOf reply r.body

-- what a poll of the scripted service answers: a response, a panic or an error
abbrev pub ScriptAnswer : Type 0
ScriptAnswer = Poll (Result (Response ScriptBody Ext) (Fault (List ℕ)))

-- the answer to what an item says
abbrev pub Answers : Then → ScriptAnswer → Type 0
Answers then_.Pending a = a ≡ Pending
Answers (then_.Panic text) a = a ≡ Ready (Err (fault.Panicked text))
Answers (then_.Fail error) a = a ≡ Ready (Err (fault.Err error))
Answers (then_.Respond reply) (Ready (Ok r)) = IsReply reply r
Answers (then_.Respond reply) (Ready (Err e)) = ⊥
Answers (then_.Respond reply) Pending = ⊥

-- the items that the request's body has left, where it is limited
abbrev pub asked_of : Limited ScriptBody → List BodyItem
asked_of b = items_of (body_in b)

-- the body was asked n times, and each answer was recorded
pub record Asked (n : ℕ) (old : Limited ScriptBody) (was : Recorded) (new : Limited ScriptBody) (now : Recorded) : Type 0 where
  pub adds : Adds was now (handed_from (room_in old) (asked_of old) 0 n)
  pub room : room_in new ≡ room_before (room_in old) (asked_of old) n
  pub rest : asked_of new ≡ drop n (asked_of old)

-- the body is asked as often as an item says, and then the item is answered; without an item nothing is
abbrev pub Responds : Option PollItem → ScriptFuture → Recorded → ScriptAnswer → ScriptFuture → Recorded → Type 0
Responds None old was a new now = (a ≡ Pending) × (new.body ≡ old.body) × (now ≡ was)
Responds (Some item) old was a new now = Answers item.then a × Asked item.asks old.body was new.body now

-- the next item of the future is answered, and its panic is none
pub record NextPoll (old : ScriptFuture) (was : Recorded) (a : ScriptAnswer) (new : ScriptFuture) (now : Recorded) : Type 0 where
  pub responds : Responds (slice_get (polls_of old) 0) old was a new now
  pub rest : polls_of new ≡ drop 1 (polls_of old)
  pub none : new.panic ≡ None

-- a panic of the call is answered by the first poll
abbrev pub PollsBy : Option PanicText → ScriptFuture → Recorded → ScriptAnswer → ScriptFuture → Recorded → Type 0
PollsBy (Some text) old was a new now = (a ≡ Ready (Err (fault.Panicked text))) × (now ≡ was)
PollsBy None old was a new now = NextPoll old was a new now

-- what was recorded before stays
abbrev pub Extends : Recorded → Recorded → Type 0
Extends was now = (es : List Event) × (now.log ≡ was.log ++ es) × (now.rest ≡ was.rest)

-- what a poll of a future does; one without memory may have recorded what was handed
abbrev pub ScriptPolls : ScriptFuture → Recorded → Moment → Reply ScriptBody Ext (Fault (List ℕ)) → ScriptFuture → Recorded → Type 0
ScriptPolls old was m (Ok a) new now = PollsBy old.panic old was a new now
ScriptPolls old was m (Err e) new now = Extends was now

-- a service is seen as the scripts that it shares
abbrev pub SharedScripts : Type 0
SharedScripts = List ScriptView

-- it finds this script, whose header lists are not too long, for number i
abbrev pub Finds : ScriptView → ℕ → SharedScripts → Type 0
Finds script i s = (slice_get s i ≡ Some script) × ScriptFits script

-- a request of number i
abbrev pub IsNumbered : {B : Type 0} → ℕ → Request B Ext → Type 0
IsNumbered i r = r.head.ext.number ≡ Some (record { 0 = i })

-- a request of number i, with the script's body and so much room for it
pub record AsksFor (left : ℕ) (script : ScriptView) (i : ℕ) (req : Request (Limited ScriptBody) Ext) : Type 0 where
  pub numbered : IsNumbered i req
  pub room : room_in req.body ≡ left
  pub items : asked_of req.body ≡ script.body

-- the request of a script and its number: its method and target, HTTP/1.1, with the script's headers and body
pub record IsRequestOf (script : ScriptView) (i : ℕ) (r : Request ScriptBody Ext) : Type 0 where
  pub head : IsHeadFor script.method (λ uri. uri ≡ script.uri) (record r.head.parts { headers = [] })
  pub headers_are : r.head.parts.headers ≡ map_of script.headers
  pub numbered : IsNumbered i r
  pub no_id : ext_id r.head.ext ≡ None
  pub body : IsRequestBody script.body r.body

-- the script of a number; without one it serves and has no poll items
abbrev pub script_for : List ScriptView → Option Number → Option ScriptView
script_for scripts None = None
script_for scripts (Some i) = slice_get scripts i.0

-- the poll items of that script
abbrev pub polls_for : Option ScriptView → List PollItem
polls_for None = []
polls_for (Some script) = script.polls

-- the panic of a call
abbrev pub panic_of : CallItem → Option PanicText
panic_of call_item.Serve = None
panic_of (call_item.Panic text) = Some text

-- the panic of that script's call
abbrev pub panic_for : Option ScriptView → Option PanicText
panic_for None = None
panic_for (Some script) = panic_of script.call

-- the service is always ready, and says so without a change or a record
abbrev pub ScriptReadies : SharedScripts → Recorded → Moment → Poll (Result Unit (Fault (List ℕ))) → SharedScripts → Recorded → Type 0
ScriptReadies old was m answer new now = (answer ≡ Ready (Ok tt)) × (new ≡ old) × (now ≡ was)

-- the future has all poll items of the request's script, the panic of its call, and the request's body
pub record IsFutureOf (found : Option ScriptView) (body : Limited ScriptBody) (f : ScriptFuture) : Type 0 where
  pub polls : polls_of f ≡ polls_for found
  pub panic : f.panic ≡ panic_for found
  pub body_is : f.body ≡ body

-- the service keeps its scripts
pub record ScriptCalls (old : SharedScripts) (req : Request (Limited ScriptBody) Ext) (was : Recorded) (m : Moment)
    (answer : Result ScriptFuture NoMemory) (new : SharedScripts) (now : Recorded) : Type 0 where
  pub begun : IfOk answer (IsFutureOf (script_for old req.head.ext.number) req.body)
  pub same : new ≡ old
  pub unrecorded : now ≡ was
