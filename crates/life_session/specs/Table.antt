-- Tables over the acts of a request, and what it is to keep one.
use Rattle.std.specs.Prelude.{◌≡◌, ℕ, List, [], ◌∷◌, ◌++◌, Bool, Option, Some, None, Result, Ok, Err, IfOk, IfErr, slice_get}
use Rattle.http_body.specs.Frame.{data_frame, trailers_frame}
use Rattle.http_body.specs.declared.frame.Frame.{Frame}
use Rattle.http_header.specs.FieldValue.{FieldValue}
use Rattle.http_header.specs.HeaderMap.{Entries}
use Rattle.life_core.specs.Fields.{fields}
use Rattle.life_core.specs.History.{Adds, Grew, NumbersStay}
use Rattle.life_core.specs.Calls.{Polls, Abandons, Frames, Calls}
use Rattle.life_core.specs.Moment.{Moment}
use Rattle.life_core.specs.Poll.{IfReady}
use Rattle.life_core.specs.Recorded.{Recorded, none_counted}
use Rattle.life_core.specs.declared.body.BodyError.{BodyError}
use Rattle.life_core.specs.declared.event.Event.{Event}
use Rattle.life_core.specs.declared.message.Response.{Response}
use Rattle.life_core.specs.declared.message.ResponseHead.{ResponseHead}
use Rattle.life_core.specs.declared.poll.Poll.{Poll}
use Rattle.life_core.specs.declared.poll.Poll.TheVariants.{Ready, Pending}
use Rattle.life_core.specs.declared.recorder.NoMemory.{NoMemory}
use Rattle.life_script.specs.Scenario.{ScriptView}
use Rattle.life_script.specs.Told.{TurnView, ToldView}
use Rattle.life_script.specs.Valid.{ScriptFits}
use Rattle.life_script.specs.declared.answer.Answer.{Answer}
use Rattle.life_script.specs.declared.answer.Answer.TheVariants as ans
use Rattle.life_script.specs.declared.answer.Seen.{Seen}
use Rattle.life_script.specs.declared.answer.Seen.TheVariants as seen
use Rattle.life_script.specs.declared.scenario.Act.TheVariants as act
use Rattle.life_session.specs.Acts.{NotBefore, Own}

-- THE TABLE.

-- what an act answers and records after those before it, and what is recorded at the end
pub record Table : Type 0 where
  pub answer : List Own → Own → Answer
  pub events : List Own → Own → List Event
  pub at_end : List Own → ℕ → List Event

-- the turn of an act after those before it
abbrev pub turn_by : Table → List Own → Own → TurnView
turn_by table before x = record { answer = table.answer before x; events = table.events before x }

-- the turns of these acts after those before them
abbrev pub turns_by : Table → List Own → List Own → List TurnView
turns_by table before [] = []
turns_by table before (x ∷ acts) = turn_by table before x ∷ turns_by table (before ++ x ∷ []) acts

-- the story of these acts and of the end
abbrev pub story_by : Table → List Own → ℕ → ToldView
story_by table acts end = record { turns = turns_by table [] acts; at_end = table.at_end acts end }

-- what is seen of a frame
abbrev pub Shows : Seen → Frame (List ℕ) → Type 0
Shows (seen.Chunk bytes) f = f ≡ data_frame bytes
Shows (seen.Trailers shown) f = (map : Entries FieldValue) × (f ≡ trailers_frame map) × (shown ≡ fields map)

-- WHERE VALUES STAND.

-- where a service, its futures and its bodies stand after some acts of a request
pub record Places (K S R F B : Type 0) : Type 1 where
  pub serves : K → S → Type 0
  pub asks : K → R → Type 0
  -- what a call needs of the recorder's numbers
  pub ready : K → Recorded → Type 0
  pub fresh : K → List Own → Type 0
  pub waiting : K → List Own → F → Type 0
  pub answered : K → List Own → F → Type 0
  pub streaming : K → List Own → B → Type 0
  pub over : K → List Own → Type 0

-- what a driven stack says of itself: by the limits N, the key K of each request, and the stack S, requests R, futures F
-- and bodies B
pub record Meaning (K N S R F B : Type 0) : Type 1 where
  pub places : Places K S R F B
  pub table : K → Table
  -- the key of a request by the limits, its number and its script
  pub key_of : N → ℕ → ScriptView → K
  pub may : S → Type 0
  pub future_live : F → Type 0
  pub future_may : F → Type 0
  pub body_may : B → Type 0
  pub ends : B → Bool

-- the tables of the requests under these limits, by number and script
abbrev pub tables : {K N S R F B : Type 0} → Meaning K N S R F B → N → ℕ → ScriptView → Table
tables m limits i script = m.table (m.key_of limits i script)

-- WHAT EACH CALL TELLS.

-- nothing is told of an act
abbrev pub IsIdleAct : Table → List Own → Own → Type 0
IsIdleAct table acts x = (table.answer acts x ≡ ans.Idle) × (table.events acts x ≡ [])

-- what is told of a response: the status and headers of its head, and whether its body tells its end
abbrev pub response_told : {X : Type 0} → ResponseHead X → Bool → Answer
response_told head ended = ans.Response head.parts.status (fields head.parts.headers) ended

-- what the answer of a future says
abbrev pub PollSaid : {B X : Type 0} → (B → Bool) → Poll (Result (Response B X) (List ℕ)) → Answer → Type 0
PollSaid ends Pending a = a ≡ ans.Pending
PollSaid ends (Ready (Ok r)) a = a ≡ response_told r.head (ends r.body)
PollSaid ends (Ready (Err e)) a = a ≡ ans.ServiceError e

-- what the answer of a body says, where the body then tells this of its end
abbrev pub FrameSaid : Poll (Option (Result (Frame (List ℕ)) (BodyError (List ℕ)))) → Bool → Answer → Type 0
FrameSaid Pending ended a = a ≡ ans.Pending
FrameSaid (Ready None) ended a = a ≡ ans.End
FrameSaid (Ready (Some (Ok f))) ended a = (s : Seen) × Shows s f × (a ≡ ans.Frame s ended)
FrameSaid (Ready (Some (Err e))) ended a = a ≡ ans.Fault e

-- what is live after a poll of a future
abbrev pub PollLeft : {K S R F B X : Type 0} → Places K S R F B → K → List Own → Poll (Result (Response B X) (List ℕ)) → F → Type 0
PollLeft at k acts Pending new = at.waiting k acts new
PollLeft at k acts (Ready (Ok r)) new = at.answered k acts new × at.streaming k acts r.body
PollLeft at k acts (Ready (Err e)) new = at.answered k acts new × at.over k acts

-- a poll at time t gives the table's answer and events, and what is live stands at the longer list
pub record Polled {K S R F B X : Type 0} (ends : B → Bool) (at : Places K S R F B) (table : K → Table) (k : K) (acts : List Own) (t : ℕ) (was : Recorded)
    (a : Poll (Result (Response B X) (List ℕ))) (new : F) (now : Recorded) : Type 0 where
  pub said : PollSaid ends a ((table k).answer acts (t, act.Poll))
  pub left : PollLeft at k (acts ++ (t, act.Poll) ∷ []) a new
  pub grew : Grew was now ((table k).events acts (t, act.Poll))
  pub numbers : NumbersStay was now

-- the same of a poll of a body
pub record Framed {K S R F B : Type 0} (ends : B → Bool) (at : Places K S R F B) (table : K → Table) (k : K) (acts : List Own) (t : ℕ) (was : Recorded)
    (a : Poll (Option (Result (Frame (List ℕ)) (BodyError (List ℕ))))) (new : B) (now : Recorded) : Type 0 where
  pub said : FrameSaid a (ends new) ((table k).answer acts (t, act.Poll))
  pub left : at.streaming k (acts ++ (t, act.Poll) ∷ []) new
  pub grew : Grew was now ((table k).events acts (t, act.Poll))
  pub numbers : NumbersStay was now

module _ {K S R F B : Type 0} (at : Places K S R F B) (table : K → Table) where
  -- an early drop, also where it comes at the end
  pub record Dropped (k : K) (acts : List Own) (t : ℕ) (was now : Recorded) : Type 0 where
    pub said : (table k).answer acts (t, act.Drop) ≡ ans.Dropped
    pub left : at.over k (acts ++ (t, act.Drop) ∷ [])
    pub grew : Grew was now ((table k).events acts (t, act.Drop))
    pub ended : Grew was now ((table k).at_end acts t)
    pub numbers : NumbersStay was now

  -- a call at time t gives a future that stands with it
  pub record CalledAt (k : K) (acts : List Own) (t : ℕ) (was : Recorded) (f : F) (now : Recorded) : Type 0 where
    pub said : (table k).answer acts (t, act.Call) ≡ ans.Called
    pub left : at.waiting k (acts ++ (t, act.Call) ∷ []) f
    pub grew : Grew was now ((table k).events acts (t, act.Call))
    pub numbers : NumbersStay was now

  -- the acts of which nothing is told
  pub record Idles : Type 0 where
    -- a log's numbers refuse no call
    pub ready_at_rest : (k : K) (was : Recorded) → was.rest ≡ none_counted → at.ready k was
    pub fresh_first : (k : K) → at.fresh k []
    pub fresh_polled : (k : K) (acts : List Own) (t : ℕ) → at.fresh k acts → IsIdleAct (table k) acts (t, act.Poll) × at.fresh k (acts ++ (t, act.Poll) ∷ [])
    pub fresh_dropped : (k : K) (acts : List Own) (t : ℕ) → at.fresh k acts → IsIdleAct (table k) acts (t, act.Drop) × at.fresh k (acts ++ (t, act.Drop) ∷ [])
    pub fresh_end : (k : K) (acts : List Own) (t : ℕ) → at.fresh k acts → (table k).at_end acts t ≡ []
    pub waiting_called : (k : K) (acts : List Own) (f : F) (t : ℕ) → at.waiting k acts f → IsIdleAct (table k) acts (t, act.Call) × at.waiting k (acts ++ (t, act.Call) ∷ []) f
    pub streaming_called : (k : K) (acts : List Own) (b : B) (t : ℕ) → at.streaming k acts b → IsIdleAct (table k) acts (t, act.Call) × at.streaming k (acts ++ (t, act.Call) ∷ []) b
    pub over_idle : (k : K) (acts : List Own) (x : Own) → at.over k acts → IsIdleAct (table k) acts x × at.over k (acts ++ x ∷ [])
    pub over_end : (k : K) (acts : List Own) (t : ℕ) → at.over k acts → (table k).at_end acts t ≡ []

-- each call of these relations answers and records by the table
module _ {K S R F B X : Type 0} (calls : Calls S R F) (polls : Polls F (Result (Response B X) (List ℕ))) (abandons : Abandons F)
    (frames : Frames B (List ℕ) (BodyError (List ℕ))) (body_abandons : Abandons B) (ends : B → Bool) (at : Places K S R F B) (table : K → Table) where
  -- a call keeps the table where its values stand, whatever request they are of
  pub record KeepsTable : Type 0 where
    pub called : (k : K) (acts : List Own) (s : S) (req : R) (was : Recorded) (m : Moment) (made : Result F NoMemory) (new : S) (now : Recorded) →
        at.asks k req → at.fresh k acts → at.ready k was → at.serves k s → calls s req was m made new now → IfOk made (λ f. CalledAt at table k acts m.now was f now)
    pub kept : (k : K) (s : S) (req : R) (was : Recorded) (m : Moment) (made : Result F NoMemory) (new : S) (now : Recorded) →
        at.serves k s → calls s req was m made new now → at.serves k new
    pub polled : (k : K) (acts : List Own) (f : F) (was : Recorded) (m : Moment) (made : Result (Poll (Result (Response B X) (List ℕ))) NoMemory) (new : F) (now : Recorded) →
        at.waiting k acts f → polls f was m made new now → IfOk made (λ a. Polled ends at table k acts m.now was a new now)
    pub future_abandoned : (k : K) (acts : List Own) (f : F) (was : Recorded) (m : Moment) (made : Result Unit NoMemory) (now : Recorded) →
        at.waiting k acts f → abandons f was m made now → IfOk made (λ u. Dropped at table k acts m.now was now)
    pub future_refused : (k : K) (acts : List Own) (f : F) (was : Recorded) (m : Moment) (made : Result Unit NoMemory) (now : Recorded) →
        at.waiting k acts f → abandons f was m made now → IfErr made (λ e. was.spare ≡ 0)
    pub answered_abandoned : (k : K) (acts : List Own) (f : F) (was : Recorded) (m : Moment) (made : Result Unit NoMemory) (now : Recorded) →
        at.answered k acts f → abandons f was m made now → IfOk made (λ u. Adds was now [])
    pub answered_refused : (k : K) (acts : List Own) (f : F) (was : Recorded) (m : Moment) (made : Result Unit NoMemory) (now : Recorded) →
        at.answered k acts f → abandons f was m made now → IfErr made (λ e. ⊥)
    pub framed : (k : K) (acts : List Own) (b : B) (was : Recorded) (m : Moment) (made : Result (Poll (Option (Result (Frame (List ℕ)) (BodyError (List ℕ))))) NoMemory) (new : B) (now : Recorded) →
        NotBefore m.now acts → at.streaming k acts b → frames b was m made new now → IfOk made (λ a. Framed ends at table k acts m.now was a new now)
    pub body_abandoned : (k : K) (acts : List Own) (b : B) (was : Recorded) (m : Moment) (made : Result Unit NoMemory) (now : Recorded) →
        at.streaming k acts b → body_abandons b was m made now → IfOk made (λ u. Dropped at table k acts m.now was now)
    pub body_refused : (k : K) (acts : List Own) (b : B) (was : Recorded) (m : Moment) (made : Result Unit NoMemory) (now : Recorded) →
        at.streaming k acts b → body_abandons b was m made now → IfErr made (λ e. was.spare ≡ 0)
    pub idles : Idles at table

-- WHAT A CALL SHOWS of the table, whatever request its values are of and at whatever acts they stand: was is what was
-- recorded before it, made is its result, and now is what is recorded after it.

-- this holds of the response that a poll answered, if it answered one
abbrev pub IfResponse : {B X : Type 0} → Result (Poll (Result (Response B X) (List ℕ))) NoMemory → (Response B X → Type 0) → Type 0
IfResponse made P = IfOk made (λ a. IfReady a (λ answer. IfOk answer P))

module _ {K N S R F B : Type 0} (m : Meaning K N S R F B) where
  -- a stack that is made serves each of these scripts by its number, where its headers fit
  abbrev pub ServesEach : N → List ScriptView → Result S NoMemory → Type 0
  ServesEach limits scripts made = (script : ScriptView) (i : ℕ) → slice_get scripts i ≡ Some script → ScriptFits script
      → IfOk made (m.places.serves (m.key_of limits i script))

  -- each request that the stack served it still serves
  abbrev pub KeepsServing : S → S → Type 0
  KeepsServing old new = (k : K) → m.places.serves k old → m.places.serves k new

  -- a first call of a request that the stack serves is told and records by the table, and its future waits
  abbrev pub CallKeepsTable : S → R → ℕ → Recorded → Result F NoMemory → Recorded → Type 0
  CallKeepsTable stack req t was made now = (k : K) (acts : List Own) → m.places.asks k req → m.places.fresh k acts → m.places.ready k was → m.places.serves k stack
      → IfOk made (λ f. CalledAt m.places m.table k acts t was f now)

  -- a poll of a future that waits answers and records by the table, and what is live then stands at one act more
  abbrev pub PollKeepsTable : {X : Type 0} → F → ℕ → Recorded → Result (Poll (Result (Response B X) (List ℕ))) NoMemory → F → Recorded → Type 0
  PollKeepsTable old t was made new now = (k : K) (acts : List Own) → m.places.waiting k acts old
      → IfOk made (λ a. Polled m.ends m.places m.table k acts t was a new now)

  -- abandoning a future that waits records by the table
  abbrev pub AbandonKeepsTable : F → ℕ → Recorded → Result Unit NoMemory → Recorded → Type 0
  AbandonKeepsTable future t was made now = (k : K) (acts : List Own) → m.places.waiting k acts future
      → IfOk made (λ u. Dropped m.places m.table k acts t was now)

  -- a poll of a body, not before its acts, answers and records by the table, and the body then stands at one act more
  abbrev pub FrameKeepsTable : B → ℕ → Recorded → Result (Poll (Option (Result (Frame (List ℕ)) (BodyError (List ℕ))))) NoMemory → B → Recorded → Type 0
  FrameKeepsTable old t was made new now = (k : K) (acts : List Own) → NotBefore t acts → m.places.streaming k acts old
      → IfOk made (λ a. Framed m.ends m.places m.table k acts t was a new now)

  -- abandoning a body records by the table
  abbrev pub BodyAbandonKeepsTable : B → ℕ → Recorded → Result Unit NoMemory → Recorded → Type 0
  BodyAbandonKeepsTable body t was made now = (k : K) (acts : List Own) → m.places.streaming k acts body
      → IfOk made (λ u. Dropped m.places m.table k acts t was now)
