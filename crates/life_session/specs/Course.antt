-- How far a request has come by its acts, where a stack's values answer and record by histories; what it is for a table to
-- tell that course, and for a stack to follow it.
use Rattle.std.specs.Prelude.{◌≡◌, ℕ, ◌≤◌, List, [], ◌∷◌, ◌++◌, length, Bool, Option, Some, None, Result, Ok, Err, ⊤}
use Rattle.http_body.specs.declared.frame.Frame.{Frame}
use Rattle.http_body.specs.declared.frame.Kind.{Kind}
use Rattle.http_body.specs.declared.frame.Kind.TheVariants.{Data, Trailers}
use Rattle.http_header.specs.HeaderMap.{Entries}
use Rattle.life_core.specs.Fields.{fields}
use Rattle.life_core.specs.History.{BodyFollows, BodyHistory, FutureFollows, FutureHistory, Latest, Said, Waits, Gives, Fails, ServiceFollows, Where, Waiting, Answered, abandoned_at}
use Rattle.life_core.specs.Calls.{Calls, Frames, Abandons, Polls}
use Rattle.life_core.specs.Moment.{Moment}
use Rattle.life_core.specs.Recorded.{Recorded}
use Rattle.life_core.specs.declared.body.BodyError.{BodyError}
use Rattle.life_core.specs.declared.event.Event.{Event}
use Rattle.life_core.specs.declared.fields.Shown.{Shown}
use Rattle.life_core.specs.declared.message.Response.{Response}
use Rattle.life_core.specs.declared.message.ResponseHead.{ResponseHead}
use Rattle.life_core.specs.declared.poll.Poll.{Poll}
use Rattle.life_core.specs.declared.poll.Poll.TheVariants.{Ready, Pending}
use Rattle.life_core.specs.declared.recorder.NoMemory.{NoMemory}
use Rattle.life_script.specs.declared.answer.Answer.{Answer}
use Rattle.life_script.specs.declared.answer.Answer.TheVariants as ans
use Rattle.life_script.specs.declared.answer.Seen.{Seen}
use Rattle.life_script.specs.declared.answer.Seen.TheVariants as seen
use Rattle.life_script.specs.declared.scenario.Act.TheVariants as act
use Rattle.life_session.specs.Acts.{NotBefore, Own}
use Rattle.life_session.specs.Table.{Places, Table}

-- THE COURSE.

-- not called; called at a time and polled at these times since, the last one first, with no answer; answered, with a body of
-- this plan that was polled at these times since; or over
pub data Course (P : Type 0) : Type 0 where
  Fresh : Course P
  Awaited : ℕ → List ℕ → Course P
  Streamed : ℕ → P → List ℕ → Course P
  Over : Course P

-- how the values of a stack answer and record, by the key of a request: what a call records, its future by the time of the
-- call, its body by the plan too; and what is shown of a head
pub record Histories (K H P : Type 0) : Type 0 where
  pub called : K → List Event
  pub future : K → ℕ → FutureHistory H P (List ℕ)
  pub body : K → ℕ → P → BodyHistory (List ℕ) (BodyError (List ℕ))
  pub shown : H → ℕ × Entries Shown

-- what is seen of data and of trailers
abbrev pub kind_seen : Kind (List ℕ) → Seen
kind_seen (Data bytes) = seen.Chunk bytes
kind_seen (Trailers map) = seen.Trailers (fields map)

-- what is told of an answer of a body, where the body then tells this of its end
abbrev pub frame_told : Poll (Option (Result (Frame (List ℕ)) (BodyError (List ℕ)))) → Bool → Answer
frame_told Pending ended = ans.Pending
frame_told (Ready None) ended = ans.End
frame_told (Ready (Some (Ok f))) ended = ans.Frame (kind_seen f.kind) ended
frame_told (Ready (Some (Err e))) ended = ans.Fault e

module _ {K H P : Type 0} (h : Histories K H P) (k : K) where
  -- how far it has come with an answer of its future
  abbrev pub after_answer : ℕ → List ℕ → ℕ → Said H P (List ℕ) → Course P
  after_answer t0 past t Waits = Awaited t0 (t ∷ past)
  after_answer t0 past t (Gives head plan) = Streamed t0 plan []
  after_answer t0 past t (Fails error) = Over

  -- how far it has come with one more act
  abbrev pub after_act : Course P → Own → Course P
  after_act Fresh (t, act.Call) = Awaited t []
  after_act Fresh (t, act.Poll) = Fresh
  after_act Fresh (t, act.Drop) = Fresh
  after_act (Awaited t0 past) (t, act.Call) = Awaited t0 past
  after_act (Awaited t0 past) (t, act.Poll) = after_answer t0 past t ((h.future k t0).says past t)
  after_act (Awaited t0 past) (t, act.Drop) = Over
  after_act (Streamed t0 plan past) (t, act.Call) = Streamed t0 plan past
  after_act (Streamed t0 plan past) (t, act.Poll) = Streamed t0 plan (t ∷ past)
  after_act (Streamed t0 plan past) (t, act.Drop) = Over
  after_act Over x = Over

  -- what is told of an answer of its future
  abbrev pub told : ℕ → Said H P (List ℕ) → Answer
  told t0 Waits = ans.Pending
  told t0 (Gives head plan) = ans.Response (h.shown head).0 (h.shown head).1 ((h.body k t0 plan).ends [])
  told t0 (Fails error) = ans.ServiceError error

  -- what an act answers
  abbrev pub answered : Course P → Own → Answer
  answered Fresh (t, act.Call) = ans.Called
  answered Fresh (t, act.Poll) = ans.Idle
  answered Fresh (t, act.Drop) = ans.Idle
  answered (Awaited t0 past) (t, act.Call) = ans.Idle
  answered (Awaited t0 past) (t, act.Poll) = told t0 ((h.future k t0).says past t)
  answered (Awaited t0 past) (t, act.Drop) = ans.Dropped
  answered (Streamed t0 plan past) (t, act.Call) = ans.Idle
  answered (Streamed t0 plan past) (t, act.Poll) = frame_told ((h.body k t0 plan).frame past t) ((h.body k t0 plan).ends (t ∷ past))
  answered (Streamed t0 plan past) (t, act.Drop) = ans.Dropped
  answered Over x = ans.Idle

  -- what an act records
  abbrev pub recorded : Course P → Own → List Event
  recorded Fresh (t, act.Call) = h.called k
  recorded Fresh (t, act.Poll) = []
  recorded Fresh (t, act.Drop) = []
  recorded (Awaited t0 past) (t, act.Call) = []
  recorded (Awaited t0 past) (t, act.Poll) = (h.future k t0).events past t
  recorded (Awaited t0 past) (t, act.Drop) = (h.future k t0).abandoned past t
  recorded (Streamed t0 plan past) (t, act.Call) = []
  recorded (Streamed t0 plan past) (t, act.Poll) = (h.body k t0 plan).events past t
  recorded (Streamed t0 plan past) (t, act.Drop) = (h.body k t0 plan).abandoned past t
  recorded Over x = []

  -- what abandoning records at the end
  abbrev pub abandoned : Course P → ℕ → List Event
  abandoned c t = recorded c (t, act.Drop)

-- THE TABLE of the histories themselves.

module _ {K H P : Type 0} (h : Histories K H P) where
  -- how far some acts bring it
  abbrev pub course_from : K → Course P → List Own → Course P
  course_from k c [] = c
  course_from k c (x ∷ acts) = course_from k (after_act h k c x) acts

  -- how far its acts have brought a request
  abbrev pub course_of : K → List Own → Course P
  course_of k acts = course_from k Fresh acts

  -- the table that answers and records by the course of the acts so far
  abbrev pub course_table : K → Table
  course_table k = record {
    answer = λ acts x. answered h k (course_of k acts) x;
    events = λ acts x. recorded h k (course_of k acts) x;
    at_end = λ acts t. abandoned h k (course_of k acts) t;
  }

-- A TABLE that shows it.

-- a poll of a body is not before those before it
abbrev pub InTime : {P : Type 0} → Course P → Own → Type 0
InTime Fresh x = ⊤
InTime (Awaited t0 past) x = ⊤
InTime (Streamed t0 plan past) (t, act.Call) = ⊤
InTime (Streamed t0 plan past) (t, act.Poll) = Latest t past
InTime (Streamed t0 plan past) (t, act.Drop) = ⊤
InTime Over x = ⊤

-- At says how far the acts have brought a request
module _ {K H P : Type 0} (h : Histories K H P) (table : K → Table) (At : K → List Own → Course P → Type 0) where
  -- the table answers and records an act by the course, which goes on
  pub record Turns (k : K) (acts : List Own) (c : Course P) (x : Own) : Type 0 where
    pub answer : (table k).answer acts x ≡ answered h k c x
    pub events : (table k).events acts x ≡ recorded h k c x
    pub course : At k (acts ++ x ∷ []) (after_act h k c x)

  -- the table tells the course, from no acts on, by each act, and at the end
  pub record ShowsCourse : Type 0 where
    pub first : (k : K) → At k [] Fresh
    pub turn : (k : K) (acts : List Own) (c : Course P) (x : Own) → At k acts c → InTime c x → Turns k acts c x
    pub at_end : (k : K) (acts : List Own) (c : Course P) (t : ℕ) → At k acts c → (table k).at_end acts t ≡ abandoned h k c t

-- THE STACK that follows it.

-- where the values of a stack stand: a service and a request by the key, a future by the time of its call, a body by its plan
pub record Standing (K H P S R F B X : Type 0) : Type 1 where
  pub serves : K → S → Type 0
  pub asks : K → R → Type 0
  pub heads : H → ResponseHead X → Type 0
  pub future : K → ℕ → F → Where → Type 0
  pub body : K → ℕ → P → B → List ℕ → Type 0

module _ {K H P S R F B X : Type 0} (st : Standing K H P S R F B X) (At : K → List Own → Course P → Type 0) where
  -- the future stands where the acts have brought it, with no answer so far
  pub record AwaitedAt (k : K) (acts : List Own) (f : F) : Type 0 where
    pub t0 : ℕ
    pub past : List ℕ
    pub course : At k acts (Awaited t0 past)
    pub stands : st.future k t0 f (Waiting past)

  -- the future answered
  abbrev pub AnsweredAt : K → F → Type 0
  AnsweredAt k f = (t0 : ℕ) × st.future k t0 f Answered

  -- the body stands where the acts have brought it, and its last poll is not after them
  pub record StreamedAt (k : K) (acts : List Own) (b : B) : Type 0 where
    pub t0 : ℕ
    pub plan : P
    pub past : List ℕ
    pub course : At k acts (Streamed t0 plan past)
    pub latest : (t : ℕ) → NotBefore t acts → Latest t past
    pub stands : st.body k t0 plan b past

  -- where values stand after some acts, by how far the acts have brought the request
  abbrev pub course_places : Places K S R F B
  course_places = record {
    serves = st.serves;
    asks = st.asks;
    ready = λ k was. ⊤;
    fresh = λ k acts. At k acts Fresh;
    waiting = AwaitedAt;
    answered = λ k acts f. AnsweredAt k f;
    streaming = StreamedAt;
    over = λ k acts. At k acts Over;
  }

module _ {K H P S R F B X : Type 0} (calls : Calls S R F) (polls : Polls F (Result (Response B X) (List ℕ))) (abandons : Abandons F)
    (frames : Frames B (List ℕ) (BodyError (List ℕ))) (body_abandons : Abandons B) (ends : B → Bool) (h : Histories K H P) (st : Standing K H P S R F B X) where
  -- each value goes on by its history; abandoning one records at most one event
  pub record FollowsCourse : Type 0 where
    pub service : (k : K) → ServiceFollows calls (st.asks k) (st.serves k) (st.future k) (h.called k)
    pub kept : (k : K) (s : S) (req : R) (was : Recorded) (m : Moment) (made : Result F NoMemory) (new : S) (now : Recorded) →
        st.serves k s → calls s req was m made new now → st.serves k new
    pub future : (k : K) (t0 : ℕ) → FutureFollows polls abandons st.heads (st.future k t0) (st.body k t0) (h.future k t0)
    pub body : (k : K) (t0 : ℕ) → BodyFollows frames body_abandons ends (st.body k t0) (h.body k t0)
    pub shown : (said : H) (head : ResponseHead X) → st.heads said head → (head.parts.status ≡ (h.shown said).0) × (fields head.parts.headers ≡ (h.shown said).1)
    pub future_once : (k : K) (t0 : ℕ) (w : Where) (t : ℕ) → length (abandoned_at (h.future k t0).abandoned w t) ≤ 1
    pub body_once : (k : K) (t0 : ℕ) (plan : P) (past : List ℕ) (t : ℕ) → length ((h.body k t0 plan).abandoned past t) ≤ 1
