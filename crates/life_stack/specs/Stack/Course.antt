-- What the acts of a request are, by how far they have brought it.
use Rattle.std.specs.Prelude.{◌≡◌, ℕ, suc, List, ◌+◌, length, drop, reverse, slice_index, Bool, false, ◌⊎◌, Option, Some, None}
use Rattle.life_core.specs.declared.event.DropKind.{DropKind}
use Rattle.life_core.specs.declared.event.DropKind.TheVariants as drop_kind
use Rattle.life_drop.specs.History.{ended}
use Rattle.life_script.specs.Reply.{ReplyView}
use Rattle.life_script.specs.declared.scenario.Limits.{Limits}
use Rattle.life_session.specs.Acts.{Own}
use Rattle.life_session.specs.Course.{Course, Fresh, Awaited, Streamed, Over}
use Rattle.life_stack.specs.Stack.Driven.{Plan, timed_body_history, watched_body_history}
use Rattle.life_stack.specs.Table.Request.{Numbered}
use Rattle.life_session.specs.Moments.{called_at, dropped_at, polls}
use Rattle.life_core.specs.declared.life.Life.{Life}
use Rattle.life_trace.specs.History.{life_at}
use Rattle.life_stack.specs.Table.Story.{Failed, Replied, answers, any_ending, body_answers, first_answer, kind_of}
use Rattle.life_stack.specs.Table.Traced.{Given, any_closes, any_faults, last_ready}

-- what the table looks at in the acts so far
pub record Signs : Type 0 where
  pub called : Option ℕ
  pub dropped : Option ℕ
  pub polls : List ℕ
  pub ending : Bool
  pub kind : DropKind

-- the same of these acts
abbrev pub signs : Limits → Numbered → List Own → Signs
signs limits request acts = record {
  called = called_at acts;
  dropped = dropped_at acts;
  polls = polls acts;
  ending = any_ending (answers limits request acts);
  kind = kind_of drop_kind.Future (answers limits request acts);
}

-- no Call yet; what was answered ends nothing
pub record FreshAfter (s : Signs) : Type 0 where
  pub uncalled : s.called ≡ None
  pub no_ending : s.ending ≡ false
  pub kind : s.kind ≡ drop_kind.Future

-- called at t0, not dropped, and polled at these times, the last one first, none of which answered
pub record AwaitedAfter (limits : Limits) (request : Numbered) (s : Signs) (t0 : ℕ) (past : List ℕ) : Type 0 where
  pub called : s.called ≡ Some t0
  pub undropped : s.dropped ≡ None
  pub past_is : past ≡ reverse s.polls
  pub polled : length past ≡ length s.polls
  pub unanswered : first_answer limits request t0 s.polls ≡ None
  pub no_ending : s.ending ≡ false
  pub kind : s.kind ≡ drop_kind.Future

-- the reply of a plan
abbrev pub reply_of : Plan → ReplyView
reply_of plan = record { status = plan.head.0; headers = plan.head.1; body = plan.inner.1.1.items; tells = plan.inner.1.1.tells }

-- what has come of a body is what the answers so far tell
pub record LifeIs (t0 ph : ℕ) (life : Life) (given : Given) : Type 0 where
  pub responded : life.responded ≡ ph
  pub last : life.last ≡ last_ready t0 given
  pub closed : life.closed ≡ any_closes given
  pub faulted : life.faulted ≡ any_faults given

-- called at t0, answered by poll h with a response of this plan, not dropped, and polled at these times since
pub record StreamedAfter (limits : Limits) (request : Numbered) (s : Signs) (t0 : ℕ) (plan : Plan) (past : List ℕ) : Type 0 where
  pub h : ℕ
  pub called : s.called ≡ Some t0
  pub undropped : s.dropped ≡ None
  pub first_answer_is : first_answer limits request t0 s.polls ≡ Some (h, Replied (reply_of plan))
  pub at_first_answer : slice_index s.polls h ≡ plan.inner.1.0
  pub past_is : past ≡ reverse (drop (suc h) s.polls)
  pub polled : length s.polls ≡ suc (h + length past)
  pub kind : s.kind ≡ drop_kind.Body plan.inner.0.0
  pub ending : s.ending ≡ ended (timed_body_history limits.body_deadline plan.inner.1) past
  pub life : LifeIs t0 plan.inner.1.0 (life_at t0 plan.responded (watched_body_history limits t0 plan.inner) past)
      (body_answers limits.body_deadline (reply_of plan) plan.inner.1.0 0 (drop (suc h) s.polls))

-- it was dropped, or a poll answered an error
abbrev pub IsGone : Limits → Numbered → ℕ → Signs → Type 0
IsGone limits request t0 s =
    ((d : ℕ) × (s.dropped ≡ Some d))
    ⊎ ((h : ℕ) × (error : List ℕ) × (s.dropped ≡ None) × (first_answer limits request t0 s.polls ≡ Some (h, Failed error)))

-- nothing is live after a call
pub record OverAfter (limits : Limits) (request : Numbered) (s : Signs) : Type 0 where
  pub t0 : ℕ
  pub called : s.called ≡ Some t0
  pub gone : IsGone limits request t0 s

-- what a request is told by
abbrev pub Key : Type 0
Key = Limits × Numbered

-- what is so of these signs, by how far the request has come
abbrev pub SignsOf : Key → Signs → Course Plan → Type 0
SignsOf k s Fresh = FreshAfter s
SignsOf k s (Awaited t0 past) = AwaitedAfter k.0 k.1 s t0 past
SignsOf k s (Streamed t0 plan past) = StreamedAfter k.0 k.1 s t0 plan past
SignsOf k s Over = OverAfter k.0 k.1 s

-- the same of the acts
abbrev pub StoryAfter : Key → List Own → Course Plan → Type 0
StoryAfter k acts c = SignsOf k (signs k.0 k.1 acts) c
