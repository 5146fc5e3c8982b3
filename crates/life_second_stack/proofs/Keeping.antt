-- The stack follows the course of its histories, so it keeps their table.
use Rattle.std.proofs.Common.{◌≡◌, ◌≤◌, ℕ, [], length, Ok, Err, Result, ap, arith}
use Rattle.life_core.specs.Fields.{fields}
use Rattle.life_core.specs.History.{Answered, BodyFollows, FutureFollows, ServiceFollows, Waiting, Where, abandoned_at}
use Rattle.life_core.specs.Moment.{Moment}
use Rattle.life_core.specs.Recorded.{Recorded}
use Rattle.life_core.specs.declared.event.DropKind.TheVariants as drop_kind
use Rattle.life_core.specs.declared.recorder.NoMemory.{NoMemory}
use Rattle.life_drop.proofs.DropFollows.{drop_body_follows, drop_follows, drop_serves}
use Rattle.life_drop.proofs.NoteFollows.{note_body, note_future, note_records, note_start}
use Rattle.life_drop.specs.Note.{noting}
use Rattle.life_drop.specs.History.{ended}
use Rattle.life_session.proofs.CourseLaws.{course_told, keeps}
use Rattle.life_session.specs.Course.{FollowsCourse, course_of, course_table}
use Rattle.life_session.specs.Table.{KeepsTable}
use Rattle.life_stack.proofs.ServiceLaws.CaughtFollows.{caught_body, caught_follows, caught_keeps, caught_serves}
use Rattle.life_stack.proofs.StackLaws.Keeping.{at_most_one}
use Rattle.life_stack.specs.Service.History.{Head, Heads, script_body_history}
use Rattle.life_time.proofs.DeadlineFollows.{deadline_body_follows, deadline_follows, deadline_serves}
use Rattle.life_time.specs.History.{undue}
use Rattle.life_second_stack.specs.Stack.{SecondKey, SecondFuture, SecondRequest, SecondStack, second_body_abandons, second_calls, second_ends, second_frames, second_histories, second_abandons, second_meaning, second_polls, second_standing}
use Rattle.life_second_stack.specs.declared.stack.TheConstants.{ROOM}

-- THE SERVICE.

serves : (k : SecondKey) → ServiceFollows second_calls (second_standing.asks k) (second_standing.serves k) (second_standing.future k) []
serves k = deadline_serves _ _ _ _ _ (drop_serves _ _ _ _ _ _ _ _ note_future _ _ note_start (caught_serves ROOM k.1.script k.1.number)) k.0

-- whatever is asked, it serves on as before
serves_on : (k : SecondKey) (s : SecondStack) (req : SecondRequest) (was : Recorded) (m : Moment) (made : Result SecondFuture NoMemory) (new : SecondStack) (now : Recorded) →
    second_standing.serves k s → second_calls s req was m made new now → second_standing.serves k new
serves_on k s req was m (Ok f) new now stands c = ((deadline_serves _ _ _ _ _ (drop_serves _ _ _ _ _ _ _ _ note_future _ _ note_start (caught_keeps k.1.script k.1.number)) k.0).call s req was m f new now tt stands c).0
serves_on k s req was m (Err e) new now stands c = (serves k).refused s req was m e new now stands c

-- ITS FUTURES AND BODIES.

future : (k : SecondKey) (t0 : ℕ) → FutureFollows second_polls second_abandons Heads (second_standing.future k t0) (second_standing.body k t0) (second_histories.future k t0)
future k t0 = deadline_follows _ _ _ _ _ _ k.0
    (drop_follows _ _ _ _ _ _ _ _ _ _ _ _ _ _ (note_body Heads (λ h. h.0) (λ g head h. h.0.status_is) t0) _ (noting drop_kind.Future t0) _ note_records (caught_follows ROOM k.1.script) caught_body)

body : (k : SecondKey) (t0 : ℕ) → BodyFollows second_frames second_body_abandons second_ends (second_standing.body k t0) (second_histories.body k t0)
body k t0 = deadline_body_follows _ _ _ _ _ k.0 (drop_body_follows _ _ _ _ _ (λ (h : Head). noting (drop_kind.Body h.0) t0) _ _ note_records caught_body)

future_once : (k : SecondKey) (t0 : ℕ) (w : Where) (t : ℕ) → length (abandoned_at (second_histories.future k t0).abandoned w t) ≤ 1
future_once k t0 (Waiting past) t = omega arith
future_once k t0 Answered t = omega arith

follows : FollowsCourse second_calls second_polls second_abandons second_frames second_body_abandons second_ends second_histories second_standing
follows = record {
  service = serves;
  kept = serves_on;
  future = future;
  body = body;
  shown = λ said head h. (h.0.status_is, ap fields h.0.headers_are);
  future_once = future_once;
  body_once = λ k t0 plan past t. at_most_one (ended (script_body_history plan.1.1) (undue plan.0 k.0 past)) _;
}

pub second_keeps : KeepsTable second_calls second_polls second_abandons second_frames second_body_abandons second_ends second_meaning.places second_meaning.table
second_keeps = keeps second_calls second_polls second_abandons second_frames second_body_abandons second_ends second_histories second_standing follows
    (course_table second_histories) (λ k acts c. course_of second_histories k acts ≡ c) (course_told second_histories)
