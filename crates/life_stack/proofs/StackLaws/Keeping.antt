-- The driven stack follows the course of its histories, the story tells this course, and so the stack keeps the story's table.
use Rattle.std.proofs.Common.{arith, ◌≡◌, ◌≤◌, ℕ, List, [], ◌∷◌, length, Bool, true, false, Option, Some, None, Result, Ok, Err, refl, ap, ◌∙◌}
use Rattle.life_core.specs.Fields.{fields}
use Rattle.life_core.specs.History.{Waiting, Answered, abandoned_at, Where}
use Rattle.life_core.specs.Moment.{Moment}
use Rattle.life_core.specs.Recorded.{Recorded}
use Rattle.life_core.specs.declared.event.Event.{Event}
use Rattle.life_core.specs.declared.message.Request.{Request}
use Rattle.life_core.specs.declared.recorder.NoMemory.{NoMemory}
use Rattle.life_drop.specs.History.{ended, unless_ended}
use Rattle.life_script.specs.declared.scenario.Act.TheVariants as act
use Rattle.life_script.specs.Valid.{ScriptFits}
use Rattle.life_session.specs.Acts.{Own}
use Rattle.life_session.specs.Course.{Course, Fresh, Awaited, Streamed, Over, FollowsCourse, InTime, ShowsCourse, abandoned}
use Rattle.life_session.specs.Table.{KeepsTable}
use Rattle.life_session.proofs.CourseLaws as course
use Rattle.life_stack.specs.Stack.Course.{Key, StoryAfter}
use Rattle.life_stack.specs.Stack.Driven.{DriveFuture, DriveStack, Plan, StackStands, drive_body_abandons, drive_calls, drive_ends, drive_frames, drive_abandons, drive_polls, future_history, timed_body_history}
use Rattle.life_stack.specs.Stack.Keeping.{drive_histories, drive_places, drive_standing, drive_table}
use Rattle.life_session.specs.Moments.{dropped_at}
use Rattle.life_stack.specs.Table.Story.{answers, at_end, drops, drops_at, unless_dropped}
use Rattle.life_stack.specs.declared.service.body.ScriptBody.{ScriptBody}
use Rattle.life_stack.specs.declared.service.ext.Ext.{Ext}
use Rattle.life_stack.proofs.StackLaws.DrivenFollows.{body_follows, future_follows, stack_follows, stack_kept}
use Rattle.life_stack.proofs.TableLaws.Failing.{gone_end}
use Rattle.life_stack.proofs.StackLaws.Steps.{Turn, awaited_called, awaited_dropped, awaited_drops, awaited_polled, fresh_called, fresh_dropped, fresh_polled, over_idle, streamed_called, streamed_dropped, streamed_drops, streamed_polled}

-- THE STORY tells the course.

story_turn : (k : Key) (acts : List Own) (c : Course Plan) (x : Own) → StoryAfter k acts c → InTime c x → Turn k.0 k.1 acts c x
story_turn k acts Fresh (t, act.Call) at in_time = fresh_called k.0 k.1 acts at t
story_turn k acts Fresh (t, act.Poll) at in_time = fresh_polled k.0 k.1 acts at t
story_turn k acts Fresh (t, act.Drop) at in_time = fresh_dropped k.0 k.1 acts at t
story_turn k acts (Awaited t0 past) (t, act.Call) at in_time = awaited_called k.0 k.1 acts t0 past at t
story_turn k acts (Awaited t0 past) (t, act.Poll) at in_time = awaited_polled k.0 k.1 acts t0 past at t
story_turn k acts (Awaited t0 past) (t, act.Drop) at in_time = awaited_dropped k.0 k.1 acts t0 past at t
story_turn k acts (Streamed t0 plan past) (t, act.Call) at in_time = streamed_called k.0 k.1 acts t0 plan past at t
story_turn k acts (Streamed t0 plan past) (t, act.Poll) at in_time = streamed_polled k.0 k.1 acts t0 plan past at t in_time
story_turn k acts (Streamed t0 plan past) (t, act.Drop) at in_time = streamed_dropped k.0 k.1 acts t0 plan past at t
story_turn k acts Over x at in_time = over_idle k.0 k.1 acts x at

unless_none : (o : Option ℕ) → unless_dropped o [] ≡ []
unless_none None = refl
unless_none (Some d) = refl

story_end : (k : Key) (acts : List Own) (c : Course Plan) (t : ℕ) → StoryAfter k acts c → at_end k.0 k.1 acts t ≡ abandoned drive_histories k c t
story_end k acts Fresh t at = ap (λ c. unless_dropped (dropped_at acts) (drops_at c (answers k.0 k.1 acts) t)) at.uncalled ∙ unless_none (dropped_at acts)
story_end k acts (Awaited t0 past) t at = ap (λ o. unless_dropped o (drops k.0 k.1 acts t)) at.undropped ∙ awaited_drops k.0 k.1 acts t0 past at t
story_end k acts (Streamed t0 plan past) t at = ap (λ o. unless_dropped o (drops k.0 k.1 acts t)) at.undropped ∙ streamed_drops k.0 k.1 acts t0 plan past at t
story_end k acts Over t at = gone_end k.0 k.1 acts at.t0 t at.called at.gone

story_told : ShowsCourse drive_histories drive_table StoryAfter
story_told = record {
  first = λ k. record { uncalled = refl; no_ending = refl; kind = refl };
  turn = story_turn;
  at_end = story_end;
}

-- THE STACK follows it.

-- the script that a stack stands for has lists that are short enough
fits_of : (k : Key) (s : DriveStack) → StackStands k.0 k.1 s → ScriptFits k.1.script
fits_of k s serves = ((((((((serves.inner).inner).inner).inner).inner).inner).inner).inner).1

future_once : (k : Key) (t0 : ℕ) (w : Where) (t : ℕ) → length (abandoned_at (future_history k.0 k.1 t0).abandoned w t) ≤ 1
future_once k t0 (Waiting past) t = omega (arith)
future_once k t0 Answered t = omega (arith)

pub at_most_one : (x : Bool) (one : Event) → length (unless_ended x (one ∷ [])) ≤ 1
at_most_one true one = omega (arith)
at_most_one false one = omega (arith)

drive_follows : FollowsCourse drive_calls drive_polls drive_abandons drive_frames drive_body_abandons drive_ends drive_histories drive_standing
drive_follows = record {
  service = λ k. record {
    call = λ s req was m f new now asks serves c. (stack_follows k.0 k.1).call s req was m f new now (asks, fits_of k s serves) serves c;
    refused = (stack_follows k.0 k.1).refused;
  };
  kept = λ k. stack_kept k.0 k.1;
  future = λ k t0. future_follows k.0 k.1 t0;
  body = λ k t0. body_follows k.0 k.1 t0;
  shown = λ said head h. (h.status_is, ap fields h.headers_are);
  future_once = future_once;
  body_once = λ k t0 plan past t. at_most_one (ended (timed_body_history k.0.body_deadline plan.inner.1) past) _;
}

pub drive_keeps : KeepsTable drive_calls drive_polls drive_abandons drive_frames drive_body_abandons drive_ends drive_places drive_table
drive_keeps = course.keeps drive_calls drive_polls drive_abandons drive_frames drive_body_abandons drive_ends drive_histories drive_standing drive_follows drive_table StoryAfter story_told
