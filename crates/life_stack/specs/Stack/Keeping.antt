-- The driven stack as one that keeps a table: its histories, where its values stand, its table and the key of each request.
use Rattle.std.specs.Prelude.{[], ◌∷◌}
use Rattle.life_core.specs.declared.message.Request.{Request}
use Rattle.life_script.specs.declared.scenario.Limits.{Limits}
use Rattle.life_session.specs.Course.{Histories, Standing, course_places}
use Rattle.life_session.specs.Table.{Meaning, Places, Table}
use Rattle.life_stack.specs.Stack.Course.{Key, StoryAfter}
use Rattle.life_stack.specs.Stack.Driven.{BodyMay, BodyStands, DriveBody, DriveFuture, DriveStack, FutureLive, FutureMay, FutureStands, Plan, StackMay, StackStands, body_history, drive_ends, future_history}
use Rattle.life_stack.specs.Service.History.{Head, IsHead}
use Rattle.life_stack.specs.Table.Request.{numbered, shown_headers}
use Rattle.life_stack.specs.Service.Script.{IsRequestOf}
use Rattle.life_stack.specs.Table.Story.{story_table}
use Rattle.life_stack.specs.Table.Traced.{span_of, started}
use Rattle.life_stack.specs.declared.service.ext.Ext.{Ext}
use Rattle.life_stack.specs.declared.service.body.ScriptBody.{ScriptBody}

-- what a future and a body of a request answer and record at each poll
abbrev pub drive_histories : Histories Key Head Plan
drive_histories = record {
  called = λ k. started (span_of k.0 k.1) ∷ [];
  future = λ k t0. future_history k.0 k.1 t0;
  body = λ k t0 plan. body_history k.0 t0 plan;
  shown = λ said. (said.0, shown_headers said.1);
}

-- where the service, a future and a body stand for a request
abbrev pub drive_standing : Standing Key Head Plan DriveStack (Request ScriptBody Ext) DriveFuture DriveBody Ext
drive_standing = record {
  serves = λ k s. StackStands k.0 k.1 s;
  asks = λ k req. IsRequestOf k.1.script k.1.number req;
  heads = IsHead;
  future = λ k t0. FutureStands k.0 k.1 t0;
  body = λ k t0. BodyStands k.0 k.1 t0;
}

-- the same by the acts so far
abbrev pub drive_places : Places Key DriveStack (Request ScriptBody Ext) DriveFuture DriveBody
drive_places = course_places drive_standing StoryAfter

-- the table that is kept: the story of each request
abbrev pub drive_table : Key → Table
drive_table k = story_table k.0 k.1

-- all that a session asks of a stack that keeps a table
abbrev pub drive_meaning : Meaning Key Limits DriveStack (Request ScriptBody Ext) DriveFuture DriveBody
drive_meaning = record {
  places = drive_places;
  table = drive_table;
  key_of = λ limits i script. (limits, numbered i script);
  may = StackMay;
  future_live = FutureLive;
  future_may = FutureMay;
  body_may = BodyMay;
  ends = drive_ends;
}
