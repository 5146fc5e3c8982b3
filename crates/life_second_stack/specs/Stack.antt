-- Deadlines of bodies round the detection of early drops: the calls, the histories, where values stand, and the table.
use Rattle.std.specs.Prelude.{◌≡◌, ℕ, ◌-◌, List, [], ◌∷◌, Bool, Result, ⊤}
use Rattle.life_core.specs.Calls.{Abandons, Calls, Frames, NothingToAbandon, Polls}
use Rattle.life_core.specs.declared.body.BodyError.{BodyError}
use Rattle.life_core.specs.declared.body.limited.Limited.{Limited}
use Rattle.life_core.specs.declared.event.DropKind.TheVariants as drop_kind
use Rattle.life_core.specs.declared.message.Request.{Request}
use Rattle.life_core.specs.declared.message.Response.{Response}
use Rattle.life_drop.specs.EarlyBody.{EarlyBodyAbandons, EarlyBodyMay, EarlyFrames}
use Rattle.life_drop.specs.EarlyFuture.{EarlyFutureLive, EarlyFutureMay, EarlyAbandons, EarlyPolls}
use Rattle.life_drop.specs.EarlyService.{EarlyCalls, EarlyMay}
use Rattle.life_drop.specs.Note.{NotesBody, NotesDrop, NotesFuture, NotesStart, drop_record, noting}
use Rattle.life_drop.specs.History.{DropBodyStands, DropStands, drop_body_history, drop_history}
use Rattle.life_drop.specs.declared.on_early_drop.body.OnEarlyDropBody.{OnEarlyDropBody}
use Rattle.life_drop.specs.declared.on_early_drop.future.OnEarlyDropFuture.{OnEarlyDropFuture}
use Rattle.life_drop.specs.declared.on_early_drop.note.NoteDrop.{NoteDrop}
use Rattle.life_drop.specs.declared.on_early_drop.note.NoteDropped.{NoteDropped}
use Rattle.life_drop.specs.declared.on_early_drop.service.OnEarlyDropService.{OnEarlyDropService}
use Rattle.life_session.specs.Course.{Histories, Standing, course_of, course_places, course_table}
use Rattle.life_session.specs.Table.{Meaning}
use Rattle.life_stack.specs.Service.Caught.{Caught, CaughtFuture, CaughtFutureLive, CaughtFutureMay, CaughtFutureStands, CaughtMay, CaughtServes, CaughtService, CaughtStands, caught_calls, caught_ends, caught_frames, caught_future_abandons, caught_history, caught_abandons, caught_may, caught_polls}
use Rattle.life_stack.specs.Service.Script.{AsksFor}
use Rattle.life_stack.specs.Service.History.{BodyPlan, Head, Heads, script_body_history}
use Rattle.life_stack.specs.Table.Decision.{called_by}
use Rattle.life_stack.specs.Table.Request.{Numbered, numbered, shown_headers}
use Rattle.life_stack.specs.declared.service.body.ScriptBody.{ScriptBody}
use Rattle.life_stack.specs.declared.service.ext.Ext.{Ext}
use Rattle.life_time.specs.DeadlineBody.{DeadlineFrames}
use Rattle.life_time.specs.DeadlineService.{DeadlineCalls, DeadlinePolls}
use Rattle.life_time.specs.History.{DeadlineBodyStands, DeadlineServes, DeadlineStands, deadline_body_history, deadline_history}
use Rattle.life_time.specs.declared.timeout.deadline_body.DeadlineBody.{DeadlineBody}
use Rattle.life_time.specs.declared.timeout.deadline_service.ResponseBodyDeadline.{ResponseBodyDeadline}
use Rattle.life_time.specs.declared.timeout.deadline_service.ResponseBodyDeadlineFuture.{ResponseBodyDeadlineFuture}
use Rattle.life_second_stack.specs.declared.stack.Deadline.{Deadline}
use Rattle.life_second_stack.specs.declared.stack.TheConstants.{ROOM}

-- THE TYPES, AND THE CALLS: each layer's meaning over that of the one below.

-- the two layers over the scripted service with its panics caught
abbrev pub SecondStack : Type 0
SecondStack = ResponseBodyDeadline (OnEarlyDropService CaughtService NoteDrop NoteDrop)

-- a request, whose body is bounded
abbrev pub SecondRequest : Type 0
SecondRequest = Request (Limited ScriptBody) Ext

-- the future of a call
abbrev pub SecondFuture : Type 0
SecondFuture = ResponseBodyDeadlineFuture (OnEarlyDropFuture CaughtFuture NoteDropped NoteDrop ℕ (Limited ScriptBody))

-- the body of a response
abbrev pub SecondBody : Type 0
SecondBody = DeadlineBody (OnEarlyDropBody Caught NoteDropped)

-- what a call of the stack means
abbrev pub second_calls : Calls SecondStack SecondRequest SecondFuture
second_calls = DeadlineCalls (EarlyCalls caught_calls NotesFuture NotesStart NothingToAbandon)

-- what a poll of its future means
abbrev pub second_polls : Polls SecondFuture (Result (Response SecondBody Ext) (List ℕ))
second_polls = DeadlinePolls (EarlyPolls caught_polls NotesBody caught_ends caught_abandons)

-- what abandoning its future means
abbrev pub second_abandons : Abandons SecondFuture
second_abandons f = EarlyAbandons caught_future_abandons NotesDrop f.inner

-- what a poll of its body means
abbrev pub second_frames : Frames SecondBody (List ℕ) (BodyError (List ℕ))
second_frames = DeadlineFrames (EarlyFrames caught_frames caught_ends)

-- what abandoning its body means
abbrev pub second_body_abandons : Abandons SecondBody
second_body_abandons b = EarlyBodyAbandons caught_abandons NotesDrop b.body

-- whether its body tells its end
abbrev pub second_ends : SecondBody → Bool
second_ends b = caught_ends b.body.inner

-- THE HISTORIES: by the deadline and the script of a request, and the time t0 of its call.

-- the deadline of bodies, in nanoseconds after the response, and the script of the request with its number
abbrev pub SecondKey : Type 0
SecondKey = ℕ × Numbered

-- the plan of a body: the time of its response, its head and its items
abbrev pub SecondPlan : Type 0
SecondPlan = ℕ × (Head × BodyPlan)

-- how its values answer and record: a call records nothing, and each early drop its kind and the time since the call
abbrev pub second_histories : Histories SecondKey Head SecondPlan
second_histories = record {
  called = λ k. [];
  future = λ k t0. deadline_history (drop_history (λ t. drop_record drop_kind.Future (t - t0) ∷ []) (caught_history (called_by k.1.script.call) ROOM k.1.script));
  body = λ k t0. deadline_body_history k.0 (drop_body_history (λ (h : Head) t. drop_record (drop_kind.Body h.0) (t - t0) ∷ []) script_body_history);
  shown = λ said. (said.0, shown_headers said.1);
}

-- WHERE VALUES STAND.

-- where its service, requests, futures and bodies stand by their histories
abbrev pub second_standing : Standing SecondKey Head SecondPlan SecondStack SecondRequest SecondFuture SecondBody Ext
second_standing = record {
  serves = λ k. DeadlineServes k.0 (λ s. CaughtServes k.1.script k.1.number s.inner);
  asks = λ k. AsksFor ROOM k.1.script k.1.number;
  heads = Heads;
  future = λ k t0. DeadlineStands k.0 (DropStands (noting drop_kind.Future t0) t0 (CaughtFutureStands ROOM k.1.script));
  body = λ k t0. DeadlineBodyStands k.0 (DropBodyStands (λ (h : Head). noting (drop_kind.Body h.0) t0) script_body_history CaughtStands);
}

-- what the stack says of itself: it keeps the table of its histories
abbrev pub second_meaning : Meaning SecondKey Deadline SecondStack SecondRequest SecondFuture SecondBody
second_meaning = record {
  places = course_places second_standing (λ k acts c. course_of second_histories k acts ≡ c);
  table = course_table second_histories;
  key_of = λ deadline i script. (deadline.nanos, numbered i script);
  may = λ s. EarlyMay CaughtMay (λ _. ⊤) (λ _. ⊤) s.inner;
  future_live = λ f. EarlyFutureLive CaughtFutureLive (λ _. ⊤) f.inner;
  future_may = λ f. EarlyFutureMay CaughtFutureMay (λ _. ⊤) (λ _. ⊤) f.inner;
  body_may = λ b. EarlyBodyMay caught_may (λ _. ⊤) b.body;
  ends = second_ends;
}
