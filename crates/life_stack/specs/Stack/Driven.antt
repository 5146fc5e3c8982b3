-- The driven stack: its calls, where its values stand after some polls, and what their histories are.
use Rattle.std.specs.Prelude.{◌≡◌, ℕ, Bool, List, [], Some, Result, ◌-◌, ◌∷◌, ⊤, IfSome, IsSomeAnd}
use Rattle.life_core.specs.History.{BodyHistory, Said, FutureHistory, Where}
use Rattle.life_core.specs.Calls.{Abandons, AbandonsIfAny, Calls, Frames, NothingToAbandon, Polls}
use Rattle.life_core.specs.declared.body.BodyError.{BodyError}
use Rattle.life_core.specs.declared.event.DropKind.TheVariants as drop_kind
use Rattle.life_core.specs.declared.message.Request.{Request}
use Rattle.life_core.specs.declared.message.Response.{Response}
use Rattle.life_drop.specs.EarlyBody.{EarlyBodyAbandons, EarlyBodyMay, EarlyFrames}
use Rattle.life_drop.specs.EarlyFuture.{EarlyFutureLive, EarlyFutureMay, EarlyAbandons, EarlyPolls}
use Rattle.life_drop.specs.EarlyService.{EarlyCalls, EarlyMay}
use Rattle.life_drop.specs.Note.{NotesBody, NotesDrop, NotesFuture, NotesStart, drop_record, noting}
use Rattle.life_drop.specs.History.{DropBodyStands, DropStands, drop_body_history, drop_history}
use Rattle.life_drop.specs.declared.on_early_drop.body.OnEarlyDropBody.{OnEarlyDropBody}
use Rattle.life_drop.specs.declared.on_early_drop.future.OnEarlyDropFuture.{OnEarlyDropFuture}
use Rattle.life_drop.specs.declared.on_early_drop.note.NoteDrop.{NoteDrop}
use Rattle.life_drop.specs.declared.on_early_drop.note.NoteDropped.{NoteDropped}
use Rattle.life_drop.specs.declared.on_early_drop.service.OnEarlyDropService.{OnEarlyDropService}
use Rattle.life_time.specs.DeadlineBody.{DeadlineFrames}
use Rattle.life_time.specs.DeadlineService.{DeadlineCalls, DeadlinePolls}
use Rattle.life_time.specs.History.{DeadlineBodyStands, DeadlineServes, DeadlineStands, TimeoutServes, TimeoutStands, deadline_body_history, deadline_history, timeout_history}
use Rattle.life_time.specs.Timeout.{TimeoutCalls, TimeoutPolls}
use Rattle.life_time.specs.declared.timeout.deadline_body.DeadlineBody.{DeadlineBody}
use Rattle.life_time.specs.declared.timeout.deadline_service.ResponseBodyDeadline.{ResponseBodyDeadline}
use Rattle.life_time.specs.declared.timeout.deadline_service.ResponseBodyDeadlineFuture.{ResponseBodyDeadlineFuture}
use Rattle.life_time.specs.declared.timeout.service.ResponseFuture.{ResponseFuture}
use Rattle.life_time.specs.declared.timeout.service.Timeout.{Timeout}
use Rattle.http_header.specs.FieldValue.{FieldValue}
use Rattle.life_head.specs.Ids.{NumberMakes, x_request_id_name}
use Rattle.life_head.specs.Propagating.{PropagateCalls, PropagatePolls}
use Rattle.life_head.specs.Setting.{SetCalls, SetMay}
use Rattle.life_head.specs.History.{PropagateServes, PropagateStands, SetServes, propagate_history}
use Rattle.life_head.specs.declared.request_id.number.ByNumber.{ByNumber}
use Rattle.life_head.specs.declared.request_id.propagate.PropagateRequestId.{PropagateRequestId}
use Rattle.life_head.specs.declared.request_id.propagating.PropagateRequestIdResponseFuture.{PropagateRequestIdResponseFuture}
use Rattle.life_head.specs.declared.request_id.set.SetRequestId.{SetRequestId}
use Rattle.life_classify.specs.Drive.{DriveEosError, DriveError, DriveResponse, DriveTrailers, drive_class_text}
use Rattle.life_classify.specs.Shared.{MakesTwins}
use Rattle.life_classify.specs.declared.classify.drive_classifier.DriveClassifier.{DriveClassifier}
use Rattle.life_classify.specs.declared.classify.drive_classifier.DriveClassifyEos.{DriveClassifyEos}
use Rattle.life_classify.specs.declared.classify.drive_classifier.DriveFailureClass.{DriveFailureClass}
use Rattle.life_classify.specs.declared.classify.shared_classifier.SharedClassifier.{SharedClassifier}
use Rattle.life_core.specs.Texts.{body_error_text}
use Rattle.life_trace.specs.Body.{TraceBodyMay, TraceFrames}
use Rattle.life_trace.specs.DefaultMakeSpan.{MakesRequestSpan}
use Rattle.life_trace.specs.DefaultOnEos.{RecordsEnd}
use Rattle.life_trace.specs.DefaultOnFailure.{RecordsFailure}
use Rattle.life_trace.specs.DefaultOnRequest.{RecordsStart, default_on_request}
use Rattle.life_trace.specs.DefaultOnResponse.{RecordsResponse}
use Rattle.life_trace.specs.Future.{TraceFutureLive, TraceFutureMay, TracePolls}
use Rattle.life_trace.specs.History.{TraceBodyStands, TracePlan, TraceServes, TraceStands, trace_body_history, trace_history}
use Rattle.life_trace.specs.Hooks.{SeesFailure}
use Rattle.life_trace.specs.NoteChunk.{RecordsChunk}
use Rattle.life_trace.specs.Parts.{call_hooks}
use Rattle.life_trace.specs.Service.{TraceCalls, TraceMay}
use Rattle.life_trace.specs.declared.trace.body.ResponseBody.{ResponseBody as TraceBody}
use Rattle.life_trace.specs.declared.trace.future.ResponseFuture.{ResponseFuture as TraceFuture}
use Rattle.life_trace.specs.declared.trace.make_span.DefaultMakeSpan.{DefaultMakeSpan}
use Rattle.life_trace.specs.declared.trace.on_body_chunk.NoteChunk.{NoteChunk}
use Rattle.life_trace.specs.declared.trace.on_eos.DefaultOnEos.{DefaultOnEos}
use Rattle.life_trace.specs.declared.trace.on_failure.DefaultOnFailure.{DefaultOnFailure}
use Rattle.life_trace.specs.declared.trace.on_request.DefaultOnRequest.{DefaultOnRequest}
use Rattle.life_trace.specs.declared.trace.on_response.DefaultOnResponse.{DefaultOnResponse}
use Rattle.life_trace.specs.declared.trace.service.Trace.{Trace}
use Rattle.life_stack.specs.Stack.Tracing.{drive_classes, drive_events, drive_on_eos, drive_on_failure, drive_tracing, head_class}
use Rattle.life_stack.specs.Table.Traced.{span_of}
use Rattle.life_core.specs.UnsyncBoxBody.{IsEmptyBox}
use Rattle.life_core.specs.declared.body.limited.Limited.{Limited}
use Rattle.life_gate.specs.Gate.{GateCalls, GateKindAbandons, GateKindLive, GateKindMay, GateMay, GatePolls, Validates}
use Rattle.life_gate.specs.Required.{RequiredValidates, required_of}
use Rattle.life_gate.specs.History.{GateServes, GateStands}
use Rattle.life_gate.specs.declared.validate_request.future.ResponseFuture.{ResponseFuture as GateFuture}
use Rattle.life_gate.specs.declared.validate_request.required.RequiredHeaderValue.{RequiredHeaderValue}
use Rattle.life_gate.specs.declared.validate_request.service.ValidateRequestHeader.{ValidateRequestHeader}
use Rattle.life_limit.specs.Limit.{LimitCalls, LimitKindAbandons, LimitKindMay, LimitPolls}
use Rattle.life_limit.specs.LimitBody.{IsDefaultLimitBody, LimitBodyFrames, LimitBodyAbandons, LimitBodyMay, limit_body_ends}
use Rattle.life_limit.specs.History.{LimitBodyStands, LimitServes, LimitStands}
use Rattle.life_limit.specs.declared.limit.body.ResponseBody.{ResponseBody}
use Rattle.life_limit.specs.declared.limit.future.ResponseFuture.{ResponseFuture as LimitFuture}
use Rattle.life_limit.specs.declared.limit.service.RequestBodyLimit.{RequestBodyLimit}
use Rattle.life_stack.specs.Table.Request.{Numbered, ident, identified}
use Rattle.life_script.specs.Reply.{ReplyView}
use Rattle.life_script.specs.declared.scenario.Limits.{Limits}
use Rattle.life_stack.specs.Table.Decision.{decision, forbidden_reply, is_shut, is_too_large}
use Rattle.life_stack.specs.Table.Handed.{room}
use Rattle.life_stack.specs.Service.Script.{IsDefaultExt, ext_id, ext_number, with_id}
use Rattle.life_stack.specs.Table.Story.{due_reply}
use Rattle.life_stack.specs.declared.service.ext.Ext.{Ext}
use Rattle.life_stack.specs.declared.service.body.ScriptBody.{ScriptBody}
use Rattle.life_stack.specs.Service.History.{Head, BodyPlan, body_plan, script_body_history, Heads}
use Rattle.life_stack.specs.Service.Caught.{Caught, caught_abandons, caught_may, decided_says, CaughtStands, CaughtService, CaughtFuture, caught_calls, caught_polls, caught_future_abandons, caught_frames, caught_ends, CaughtMay, CaughtFutureLive, CaughtFutureMay, CaughtServes, CaughtFutureStands, caught_history}

-- THE TYPES.

-- the layers that may answer in the service's place, round it, with their futures and bodies
abbrev pub Inner : Type 0
Inner = RequestBodyLimit (ValidateRequestHeader CaughtService (RequiredHeaderValue Caught))

abbrev pub InnerFuture : Type 0
InnerFuture = LimitFuture (GateFuture CaughtFuture Caught Ext)

abbrev pub InnerBody : Type 0
InnerBody = ResponseBody Caught

-- the layers that look at the response round these
abbrev pub Watched : Type 0
Watched = OnEarlyDropService (ResponseBodyDeadline (Timeout (PropagateRequestId Inner))) NoteDrop NoteDrop

abbrev pub WatchedFuture : Type 0
WatchedFuture = OnEarlyDropFuture (ResponseBodyDeadlineFuture (ResponseFuture (PropagateRequestIdResponseFuture InnerFuture))) NoteDropped NoteDrop ℕ ScriptBody

abbrev pub WatchedBody : Type 0
WatchedBody = OnEarlyDropBody (DeadlineBody InnerBody) NoteDropped

-- these, traced
abbrev pub Traced : Type 0
Traced = Trace Watched (SharedClassifier DriveClassifier) DefaultMakeSpan DefaultOnRequest DefaultOnResponse NoteChunk DefaultOnEos DefaultOnFailure

-- all layers round the service, with the futures and bodies of the stack
abbrev pub DriveStack : Type 0
DriveStack = SetRequestId Traced ByNumber

abbrev pub DriveFuture : Type 0
DriveFuture = TraceFuture WatchedFuture DriveClassifier DefaultOnResponse NoteChunk DefaultOnEos DefaultOnFailure

abbrev pub DriveBody : Type 0
DriveBody = TraceBody WatchedBody DriveClassifyEos NoteChunk DefaultOnEos DefaultOnFailure

-- THE CALLS: each layer's meaning over that of the one below.

-- the gate asks for its value, and refuses with a body of nothing
abbrev pub gate_validates : Validates (RequiredHeaderValue Caught) (Limited ScriptBody) Caught Ext
gate_validates = RequiredValidates IsEmptyBox IsDefaultExt

-- the inner service, its futures and its bodies
abbrev pub inner_calls : Calls Inner (Request ScriptBody Ext) InnerFuture
inner_calls = LimitCalls (GateCalls caught_calls gate_validates NothingToAbandon caught_abandons) NothingToAbandon

abbrev pub inner_polls : Polls InnerFuture (Result (Response InnerBody Ext) (List ℕ))
inner_polls = LimitPolls (GatePolls caught_polls) IsDefaultExt

abbrev pub inner_abandons : Abandons InnerFuture
inner_abandons f = LimitKindAbandons (λ g. GateKindAbandons caught_future_abandons caught_abandons g.kind) f.kind

abbrev pub inner_frames : Frames InnerBody (List ℕ) (List ℕ)
inner_frames = LimitBodyFrames caught_frames

abbrev pub inner_body_abandons : Abandons InnerBody
inner_body_abandons = LimitBodyAbandons caught_abandons

abbrev pub inner_ends : InnerBody → Bool
inner_ends = limit_body_ends caught_ends

-- what may be called, polled and abandoned of these
abbrev pub InnerMay : Inner → Type 0
InnerMay s = GateMay CaughtMay (λ _. ⊤) gate_validates (λ _. ⊤) caught_may s.inner

abbrev pub InnerLive : InnerFuture → Type 0
InnerLive f = LimitKindMay (λ g. GateKindLive CaughtFutureLive g.kind) f.kind

abbrev pub InnerFutureMay : InnerFuture → Type 0
InnerFutureMay f = LimitKindMay (λ g. GateKindMay CaughtFutureMay caught_may g.kind) f.kind

-- the layers that look at the response
abbrev pub watched_calls : Calls Watched (Request ScriptBody Ext) WatchedFuture
watched_calls = EarlyCalls (DeadlineCalls (TimeoutCalls (PropagateCalls inner_calls NothingToAbandon))) NotesFuture NotesStart NothingToAbandon

abbrev pub watched_polls : Polls WatchedFuture (Result (Response WatchedBody Ext) (List ℕ))
watched_polls = EarlyPolls (DeadlinePolls (TimeoutPolls (PropagatePolls inner_polls inner_body_abandons ext_id with_id) (λ f. inner_abandons f.inner) (IsDefaultLimitBody IsEmptyBox) IsDefaultExt))
    NotesBody (λ b. inner_ends b.body) (λ b. inner_body_abandons b.body)

abbrev pub watched_abandons : Abandons WatchedFuture
watched_abandons = EarlyAbandons (λ f. AbandonsIfAny (λ g. inner_abandons g.inner) f.inner.inner) NotesDrop

abbrev pub watched_frames : Frames WatchedBody (List ℕ) (BodyError (List ℕ))
watched_frames = EarlyFrames (DeadlineFrames inner_frames) (λ b. inner_ends b.body)

abbrev pub watched_body_abandons : Abandons WatchedBody
watched_body_abandons = EarlyBodyAbandons (λ b. inner_body_abandons b.body) NotesDrop

abbrev pub watched_ends : WatchedBody → Bool
watched_ends b = inner_ends b.inner.body

-- a failure is recorded with the text of its class
abbrev pub notes_failure : SeesFailure DefaultOnFailure DriveFailureClass
notes_failure hook class = RecordsFailure hook (drive_class_text class)

-- the driven stack, its futures and its bodies
abbrev pub traced_calls : Calls Traced (Request ScriptBody Ext) DriveFuture
traced_calls = TraceCalls watched_calls MakesTwins MakesRequestSpan RecordsStart NothingToAbandon

abbrev pub drive_calls : Calls DriveStack (Request ScriptBody Ext) DriveFuture
drive_calls = SetCalls traced_calls (NumberMakes ext_number) ext_id with_id NothingToAbandon

abbrev pub drive_polls : Polls DriveFuture (Result (Response DriveBody Ext) (List ℕ))
drive_polls = TracePolls watched_polls watched_ends watched_body_abandons DriveResponse DriveError Some RecordsResponse notes_failure

abbrev pub drive_abandons : Abandons DriveFuture
drive_abandons f = watched_abandons f.inner

abbrev pub drive_frames : Frames DriveBody (List ℕ) (BodyError (List ℕ))
drive_frames = TraceFrames watched_frames watched_ends DriveTrailers DriveEosError (body_error_text Some) RecordsChunk RecordsEnd notes_failure

abbrev pub drive_body_abandons : Abandons DriveBody
drive_body_abandons b = watched_body_abandons b.inner

abbrev pub drive_ends : DriveBody → Bool
drive_ends b = watched_ends b.inner

-- what may be called, polled and abandoned
abbrev pub StackMay : DriveStack → Type 0
StackMay = SetMay (TraceMay (EarlyMay (λ s. InnerMay s.inner.inner.inner) (λ _. ⊤) (λ _. ⊤)) (λ _. ⊤) (λ _. ⊤) (λ _. ⊤) (λ _. ⊤) (λ _. ⊤) (λ _. ⊤) (λ _. ⊤)) (λ _. ⊤)

abbrev pub FutureLive : DriveFuture → Type 0
FutureLive = TraceFutureLive (EarlyFutureLive (λ f. IsSomeAnd f.inner.inner (λ g. InnerLive g.inner)) (λ _. ⊤))

abbrev pub FutureMay : DriveFuture → Type 0
FutureMay = TraceFutureMay (EarlyFutureMay (λ f. IfSome f.inner.inner (λ g. InnerFutureMay g.inner)) (λ _. ⊤) (λ _. ⊤)) (λ _. ⊤) (λ _. ⊤) (λ _. ⊤) (λ _. ⊤) (λ _. ⊤)

abbrev pub BodyMay : DriveBody → Type 0
BodyMay = TraceBodyMay (EarlyBodyMay (λ b. LimitBodyMay caught_may b.body) (λ _. ⊤)) (λ _. ⊤) (λ _. ⊤) (λ _. ⊤) (λ _. ⊤)

-- THE LAYERS ROUND IT that may answer in its place: each poll is answered and recorded by the decision.

-- what is said at poll k, by the decision for the request
abbrev pub service_says : Limits → Numbered → ℕ → Said Head BodyPlan (List ℕ)
service_says limits request k = decided_says (decision limits request) request.script.polls k

-- what is said and recorded at each poll of the request, by that decision
abbrev pub service_history : Limits → Numbered → FutureHistory Head BodyPlan (List ℕ)
service_history limits request = caught_history (decision limits request) (room limits request.script) request.script

-- a validator that asks for what the limits say
abbrev pub AsksGate : Limits → RequiredHeaderValue Caught → Type 0
AsksGate limits v = v ≡ required_of limits.gate_name limits.gate_value

-- a service that finds this script for its number, under the limit and behind the gate, with no panic kept
abbrev pub InnerServes : Limits → Numbered → Inner → Type 0
InnerServes limits request = LimitServes limits.byte_limit (GateServes (AsksGate limits) (CaughtServes request.script request.number))

-- the head of the gate's refusal
abbrev pub forbidden_head : Head
forbidden_head = (forbidden_reply.status, forbidden_reply.headers)

-- a future of these layers: a refusal for the length, a refusal of the gate, or the future of the script
abbrev pub InnerStands : Limits → Numbered → InnerFuture → Where → Type 0
InnerStands limits request =
    LimitStands (is_too_large limits request.script) (GateStands (is_shut limits request) Heads CaughtStands forbidden_head (body_plan forbidden_reply) (CaughtFutureStands (room limits request.script) request.script))

-- a scripted body, a plain text or none
abbrev pub InnerBodyStands : BodyPlan → InnerBody → List ℕ → Type 0
InnerBodyStands = LimitBodyStands script_body_history CaughtStands

-- THE STACK: one part for each layer.

-- what is said of a head once it has the id
abbrev pub named : FieldValue → Head → Head
named id h = (h.0, identified id h.1)

-- the layers that look at the response, set for these limits over a service that finds this script for its number
abbrev pub WatchedServes : Limits → Numbered → Watched → Type 0
WatchedServes limits request s = DeadlineServes limits.body_deadline (TimeoutServes limits.timeout limits.timeout_status (PropagateServes x_request_id_name (InnerServes limits request))) s.inner

-- the same, traced as the limits say
abbrev pub TracedServes : Limits → Numbered → Traced → Type 0
TracedServes limits request = TraceServes (drive_tracing limits) (λ maker. maker ≡ (drive_tracing limits).make_span) (λ hook. hook ≡ default_on_request) (WatchedServes limits request)

-- a stack set for these limits over such a service
abbrev pub StackStands : Limits → Numbered → DriveStack → Type 0
StackStands limits request = SetServes x_request_id_name (λ _. ⊤) (TracedServes limits request)

-- the part of a future below the trace, of a request that was called at t0
abbrev pub WatchedStands : Limits → Numbered → ℕ → WatchedFuture → Where → Type 0
WatchedStands limits request t0 =
    DropStands (noting drop_kind.Future t0) t0 (DeadlineStands limits.body_deadline (TimeoutStands (record { start = t0; length = limits.timeout }) limits.timeout_status
    (PropagateStands x_request_id_name (Some (ident request)) (InnerStands limits request))))

-- a future of a request that was called at t0
abbrev pub FutureStands : Limits → Numbered → ℕ → DriveFuture → Where → Type 0
FutureStands limits request t0 = TraceStands t0 (span_of limits request) (call_hooks (drive_tracing limits) limits.classifier) (WatchedStands limits request t0)

-- the plan of a body below the trace: its response's head and time, and its items
abbrev pub WatchedPlan : Type 0
WatchedPlan = Head × (ℕ × BodyPlan)

-- the plan of a driven body: its response's head and time, and the plan of what is traced
abbrev pub Plan : Type 0
Plan = TracePlan Head WatchedPlan

-- what the part of a future below the trace says and records at each poll, and what abandoning it records
abbrev pub watched_history : Limits → Numbered → ℕ → FutureHistory Head WatchedPlan (List ℕ)
watched_history limits request t0 =
    drop_history (λ t. drop_record drop_kind.Future (t - t0) ∷ [])
    (deadline_history (timeout_history (record { start = t0; length = limits.timeout }) (limits.timeout_status, []) (body_plan (due_reply limits))
    (propagate_history (named (ident request)) (service_history limits request))))

-- the same of the whole future
abbrev pub future_history : Limits → Numbered → ℕ → FutureHistory Head Plan (List ℕ)
future_history limits request t0 = trace_history drive_events (drive_classes limits.classifier) t0 (watched_history limits request t0)

-- a body whose response was given at the time, with its plan
abbrev pub timed_body_history : ℕ → ℕ × BodyPlan → BodyHistory (List ℕ) (BodyError (List ℕ))
timed_body_history deadline = deadline_body_history deadline script_body_history

-- the part of a body below the trace, of a request that was called at t0
abbrev pub WatchedBodyStands : Limits → ℕ → WatchedPlan → WatchedBody → List ℕ → Type 0
WatchedBodyStands limits t0 = DropBodyStands (λ (h : Head). noting (drop_kind.Body h.0) t0) (timed_body_history limits.body_deadline) (DeadlineBodyStands limits.body_deadline InnerBodyStands)

-- what this part gives and records at each poll, and what abandoning it records
abbrev pub watched_body_history : Limits → ℕ → WatchedPlan → BodyHistory (List ℕ) (BodyError (List ℕ))
watched_body_history limits t0 = drop_body_history (λ (h : Head) q. drop_record (drop_kind.Body h.0) (q - t0) ∷ []) (timed_body_history limits.body_deadline)

-- a body of a response to a request that was called at t0, by the body's plan
abbrev pub BodyStands : Limits → Numbered → ℕ → Plan → DriveBody → List ℕ → Type 0
BodyStands limits request t0 =
    TraceBodyStands t0 (span_of limits request) (head_class limits.classifier) (λ _. ⊤) drive_on_eos drive_on_failure (watched_body_history limits t0) (WatchedBodyStands limits t0)

-- what such a body gives and records at each poll, and what abandoning it records
abbrev pub body_history : Limits → ℕ → Plan → BodyHistory (List ℕ) (BodyError (List ℕ))
body_history limits t0 = trace_body_history drive_events (drive_classes limits.classifier) t0 (watched_body_history limits t0)
