-- The driven stack follows its histories: each layer's lemma over the one below it.
use Rattle.std.proofs.Common.{◌≡◌, ℕ, List, [], ◌∷◌, length, Bool, true, false, Some, Ok, Err, Result, inl, inr, refl, sym, ap, ◌∙◌, subst, arith}
use Rattle.life_core.specs.Calls.{NothingToAbandon}
use Rattle.std.proofs.lemmas.Bool.{le-leb}
use Rattle.std.specs.Prelude.{codes, ⊤}
use Rattle.life_core.specs.UnsyncBoxBody.{IsEmptyBox}
use Rattle.life_core.specs.History.{BodyFollows, FutureFollows, FutureHistory, Adds, ServiceFollows, Where, answers_instead, records_unless}
use Rattle.life_core.specs.Message.{IsBare}
use Rattle.life_core.specs.Moment.{Moment}
use Rattle.life_core.specs.OneChunk.{TellsEnd}
use Rattle.life_core.specs.Recorded.{Recorded}
use Rattle.life_core.specs.declared.body.limited.Limited.{Limited}
use Rattle.life_core.specs.declared.event.DropKind.TheVariants as drop_kind
use Rattle.life_core.specs.declared.message.Request.{Request}
use Rattle.life_core.specs.declared.message.ResponseHead.{ResponseHead}
use Rattle.life_core.proofs.Bodies.{full_never_faults}
use Rattle.life_core.proofs.Growth.{adds_none}
use Rattle.life_drop.specs.Note.{noting}
use Rattle.life_drop.specs.History.{DropStands}
use Rattle.life_drop.proofs.DropFollows.{drop_follows, drop_body_follows, drop_serves}
use Rattle.life_drop.proofs.NoteFollows.{note_records, note_future, note_start, note_body}
use Rattle.life_head.specs.Ids.{NumberMakes, x_request_id_name}
use Rattle.life_head.specs.declared.request_id.propagating.PropagateRequestIdResponseFuture.{PropagateRequestIdResponseFuture}
use Rattle.life_head.proofs.RequestIdFollows.{propagate_follows, propagate_keeps, propagate_serves, set_serves}
use Rattle.life_gate.specs.Required.{is_refused}
use Rattle.life_gate.specs.History.{Judges}
use Rattle.life_gate.proofs.GateFollows.{gate_follows, gate_keeps, gate_serves, required_judges}
use Rattle.life_limit.specs.LimitBody.{IsDefaultLimitBody}
use Rattle.life_limit.specs.declared.limit.body.ResponseBody.TheVariants.{PayloadTooLarge, Body}
use Rattle.life_limit.proofs.LimitFollows.{limit_body_follows, limit_follows, limit_keeps, limit_serves}
use Rattle.life_script.specs.Scenario.{ScriptView}
use Rattle.life_script.specs.Valid.{ScriptFits}
use Rattle.life_script.specs.declared.scenario.CallItem.{CallItem}
use Rattle.life_script.specs.declared.scenario.Limits.{Limits}
use Rattle.life_time.specs.DeadlineBody.{DeadlineFrames}
use Rattle.life_time.specs.History.{DeadlineBodyStands, DeadlineStands, TimeoutStands}
use Rattle.life_time.proofs.DeadlineFollows.{deadline_follows, deadline_body_follows, deadline_serves}
use Rattle.life_time.proofs.TimeoutFollows.{timeout_follows, timeout_serves}
use Rattle.life_stack.specs.Stack.Driven.{AsksGate, BodyStands, DriveFuture, DriveStack, FutureStands, InnerBody, InnerBodyStands, InnerFuture, InnerServes, InnerStands, StackStands, Traced, TracedServes, WatchedBodyStands, WatchedServes, WatchedStands, body_history, drive_body_abandons, drive_calls, drive_ends, drive_frames, drive_abandons, drive_polls, forbidden_head, future_history, gate_validates, inner_body_abandons, inner_calls, inner_ends, inner_frames, inner_abandons, inner_polls, named, notes_failure, service_history, timed_body_history, traced_calls, watched_abandons, watched_body_abandons, watched_body_history, watched_calls, watched_ends, watched_frames, watched_history, watched_polls}
use Rattle.life_stack.specs.Service.History.{BodyPlan, Head, Heads, IsHead, body_plan, script_body_history}
use Rattle.life_stack.specs.Service.Caught.{Caught, CaughtStands, caught_abandons, decided_says, caught_history}
use Rattle.life_stack.specs.Table.Decision.{bare_reply, decided, forbidden_reply, is_shut, is_too_large, too_large_reply, called_by}
use Rattle.life_stack.specs.Table.Handed.{decided_events, room}
use Rattle.life_stack.specs.Table.Request.{Numbered, ident}
use Rattle.life_stack.specs.Service.Script.{IsDefaultExt, IsRequestOf, ext_id, ext_number, item_frame, with_id}
use Rattle.life_stack.specs.Table.Story.{due_reply}
use Rattle.life_stack.specs.declared.service.ext.Ext.{Ext}
use Rattle.life_stack.specs.declared.service.body.ScriptBody.{ScriptBody}
use Rattle.life_classify.specs.Drive.{DriveEosError, DriveError, DriveResponse, DriveTrailers}
use Rattle.life_classify.specs.Shared.{MakesTwins}
use Rattle.life_core.specs.Texts.{body_error_text}
use Rattle.life_core.specs.Moment.{in_span}
use Rattle.life_core.specs.declared.recorder.NoMemory.{NoMemory}
use Rattle.life_head.specs.History.{AsksWith}
use Rattle.life_trace.specs.DefaultMakeSpan.{MakesRequestSpan}
use Rattle.life_trace.specs.DefaultOnEos.{RecordsEnd}
use Rattle.life_trace.specs.DefaultOnRequest.{RecordsStart, default_on_request}
use Rattle.life_trace.specs.DefaultOnResponse.{RecordsResponse}
use Rattle.life_trace.specs.NoteChunk.{RecordsChunk}
use Rattle.life_trace.specs.Parts.{call_hooks}
use Rattle.life_trace.proofs.TraceFollows.{trace_body_follows, trace_follows, trace_given, trace_refused, trace_serves}
use Rattle.life_stack.specs.Stack.Tracing.{drive_classes, drive_events, drive_on_eos, drive_on_failure, drive_tracing}
use Rattle.life_stack.specs.Table.Traced.{span_of, started}
use Rattle.life_stack.proofs.StackLaws.Tracing.{chunk_hook, classifier_maker, eos_class_told, eos_hook, error_class_told, failure_hook, fault_class_told, request_hook, response_class, response_hook, span_maker}
use Rattle.life_stack.proofs.ServiceLaws.Handing.{no_item}
use Rattle.life_stack.proofs.StackLaws.Naming.{AsksInner, AsksTraced, head_named, request_traced}
use Rattle.life_stack.proofs.ServiceLaws.CaughtFollows.{caught_body, caught_follows, caught_keeps, caught_serves, follows_as, one_text, plain}

-- BODIES.

inner_body : BodyFollows inner_frames inner_body_abandons inner_ends InnerBodyStands script_body_history
inner_body = limit_body_follows _ _ _ _ script_body_history caught_body (full_never_faults script_body_history)

timed_body : (limits : Limits) → BodyFollows (DeadlineFrames inner_frames) (λ b. inner_body_abandons b.body) (λ b. inner_ends b.body) (DeadlineBodyStands limits.body_deadline InnerBodyStands) (timed_body_history limits.body_deadline)
timed_body limits = deadline_body_follows _ _ _ _ _ limits.body_deadline inner_body

no_items : (status : ℕ) → TellsEnd (script_body_history (body_plan (bare_reply status)))
no_items status = record {
  frame = λ past q. ap item_frame (no_item (length past));
  ends = λ past. le-leb 0 (length past) (omega arith);
  events = λ past q. refl;
  abandoned = λ past q. refl;
}

empty_box : (status : ℕ) (box : Caught) → IsEmptyBox box → CaughtStands (body_plan (bare_reply status)) box []
empty_box status box d = rw d (no_items status)

default : (limits : Limits) (b : InnerBody) → IsDefaultLimitBody IsEmptyBox b → InnerBodyStands (body_plan (due_reply limits)) b []
default limits (Body box) d = empty_box limits.timeout_status box d
default limits (PayloadTooLarge b) d = absurd d

-- HEADS.

-- a head without headers
bare : (status : ℕ) (head : ResponseHead Ext) → IsBare IsDefaultExt status head → IsHead (status, []) head
bare status head b = record { status_is = b.status_is; headers_are = b.no_headers }

-- THE LAYERS THAT MAY ANSWER in the service's place.

abbrev large_head : Head
large_head = (too_large_reply.status, too_large_reply.headers)

abbrev guarded_history : Bool → Bool → CallItem → ℕ → ScriptView → FutureHistory Head BodyPlan (List ℕ)
guarded_history large shut call left script = answers_instead large large_head (body_plan too_large_reply) (answers_instead shut forbidden_head (body_plan forbidden_reply) (caught_history (called_by call) left script))

guarded_says : (large shut : Bool) (call : CallItem) (left : ℕ) (script : ScriptView) (past : List ℕ) (t : ℕ) → (guarded_history large shut call left script).says past t ≡ decided_says (decided large shut call) script.polls (length past)
guarded_says true shut call left script past t = refl
guarded_says false true call left script past t = refl
guarded_says false false call left script past t = refl

guarded_events : (large shut : Bool) (call : CallItem) (left : ℕ) (script : ScriptView) (past : List ℕ) (t : ℕ) → (guarded_history large shut call left script).events past t ≡ decided_events (decided large shut call) left script (length past)
guarded_events true shut call left script past t = refl
guarded_events false true call left script past t = refl
guarded_events false false call left script past t = refl

guarded_left : (large shut : Bool) (call : CallItem) (left : ℕ) (script : ScriptView) (past : List ℕ) (t : ℕ) → (guarded_history large shut call left script).abandoned past t ≡ []
guarded_left true shut call left script past t = refl
guarded_left false true call left script past t = refl
guarded_left false false call left script past t = refl

-- a refusal of the gate
refused_head : (head : ResponseHead Ext) → IsBare IsDefaultExt 403 head → Heads forbidden_head head
refused_head head b = (bare 403 head b, omega arith)

-- the gate asks for what the limits say
gate_judges : (limits : Limits) → Judges {B = Limited ScriptBody} gate_validates (AsksGate limits) (λ (req : Request (Limited ScriptBody) Ext). is_refused limits.gate_name limits.gate_value req.head.parts.headers)
    Heads CaughtStands forbidden_head (body_plan forbidden_reply)
gate_judges limits = required_judges IsEmptyBox IsDefaultExt limits.gate_name limits.gate_value Heads CaughtStands forbidden_head (body_plan forbidden_reply) refused_head (empty_box 403)

inner_follows : (limits : Limits) (request : Numbered) → FutureFollows inner_polls inner_abandons Heads (InnerStands limits request) InnerBodyStands (service_history limits request)
inner_follows limits request =
    let large = is_too_large limits request.script in let shut = is_shut limits request in let left = room limits request.script in let call = request.script.call in
    follows_as _ _ _ _ _ (guarded_history large shut call left request.script) _ (guarded_says large shut call left request.script) (guarded_events large shut call left request.script) (guarded_left large shut call left request.script)
    (limit_follows _ _ IsDefaultExt Heads large_head (plain 413 (codes "length limit exceeded")) _ _ script_body_history (body_plan too_large_reply) (one_text 413 (codes "length limit exceeded")) _
    (gate_follows _ _ _ caught_abandons _ Heads _ _ script_body_history forbidden_head (body_plan forbidden_reply) _ (λ t. refl)
    (caught_follows left request.script) caught_body shut) large)

no_events : (large shut : Bool) → records_unless large (records_unless shut []) ≡ []
no_events true shut = refl
no_events false true = refl
no_events false false = refl

-- to abandon a request's body records nothing
quiet : (body : ScriptBody) (was : Recorded) (m : Moment) (u : Unit) (now : Recorded) → NothingToAbandon body was m (Ok u) now → Adds was now []
quiet body was m u now d = adds_none was now d.1

quiet_within : (body : Limited ScriptBody) (was : Recorded) (m : Moment) (u : Unit) (now : Recorded) → NothingToAbandon body was m (Ok u) now → Adds was now []
quiet_within body was m u now d = adds_none was now d.1

inner_serves : (limits : Limits) (request : Numbered) → ServiceFollows inner_calls (AsksInner limits request) (InnerServes limits request) (λ t. InnerStands limits request) []
inner_serves limits request =
    let large = is_too_large limits request.script in let shut = is_shut limits request in
    subst (λ es. ServiceFollows inner_calls (AsksInner limits request) (InnerServes limits request) (λ t. InnerStands limits request) es) (no_events large shut)
    (limit_serves _ NothingToAbandon _ _ _ _ quiet
    (gate_serves _ _ NothingToAbandon caught_abandons _ _ _ _ (AsksGate limits) _ Heads CaughtStands forbidden_head (body_plan forbidden_reply) quiet_within (gate_judges limits)
    (caught_serves (room limits request.script) request.script request.number) shut) large limits.byte_limit)

inner_keeps : (limits : Limits) (request : Numbered) → ServiceFollows {R = Request ScriptBody Ext} inner_calls (λ r. ⊤) (InnerServes limits request) (λ t (f : InnerFuture) (w : Where). ⊤) []
inner_keeps limits request = limit_keeps _ NothingToAbandon _ _ quiet
    (gate_keeps _ _ NothingToAbandon caught_abandons _ _ (AsksGate limits) _ Heads CaughtStands forbidden_head (body_plan forbidden_reply) quiet_within (gate_judges limits)
    (caught_keeps request.script request.number)) limits.byte_limit

-- THE LAYERS THAT LOOK AT THE RESPONSE.

watched_follows : (limits : Limits) (request : Numbered) (t0 : ℕ) →
    FutureFollows watched_polls watched_abandons IsHead (WatchedStands limits request t0) (WatchedBodyStands limits t0) (watched_history limits request t0)
watched_follows limits request t0 = drop_follows _ _ _ _ _ _ _ _ _ _ _ _ _ _ (note_body IsHead (λ h. h.0) (λ g head h. h.status_is) t0) _ (noting drop_kind.Future t0) _ note_records
    (deadline_follows _ _ _ _ _ _ limits.body_deadline
    (timeout_follows _ _ _ _ _ (record { start = t0; length = limits.timeout }) limits.timeout_status (limits.timeout_status, []) (bare limits.timeout_status) _ _ _ (body_plan (due_reply limits)) (default limits)
    (propagate_follows _ _ _ ext_id with_id x_request_id_name (Some (ident request)) Heads IsHead (named (ident request)) (head_named (ident request)) _ _ _ (inner_follows limits request))))
    (timed_body limits)

watched_body_follows : (limits : Limits) (t0 : ℕ) → BodyFollows watched_frames watched_body_abandons watched_ends (WatchedBodyStands limits t0) (watched_body_history limits t0)
watched_body_follows limits t0 = drop_body_follows _ _ _ _ _ (λ (h : Head). noting (drop_kind.Body h.0) t0) _ _ note_records (timed_body limits)

watched_serves : (limits : Limits) (request : Numbered) →
    ServiceFollows watched_calls (AsksWith x_request_id_name (Some (ident request)) (AsksInner limits request)) (WatchedServes limits request) (WatchedStands limits request) []
watched_serves limits request = drop_serves _ _ _ _ _ _ _ _ note_future _ _ note_start
    (deadline_serves _ _ _ _ _ (timeout_serves _ _ _ _ _
    (propagate_serves _ NothingToAbandon _ _ _ _ (inner_serves limits request) x_request_id_name (Some (ident request))) limits.timeout limits.timeout_status) limits.body_deadline)

-- whatever is asked, these layers serve on
watched_keeps : (limits : Limits) (request : Numbered) → ServiceFollows {R = Request ScriptBody Ext} watched_calls (λ r. ⊤) (WatchedServes limits request)
    (λ t0. DropStands (noting drop_kind.Future t0) t0 (DeadlineStands limits.body_deadline
    (TimeoutStands (record { start = t0; length = limits.timeout }) limits.timeout_status (λ (f : PropagateRequestIdResponseFuture InnerFuture) (w : Where). ⊤)))) []
watched_keeps limits request = drop_serves _ _ _ _ _ _ _ _ note_future _ _ note_start
    (deadline_serves _ _ _ _ _ (timeout_serves _ _ _ _ _
    (propagate_keeps _ NothingToAbandon _ _ _ (inner_keeps limits request) x_request_id_name) limits.timeout limits.timeout_status) limits.body_deadline)

-- THE STACK.

pub future_follows : (limits : Limits) (request : Numbered) (t0 : ℕ) →
    FutureFollows drive_polls drive_abandons IsHead (FutureStands limits request t0) (BodyStands limits request t0) (future_history limits request t0)
future_follows limits request t0 = let span = span_of limits request in
    trace_follows watched_polls watched_abandons watched_frames watched_body_abandons watched_ends IsHead (WatchedStands limits request t0) (WatchedBodyStands limits t0) (watched_history limits request t0) (watched_body_history limits t0)
    DriveResponse DriveError Some RecordsResponse notes_failure t0 span (call_hooks (drive_tracing limits) limits.classifier) (λ hook. ⊤) tt drive_events (drive_classes limits.classifier)
    (response_hook span) (failure_hook span) (response_class limits.classifier) (error_class_told limits.classifier) (watched_follows limits request t0) (watched_body_follows limits t0)

pub body_follows : (limits : Limits) (request : Numbered) (t0 : ℕ) → BodyFollows drive_frames drive_body_abandons drive_ends (BodyStands limits request t0) (body_history limits t0)
body_follows limits request t0 = let span = span_of limits request in
    trace_body_follows watched_frames watched_body_abandons watched_ends (WatchedBodyStands limits t0) (watched_body_history limits t0) DriveTrailers DriveEosError (body_error_text Some) RecordsChunk RecordsEnd notes_failure
    t0 span (λ hook. ⊤) drive_on_eos drive_on_failure drive_events (drive_classes limits.classifier) (chunk_hook span) (eos_hook span) (failure_hook span) eos_class_told fault_class_told (watched_body_follows limits t0)

-- a request that is traced is asked of the layers below
asked_below : (limits : Limits) (request : Numbered) → ServiceFollows watched_calls (AsksTraced limits request) (WatchedServes limits request) (WatchedStands limits request) []
asked_below limits request = let below = watched_serves limits request in record {
  call = λ s req was m f new now q k c. below.call s req was m f new now q.named k c;
  refused = below.refused;
}

pub stack_follows : (limits : Limits) (request : Numbered) →
    ServiceFollows {R = Request ScriptBody Ext} drive_calls (λ req. IsRequestOf request.script request.number req × ScriptFits request.script) (StackStands limits request) (FutureStands limits request) (started (span_of limits request) ∷ [])
stack_follows limits request = let span_is = λ (req : Request ScriptBody Ext) (q : AsksTraced limits request req). q.span_is in
    set_serves _ (NumberMakes ext_number) ext_id with_id NothingToAbandon _ _ _ _ (λ _. ⊤) (λ maker req made new k m. tt) x_request_id_name _ (request_traced limits request)
    (trace_serves watched_calls MakesTwins MakesRequestSpan RecordsStart NothingToAbandon (AsksTraced limits request) (WatchedServes limits request) (WatchedStands limits request) [] (drive_tracing limits)
    (λ maker. maker ≡ (drive_tracing limits).make_span) (λ hook. hook ≡ default_on_request) (span_of limits request) limits.classifier (started (span_of limits request) ∷ [])
    (span_maker limits request (AsksTraced limits request) span_is) (classifier_maker limits request (AsksTraced limits request) span_is) (request_hook limits request (AsksTraced limits request) span_is) (asked_below limits request))

-- whatever is asked, the stack stands for what it stood for
module _ (limits : Limits) (request : Numbered) where
  trace_kept : (s : Traced) (req : Request ScriptBody Ext) (was : Recorded) (m : Moment) (made : Result DriveFuture NoMemory) (new : Traced) (now : Recorded) →
      TracedServes limits request s → traced_calls s req was m made new now → TracedServes limits request new
  trace_kept s req was m (Ok f) new now k c =
      trace_given watched_calls MakesTwins MakesRequestSpan RecordsStart NothingToAbandon (WatchedServes limits request) (drive_tracing limits) (λ maker. maker ≡ (drive_tracing limits).make_span) (λ hook. hook ≡ default_on_request)
      (λ old req answer new k e. e.1 ∙ k) (λ old req any was answer new now k e. e.1 ∙ k) s req was m f new now k
      ((watched_keeps limits request).call s.inner req c.between (in_span m (Some c.begun.span)) f.inner new.inner now tt k.inner c.inner).0 c
  trace_kept s req was m (Err e) new now k c =
      trace_refused watched_calls MakesTwins MakesRequestSpan RecordsStart NothingToAbandon (WatchedServes limits request) (drive_tracing limits) (λ maker. maker ≡ (drive_tracing limits).make_span) (λ hook. hook ≡ default_on_request)
      (λ old req answer new k e. e.1 ∙ k) (λ old req any was answer new now k e. e.1 ∙ k) (watched_keeps limits request).refused s req was m e new now k c

  pub stack_kept : (s : DriveStack) (req : Request ScriptBody Ext) (was : Recorded) (m : Moment) (made : Result DriveFuture NoMemory) (new : DriveStack) (now : Recorded) →
      StackStands limits request s → drive_calls s req was m made new now → StackStands limits request new
  stack_kept s req was m made new now k (inl d) = record {
    name_is = ap (λ (x : DriveStack). x.header_name) d.same ∙ k.name_is;
    maker = tt;
    inner = trace_kept s.inner d.tagged was m made new.inner now k.inner d.inner;
  }
  stack_kept s req was m made new now k (inr d) = record {
    name_is = ap (λ (x : DriveStack). x.header_name) d.2.same ∙ k.name_is;
    maker = tt;
    inner = subst (TracedServes limits request) (sym (ap (λ (x : DriveStack). x.inner) d.2.same)) k.inner;
  }
