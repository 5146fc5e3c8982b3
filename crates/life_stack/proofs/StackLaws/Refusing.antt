-- Abandoning what is driven is refused only where the recorder has no room, wherever the value stands.
use Rattle.std.proofs.Common.{◌≡◌, Option, Some, None, Ok, Result, arith}
use Rattle.std.specs.Prelude.{IfErr}
use Rattle.life_core.specs.Calls.{AbandonsIfAny, NothingToAbandon}
use Rattle.life_core.specs.Moment.{Moment}
use Rattle.life_core.specs.Recorded.{Recorded}
use Rattle.life_core.specs.declared.body.boxed.UnsyncBoxBody.TheVariants as box
use Rattle.life_core.specs.declared.recorder.NoMemory.{NoMemory}
use Rattle.life_drop.specs.Note.{NotesDrop}
use Rattle.life_drop.proofs.DropFollows.{refused_without_room}
use Rattle.life_drop.proofs.NoteFollows.{note_records, notes}
use Rattle.life_gate.specs.Gate.{GateKindAbandons}
use Rattle.life_gate.specs.declared.validate_request.future.Kind.{Kind as GateKind}
use Rattle.life_gate.specs.declared.validate_request.future.Kind.TheVariants as gate_kind
use Rattle.life_gate.specs.declared.validate_request.future.ResponseFuture.{ResponseFuture as GateFuture}
use Rattle.life_head.specs.declared.request_id.propagating.PropagateRequestIdResponseFuture.{PropagateRequestIdResponseFuture}
use Rattle.life_limit.specs.Catch.{CatchKindAbandons}
use Rattle.life_limit.specs.Limit.{LimitKindAbandons}
use Rattle.life_limit.specs.declared.catch_panic.future.Kind.{Kind as CatchKind}
use Rattle.life_limit.specs.declared.catch_panic.future.Kind.TheVariants as catch_kind
use Rattle.life_limit.specs.declared.limit.body.ResponseBody.TheVariants.{PayloadTooLarge, Body}
use Rattle.life_limit.specs.declared.limit.future.Kind.{Kind as LimitKind}
use Rattle.life_limit.specs.declared.limit.future.Kind.TheVariants as limit_kind
use Rattle.life_stack.specs.declared.service.ext.Ext.{Ext}
use Rattle.life_stack.specs.declared.service.future.ScriptFuture.{ScriptFuture}
use Rattle.life_stack.specs.Service.Caught.{Caught, CaughtFuture, caught_abandons, caught_future_abandons}
use Rattle.life_stack.specs.Stack.Driven.{DriveBody, DriveFuture, InnerBody, InnerFuture, drive_abandons, drive_body_abandons, inner_abandons, inner_body_abandons}

-- it records nothing, and is never refused
abbrev IsQuiet : Result Unit NoMemory → Recorded → Recorded → Type 0
IsQuiet made was now = (made ≡ Ok tt) × (now ≡ was)

caught_quiet : (b : Caught) (was : Recorded) (m : Moment) (made : Result Unit NoMemory) (now : Recorded) → caught_abandons b was m made now → IsQuiet made was now
caught_quiet (box.Inner b) was m made now a = a
caught_quiet (box.Panic b) was m made now a = a
caught_quiet box.Empty was m made now a = a

catch_quiet : (kind : CatchKind ScriptFuture) (was : Recorded) (m : Moment) (made : Result Unit NoMemory) (now : Recorded) → CatchKindAbandons NothingToAbandon kind was m made now → IsQuiet made was now
catch_quiet (catch_kind.Future f) was m made now a = a
catch_quiet (catch_kind.Panicked text) was m made now a = a

gate_quiet : (kind : GateKind CaughtFuture Caught Ext) (was : Recorded) (m : Moment) (made : Result Unit NoMemory) (now : Recorded) →
    GateKindAbandons caught_future_abandons caught_abandons kind was m made now → IsQuiet made was now
gate_quiet (gate_kind.Future f) was m made now a = catch_quiet f.kind was m made now a
gate_quiet (gate_kind.Error None) was m made now a = a
gate_quiet (gate_kind.Error (Some refusal)) was m made now a = caught_quiet refusal.body was m made now a

limit_quiet : (kind : LimitKind (GateFuture CaughtFuture Caught Ext)) (was : Recorded) (m : Moment) (made : Result Unit NoMemory) (now : Recorded) →
    LimitKindAbandons (λ g. GateKindAbandons caught_future_abandons caught_abandons g.kind) kind was m made now → IsQuiet made was now
limit_quiet (limit_kind.Future g) was m made now a = gate_quiet g.kind was m made now a
limit_quiet limit_kind.PayloadTooLarge was m made now a = a

held_quiet : (f : Option (PropagateRequestIdResponseFuture InnerFuture)) (was : Recorded) (m : Moment) (made : Result Unit NoMemory) (now : Recorded) →
    AbandonsIfAny (λ g. inner_abandons g.inner) f was m made now → IsQuiet made was now
held_quiet None was m made now a = a
held_quiet (Some g) was m made now a = limit_quiet g.inner.kind was m made now a

body_quiet : (b : InnerBody) (was : Recorded) (m : Moment) (made : Result Unit NoMemory) (now : Recorded) → inner_body_abandons b was m made now → IsQuiet made was now
body_quiet (Body b) was m made now a = caught_quiet b was m made now a
body_quiet (PayloadTooLarge b) was m made now a = a

pub future_refused : (f : DriveFuture) (was : Recorded) (m : Moment) (made : Result Unit NoMemory) (now : Recorded) → drive_abandons f was m made now → IfErr made (λ e. was.spare ≡ 0)
future_refused f =
    refused_without_room NotesDrop notes note_records (λ c t. omega arith) (λ f. AbandonsIfAny (λ g. inner_abandons g.inner) f.inner.inner) (λ f. held_quiet f.inner.inner) f.inner.inner f.inner.guard

pub body_refused : (b : DriveBody) (was : Recorded) (m : Moment) (made : Result Unit NoMemory) (now : Recorded) → drive_body_abandons b was m made now → IfErr made (λ e. was.spare ≡ 0)
body_refused b = refused_without_room NotesDrop notes note_records (λ c t. omega arith) (λ b. inner_body_abandons b.body) (λ b. body_quiet b.body) b.inner.inner b.inner.guard
