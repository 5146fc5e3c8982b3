-- What `CatchPanic` does: it turns the panics of its inner service into its handler's responses.
use Rattle.std.specs.Prelude.{◌≡◌, ◌⊎◌, Option, Some, None, Result, Ok, Err, IsSome, codes, ⊤}
use denote.RattleType.{RattleType}
use Rattle.std.specs.Borrow.{MutBor, Lends, Fml}
use Rattle.std.specs.Fn.{Called, Mut}
use Rattle.life_core.specs.Full.{full_of}
use Rattle.life_core.specs.Calls.{NothingToAbandon, Polls, Abandons, Readies, Calls, Reply, Abandoned}
use Rattle.life_core.specs.Message.{IsText}
use Rattle.life_core.specs.Moment.{Moment}
use Rattle.life_core.specs.Recorded.{Recorded, Notes}
use Rattle.life_core.specs.declared.body.boxed.UnsyncBoxBody.{UnsyncBoxBody}
use Rattle.life_core.specs.declared.body.boxed.UnsyncBoxBody.TheVariants.{Inner, Panic, Empty}
use Rattle.life_core.specs.declared.body.full.Full.{Full}
use Rattle.life_core.specs.declared.event.Event.TheVariants as event
use Rattle.life_core.specs.declared.event.Event.{Event}
use Rattle.life_core.specs.declared.event.Level.TheVariants.{Error}
use Rattle.life_core.specs.declared.fault.Fault.{Fault}
use Rattle.life_core.specs.declared.fault.Fault.TheVariants as fault
use Rattle.life_core.specs.declared.fault.PanicText.{PanicText}
use Rattle.life_core.specs.declared.message.Request.{Request}
use Rattle.life_core.specs.declared.message.Response.{Response}
use Rattle.life_core.specs.declared.message.ResponseHead.{ResponseHead}
use Rattle.life_core.specs.declared.poll.Poll.TheVariants.{Ready, Pending}
use Rattle.life_core.specs.declared.recorder.NoMemory.{NoMemory}
use Rattle.life_limit.specs.declared.catch_panic.future.Kind.{Kind}
use Rattle.life_limit.specs.declared.catch_panic.future.Kind.TheVariants as kind
use Rattle.life_limit.specs.declared.catch_panic.future.ResponseFuture.{ResponseFuture}
use Rattle.life_limit.specs.declared.catch_panic.handler.DefaultResponseForPanic.{DefaultResponseForPanic}
use Rattle.life_limit.specs.declared.catch_panic.layer.CatchPanicLayer.{CatchPanicLayer}
use Rattle.life_limit.specs.declared.catch_panic.service.CatchPanic.{CatchPanic}
use Rattle.life_limit.specs.contracts.catch_panic.service.CatchPanic.{the_row as catch_row}

-- Handler and recorder before, the text of the panic, the answer, handler and recorder after.
abbrev pub Handles : Type 0 → Type 0 → Type 0 → Type 1
Handles T P X = T → PanicText → Recorded → Result (Response P X) NoMemory → T → Recorded → Type 0

-- the handler of the crate
abbrev pub default_handler : DefaultResponseForPanic
default_handler = record {}

-- it is the handler of the crate
abbrev pub IsDefaultHandler : DefaultResponseForPanic → Type 0
IsDefaultHandler handler = handler ≡ default_handler

-- the record of a panic
abbrev pub panic_record : PanicText → Event
panic_record text = event.Panic Error text

-- the panic is recorded, and the answer is 500 with a plain text; it is refused where there is no memory for either
abbrev pub DefaultHandles : {X : Type 0} → (X → Type 0) → Handles DefaultResponseForPanic Full X
DefaultHandles is_ext old text was (Ok r) new now = Notes was (panic_record text) (Ok tt) now × IsText is_ext 500 r.head × (r.body ≡ full_of (codes "Service panicked"))
DefaultHandles is_ext old text was (Err e) new now = Notes was (panic_record text) (Err e) now ⊎ Notes was (panic_record text) (Ok tt) now

-- the closure is called once, at the text and a recorder
pub record ClosureHandles {F A L P X : Type 0} (calls : Mut F (A × (PanicText × (MutBor L × Unit {0}))) (Result (Response P X) NoMemory × (MutBor L × Unit {0})))
    (recorded : L → Recorded) (closure : F) (text : PanicText) (was : Recorded) (answer : Result (Response P X) NoMemory) (after : F) (now : Recorded) : Type 0 where
  pub alloc : A
  pub rec : MutBor L
  pub left : MutBor L
  pub called : Called calls closure (alloc, (text, (rec, tt))) (answer, (left, tt)) after
  pub begins : recorded rec.now ≡ was
  pub ends : recorded left.now ≡ now

-- the layer with this handler
abbrev pub catch_layer : {T : Type 0} → T → CatchPanicLayer T
catch_layer handler = record { panic_handler = handler }

-- it is the layer with the handler of the crate
abbrev pub IsDefaultLayer : CatchPanicLayer DefaultResponseForPanic → Type 0
IsDefaultLayer layer = layer ≡ catch_layer default_handler

-- no text is kept
abbrev pub catch_service : {S T : Type 0} → S → T → CatchPanic S T
catch_service inner handler = record { inner = inner; panic_handler = handler; kept = None }

-- once the borrow r ends, the service has the inner one that was left
abbrev pub LendsCatchInner : (S T : RattleType) → MutBor (CatchPanic S.Denot T.Denot) → MutBor S.Denot → Fml
LendsCatchInner S T s r = Lends (catch_row S T) S s r (λ w. record s.now { inner = w })

-- the inner service and the handler may be called
abbrev pub CatchMay : {S T : Type 0} → (S → Type 0) → (T → Type 0) → CatchPanic S T → Type 0
CatchMay may handler_may s = may s.inner × handler_may s.panic_handler

-- the future over an inner one
abbrev pub watching : {F T : Type 0} → F → T → ResponseFuture F T
watching inner handler = record { kind = kind.Future inner; panic_handler = handler }

-- the future that tells of a panic before the call
abbrev pub panicked_future : {F T : Type 0} → Option PanicText → T → ResponseFuture F T
panicked_future text handler = record { kind = kind.Panicked text; panic_handler = handler }

-- the inner future may be polled and abandoned, if there is one
abbrev pub CatchKindMay : {F : Type 0} → (F → Type 0) → Kind F → Type 0
CatchKindMay may (kind.Future f) = may f
CatchKindMay may (kind.Panicked text) = ⊤

-- the inner future may be polled, or a text is to be told
abbrev pub CatchKindLive : {F : Type 0} → (F → Type 0) → Kind F → Type 0
CatchKindLive live (kind.Future f) = live f
CatchKindLive live (kind.Panicked text) = IsSome text

-- the inner future is live, or a text is to be told
abbrev pub CatchFutureLive : {F T : Type 0} → (F → Type 0) → (T → Type 0) → ResponseFuture F T → Type 0
CatchFutureLive live handler_may f = handler_may f.panic_handler × CatchKindLive live f.kind

-- the inner future is abandoned, if there is one
abbrev pub CatchKindAbandons : {F : Type 0} → Abandons F → Abandons (Kind F)
CatchKindAbandons abandons (kind.Future f) was m answer now = abandons f was m answer now
CatchKindAbandons abandons (kind.Panicked text) was m answer now = NothingToAbandon text was m answer now

-- a panic is kept in place of what was kept, and readiness is told
abbrev pub CatchReadies : {S T E : Type 0} → Readies S (Fault E) → Readies (CatchPanic S T) E
CatchReadies readies old was m (Ready (Ok u)) new now =
    (readies old.inner was m (Ready (Ok u)) new.inner now × (new ≡ record old { inner = new.inner }))
    ⊎ ((text : PanicText) × readies old.inner was m (Ready (Err (fault.Panicked text))) new.inner now
    × (new ≡ record old { inner = new.inner; kept = Some text }))
CatchReadies readies old was m (Ready (Err e)) new now =
    readies old.inner was m (Ready (Err (fault.Err e))) new.inner now × (new ≡ record old { inner = new.inner })
CatchReadies readies old was m Pending new now =
    readies old.inner was m Pending new.inner now × (new ≡ record old { inner = new.inner })

-- the body is abandoned, and the future has the text; at a refusal the text stays kept
abbrev pub PanickedBy : {B F T : Type 0} → Abandons B → B → Recorded → Moment → Option PanicText → T → Result (ResponseFuture F T) NoMemory → Option PanicText → Recorded → Type 0
PanickedBy abandons body was m old handler (Ok f) new now = abandons body was m (Ok tt) now × (f ≡ panicked_future old handler) × (new ≡ None)
PanickedBy abandons body was m old handler (Err e) new now = abandons body was m (Err e) now × (new ≡ old)

module _ {S T Q X F : Type 0} (calls : Calls S (Request Q X) F) (abandons : Abandons Q) where
  -- no text is kept: the inner service is called
  pub record CatchServed (old : CatchPanic S T) (req : Request Q X) (was : Recorded) (m : Moment)
      (f : ResponseFuture F T) (new : CatchPanic S T) (now : Recorded) : Type 0 where
    pub none_kept : old.kept ≡ None
    pub given : F
    pub inner : calls old.inner req was m (Ok given) new.inner now
    pub future : f ≡ watching given old.panic_handler
    pub same : new ≡ record old { inner = new.inner }

  -- a text is kept: the inner service is not called
  pub record CatchPanicked (old : CatchPanic S T) (req : Request Q X) (was : Recorded) (m : Moment)
      (f : ResponseFuture F T) (new : CatchPanic S T) (now : Recorded) : Type 0 where
    pub is_kept : IsSome old.kept
    pub abandoned : abandons req.body was m (Ok tt) now
    pub future : f ≡ panicked_future old.kept old.panic_handler
    pub same : new ≡ record old { kept = None }

  -- no text is kept, and the inner service has no memory
  pub record CatchInnerRefuses (old : CatchPanic S T) (req : Request Q X) (was : Recorded) (m : Moment)
      (e : NoMemory) (new : CatchPanic S T) (now : Recorded) : Type 0 where
    pub none_kept : old.kept ≡ None
    pub inner : calls old.inner req was m (Err e) new.inner now
    pub same : new ≡ record old { inner = new.inner }

  -- the request's body is abandoned; all stays as it was, what is kept too
  pub record CatchRefuses (old : CatchPanic S T) (req : Request Q X) (was : Recorded) (m : Moment)
      (new : CatchPanic S T) (now : Recorded) : Type 0 where
    pub abandoned : Abandoned abandons req.body was m now
    pub same : new ≡ old

  -- the inner call where no text is kept; else a future that answers the panic
  abbrev pub CatchCalls : Calls (CatchPanic S T) (Request Q X) (ResponseFuture F T)
  CatchCalls old req was m (Ok f) new now = CatchServed old req was m f new now ⊎ CatchPanicked old req was m f new now
  CatchCalls old req was m (Err e) new now = CatchInnerRefuses old req was m e new now ⊎ CatchRefuses old req was m new now

-- the handler's response, its body that of a panic
abbrev pub HandlerBody : {T B P X : Type 0} → Handles T P X → T → PanicText → Recorded → ResponseHead X → UnsyncBoxBody B P → T → Recorded → Type 0
HandlerBody handles old text was head (Inner b) new now = ⊥
HandlerBody handles old text was head (Panic p) new now = handles old text was (Ok (record { head = head; body = p })) new now
HandlerBody handles old text was head Empty new now = ⊥

-- the handler's response, or its want of memory
abbrev pub HandlerGives : {T B P X : Type 0} → Handles T P X → T → PanicText → Recorded → Result (Response (UnsyncBoxBody B P) X) NoMemory → T → Recorded → Type 0
HandlerGives handles old text was (Ok r) new now = HandlerBody handles old text was r.head r.body new now
HandlerGives handles old text was (Err e) new now = handles old text was (Err e) new now

-- the same as the answer of a poll
abbrev pub HandlerReplies : {T B P X E : Type 0} → Handles T P X → T → PanicText → Recorded → Reply (UnsyncBoxBody B P) X E → T → Recorded → Type 0
HandlerReplies handles old text was (Ok (Ready (Ok r))) new now = HandlerBody handles old text was r.head r.body new now
HandlerReplies handles old text was (Ok (Ready (Err e))) new now = ⊥
HandlerReplies handles old text was (Ok Pending) new now = ⊥
HandlerReplies handles old text was (Err e) new now = handles old text was (Err e) new now

module _ {F T B P X E : Type 0} (polls : Polls F (Result (Response B X) (Fault E))) (handles : Handles T P X) where
  -- a response with the inner body
  abbrev pub CatchInnerBody : F → Recorded → Moment → ResponseHead X → UnsyncBoxBody B P → F → Recorded → Type 0
  CatchInnerBody old was m head (Inner b) new now = polls old was m (Ok (Ready (Ok (record { head = head; body = b })))) new now
  CatchInnerBody old was m head (Panic p) new now = ⊥
  CatchInnerBody old was m head Empty new now = ⊥

  -- the inner answer, with the inner body
  abbrev pub CatchInnerReplies : Polls F (Result (Response (UnsyncBoxBody B P) X) E)
  CatchInnerReplies old was m (Ok (Ready (Ok r))) new now = CatchInnerBody old was m r.head r.body new now
  CatchInnerReplies old was m (Ok (Ready (Err e))) new now = polls old was m (Ok (Ready (Err (fault.Err e)))) new now
  CatchInnerReplies old was m (Ok Pending) new now = polls old was m (Ok Pending) new now
  CatchInnerReplies old was m (Err e) new now = polls old was m (Err e) new now

  -- the inner future panics in this poll, and the handler answers
  pub record CatchCatches (old : F) (handler : T) (was : Recorded) (m : Moment) (answer : Reply (UnsyncBoxBody B P) X E) (new : F) (after : T) (now : Recorded) : Type 0 where
    pub text : PanicText
    pub between : Recorded
    pub inner : polls old was m (Ok (Ready (Err (fault.Panicked text)))) new between
    pub handled : HandlerReplies handles handler text between answer after now

  -- the inner answer, where that is no panic; the handler's, where it is one or where one was before the call
  abbrev pub CatchKindPolls : Kind F → T → Recorded → Moment → Reply (UnsyncBoxBody B P) X E → Kind F → T → Recorded → Type 0
  CatchKindPolls (kind.Future f) handler was m answer (kind.Future g) after now =
      (CatchInnerReplies f was m answer g now × (after ≡ handler)) ⊎ CatchCatches f handler was m answer g after now
  CatchKindPolls (kind.Future f) handler was m answer (kind.Panicked text) after now = ⊥
  CatchKindPolls (kind.Panicked (Some text)) handler was m answer (kind.Panicked None) after now = HandlerReplies handles handler text was answer after now
  CatchKindPolls (kind.Panicked (Some text)) handler was m answer (kind.Panicked (Some other)) after now = ⊥
  CatchKindPolls (kind.Panicked (Some text)) handler was m answer (kind.Future g) after now = ⊥
  CatchKindPolls (kind.Panicked None) handler was m answer new after now = ⊥

  -- the answer by what is in the future
  abbrev pub CatchPolls : Polls (ResponseFuture F T) (Result (Response (UnsyncBoxBody B P) X) E)
  CatchPolls old was m answer new now = CatchKindPolls old.kind old.panic_handler was m answer new.kind new.panic_handler now
