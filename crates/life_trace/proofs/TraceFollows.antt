-- `Trace` passes all answers on; its hooks record what they are told, each by what came before.
use Rattle.std.proofs.Common.{◌≡◌, ℕ, List, [], ◌∷◌, ◌++◌, Bool, true, false, Option, Some, None, Ok, Err, Result, refl, ap, ◌∙◌, sym, subst, inl, inr}
use Rattle.std.specs.Prelude.{◌⊎◌, if◌then◌else◌, ◌||◌, IsSomeAnd}
use Rattle.http_body.specs.declared.frame.Frame.{Frame}
use Rattle.http_body.specs.declared.frame.Kind.{Kind}
use Rattle.http_body.specs.declared.frame.Kind.TheVariants.{Data, Trailers}
use Rattle.http_header.specs.FieldValue.{FieldValue}
use Rattle.http_header.specs.HeaderMap.{Entries}
use Rattle.life_classify.specs.Classifier.{ClassifiesResponse, ClassifiesEos, ClassifiesError, MakesClassifier}
use Rattle.life_classify.specs.declared.classify.traits.ClassifiedResponse.{ClassifiedResponse}
use Rattle.life_classify.specs.declared.classify.traits.ClassifiedResponse.TheVariants as class
use Rattle.life_core.specs.Calls.{Polls, Abandons, Frames, Calls}
use Rattle.life_core.specs.Life.{life_begun, life_after, life_on, passed_frame, passed_of}
use Rattle.life_core.specs.Moment.{Moment, in_span}
use Rattle.life_core.specs.Recorded.{Recorded}
use Rattle.life_core.specs.Timer.{since}
use Rattle.life_core.specs.declared.event.Event.{Event}
use Rattle.life_core.specs.declared.life.Life.{Life}
use Rattle.life_core.specs.declared.message.Request.{Request}
use Rattle.life_core.specs.declared.message.Response.{Response}
use Rattle.life_core.specs.declared.message.ResponseHead.{ResponseHead}
use Rattle.life_core.specs.declared.poll.Poll.{Poll}
use Rattle.life_core.specs.declared.poll.Poll.TheVariants.{Ready, Pending}
use Rattle.life_core.specs.declared.recorder.NoMemory.{NoMemory}
use Rattle.life_core.specs.declared.span.Span.{Span}
use Rattle.life_core.specs.History.{Adds, BodyHistory, BodyFollows, FrameSteps, FutureHistory, FutureFollows, PollSteps, Said, Waits, Gives, Fails, Where, Waiting, IsSaid, said_under, ServiceFollows}
use Rattle.life_core.proofs.Growth.{adds_none, adds_then}
use Rattle.life_trace.specs.Body.{TraceFrames, FrameSeen, ItemSeen}
use Rattle.life_trace.specs.Future.{TracePolls, Responds, AnswerSeen, ClassifiedSeen}
use Rattle.life_trace.specs.History.{HookEvents, Classes, still_open, open_class, failure_told, fault_told, end_told, frame_told, answer_told, ready_told, said_told, TracePlan, life_at, trace_history, trace_body_history, TraceStands, tail_of, tail_at, TraceBodyStands, TraceServes}
use Rattle.life_trace.specs.Hooks.{MakesSpan, SeesRequest, SeesResponse, SeesChunk, SeesEos, SeesFailure}
use Rattle.life_trace.specs.Parts.{call_hooks}
use Rattle.life_trace.specs.Service.{TraceCalls, BeginRefused}
use Rattle.life_trace.specs.Tail.{times_at, FailureSeen, EndClassified, FaultClassified, EndSeen, Closes, Faults, TailBegins}
use Rattle.life_trace.specs.declared.trace.body.BodyHooks.{BodyHooks}
use Rattle.life_trace.specs.declared.trace.body.ResponseBody.{ResponseBody}
use Rattle.life_trace.specs.declared.trace.future.CallHooks.{CallHooks}
use Rattle.life_trace.specs.declared.trace.future.ResponseFuture.{ResponseFuture}
use Rattle.life_trace.specs.declared.trace.layer.TraceLayer.{TraceLayer}
use Rattle.life_trace.specs.declared.trace.service.Trace.{Trace}
use Rattle.life_trace.specs.declared.trace.tail.Tail.{Tail}
use Rattle.life_trace.specs.declared.trace.tail.Tail.TheVariants.{Spent}
use Rattle.life_trace.specs.declared.trace.tail.Times.{Times}

-- what a hook of responses records in this span, by what is said of the head
pub record ResponseHookFollows {H G B X : Type 0} (sees : SeesResponse H B X) (Heads : G → ResponseHead X → Type 0) (span : Span) (hook : H) (told : G → ℕ → List Event) : Type 0 where
  pub records : (g : G) (r : Response B X) (latency : ℕ) (was : Recorded) (u : Unit) (now : Recorded) → Heads g r.head → sees hook r latency span was (Ok u) now → Adds was now (told g latency)

-- what hooks of chunks record in this span; they stay such hooks
pub record ChunkHookFollows {H D : Type 0} (sees : SeesChunk H D) (span : Span) (Hooks : H → Type 0) (told : D → ℕ → List Event) : Type 0 where
  pub records : (old : H) (chunk : D) (latency : ℕ) (was : Recorded) (u : Unit) (new : H) (now : Recorded) → Hooks old → sees old chunk latency span was (Ok u) new now →
      Adds was now (told chunk latency) × Hooks new

-- what a hook of ends records in this span
pub record EosHookFollows {H : Type 0} (sees : SeesEos H) (span : Span) (hook : H) (told : Option (Entries FieldValue) → ℕ → List Event) : Type 0 where
  pub records : (trailers : Option (Entries FieldValue)) (duration : ℕ) (was : Recorded) (u : Unit) (now : Recorded) → sees hook trailers duration span was (Ok u) now →
      Adds was now (told trailers duration)

-- what a hook of failures records in this span
pub record FailureHookFollows {H N : Type 0} (sees : SeesFailure H N) (span : Span) (hook : H) (told : N → ℕ → List Event) : Type 0 where
  pub records : (c : N) (latency : ℕ) (was : Recorded) (u : Unit) (new : H) (now : Recorded) → sees hook c latency span was (Ok u) new now → Adds was now (told c latency)

-- how a classifier classes a response, by what is said of the head
pub record ResponseClassFollows {C N K G X : Type 0} (classifies : ClassifiesResponse C N K) (Heads : G → ResponseHead X → Type 0) (classifier : C) (classed : G → ClassifiedResponse N K) : Type 0 where
  pub tells : (g : G) (head : ResponseHead X) (c : ClassifiedResponse N K) → Heads g head → classifies classifier head.parts (Ok c) → c ≡ classed g

-- how classifiers class an end
pub record EosClassFollows {K N : Type 0} (classifies : ClassifiesEos K N) (classed : K → Option (Entries FieldValue) → Result Unit N) : Type 0 where
  pub tells : (k : K) (trailers : Option (Entries FieldValue)) (c : Result Unit N) → classifies k trailers (Ok c) → c ≡ classed k trailers

-- how a classifier classes an error
pub record ErrorClassFollows {K N E : Type 0} (classifies : ClassifiesError K N) (shows : E → Option (List ℕ)) (classifier : K) (classed : E → N) : Type 0 where
  pub tells : (error : E) (c : N) → classifies classifier (shows error) (Ok c) → c ≡ classed error

or_true : (b : Bool) → b || true ≡ true
or_true true = refl
or_true false = refl

or_false : (b : Bool) → b || false ≡ b
or_false true = refl
or_false false = refl

module _ {FA N : Type 0} (sees_failure : SeesFailure FA N) (span : Span) (failure : FA) (told : N → ℕ → List Event) (failure_hook : FailureHookFollows sees_failure span failure told) where
  -- a classifier's word on an error, and then the hook
  faulted : {K E : Type 0} (classifies : ClassifiesError K N) (shows : E → Option (List ℕ)) (k : K) (classed : E → N) → ErrorClassFollows classifies shows k classed →
      (error : E) (latency : ℕ) (was : Recorded) (u : Unit) (now : Recorded) → FaultClassified classifies sees_failure k failure (shows error) latency span was (Ok u) now →
      Adds was now (told (classed error) latency)
  faulted classifies shows k classed follows error latency was u now (inl f) = absurd (cc f.2)
  faulted classifies shows k classed follows error latency was u now (inr f) =
      subst (λ c. Adds was now (told c latency)) (follows.tells error f.0 f.2) (failure_hook.records f.0 latency was u f.1 now f.3)

module _ {G K N D E T FA : Type 0} (events : HookEvents G D N) (classes : Classes G K N E T) (sees_failure : SeesFailure FA N) (span : Span) (failure : FA)
    (failure_hook : FailureHookFollows sees_failure span failure events.failure) where
  -- the hook, where the class is a failure
  failing : (c : Result Unit N) (latency : ℕ) (was : Recorded) (u : Unit) (now : Recorded) → FailureSeen sees_failure c failure latency span was (Ok u) now →
      Adds was now (failure_told events classes c latency)
  failing (Ok v) latency was u now f = adds_none was now f.1
  failing (Err c) latency was u now f = failure_hook.records c latency was u f.0 now f.1

  -- a response's class, and what it leaves to be called
  begun : {EO : Type 0} (eos : EO) (c : ClassifiedResponse N K) (latency : ℕ) (was : Recorded) (tail : Tail K EO FA) (now : Recorded) →
      TailBegins sees_failure c eos failure latency span was (Ok tail) now → Adds was now (ready_told events classes c latency) × (tail ≡ tail_of (still_open c false) eos failure)
  begun eos (class.Ready c) latency was tail now b = (failing c latency was tt now b.0, b.1)
  begun eos (class.RequiresEos k) latency was tail now b = (adds_none was now b.1, cc b.0)

module _ {G N K B CH EO FA P D E T : Type 0} (frames : Frames B D E) (abandons : Abandons B) (ends : B → Bool) (BodyStands : P → B → List ℕ → Type 0) (hb : P → BodyHistory D E)
    (classifies : ClassifiesEos K N) (classifies_error : ClassifiesError K N) (shows : E → Option (List ℕ)) (sees_chunk : SeesChunk CH D) (sees_eos : SeesEos EO) (sees_failure : SeesFailure FA N)
    (start : ℕ) (span : Span) (Chunks : CH → Type 0) (eos : EO) (failure : FA) (events : HookEvents G D N) (classes : Classes G K N E T)
    (chunk_hook : ChunkHookFollows sees_chunk span Chunks events.chunk) (eos_hook : EosHookFollows sees_eos span eos events.eos) (failure_hook : FailureHookFollows sees_failure span failure events.failure)
    (eos_class : EosClassFollows classifies classes.eos) (fault_class : (k : K) → ErrorClassFollows classifies_error shows k (classes.fault k))
    (body : BodyFollows frames abandons ends BodyStands hb) where
  abbrev Here : TracePlan G P → ResponseBody B K CH EO FA → List ℕ → Type 0
  Here = TraceBodyStands start span classes.response Chunks eos failure hb BodyStands

  abbrev left : Bool → Option K → Tail K EO FA
  left closed k = if closed then Spent else tail_of k eos failure

  -- the class of the end
  classed : (k : K) (trailers : Option (Entries FieldValue)) (latency : ℕ) (was : Recorded) (u : Unit) (now : Recorded) →
      EndClassified classifies sees_failure k failure trailers latency span was (Ok u) now → Adds was now (failure_told events classes (classes.eos k trailers) latency)
  classed k trailers latency was u now (inl f) = absurd (cc f.2)
  classed k trailers latency was u now (inr f) =
      subst (λ c. Adds was now (failure_told events classes c latency)) (eos_class.tells k trailers f.0 f.1) (failing events classes sees_failure span failure failure_hook f.0 latency was u now f.2)

  -- the class where it is open, and then the end
  at_end : (k : Option K) (trailers : Option (Entries FieldValue)) (times : Times) (was : Recorded) (u : Unit) (now : Recorded) →
      EndSeen classifies sees_eos sees_failure (tail_of k eos failure) trailers times span was (Ok u) now → Adds was now (end_told events classes false k trailers times)
  at_end None trailers times was u now s = eos_hook.records trailers times.duration was u now s
  at_end (Some k) trailers times was u now (inl s) = absurd (cc s.1)
  at_end (Some k) trailers times was u now (inr s) =
      adds_then was s.0 now (failure_told events classes (classes.eos k trailers) times.latency) (events.eos trailers times.duration) (classed k trailers times.latency was tt s.0 s.1)
      (eos_hook.records trailers times.duration s.0 u now s.2)

  -- the end, unless one came before
  closes : (closed : Bool) (k : Option K) (old : Tail K EO FA) (trailers : Option (Entries FieldValue)) (times : Times) (was : Recorded) (u : Unit) (new : Tail K EO FA) (now : Recorded) →
      old ≡ left closed k → Closes classifies sees_eos sees_failure old trailers times span was (Ok u) new now → Adds was now (end_told events classes closed k trailers times)
  closes true k old trailers times was u new now e s = adds_none was now (subst (λ t. EndSeen classifies sees_eos sees_failure t trailers times span was (Ok u) now) e s.seen).1
  closes false k old trailers times was u new now e s = at_end k trailers times was u now (subst (λ t. EndSeen classifies sees_eos sees_failure t trailers times span was (Ok u) now) e s.seen)

  -- a fault tells the class where it is open, and leaves the end
  faults : (c : ClassifiedResponse N K) (closed gone : Bool) (old : Tail K EO FA) (fault : E) (latency : ℕ) (was : Recorded) (u : Unit) (new : Tail K EO FA) (now : Recorded) →
      Faults classifies_error sees_failure (left closed (still_open c (closed || gone))) (shows fault) latency span was (Ok u) new now →
      Adds was now (fault_told events classes (still_open c (closed || gone)) fault latency) × (new ≡ left closed (still_open c (closed || true)))
  faults (class.Ready x) true gone old fault latency was u new now f = (adds_none was now f.0.1, f.1)
  faults (class.Ready x) false gone old fault latency was u new now f = (adds_none was now f.0.1, f.1)
  faults (class.RequiresEos k) true gone old fault latency was u new now f = (adds_none was now f.0.1, f.1)
  faults (class.RequiresEos k) false true old fault latency was u new now f = (adds_none was now f.0.1, f.1)
  faults (class.RequiresEos k) false false old fault latency was u new now f =
      (faulted sees_failure span failure events.failure failure_hook classifies_error shows k (classes.fault k) (fault_class k) fault latency was u now f.0, f.1)

  -- a chunk leaves what was left, unless it is the last
  more_left : (c : ClassifiedResponse N K) (closed gone : Bool) → left (closed || false) (still_open c ((closed || false) || gone)) ≡ left closed (still_open c (closed || gone))
  more_left c closed gone = ap (λ b. left b (still_open c (b || gone))) (or_false closed)

  none_left : (closed : Bool) (k : Option K) → left (closed || true) k ≡ Spent
  none_left closed k = ap (λ b. left b k) (or_true closed)

  -- what is seen of a ready answer: what the hooks record, and what is left
  abbrev Seen : ClassifiedResponse N K → Life → Option (Result (Frame D) E) → Bool → ℕ → Recorded → BodyHooks K CH EO FA → Recorded → Type 0
  Seen c life item ended q was new now =
      Adds was now (answer_told events classes life.closed (open_class c life) (Ready item) ended (times_at life q))
      × Chunks new.on_body_chunk
      × (new.tail ≡ tail_at c eos failure (life_after life q (passed_of item ended)))

  chunk_seen : (c : ClassifiedResponse N K) (life : Life) (chunk : D) (ended : Bool) (q : ℕ) (old : BodyHooks K CH EO FA) (was : Recorded) (u : Unit) (new : BodyHooks K CH EO FA) (now : Recorded) →
      Chunks old.on_body_chunk → old.tail ≡ tail_at c eos failure life → FrameSeen classifies classifies_error shows sees_chunk sees_eos sees_failure old (Data chunk) ended (times_at life q) span was (Ok u) new now →
      Adds was now (frame_told events classes life.closed (open_class c life) (Data chunk) ended (times_at life q)) × Chunks new.on_body_chunk
      × (new.tail ≡ tail_at c eos failure (life_after life q (passed_frame (Data chunk) ended)))
  chunk_seen c life chunk ended q old was u new now k e (inl s) = absurd (cc s.1)
  chunk_seen c life chunk true q old was u new now k e (inr s) = let r = chunk_hook.records old.on_body_chunk chunk (times_at life q).latency was tt new.on_body_chunk s.0 k s.1 in (
    adds_then was s.0 now (events.chunk chunk (times_at life q).latency) (end_told events classes life.closed (open_class c life) None (times_at life q)) r.0
        (closes life.closed (open_class c life) old.tail None (times_at life q) s.0 u new.tail now e s.2),
    r.1,
    s.2.taken ∙ sym (none_left life.closed (still_open c ((life.closed || true) || life.faulted))),
  )
  chunk_seen c life chunk false q old was u new now k e (inr s) = let r = chunk_hook.records old.on_body_chunk chunk (times_at life q).latency was tt new.on_body_chunk s.0 k s.1 in (
    adds_then was s.0 now (events.chunk chunk (times_at life q).latency) [] r.0 (adds_none s.0 now s.2.0.1),
    r.1,
    s.2.1 ∙ e ∙ sym (more_left c life.closed life.faulted),
  )

  frame_seen : (c : ClassifiedResponse N K) (life : Life) (kind : Kind D) (ended : Bool) (q : ℕ) (old : BodyHooks K CH EO FA) (was : Recorded) (u : Unit) (new : BodyHooks K CH EO FA) (now : Recorded) →
      Chunks old.on_body_chunk → old.tail ≡ tail_at c eos failure life → FrameSeen classifies classifies_error shows sees_chunk sees_eos sees_failure old kind ended (times_at life q) span was (Ok u) new now →
      Adds was now (frame_told events classes life.closed (open_class c life) kind ended (times_at life q)) × Chunks new.on_body_chunk
      × (new.tail ≡ tail_at c eos failure (life_after life q (passed_frame kind ended)))
  frame_seen c life (Data chunk) ended q old was u new now k e s = chunk_seen c life chunk ended q old was u new now k e s
  frame_seen c life (Trailers trailers) ended q old was u new now k e s =
      (closes life.closed (open_class c life) old.tail (Some trailers) (times_at life q) was u new.tail now e s.0, subst Chunks (sym s.1) k, s.0.taken)

  item_seen : (c : ClassifiedResponse N K) (life : Life) (item : Option (Result (Frame D) E)) (ended : Bool) (q : ℕ) (old : BodyHooks K CH EO FA) (was : Recorded) (u : Unit) (new : BodyHooks K CH EO FA) (now : Recorded) →
      Chunks old.on_body_chunk → old.tail ≡ tail_at c eos failure life → ItemSeen classifies classifies_error shows sees_chunk sees_eos sees_failure old item ended (times_at life q) span was (Ok u) new now →
      Seen c life item ended q was new now
  item_seen c life None ended q old was u new now k e s =
      (closes life.closed (open_class c life) old.tail None (times_at life q) was u new.tail now e s.0, subst Chunks (sym s.1) k, s.0.taken)
  item_seen c life (Some (Err fault)) ended q old was u new now k e s =
      let f = faults c life.closed life.faulted old.tail fault (times_at life q).latency was u new.tail now
      (subst (λ t. Faults classifies_error sees_failure t (shows fault) (times_at life q).latency span was (Ok u) new.tail now) e s.0) in
      (f.0, subst Chunks (sym s.1) k, f.1)
  item_seen c life (Some (Ok frame)) ended q old was u new now k e s = frame_seen c life frame.kind ended q old was u new now k e s

  abbrev History : TracePlan G P → BodyHistory D E
  History = trace_body_history events classes start hb

  abbrev Framed : ResponseBody B K CH EO FA → Recorded → Moment → Poll (Option (Result (Frame D) E)) → ResponseBody B K CH EO FA → Recorded → Type 0
  Framed b was m a new now = TraceFrames frames ends classifies classifies_error shows sees_chunk sees_eos sees_failure b was m (Ok a) new now

  -- the life after a poll, by the inner body's history
  lives : (p : TracePlan G P) (past : List ℕ) (b : ResponseBody B K CH EO FA) (q : ℕ) (a : Poll (Option (Result (Frame D) E))) (new : B) →
      a ≡ (hb p.inner).frame past q → BodyStands p.inner new (q ∷ past) →
      life_on (life_at start p.responded (hb p.inner) past) q (Ok a) (ends new) ≡ life_at start p.responded (hb p.inner) (q ∷ past)
  lives p past b q a new e s =
      ap (λ x. life_on (life_at start p.responded (hb p.inner) past) q (Ok x) (ends new)) e
      ∙ ap (λ z. life_on (life_at start p.responded (hb p.inner) past) q (Ok ((hb p.inner).frame past q)) z) (body.tells p.inner new (q ∷ past) s)

  -- what the hooks record of it, by the inner body's history
  tells_by : (p : TracePlan G P) (past : List ℕ) (q : ℕ) (a : Poll (Option (Result (Frame D) E))) (new : B) (was now : Recorded) → a ≡ (hb p.inner).frame past q → BodyStands p.inner new (q ∷ past) →
      (life : Life) → life ≡ life_at start p.responded (hb p.inner) past →
      Adds was now ((hb p.inner).events past q ++ answer_told events classes life.closed (open_class (classes.response p.head) life) a (ends new) (times_at life q)) →
      Adds was now ((History p).events past q)
  tells_by p past q a new was now e s life l d = rw (← l, ← e, ← (body.tells p.inner new (q ∷ past) s)) d

  ready : (p : TracePlan G P) (past : List ℕ) (b : ResponseBody B K CH EO FA) (was : Recorded) (m : Moment) (item : Option (Result (Frame D) E)) (new : ResponseBody B K CH EO FA) (now : Recorded) →
      Here p b past → Framed b was m (Ready item) new now → FrameSteps Here (History p) p past was m.now (Ready item) new now
  ready p past b was m item new now s d = let between = d.answered.0 in
      let life = life_at start p.responded (hb p.inner) past in
      let i = body.frame p.inner past b.inner was (in_span m b.span) (Ready item) new.inner between s.inner d.answered.1 in
      let sees = subst (λ o. IsSomeAnd o (λ sp. ItemSeen classifies classifies_error shows sees_chunk sees_eos sees_failure b.hooks item (ends new.inner) (times_at b.life m.now) sp between (Ok tt) new.hooks now)) s.span_is d.answered.2 in
      let h = item_seen (classes.response p.head) life item (ends new.inner) m.now b.hooks between tt new.hooks now s.on_body_chunk s.tail_is
      (subst (λ l. ItemSeen classifies classifies_error shows sees_chunk sees_eos sees_failure b.hooks item (ends new.inner) (times_at l m.now) span between (Ok tt) new.hooks now) s.life_is sees) in
      let path = lives p past b m.now (Ready item) new.inner i.answer i.stands in record {
        answer = i.answer;
        adds = tells_by p past m.now (Ready item) new.inner was now i.answer i.stands life refl
            (adds_then was between now ((hb p.inner).events past m.now) (answer_told events classes life.closed (open_class (classes.response p.head) life) (Ready item) (ends new.inner) (times_at life m.now)) i.adds h.0);
        stands = record {
          span_is = d.span ∙ s.span_is;
          life_is = d.life ∙ ap (λ l. life_on l m.now (Ok (Ready item)) (ends new.inner)) s.life_is ∙ path;
          on_body_chunk = h.1;
          tail_is = h.2 ∙ ap (tail_at (classes.response p.head) eos failure) path;
          inner = i.stands;
        };
      }

  waiting : (p : TracePlan G P) (past : List ℕ) (b : ResponseBody B K CH EO FA) (was : Recorded) (m : Moment) (new : ResponseBody B K CH EO FA) (now : Recorded) →
      Here p b past → Framed b was m Pending new now → FrameSteps Here (History p) p past was m.now Pending new now
  waiting p past b was m new now s d =
      let life = life_at start p.responded (hb p.inner) past in
      let i = body.frame p.inner past b.inner was (in_span m b.span) Pending new.inner now s.inner d.answered.0 in
      let path = lives p past b m.now Pending new.inner i.answer i.stands in record {
        answer = i.answer;
        adds = tells_by p past m.now Pending new.inner was now i.answer i.stands life refl (adds_then was now now ((hb p.inner).events past m.now) [] i.adds (adds_none now now refl));
        stands = record {
          span_is = d.span ∙ s.span_is;
          life_is = d.life ∙ s.life_is ∙ path;
          on_body_chunk = subst (λ h. Chunks h.on_body_chunk) (sym d.answered.1) s.on_body_chunk;
          tail_is = ap (λ h. h.tail) d.answered.1 ∙ s.tail_is ∙ ap (tail_at (classes.response p.head) eos failure) path;
          inner = i.stands;
        };
      }

  framed : (p : TracePlan G P) (past : List ℕ) (b : ResponseBody B K CH EO FA) (was : Recorded) (m : Moment) (a : Poll (Option (Result (Frame D) E))) (new : ResponseBody B K CH EO FA) (now : Recorded) →
      Here p b past → Framed b was m a new now → FrameSteps Here (History p) p past was m.now a new now
  framed p past b was m (Ready item) new now s d = ready p past b was m item new now s d
  framed p past b was m Pending new now s d = waiting p past b was m new now s d

  pub trace_body_follows : BodyFollows (TraceFrames frames ends classifies classifies_error shows sees_chunk sees_eos sees_failure) (λ b. abandons b.inner) (λ b. ends b.inner) Here History
  trace_body_follows = record {
    tells = λ p b past s. body.tells p.inner b.inner past s.inner;
    frame = framed;
    abandoned = λ p past b was m u now s d. body.abandoned p.inner past b.inner was m u now s.inner d;
    refused = λ p past b was m e now s d. body.refused p.inner past b.inner was m e now s.inner d;
  }

module _ {G P F C RS CH EO FA N K B X D E T : Type 0} (polls : Polls F (Result (Response B X) T)) (abandons : Abandons F) (frames : Frames B D E) (body_abandons : Abandons B) (ends : B → Bool)
    (Heads : G → ResponseHead X → Type 0) (Stands : F → Where → Type 0) (BodyStands : P → B → List ℕ → Type 0) (h : FutureHistory G P T) (hb : P → BodyHistory D E)
    (classifies : ClassifiesResponse C N K) (classifies_error : ClassifiesError C N) (shows : T → Option (List ℕ)) (sees_response : SeesResponse RS B X) (sees_failure : SeesFailure FA N)
    (start : ℕ) (span : Span) (hooks : CallHooks C RS CH EO FA) (Chunks : CH → Type 0) (chunk_hook : Chunks hooks.on_body_chunk) (events : HookEvents G D N) (classes : Classes G K N E T)
    (response_hook : ResponseHookFollows sees_response Heads span hooks.on_response events.response) (failure_hook : FailureHookFollows sees_failure span hooks.on_failure events.failure)
    (response_class : ResponseClassFollows classifies Heads hooks.classifier classes.response) (error_class : ErrorClassFollows classifies_error shows hooks.classifier classes.error)
    (inner : FutureFollows polls abandons Heads Stands BodyStands h) (body : BodyFollows frames body_abandons ends BodyStands hb) where
  abbrev BS : TracePlan G P → ResponseBody B K CH EO FA → List ℕ → Type 0
  BS = TraceBodyStands start span classes.response Chunks hooks.on_eos hooks.on_failure hb BodyStands

  abbrev Held : ResponseFuture F C RS CH EO FA → Where → Type 0
  Held = TraceStands start span hooks Stands

  abbrev said : ℕ → Said G P T → Said G (TracePlan G P) T
  said t s = said_under (λ head p. record { head = head; responded = t; inner = p }) s

  -- the response's hook, and then its class
  classed_seen : (g : G) (r : Response B X) (latency : ℕ) (c : ClassifiedResponse N K) (was : Recorded) (tail : Tail K EO FA) (now : Recorded) → Heads g r.head →
      ClassifiedSeen classifies sees_response sees_failure hooks r c latency span was (Ok tail) now →
      Adds was now (events.response g latency ++ ready_told events classes c latency) × (tail ≡ tail_of (still_open c false) hooks.on_eos hooks.on_failure)
  classed_seen g r latency c was tail now k (inl s) = absurd (cc s.1)
  classed_seen g r latency c was tail now k (inr s) = let b = begun events classes sees_failure span hooks.on_failure failure_hook hooks.on_eos c latency s.0 tail now s.2 in
      (adds_then was s.0 now (events.response g latency) (ready_told events classes c latency) (response_hook.records g r latency was tt s.0 k s.1) b.0, b.1)

  abbrev Began : G → ℕ → Recorded → BodyHooks K CH EO FA → Recorded → ClassifiedResponse N K → Type 0
  Began g latency was b now c = Adds was now (events.response g latency ++ ready_told events classes c latency) × (b.tail ≡ tail_of (still_open c false) hooks.on_eos hooks.on_failure)

  response_seen : (g : G) (r : Response B X) (latency : ℕ) (was : Recorded) (b : BodyHooks K CH EO FA) (now : Recorded) → Heads g r.head →
      ((e : NoMemory) × classifies hooks.classifier r.head.parts (Err e) × (◌≡◌ {A = Result (BodyHooks K CH EO FA) NoMemory} (Ok b) (Err e)) × (now ≡ was))
      ⊎ ((c : ClassifiedResponse N K) × classifies hooks.classifier r.head.parts (Ok c) × ClassifiedSeen classifies sees_response sees_failure hooks r c latency span was (Ok b.tail) now) →
      Began g latency was b now (classes.response g)
  response_seen g r latency was b now k (inl f) = absurd (cc f.2)
  response_seen g r latency was b now k (inr f) = subst (Began g latency was b now) (response_class.tells g r.head f.0 k f.1) (classed_seen g r latency f.0 was b.tail now k f.2)

  gave : (t : ℕ) (s : Said G P T) (r : Response (ResponseBody B K CH EO FA) X) (was : Recorded) (m : Moment) (now : Recorded) → t ≡ m.now →
      Responds ends classifies classifies_error shows sees_response sees_failure hooks start span was m r now →
      IsSaid Heads BodyStands s (Ready (Ok (record { head = r.head; body = r.body.inner }))) →
      IsSaid Heads BS (said m.now s) (Ready (Ok r)) × Adds was now (said_told events classes s (since start m.now))
  gave t Waits r was m now e d a = elim a [ ]
  gave t (Gives g p) r was m now e d a =
      let k = response_seen g (record { head = r.head; body = r.body.inner }) (since start m.now) was r.body.hooks now a.0 d.seen.seen in (
        (
          a.0,
          record {
            span_is = d.span_is;
            life_is = d.life ∙ ap (λ z. life_begun start m.now z) (body.tells p r.body.inner [] a.1);
            on_body_chunk = subst Chunks (sym d.seen.kept) chunk_hook;
            tail_is = k.1;
            inner = a.1;
          },
        ),
        k.0,
      )
  gave t (Fails x) r was m now e d a = elim a [ ]

  failed : (t : ℕ) (s : Said G P T) (x : T) (was : Recorded) (latency : ℕ) (now : Recorded) →
      FaultClassified classifies_error sees_failure hooks.classifier hooks.on_failure (shows x) latency span was (Ok tt) now → IsSaid Heads BodyStands s (Ready (Err x)) →
      IsSaid Heads BS (said t s) (Ready (Err x)) × Adds was now (said_told events classes s latency)
  failed t Waits x was latency now d a = elim a [ ]
  failed t (Gives g p) x was latency now d a = elim a [ ]
  failed t (Fails y) x was latency now d a =
      (a, subst (λ z. Adds was now (events.failure (classes.error z) latency)) a (faulted sees_failure span hooks.on_failure events.failure failure_hook classifies_error shows hooks.classifier classes.error error_class x latency was tt now d))

  waited : (t : ℕ) (s : Said G P T) (was : Recorded) (latency : ℕ) → IsSaid Heads BodyStands s Pending → IsSaid Heads BS (said t s) Pending × Adds was was (said_told events classes s latency)
  waited t Waits was latency a = (tt, adds_none was was refl)
  waited t (Gives g p) was latency a = elim a [ ]
  waited t (Fails y) was latency a = elim a [ ]

  abbrev with_inner : ResponseFuture F C RS CH EO FA → F → ResponseFuture F C RS CH EO FA
  with_inner f inner = record f { inner = inner }

  abbrev Polled : ResponseFuture F C RS CH EO FA → Recorded → Moment → Poll (Result (Response (ResponseBody B K CH EO FA) X) T) → ResponseFuture F C RS CH EO FA → Recorded → Type 0
  Polled f was m a new now = TracePolls polls ends body_abandons classifies classifies_error shows sees_response sees_failure f was m (Ok a) new now

  abbrev Told : ResponseFuture F C RS CH EO FA → Recorded → Moment → Result (Response (ResponseBody B K CH EO FA) X) T → Recorded → Type 0
  Told f was m settled now = IsSomeAnd f.hooks (λ hooks. IsSomeAnd f.span (λ span. AnswerSeen ends classifies classifies_error shows sees_response sees_failure hooks f.start span was m settled now))

  step : (past : List ℕ) (f : ResponseFuture F C RS CH EO FA) (was : Recorded) (m : Moment) (a : Poll (Result (Response (ResponseBody B K CH EO FA) X) T)) (new : ResponseFuture F C RS CH EO FA) (now : Recorded) →
      Held f (Waiting past) → Polled f was m a new now → PollSteps Heads Held BS (trace_history events classes start h) past was m.now a new now
  step past f was m (Ready (Ok r)) new now s d = let i = inner.poll past f.inner was (in_span m f.span) _ new.inner d.between s.inner d.inner in
      let g = gave m.now (h.says past m.now) r d.between m now refl (subst (λ z. Told z d.between m (Ok r) now) s.keeps d.seen) i.answer in record {
        answer = g.0;
        adds = adds_then was d.between now (h.events past m.now) (said_told events classes (h.says past m.now) (since start m.now)) i.adds g.1;
        stands = record { keeps = tt; inner = i.stands };
      }
  step past f was m (Ready (Err x)) new now s d = let i = inner.poll past f.inner was (in_span m f.span) _ new.inner d.between s.inner d.inner in
      let g = failed m.now (h.says past m.now) x d.between (since start m.now) now (subst (λ z. Told z d.between m (Err x) now) s.keeps d.seen) i.answer in record {
        answer = g.0;
        adds = adds_then was d.between now (h.events past m.now) (said_told events classes (h.says past m.now) (since start m.now)) i.adds g.1;
        stands = record { keeps = tt; inner = i.stands };
      }
  step past f was m Pending new now s d = let i = inner.poll past f.inner was (in_span m f.span) _ new.inner now s.inner d.0 in
      let g = waited m.now (h.says past m.now) now (since start m.now) i.answer in record {
        answer = g.0;
        adds = adds_then was now now (h.events past m.now) (said_told events classes (h.says past m.now) (since start m.now)) i.adds g.1;
        stands = record { keeps = d.1 ∙ ap (λ z. with_inner z new.inner) s.keeps; inner = i.stands };
      }

  pub trace_follows : FutureFollows (TracePolls polls ends body_abandons classifies classifies_error shows sees_response sees_failure) (λ f. abandons f.inner) Heads Held BS (trace_history events classes start h)
  trace_follows = record {
    poll = step;
    abandoned = λ w f was m u now s d. inner.abandoned w f.inner was m u now s.inner d;
    refused = λ w f was m e now s d. inner.refused w f.inner was m e now s.inner d;
  }

-- the span that makers of spans make of such a request; they stay such makers, also where memory is wanting
pub record SpanFollows {H B X : Type 0} (makes : MakesSpan H B X) (Wanted : Request B X → Type 0) (Makers : H → Type 0) (span : Span) : Type 0 where
  pub made : (old : H) (req : Request B X) (made : Span) (new : H) → Wanted req → Makers old → makes old req (Ok made) new → made ≡ span
  pub stays : (old : H) (req : Request B X) (answer : Result Span NoMemory) (new : H) → Makers old → makes old req answer new → Makers new

-- the classifier that is made for such a request
pub record MakerFollows {M B X C : Type 0} (makes : MakesClassifier M X C) (Wanted : Request B X → Type 0) (maker : M) (classifier : C) : Type 0 where
  pub made : (req : Request B X) (made : C) → Wanted req → makes maker req.head (Ok made) → made ≡ classifier

-- what hooks of requests record of such a request in this span; they stay such hooks, also where memory is wanting
pub record RequestHookFollows {H B X : Type 0} (sees : SeesRequest H B X) (Wanted : Request B X → Type 0) (Hooks : H → Type 0) (span : Span) (told : List Event) : Type 0 where
  pub records : (old : H) (req : Request B X) (was : Recorded) (u : Unit) (new : H) (now : Recorded) → Wanted req → Hooks old → sees old req span was (Ok u) new now → Adds was now told
  pub stays : (old : H) (req : Request B X) (any : Span) (was : Recorded) (answer : Result Unit NoMemory) (new : H) (now : Recorded) → Hooks old → sees old req any was answer new now → Hooks new

module _ {S F M MS RQ RS CH EO FA C B X : Type 0} (calls : Calls S (Request B X) F) (makes : MakesClassifier M X C) (makes_span : MakesSpan MS B X) (sees_request : SeesRequest RQ B X) (abandons : Abandons B)
    (Serves : S → Type 0) (layer : TraceLayer M MS RQ RS CH EO FA) (Spans : MS → Type 0) (Requests : RQ → Type 0)
    (span_stays : (old : MS) (req : Request B X) (answer : Result Span NoMemory) (new : MS) → Spans old → makes_span old req answer new → Spans new)
    (hook_stays : (old : RQ) (req : Request B X) (any : Span) (was : Recorded) (answer : Result Unit NoMemory) (new : RQ) (now : Recorded) → Requests old → sees_request old req any was answer new now → Requests new) where
  abbrev pub Serving : Trace S M MS RQ RS CH EO FA → Type 0
  Serving = TraceServes layer Spans Requests Serves

  abbrev made_by : TraceLayer M MS RQ RS CH EO FA → MS → TraceLayer M MS RQ RS CH EO FA
  made_by l maker = record l { make_span = maker }

  abbrev seen_by : TraceLayer M MS RQ RS CH EO FA → MS → RQ → TraceLayer M MS RQ RS CH EO FA
  seen_by l maker hook = record l { make_span = maker; on_request = hook }

  -- the layer after the span maker alone, and after the request's hook too
  made_only : (s new : Trace S M MS RQ RS CH EO FA) (req : Request B X) (answer : Result Span NoMemory) → Serving s → Serves new.inner →
      makes_span s.layer.make_span req answer new.layer.make_span → new.layer ≡ record s.layer { make_span = new.layer.make_span } → Serving new
  made_only s new req answer k i d e = record {
    layer_is = e ∙ ap (λ l. made_by l new.layer.make_span) k.layer_is ∙ ap (λ x. seen_by layer new.layer.make_span x) (sym (ap (λ (l : TraceLayer M MS RQ RS CH EO FA). l.on_request) e));
    make_span = span_stays s.layer.make_span req answer new.layer.make_span k.make_span d;
    on_request = subst (λ l. Requests l.on_request) (sym e) k.on_request;
    inner = i;
  }

  made_and_seen : (s new : Trace S M MS RQ RS CH EO FA) (req : Request B X) (made any : Span) (was : Recorded) (answer : Result Unit NoMemory) (now : Recorded) → Serving s → Serves new.inner →
      makes_span s.layer.make_span req (Ok made) new.layer.make_span → sees_request s.layer.on_request req any was answer new.layer.on_request now →
      new.layer ≡ record s.layer { make_span = new.layer.make_span; on_request = new.layer.on_request } → Serving new
  made_and_seen s new req made any was answer now k i d r e = record {
    layer_is = e ∙ ap (λ l. seen_by l new.layer.make_span new.layer.on_request) k.layer_is;
    make_span = span_stays s.layer.make_span req (Ok made) new.layer.make_span k.make_span d;
    on_request = hook_stays s.layer.on_request req any was answer new.layer.on_request now k.on_request r;
    inner = i;
  }

  begins_no_more : (s : Trace S M MS RQ RS CH EO FA) (req : Request B X) (was : Recorded) (e : NoMemory) (new : Trace S M MS RQ RS CH EO FA) (now : Recorded) → Serving s → Serves new.inner →
      BeginRefused makes makes_span sees_request s.layer req was e new.layer now → Serving new
  begins_no_more s req was e new now k i (inl d) = made_only s new req (Err e) k i d.refused d.same
  begins_no_more s req was e new now k i (inr (inl d)) = made_only s new req (Ok d.span) k i d.made d.same
  begins_no_more s req was e new now k i (inr (inr (inl d))) = made_and_seen s new req d.span d.span was (Err e) now k i d.made d.request d.same
  begins_no_more s req was e new now k i (inr (inr (inr d))) = made_and_seen s new req d.span d.span was (Ok tt) now k i d.made d.request d.same

  -- a call that is refused leaves a service that serves, where the inner one does
  pub trace_refused : ((s : S) (req : Request B X) (was : Recorded) (m : Moment) (e : NoMemory) (new : S) (now : Recorded) → Serves s → calls s req was m (Err e) new now → Serves new) →
      (s : Trace S M MS RQ RS CH EO FA) (req : Request B X) (was : Recorded) (m : Moment) (e : NoMemory) (new : Trace S M MS RQ RS CH EO FA) (now : Recorded) → Serving s →
      TraceCalls calls makes makes_span sees_request abandons s req was m (Err e) new now → Serving new
  trace_refused refused s req was m e new now k (inl d) = begins_no_more s req was e new d.between k (subst Serves (sym d.same) k.inner) d.refused
  trace_refused refused s req was m e new now k (inr d) =
      made_and_seen s new req d.begun.span d.begun.span was (Ok tt) d.between k (refused s.inner req d.between (in_span m (Some d.begun.span)) e new.inner now k.inner d.inner) d.begins.span d.begins.request d.begins.same

  -- and so does one that gives a future
  pub trace_given : (s : Trace S M MS RQ RS CH EO FA) (req : Request B X) (was : Recorded) (m : Moment) (f : ResponseFuture F C RS CH EO FA) (new : Trace S M MS RQ RS CH EO FA) (now : Recorded) → Serving s → Serves new.inner →
      TraceCalls calls makes makes_span sees_request abandons s req was m (Ok f) new now → Serving new
  trace_given s req was m f new now k i d = made_and_seen s new req d.begun.span d.begun.span was (Ok tt) d.between k i d.begins.span d.begins.request d.begins.same

module _ {S F M MS RQ RS CH EO FA C B X : Type 0} (calls : Calls S (Request B X) F) (makes : MakesClassifier M X C) (makes_span : MakesSpan MS B X) (sees_request : SeesRequest RQ B X) (abandons : Abandons B)
    (Wanted : Request B X → Type 0) (Serves : S → Type 0) (Stands : ℕ → F → Where → Type 0) (es : List Event)
    (layer : TraceLayer M MS RQ RS CH EO FA) (Spans : MS → Type 0) (Requests : RQ → Type 0) (span : Span) (classifier : C) (started : List Event)
    (span_maker : SpanFollows makes_span Wanted Spans span) (classifier_maker : MakerFollows makes Wanted layer.make_classifier classifier) (request_hook : RequestHookFollows sees_request Wanted Requests span started)
    (inner : ServiceFollows calls Wanted Serves Stands es) where
  abbrev called : F → ℕ → Span → CallHooks C RS CH EO FA → ResponseFuture F C RS CH EO FA
  called inner start sp hooks = record { inner = inner; start = start; span = Some sp; hooks = Some hooks }

  gives : (s : Trace S M MS RQ RS CH EO FA) (req : Request B X) (was : Recorded) (m : Moment) (f : ResponseFuture F C RS CH EO FA) (new : Trace S M MS RQ RS CH EO FA) (now : Recorded) → Wanted req →
      TraceServes layer Spans Requests Serves s → TraceCalls calls makes makes_span sees_request abandons s req was m (Ok f) new now →
      TraceServes layer Spans Requests Serves new × TraceStands m.now span (call_hooks layer classifier) (Stands m.now) f (Waiting []) × Adds was now (started ++ es)
  gives s req was m f new now q k d = let i = inner.call s.inner req d.between (in_span m (Some d.begun.span)) f.inner new.inner now q k.inner d.inner in
      let span_is = span_maker.made s.layer.make_span req d.begun.span new.layer.make_span q k.make_span d.begins.span in
      let classifier_is = classifier_maker.made req d.begun.hooks.classifier q (subst (λ l. makes l.make_classifier req.head (Ok d.begun.hooks.classifier)) k.layer_is d.begins.classifier) in
      let hooks_are = d.begins.hooks ∙ ap (λ l. call_hooks l d.begun.hooks.classifier) k.layer_is ∙ ap (call_hooks layer) classifier_is in (
        trace_given calls makes makes_span sees_request abandons Serves layer Spans Requests span_maker.stays request_hook.stays s req was m f new now k i.0 d,
        record {
          keeps = d.future ∙ ap (λ sp. called f.inner m.now sp d.begun.hooks) span_is ∙ ap (λ hs. called f.inner m.now span hs) hooks_are;
          inner = i.1;
        },
        adds_then was d.between now started es (request_hook.records s.layer.on_request req was tt new.layer.on_request d.between q k.on_request
            (subst (λ sp. sees_request s.layer.on_request req sp was (Ok tt) new.layer.on_request d.between) span_is d.begins.request)) i.2,
      )

  pub trace_serves : ServiceFollows (TraceCalls calls makes makes_span sees_request abandons) Wanted (TraceServes layer Spans Requests Serves) (λ t. TraceStands t span (call_hooks layer classifier) (Stands t)) (started ++ es)
  trace_serves = record { call = gives; refused = trace_refused calls makes makes_span sees_request abandons Serves layer Spans Requests span_maker.stays request_hook.stays inner.refused }
