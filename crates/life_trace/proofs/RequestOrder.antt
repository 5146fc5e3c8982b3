-- The hooks of a whole request are called in order, however its future and its body are polled.
use Rattle.std.proofs.Common.{◌≡◌, ℕ, Bool, false, true≢false, ◌⊎◌, inl, inr, List, [], ◌∷◌, ◌++◌, Option, Some, None, Result, Ok, Err, IfOk, IsSome, IsSomeAnd, is_err, refl, ap, ◌∙◌, subst, subst₂, sym}
use Rattle.life_classify.specs.Classifier.{ClassifiesResponse, ClassifiesEos, ClassifiesError}
use Rattle.life_classify.specs.declared.classify.traits.ClassifiedResponse.{ClassifiedResponse}
use Rattle.life_classify.specs.declared.classify.traits.ClassifiedResponse.TheVariants as classified
use Rattle.life_classify.specs.declared.classify.traits.ClassifiedResponse.TheVariants.{RequiresEos}
use Rattle.life_core.specs.Calls.{Polls, Frames, Abandons, Reply, spent}
use Rattle.life_core.specs.FramePolls.{FramePoll, PolledFrom}
use Rattle.life_core.specs.Life.{life_begun}
use Rattle.life_core.specs.Moment.{Moment}
use Rattle.life_core.specs.Recorded.{Recorded}
use Rattle.life_core.specs.Timer.{since}
use Rattle.life_core.specs.declared.life.Life.{Life}
use Rattle.life_core.specs.declared.message.Response.{Response}
use Rattle.life_core.specs.declared.poll.Poll.TheVariants.{Ready, Pending}
use Rattle.life_core.specs.declared.recorder.NoMemory.{NoMemory}
use Rattle.life_core.specs.declared.span.Span.{Span}
use Rattle.life_trace.specs.Body.{TraceFrames}
use Rattle.life_trace.specs.Future.{AnswerRefused, AnswerSeen, ClassifiedSeen, TracePolls, tail_in}
use Rattle.life_trace.specs.HookCalls.{HookCall, but_chunks, EosOnce, FailureThenEos, EndCalls, eos_hook, end_comes, fault_comes_first, NoneRefused, tells_end, CalledWhenDue, BodyCalls}
use Rattle.life_trace.specs.HookCalls.HookCall.{ResponseHook, FailureHook}
use Rattle.life_trace.specs.Hooks.{SeesResponse, SeesChunk, SeesEos, SeesFailure}
use Rattle.life_trace.specs.RequestCalls.{ResponseThenEnds, RequestOrder, FuturePoll, IfAnswered, ServedFrom, FutureHookCalled, AnswerCalls, GivenUp, FuturePollCalls, RequestCalls, OrderlyFuture}
use Rattle.life_trace.specs.Tail.{FaultClassified}
use Rattle.life_trace.specs.declared.trace.body.BodyHooks.{BodyHooks}
use Rattle.life_trace.specs.declared.trace.body.ResponseBody.{ResponseBody}
use Rattle.life_trace.specs.declared.trace.future.CallHooks.{CallHooks}
use Rattle.life_trace.specs.declared.trace.future.ResponseFuture.{ResponseFuture}
use Rattle.life_trace.specs.declared.trace.tail.Tail.{Tail}
use Rattle.life_trace.specs.declared.trace.tail.Tail.TheVariants.{Classed, Unclassed, Spent}
use Rattle.life_trace.proofs.HookOrder.{alone, body_ordered, eos_if_none, failure_if_eos, failure_if_none}

-- nothing is called of what is not there
not_there : {T : Type 0} (P : T → Type 0) (o : Option T) → IsSomeAnd o P → o ≡ None → ⊥
not_there P None there none = there
not_there P (Some x) there none = cc

module _ {D N : Type 0} where
  response_if_none : (calls : List (HookCall D N)) → calls ≡ [] → ResponseThenEnds calls
  response_if_none calls none = subst (λ (l : List (HookCall D N)). ResponseThenEnds l) (sym none) tt

  -- what may be called once a response is told, by the tail that is left of its hooks
  abbrev Leaves : {K EO FA : Type 0} → Result (Tail K EO FA) NoMemory → List (HookCall D N) → Type 0
  Leaves (Ok t) calls = EndCalls t calls
  Leaves (Err e) calls = calls ≡ []

  leaves_failure : {K EO FA : Type 0} (t : Result (Tail K EO FA) NoMemory) (calls : List (HookCall D N)) → Leaves t calls → FailureThenEos calls
  leaves_failure (Ok (Classed k e f)) calls left = left
  leaves_failure (Ok (Unclassed e)) calls left = failure_if_eos calls left
  leaves_failure (Ok Spent) calls left = failure_if_none calls left
  leaves_failure (Err e) calls left = failure_if_none calls left

  leaves_eos : {K EO FA : Type 0} (hook : EO) (t : Result (Tail K EO FA) NoMemory) → IfOk t (λ tail. tail ≡ Unclassed hook) → (calls : List (HookCall D N)) → Leaves t calls →
      EosOnce calls
  leaves_eos {K} {EO} {FA} hook (Ok tail) is calls left = subst (λ (t : Tail K EO FA). EndCalls t calls) is left
  leaves_eos hook (Err e) is calls left = eos_if_none calls left

-- the end is told where the hook of the end was held
end_due : {K EO FA D N : Type 0} (t : Tail K EO FA) (ended faulted : Bool) (calls : List (HookCall D N)) → IsSome (eos_hook t) →
    CalledWhenDue t ended faulted calls → tells_end calls ≡ ended
end_due (Classed k e f) ended faulted calls held due = due.0
end_due (Unclassed e) ended faulted calls held due = due
end_due Spent ended faulted calls held due = absurd (true≢false (sym held))

-- any future may be left as it is
nothing_requested : {C RS CH EO FA : Type 0} (D N : Type 0) (hooks : Option (CallHooks C RS CH EO FA)) → RequestOrder {D = D} {N = N} hooks []
nothing_requested D N (Some hooks) = tt
nothing_requested D N None = refl

module _ {C RS CH EO FA N K B X : Type 0} (sees_response : SeesResponse RS B X) (sees_failure : SeesFailure FA N) where
  -- a response's hooks leave that of the end
  leaves_end_hook : (classifies : ClassifiesResponse C N K) (hooks : CallHooks C RS CH EO FA) (r : Response B X) (class : ClassifiedResponse N K)
      (latency : ℕ) (span : Span) (was : Recorded) (tail : Tail K EO FA) (now : Recorded) →
      ClassifiedSeen classifies sees_response sees_failure hooks r class latency span was (Ok tail) now → IsSome (eos_hook tail)
  leaves_end_hook classifies hooks r class latency span was tail now (inl (seen, refused)) = absurd (true≢false (sym refused))
  leaves_end_hook classifies hooks r (classified.Ready class) latency span was tail now (inr (between, seen, begins)) =
      subst (λ (t : Tail K EO FA). IsSome (eos_hook t)) (sym begins.1) refl
  leaves_end_hook classifies hooks r (RequiresEos k) latency span was tail now (inr (between, seen, begins)) =
      subst (λ (t : Result (Tail K EO FA) NoMemory). IfOk t (λ tail. IsSome (eos_hook tail))) (sym begins.0) refl

  response_leaves : (classifies : ClassifiesResponse C N K) (hooks : CallHooks C RS CH EO FA) (r : Response B X) (latency : ℕ) (span : Span)
      (was : Recorded) (b : BodyHooks K CH EO FA) (now : Recorded) →
      (((e : NoMemory) × classifies hooks.classifier r.head.parts (Err e) × (Ok b ≡ Err e) × (now ≡ was))
      ⊎ ((class : ClassifiedResponse N K) × classifies hooks.classifier r.head.parts (Ok class)
      × ClassifiedSeen classifies sees_response sees_failure hooks r class latency span was (Ok b.tail) now)) → IsSome (eos_hook b.tail)
  response_leaves classifies hooks r latency span was b now (inl (e, told, is, same)) = absurd (cc)
  response_leaves classifies hooks r latency span was b now (inr (class, told, seen)) = leaves_end_hook classifies hooks r class latency span was b.tail now seen

module _ {C RS CH EO FA N D B X E : Type 0} (sees_response : SeesResponse RS B X) (sees_failure : SeesFailure FA N) where
  -- the calls for an answer of the inner future, and what may be called after them
  record AnswerOrdered (hooks : CallHooks C RS CH EO FA) (item : Result (Response B X) E) (latency : ℕ) (span : Span) (was : Recorded)
      (answer : Result Unit NoMemory) (now : Recorded) (Left : List (HookCall D N) → Type 0) : Type 0 where
    calls : List (HookCall D N)
    called : AnswerCalls sees_response sees_failure hooks item latency calls span was answer now
    carries : (rest : List (HookCall D N)) → Left (but_chunks rest) → ResponseThenEnds (but_chunks (calls ++ rest))
    no_end : (rest : List (HookCall D N)) → tells_end (calls ++ rest) ≡ tells_end rest

  -- the response's hook, and then its class
  response_calls : {K : Type 0} (classifies : ClassifiesResponse C N K) (hooks : CallHooks C RS CH EO FA) (r : Response B X) (class : ClassifiedResponse N K) (latency : ℕ)
      (span : Span) (was : Recorded) (t : Result (Tail K EO FA) NoMemory) (now : Recorded) →
      ClassifiedSeen classifies sees_response sees_failure hooks r class latency span was t now → AnswerOrdered hooks (Ok r) latency span was (spent t) now (Leaves t)
  response_calls classifies hooks r class latency span was t now (inl (seen, refused)) = record {
    calls = ResponseHook latency ∷ [];
    called = record {
      made = alone (FutureHookCalled {E = E} sees_response sees_failure hooks (Ok r) span) (ResponseHook latency) was (spent t) now seen;
      given = (refl, tt);
      order = tt;
    };
    carries = λ rest left. leaves_failure t (but_chunks rest) left;
    no_end = λ rest. refl;
  }
  response_calls classifies hooks r (classified.Ready (Ok u)) latency span was t now (inr (between, seen, begins)) = record {
    calls = ResponseHook latency ∷ [];
    called = record { made = inr (between, seen, begins.0.1); given = (refl, tt); order = tt };
    carries = λ rest left. leaves_failure t (but_chunks rest) left;
    no_end = λ rest. refl;
  }
  response_calls classifies hooks r (classified.Ready (Err class)) latency span was t now (inr (between, seen, begins)) = record {
    calls = ResponseHook latency ∷ FailureHook class latency ∷ [];
    called = record {
      made = inr (between, seen, alone (FutureHookCalled {E = E} sees_response sees_failure hooks (Ok r) span) (FailureHook class latency) between (spent t) now begins.0);
      given = (refl, (refl, tt));
      order = refl;
    };
    carries = λ rest left. leaves_eos hooks.on_eos t begins.1 (but_chunks rest) left;
    no_end = λ rest. refl;
  }
  response_calls classifies hooks r (RequiresEos k) latency span was t now (inr (between, seen, begins)) = record {
    calls = ResponseHook latency ∷ [];
    called = record { made = inr (between, seen, begins.1); given = (refl, tt); order = tt };
    carries = λ rest left. leaves_failure t (but_chunks rest) left;
    no_end = λ rest. refl;
  }

  -- the response is classified, its hook is called, and then its class is seen
  response_ordered : {K : Type 0} (classifies : ClassifiesResponse C N K) (hooks : CallHooks C RS CH EO FA) (r : Response B X) (latency : ℕ) (span : Span) (was : Recorded)
      (answer : Result (BodyHooks K CH EO FA) NoMemory) (now : Recorded) →
      (((e : NoMemory) × classifies hooks.classifier r.head.parts (Err e) × (answer ≡ Err e) × (now ≡ was))
      ⊎ ((class : ClassifiedResponse N K) × classifies hooks.classifier r.head.parts (Ok class)
      × ClassifiedSeen classifies sees_response sees_failure hooks r class latency span was (tail_in answer) now)) →
      AnswerOrdered hooks (Ok r) latency span was (spent answer) now (Leaves (tail_in answer))
  response_ordered classifies hooks r latency span was (Ok b) now (inl (e, told, is, same)) = absurd (cc)
  response_ordered classifies hooks r latency span was (Err x) now (inl (e, told, is, same)) = record {
    calls = [];
    called = record { made = same; given = tt; order = refl };
    carries = λ rest left. response_if_none (but_chunks rest) left;
    no_end = λ rest. refl;
  }
  response_ordered classifies hooks r latency span was (Ok b) now (inr (class, told, seen)) =
      response_calls classifies hooks r class latency span was (Ok b.tail) now seen
  response_ordered classifies hooks r latency span was (Err x) now (inr (class, told, seen)) =
      response_calls classifies hooks r class latency span was (Err x) now seen

  -- the error is classified, and the hook of failures is called
  error_ordered : (classifies : ClassifiesError C N) (hooks : CallHooks C RS CH EO FA) (error : E) (text : Option (List ℕ)) (latency : ℕ) (span : Span)
      (was : Recorded) (answer : Result Unit NoMemory) (now : Recorded) →
      FaultClassified classifies sees_failure hooks.classifier hooks.on_failure text latency span was answer now →
      AnswerOrdered hooks (Err error) latency span was answer now (λ calls. calls ≡ [])
  error_ordered classifies hooks error text latency span was answer now (inl (e, told, is, same)) = record {
    calls = [];
    called = record { made = same; given = tt; order = ap (λ (a : Result Unit NoMemory). is_err a) is };
    carries = λ rest left. response_if_none (but_chunks rest) left;
    no_end = λ rest. refl;
  }
  error_ordered classifies hooks error text latency span was answer now (inr (class, later, told, seen)) = record {
    calls = FailureHook class latency ∷ [];
    called = record {
      made = alone (FutureHookCalled sees_response sees_failure hooks (Err error) span) (FailureHook class latency) was answer now (later, seen);
      given = (refl, tt);
      order = refl;
    };
    carries = λ rest left. left;
    no_end = λ rest. refl;
  }

module _ {F C RS CH EO FA N K B X E D G : Type 0} (polls : Polls F (Result (Response B X) E)) (abandons : Abandons B) (ends : B → Bool)
    (classifies : ClassifiesResponse C N K) (classifies_error : ClassifiesError C N) (shows : E → Option (List ℕ)) (sees_response : SeesResponse RS B X)
    (frames : Frames B D G) (classifies_eos : ClassifiesEos K N) (classifies_fault : ClassifiesError K N) (shows_fault : G → Option (List ℕ))
    (sees_chunk : SeesChunk CH D) (sees_eos : SeesEos EO) (sees_failure : SeesFailure FA N) where
  abbrev Called : Type 0
  Called = ResponseFuture F C RS CH EO FA

  abbrev Traced : Type 0
  Traced = ResponseBody B K CH EO FA

  abbrev Settled : Type 0
  Settled = Result (Response Traced X) E

  abbrev Polled : Polls Called Settled
  Polled = TracePolls polls ends abandons classifies classifies_error shows sees_response sees_failure

  abbrev Framed : Frames Traced D G
  Framed = TraceFrames frames ends classifies_eos classifies_fault shows_fault sees_chunk sees_eos sees_failure

  abbrev Served : Called → List (FuturePoll Called Settled) → List (FramePoll Traced D G) → Type 0
  Served = ServedFrom Polled Framed

  abbrev CallsOf : Called → ℕ → List (FuturePoll Called Settled) → List (FramePoll Traced D G) → List (HookCall D N) → Type 0
  CallsOf = RequestCalls polls abandons sees_response frames sees_chunk sees_eos sees_failure

  abbrev PollCallsOf : Called → Recorded → Moment → Reply Traced X E → ℕ → List (HookCall D N) → Called → Recorded → Type 0
  PollCallsOf = FuturePollCalls polls abandons sees_response sees_failure

  -- a future whose hooks are taken calls none of them
  over_calls : (f : Called) (was : Recorded) (m : Moment) (answer : Reply Traced X E) (new : Called) (now : Recorded) (latency : ℕ) → f.hooks ≡ None →
      Polled f was m answer new now → PollCallsOf f was m answer latency [] new now
  over_calls f was m (Ok Pending) new now latency none (asked, same) = (asked, refl)
  over_calls f was m (Ok (Ready settled)) new now latency none d = absurd (not_there _ f.hooks d.seen none)
  over_calls f was m (Err e) new now latency none (inl (asked, same)) = inl (asked, refl)
  over_calls f was m (Err e) new now latency none (inr d) = absurd (not_there _ f.hooks d.refused none)

  over_next : (P P' : Response Traced X → Type 0) (Q Q' : Type 0) (f : Called) (was : Recorded) (m : Moment) (answer : Reply Traced X E) (new : Called) (now : Recorded) →
      f.hooks ≡ None → Polled f was m answer new now → IfAnswered answer P Q → (new.hooks ≡ None → Q → Q') → IfAnswered answer P' Q'
  over_next P P' Q Q' f was m (Ok Pending) new now none (asked, same) served next = next (ap (λ (g : Called). g.hooks) same ∙ none) served
  over_next P P' Q Q' f was m (Ok (Ready settled)) new now none d served next = absurd (not_there _ f.hooks d.seen none)
  over_next P P' Q Q' f was m (Err e) new now none (inl (asked, same)) served next = next (ap (λ (g : Called). g.hooks) same ∙ none) served
  over_next P P' Q Q' f was m (Err e) new now none (inr d) served next = absurd (not_there _ f.hooks d.refused none)

  over : (f : Called) (start : ℕ) (future_polls : List (FuturePoll Called Settled)) (body_polls : List (FramePoll Traced D G)) → f.hooks ≡ None →
      Served f future_polls body_polls → CallsOf f start future_polls body_polls []
  over f start [] body_polls none served = refl
  over f start (p ∷ future_polls) body_polls none served = (
    [],
    [],
    refl,
    over_calls f p.was p.moment p.answer p.after p.now (since start p.moment.now) none served.0,
    over_next _ _ _ _ f p.was p.moment p.answer p.after p.now none served.0 served.1 (λ gone rest. over p.after start future_polls body_polls gone rest),
  )

  -- the same either way
  either : (Q : Type 0) (answer : Reply Traced X E) → IfAnswered answer (λ r. Q) Q → Q
  either Q (Ok (Ready (Ok r))) q = q
  either Q (Ok (Ready (Err error))) q = q
  either Q (Ok Pending) q = q
  either Q (Err e) q = q

  over_no_body : (f : Called) (future_polls : List (FuturePoll Called Settled)) (body_polls : List (FramePoll Traced D G)) → f.hooks ≡ None →
      Served f future_polls body_polls → body_polls ≡ []
  over_no_body f [] body_polls none served = served
  over_no_body f (p ∷ future_polls) body_polls none served =
      either (body_polls ≡ []) p.answer (over_next _ (λ r. body_polls ≡ []) _ (body_polls ≡ []) f p.was p.moment p.answer p.after p.now none served.0 served.1
      (λ gone rest. over_no_body p.after future_polls body_polls gone rest))

  -- where no response is answered no end comes
  no_end_comes : (body_polls : List (FramePoll Traced D G)) (calls : List (HookCall D N)) → body_polls ≡ [] → tells_end calls ≡ false →
      tells_end calls ≡ end_comes (λ b. ends b.inner) body_polls
  no_end_comes body_polls calls none untold = untold ∙ sym (ap (λ (l : List (FramePoll Traced D G)). end_comes (λ b. ends b.inner) l) none)

  -- the hooks for a response, what is left of them and the life of its body
  answered : (hooks : Option (CallHooks C RS CH EO FA)) (span : Option Span) (start : ℕ) (was : Recorded) (m : Moment) (r : Response Traced X) (now : Recorded) →
      IsSomeAnd hooks (λ hooks. IsSomeAnd span (λ span.
      AnswerSeen ends classifies classifies_error shows sees_response sees_failure hooks start span was m (Ok r) now)) →
      (calls : List (HookCall D N)) × IsSomeAnd hooks (λ hooks. IsSomeAnd span (λ span.
      AnswerCalls {E = E} sees_response sees_failure hooks (Ok (record { head = r.head; body = r.body.inner })) (since start m.now) calls span was (Ok tt) now))
      × (r.body.life ≡ life_begun start m.now (ends r.body.inner))
      × ((rest : List (HookCall D N)) → EndCalls r.body.hooks.tail (but_chunks rest) → RequestOrder hooks (but_chunks (calls ++ rest)))
      × ((rest : List (HookCall D N)) → tells_end (calls ++ rest) ≡ tells_end rest) × IsSome (eos_hook r.body.hooks.tail)
  answered None span start was m r now seen = absurd seen
  answered (Some hooks) None start was m r now seen = absurd seen
  answered (Some hooks) (Some span) start was m r now seen =
      let response : Response B X = record { head = r.head; body = r.body.inner } in
      let x : AnswerOrdered {E = E} sees_response sees_failure hooks (Ok response) (since start m.now) span was (Ok tt) now (λ calls. EndCalls r.body.hooks.tail calls) =
      response_ordered sees_response sees_failure classifies hooks response (since start m.now) span was (Ok r.body.hooks) now seen.seen.seen in (
        x.calls,
        x.called,
        seen.life,
        x.carries,
        x.no_end,
        response_leaves sees_response sees_failure classifies hooks response (since start m.now) span was r.body.hooks now seen.seen.seen,
      )

  failed : (hooks : Option (CallHooks C RS CH EO FA)) (span : Option Span) (start : ℕ) (was : Recorded) (m : Moment) (error : E) (now : Recorded) →
      IsSomeAnd hooks (λ hooks. IsSomeAnd span (λ span.
      AnswerSeen {B = B} {X = X} ends classifies classifies_error shows sees_response sees_failure hooks start span was m (Err error) now)) →
      (calls : List (HookCall D N)) × IsSomeAnd hooks (λ hooks. IsSomeAnd span (λ span.
      AnswerCalls sees_response sees_failure hooks (Err error) (since start m.now) calls span was (Ok tt) now))
      × RequestOrder hooks (but_chunks (calls ++ [])) × (tells_end (calls ++ []) ≡ false)
  failed None span start was m error now seen = absurd seen
  failed (Some hooks) None start was m error now seen = absurd seen
  failed (Some hooks) (Some span) start was m error now seen =
      let x : AnswerOrdered {D = D} sees_response sees_failure hooks (Err error) (since start m.now) span was (Ok tt) now (λ calls. calls ≡ []) =
      error_ordered sees_response sees_failure classifies_error hooks error (shows error) (since start m.now) span was (Ok tt) now seen in
      (x.calls, x.called, x.carries [] refl, x.no_end [])

  -- the hooks for an answer that is refused for memory
  refused : (hooks : Option (CallHooks C RS CH EO FA)) (span : Option Span) (start : ℕ) (item : Result (Response B X) E) (was : Recorded) (m : Moment)
      (e : NoMemory) (now : Recorded) →
      IsSomeAnd hooks (λ hooks. IsSomeAnd span (λ span.
      AnswerRefused abandons classifies classifies_error shows sees_response sees_failure hooks start span item was m e now)) →
      (calls : List (HookCall D N)) × (seen : Recorded) × IsSomeAnd hooks (λ hooks. IsSomeAnd span (λ span.
      AnswerCalls sees_response sees_failure hooks item (since start m.now) calls span was (Err e) seen))
      × GivenUp abandons item seen m now × RequestOrder hooks (but_chunks (calls ++ [])) × (tells_end (calls ++ []) ≡ false)
  refused None span start item was m e now gone = absurd gone
  refused (Some hooks) None start item was m e now gone = absurd gone
  refused (Some hooks) (Some span) start (Ok r) was m e now (seen, gone, left) =
      let x : AnswerOrdered {D = D} {E = E} sees_response sees_failure hooks (Ok r) (since start m.now) span was (Err e) seen (λ calls. calls ≡ []) =
      response_ordered sees_response sees_failure classifies hooks r (since start m.now) span was (Err e) seen gone.seen in
      (x.calls, seen, x.called, left, x.carries [] refl, x.no_end [])
  refused (Some hooks) (Some span) start (Err error) was m e now gone =
      let x : AnswerOrdered {D = D} sees_response sees_failure hooks (Err error) (since start m.now) span was (Err e) now (λ calls. calls ≡ []) =
      error_ordered sees_response sees_failure classifies_error hooks error (shows error) (since start m.now) span was (Err e) now gone in
      (x.calls, now, x.called, refl, x.carries [] refl, x.no_end [])

  -- the calls of some polls of the future and then of the body
  abbrev Requested : Called → List (FuturePoll Called Settled) → List (FramePoll Traced D G) → Type 0
  Requested f future_polls body_polls =
      (calls : List (HookCall D N)) × CallsOf f f.start future_polls body_polls calls × RequestOrder f.hooks (but_chunks calls)
      × (NoneRefused body_polls → tells_end calls ≡ end_comes (λ b. ends b.inner) body_polls)

  -- a poll that answers nothing leaves the future as it was, but for the inner one
  goes_on : (f new : Called) (inner : F) → new ≡ record f { inner = inner } → (future_polls : List (FuturePoll Called Settled)) (body_polls : List (FramePoll Traced D G))
      (calls : List (HookCall D N)) → CallsOf new new.start future_polls body_polls calls → CallsOf new f.start future_polls body_polls calls
  goes_on f new inner same future_polls body_polls calls = subst (λ (start : ℕ). CallsOf new start future_polls body_polls calls) (ap (λ (g : Called). g.start) same)

  still_ordered : (f new : Called) (inner : F) → new ≡ record f { inner = inner } → (calls : List (HookCall D N)) → RequestOrder new.hooks calls → RequestOrder f.hooks calls
  still_ordered f new inner same calls = subst (λ (hooks : Option (CallHooks C RS CH EO FA)). RequestOrder hooks calls) (ap (λ (g : Called). g.hooks) same)

  -- a poll and those after it
  abbrev Stepped : Called → Recorded → Moment → Reply Traced X E → Called → Recorded → List (FuturePoll Called Settled) → List (FramePoll Traced D G) → Type 0
  Stepped f was m answer new now future_polls body_polls =
      (calls : List (HookCall D N)) × ((here : List (HookCall D N)) × (later : List (HookCall D N)) × (calls ≡ here ++ later)
      × PollCallsOf f was m answer (since f.start m.now) here new now
      × IfAnswered answer (λ r. BodyCalls frames sees_chunk sees_eos sees_failure r.body f.start m.now body_polls later × CallsOf new f.start future_polls [] [])
      (CallsOf new f.start future_polls body_polls later))
      × RequestOrder f.hooks (but_chunks calls) × (NoneRefused body_polls → tells_end calls ≡ end_comes (λ b. ends b.inner) body_polls)

  step : (f : Called) (was : Recorded) (m : Moment) (answer : Reply Traced X E) (new : Called) (now : Recorded) (future_polls : List (FuturePoll Called Settled))
      (body_polls : List (FramePoll Traced D G)) → Polled f was m answer new now →
      IfAnswered answer (λ r. PolledFrom Framed r.body body_polls × Served new future_polls []) (Served new future_polls body_polls) →
      (Served new future_polls body_polls → Requested new future_polls body_polls) → Stepped f was m answer new now future_polls body_polls
  step f was m (Ok Pending) new now future_polls body_polls (asked, same) served next =
      let y : Requested new future_polls body_polls = next served in
      (y.0, ([], y.0, refl, (asked, refl), goes_on f new new.inner same future_polls body_polls y.0 y.1), still_ordered f new new.inner same (but_chunks y.0) y.2, y.3)
  step f was m (Err e) new now future_polls body_polls (inl (asked, same)) served next =
      let y : Requested new future_polls body_polls = next served in
      (y.0, ([], y.0, refl, inl (asked, refl), goes_on f new new.inner same future_polls body_polls y.0 y.1), still_ordered f new new.inner same (but_chunks y.0) y.2, y.3)
  step f was m (Err e) new now future_polls body_polls (inr d) served next =
      let x = refused f.hooks f.span f.start d.item d.between m e now d.refused in (
        x.0 ++ [],
        (
          x.0,
          [],
          refl,
          inr (d.item, d.between, x.1, d.inner, x.2, x.3),
          over new f.start future_polls body_polls (ap (λ (g : Called). g.hooks) d.over) served,
        ),
        x.4,
        λ ok. no_end_comes body_polls (x.0 ++ []) (over_no_body new future_polls body_polls (ap (λ (g : Called). g.hooks) d.over) served) x.5,
      )
  step f was m (Ok (Ready (Err error))) new now future_polls body_polls d served next =
      let x = failed f.hooks f.span f.start d.between m error now d.seen in (
        x.0 ++ [],
        (x.0, [], refl, (d.between, d.inner, x.1), over new f.start future_polls body_polls (ap (λ (g : Called). g.hooks) d.over) served),
        x.2,
        λ ok. no_end_comes body_polls (x.0 ++ []) (over_no_body new future_polls body_polls (ap (λ (g : Called). g.hooks) d.over) served) x.3,
      )
  step f was m (Ok (Ready (Ok r))) new now future_polls body_polls d served next =
      let x = answered f.hooks f.span f.start d.between m r now d.seen in
      let y = body_ordered frames ends classifies_eos classifies_fault shows_fault sees_chunk sees_eos sees_failure r.body body_polls served.0 in (
        x.0 ++ y.0,
        (
          x.0,
          y.0,
          refl,
          (d.between, d.inner, x.1),
          (
            subst₂ (λ (last responded : ℕ). BodyCalls frames sees_chunk sees_eos sees_failure r.body last responded body_polls y.0)
                (ap (λ (l : Life). l.last) x.2) (ap (λ (l : Life). l.responded) x.2) y.1,
            over new f.start future_polls [] (ap (λ (g : Called). g.hooks) d.over) served.1,
          ),
        ),
        x.3 y.0 y.2,
        λ ok. x.4 y.0 ∙ end_due r.body.hooks.tail (end_comes (λ b. ends b.inner) body_polls) (fault_comes_first (λ b. ends b.inner) body_polls) y.0 x.5 (y.3 ok),
      )

  requested : (f : Called) (future_polls : List (FuturePoll Called Settled)) (body_polls : List (FramePoll Traced D G)) → Served f future_polls body_polls →
      Requested f future_polls body_polls
  requested f [] body_polls served = ([], refl, nothing_requested D N f.hooks, λ ok. no_end_comes body_polls [] served refl)
  requested f (p ∷ future_polls) body_polls served =
      step f p.was p.moment p.answer p.after p.now future_polls body_polls served.0 served.1 (λ rest. requested p.after future_polls body_polls rest)

module _ {F C RS CH EO FA N K B X E D G : Type 0} (polls : Polls F (Result (Response B X) E)) (abandons : Abandons B) (ends : B → Bool)
    (classifies : ClassifiesResponse C N K) (classifies_error : ClassifiesError C N) (shows : E → Option (List ℕ)) (sees_response : SeesResponse RS B X)
    (frames : Frames B D G) (classifies_eos : ClassifiesEos K N) (classifies_fault : ClassifiesError K N)
    (sees_chunk : SeesChunk CH D) (sees_eos : SeesEos EO) (sees_failure : SeesFailure FA N) where
  -- the hooks of any future are called in order
  pub future_in_order : (f : ResponseFuture F C RS CH EO FA) →
      OrderlyFuture polls abandons ends classifies classifies_error shows sees_response frames classifies_eos classifies_fault sees_chunk sees_eos sees_failure f
  future_in_order f = record {
    calls_of = λ shows_fault.
        requested polls abandons ends classifies classifies_error shows sees_response frames classifies_eos classifies_fault shows_fault sees_chunk sees_eos sees_failure f;
  }
