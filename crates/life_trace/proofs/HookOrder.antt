-- The hooks of a response are called in order, however it is polled.
use Rattle.std.proofs.Common.{◌≡◌, ℕ, Bool, true, false, not, ◌&&◌, ◌||◌, true≢false, ◌⊎◌, inl, inr, List, [], ◌∷◌, ◌++◌, Option, Some, None, Result, Ok, Err, IsOk, IsErr, is_err, IsSomeAnd, refl, ap, ◌∙◌, subst, subst₂, sym}
use Rattle.http_header.specs.FieldValue.{FieldValue}
use Rattle.http_header.specs.HeaderMap.{Entries}
use Rattle.http_body.specs.declared.frame.Frame.{Frame}
use Rattle.http_body.specs.declared.frame.Kind.{Kind}
use Rattle.http_body.specs.declared.frame.Kind.TheVariants.{Data, Trailers}
use Rattle.life_classify.specs.Classifier.{ClassifiesEos, ClassifiesError}
use Rattle.life_core.specs.Calls.{Frames, Answer}
use Rattle.life_core.specs.FramePolls.{FramePoll, PolledFrom}
use Rattle.life_core.specs.Life.{life_after, life_on, passed_of}
use Rattle.life_core.specs.Moment.{Moment}
use Rattle.life_core.specs.Recorded.{Recorded}
use Rattle.life_core.specs.declared.life.Life.{Life}
use Rattle.life_core.specs.declared.life.Passed.{Passed}
use Rattle.life_core.specs.declared.life.Passed.TheVariants as passed
use Rattle.life_core.specs.declared.life.Passed.TheVariants.{Chunk, End, Fault}
use Rattle.life_core.specs.declared.poll.Poll.TheVariants.{Ready, Pending}
use Rattle.life_core.specs.declared.recorder.NoMemory.{NoMemory}
use Rattle.life_core.specs.declared.span.Span.{Span}
use Rattle.life_trace.specs.Body.{ChunkSeen, ClosesIf, FrameSeen, InnerThenHooks, ItemSeen, TraceFrames}
use Rattle.life_trace.specs.HookCalls.{HookCall, but_chunks, EosOnce, FailureThenEos, EndCalls, InOrder, is_end, is_fault, answers_end, answers_fault, end_comes, fault_comes_first, NoneRefused, CalledWhenDue, Given, item_chunk, item_trailers, ready_at, BodyHookCalled, ItemCalls, PollCalls, BodyCalls, OrderlyBody}
use Rattle.life_trace.specs.HookCalls.HookCall.{ChunkHook, EosHook, FailureHook}
use Rattle.life_trace.specs.Hooks.{Ends, SeesChunk, SeesEos, SeesFailure}
use Rattle.life_trace.specs.Tail.{EndClassified, EndSeen, FaultClassified, Faults, times_at}
use Rattle.life_trace.specs.declared.trace.body.BodyHooks.{BodyHooks}
use Rattle.life_trace.specs.declared.trace.body.ResponseBody.{ResponseBody}
use Rattle.life_trace.specs.declared.trace.tail.Tail.{Tail}
use Rattle.life_trace.specs.declared.trace.tail.Tail.TheVariants.{Classed, Unclassed, Spent}
use Rattle.life_trace.specs.declared.trace.tail.Times.{Times}

-- one call alone
pub alone : {D N : Type 0} (called : HookCall D N → Ends) (c : HookCall D N) (was : Recorded) (answer : Result Unit NoMemory) (now : Recorded) →
    called c was answer now → InOrder called (c ∷ []) was answer now
alone called c was (Ok u) now seen = inr (now, seen, refl)
alone called c was (Err e) now seen = inl (seen, refl, refl)

module _ {D N : Type 0} where
  pub eos_if_none : (calls : List (HookCall D N)) → calls ≡ [] → EosOnce calls
  eos_if_none calls none = subst (λ (l : List (HookCall D N)). EosOnce l) (sym none) tt

  pub failure_if_none : (calls : List (HookCall D N)) → calls ≡ [] → FailureThenEos calls
  failure_if_none calls none = subst (λ (l : List (HookCall D N)). FailureThenEos l) (sym none) tt

  -- the end alone may come also where a failure may come before it
  pub failure_if_eos : (calls : List (HookCall D N)) → EosOnce calls → FailureThenEos calls
  failure_if_eos [] once = tt
  failure_if_eos (HookCall.ResponseHook latency ∷ calls) once = absurd once
  failure_if_eos (ChunkHook chunk latency ∷ calls) once = absurd once
  failure_if_eos (EosHook trailers duration ∷ calls) once = once
  failure_if_eos (FailureHook class latency ∷ calls) once = absurd once

module _ {K EO FA D N : Type 0} where
  -- what may be called after these calls may be called after them and before
  abbrev Carries : Tail K EO FA → Tail K EO FA → List (HookCall D N) → Type 0
  Carries old new calls = (rest : List (HookCall D N)) → EndCalls new (but_chunks rest) → EndCalls old (but_chunks (calls ++ rest))

  -- nothing is left of a tail that is spent
  nothing_left : (new : Tail K EO FA) → new ≡ Spent → (calls : List (HookCall D N)) → EndCalls new calls → calls ≡ []
  nothing_left new spent calls ends = subst (λ (t : Tail K EO FA). EndCalls t calls) spent ends

  -- a tail that stays carries what may be called
  stays : (old new : Tail K EO FA) → new ≡ old → Carries old new []
  stays old new same rest ends = subst (λ (t : Tail K EO FA). EndCalls t (but_chunks rest)) same ends

  -- what is due of later calls is due of these and them, where these come of an answer that is an end or a fault
  abbrev Adds : Tail K EO FA → Tail K EO FA → Bool → Bool → List (HookCall D N) → Type 0
  Adds old new ended faulted calls =
      (ends_later faults_later : Bool) (rest : List (HookCall D N)) → CalledWhenDue new ends_later faults_later rest →
      CalledWhenDue old (ended || ends_later) (faulted || (not ended && faults_later)) (calls ++ rest)

  stays_due : (old new : Tail K EO FA) → new ≡ old → Adds old new false false []
  stays_due old new same ends_later faults_later rest due = subst (λ (t : Tail K EO FA). CalledWhenDue t ends_later faults_later rest) same due

  -- a chunk changes nothing of what is due
  chunk_due : (t : Tail K EO FA) (ended faulted : Bool) (chunk : D) (latency : ℕ) (calls : List (HookCall D N)) → CalledWhenDue t ended faulted calls →
      CalledWhenDue t ended faulted (ChunkHook chunk latency ∷ calls)
  chunk_due (Classed k e f) ended faulted chunk latency calls due = due
  chunk_due (Unclassed e) ended faulted chunk latency calls due = due
  chunk_due Spent ended faulted chunk latency calls due = tt

-- what is answered is not refused
not_refused : {A : Type 0} (answer : Result Unit NoMemory) → IsErr answer → answer ≡ Ok tt → A
not_refused answer refused ok = absurd (true≢false (sym refused ∙ ap (λ (a : Result Unit NoMemory). is_err a) ok))

module _ {FA N : Type 0} (sees_failure : SeesFailure FA N) where
  -- what a class calls: nothing, or the hook of failures
  abbrev ClassCalled : FA → ℕ → Span → Recorded → Result Unit NoMemory → Recorded → Type 0
  ClassCalled hook latency span was answer now = (now ≡ was) ⊎ ((class : N) × (later : FA) × sees_failure hook class latency span was answer later now)

  end_class : {K : Type 0} (classifies : ClassifiesEos K N) (k : K) (hook : FA) (came : Option (Entries FieldValue)) (latency : ℕ) (span : Span) (was : Recorded)
      (answer : Result Unit NoMemory) (now : Recorded) → EndClassified classifies sees_failure k hook came latency span was answer now →
      ClassCalled hook latency span was answer now
  end_class classifies k hook came latency span was answer now (inl (e, told, is, same)) = inl same
  end_class classifies k hook came latency span was answer now (inr (Ok u, told, silent)) = inl silent.1
  end_class classifies k hook came latency span was answer now (inr (Err class, told, seen)) = inr (class, seen.0, seen.1)

module _ {K CH EO FA N D : Type 0} (sees_chunk : SeesChunk CH D) (sees_eos : SeesEos EO) (sees_failure : SeesFailure FA N) where
  abbrev Called : CH → Tail K EO FA → CH → Span → HookCall D N → Ends
  Called = BodyHookCalled sees_chunk sees_eos sees_failure

  -- the calls for an end or a fault
  record Ending (ended faulted : Bool) (before after : CH) (old new : Tail K EO FA) (came : Option (Entries FieldValue)) (times : Times) (span : Span) (was : Recorded)
      (answer : Result Unit NoMemory) (now : Recorded) : Type 0 where
    calls : List (HookCall D N)
    made : InOrder (Called before old after span) calls was answer now
    given : Given came times calls
    no_chunk : calls ≡ but_chunks calls
    carries : Carries old new calls
    adds : answer ≡ Ok tt → Adds old new ended faulted calls

  -- none is called
  none_called : (ended faulted : Bool) (before after : CH) (old new : Tail K EO FA) (came : Option (Entries FieldValue)) (times : Times) (span : Span)
      (was : Recorded) (answer : Result Unit NoMemory) (now : Recorded) → now ≡ was → Carries {D = D} {N = N} old new [] →
      (answer ≡ Ok tt → Adds {D = D} {N = N} old new ended faulted []) → Ending ended faulted before after old new came times span was answer now
  none_called ended faulted before after old new came times span was answer now same carried added =
      record { calls = []; made = same; given = tt; no_chunk = refl; carries = carried; adds = added }

  -- the class of an end is refused, or the hook of failures is
  closing_refused : (before after : CH) (k : K) (e : EO) (f : FA) (new : Tail K EO FA) (came : Option (Entries FieldValue)) (times : Times) (span : Span)
      (was : Recorded) (answer : Result Unit NoMemory) (now : Recorded) → ClassCalled sees_failure f times.latency span was answer now → IsErr answer →
      new ≡ Spent → Ending true false before after (Classed k e f) new came times span was answer now
  closing_refused before after k e f new came times span was answer now (inl same) refused spent =
      none_called true false before after (Classed k e f) new came times span was answer now same
      (λ rest ends. failure_if_none (but_chunks rest) (nothing_left new spent (but_chunks rest) ends)) (not_refused answer refused)
  closing_refused before after k e f new came times span was answer now (inr (class, later, seen)) refused spent = record {
    calls = FailureHook class times.latency ∷ [];
    made = alone (Called before (Classed k e f) after span) (FailureHook class times.latency) was answer now (later, seen);
    given = (refl, tt);
    no_chunk = refl;
    carries = λ rest ends. eos_if_none (but_chunks rest) (nothing_left new spent (but_chunks rest) ends);
    adds = not_refused answer refused;
  }

  -- the class, and then the end
  class_then_end : (before after : CH) (k : K) (e : EO) (f : FA) (new : Tail K EO FA) (came : Option (Entries FieldValue)) (times : Times) (span : Span)
      (was between : Recorded) (answer : Result Unit NoMemory) (now : Recorded) → ClassCalled sees_failure f times.latency span was (Ok tt) between →
      sees_eos e came times.duration span between answer now → new ≡ Spent → Ending true false before after (Classed k e f) new came times span was answer now
  class_then_end before after k e f new came times span was between answer now (inl same) seen spent = record {
    calls = EosHook came times.duration ∷ [];
    made = alone (Called before (Classed k e f) after span) (EosHook came times.duration) was answer now
        (subst (λ (r : Recorded). sees_eos e came times.duration span r answer now) same seen);
    given = (refl, refl, tt);
    no_chunk = refl;
    carries = λ rest ends. nothing_left new spent (but_chunks rest) ends;
    adds = λ ok ends_later faults_later rest due. (refl, λ faulted. absurd (true≢false (sym faulted)), λ unended. absurd (true≢false unended));
  }
  class_then_end before after k e f new came times span was between answer now (inr (class, later, failed)) seen spent = record {
    calls = FailureHook class times.latency ∷ EosHook came times.duration ∷ [];
    made = inr (between, (later, failed), alone (Called before (Classed k e f) after span) (EosHook came times.duration) between answer now seen);
    given = (refl, (refl, refl, tt));
    no_chunk = refl;
    carries = λ rest ends. nothing_left new spent (but_chunks rest) ends;
    adds = λ ok ends_later faults_later rest due. (refl, λ faulted. absurd (true≢false (sym faulted)), λ unended. absurd (true≢false unended));
  }

  -- the end
  closing : (classifies : ClassifiesEos K N) (before after : CH) (old new : Tail K EO FA) (came : Option (Entries FieldValue)) (times : Times) (span : Span)
      (was : Recorded) (answer : Result Unit NoMemory) (now : Recorded) → EndSeen classifies sees_eos sees_failure old came times span was answer now → new ≡ Spent →
      Ending true false before after old new came times span was answer now
  closing classifies before after (Classed k e f) new came times span was answer now (inl (seen, refused)) spent =
      closing_refused before after k e f new came times span was answer now (end_class sees_failure classifies k f came times.latency span was answer now seen) refused spent
  closing classifies before after (Classed k e f) new came times span was answer now (inr (between, classed, seen)) spent =
      class_then_end before after k e f new came times span was between answer now (end_class sees_failure classifies k f came times.latency span was (Ok tt) between classed) seen spent
  closing classifies before after (Unclassed e) new came times span was answer now seen spent = record {
    calls = EosHook came times.duration ∷ [];
    made = alone (Called before (Unclassed e) after span) (EosHook came times.duration) was answer now seen;
    given = (refl, refl, tt);
    no_chunk = refl;
    carries = λ rest ends. nothing_left new spent (but_chunks rest) ends;
    adds = λ ok ends_later faults_later rest due. refl;
  }
  closing classifies before after Spent new came times span was answer now silent spent =
      none_called true false before after Spent new came times span was answer now silent.1 (stays Spent new spent) (λ ok ends_later faults_later rest due. tt)

  -- a fault where the class is open
  fault_classed : (classifies : ClassifiesError K N) (before after : CH) (k : K) (e : EO) (f : FA) (new : Tail K EO FA) (text : Option (List ℕ)) (times : Times)
      (span : Span) (was : Recorded) (answer : Result Unit NoMemory) (now : Recorded) →
      FaultClassified classifies sees_failure k f text times.latency span was answer now → new ≡ Unclassed e →
      Ending false true before after (Classed k e f) new None times span was answer now
  fault_classed classifies before after k e f new text times span was answer now (inl (x, told, is, same)) left =
      none_called false true before after (Classed k e f) new None times span was answer now same
      (λ rest ends. failure_if_eos (but_chunks rest) (subst (λ (t : Tail K EO FA). EndCalls t (but_chunks rest)) left ends))
      (not_refused answer (ap (λ (a : Result Unit NoMemory). is_err a) is))
  fault_classed classifies before after k e f new text times span was answer now (inr (class, later, told, seen)) left = record {
    calls = FailureHook class times.latency ∷ [];
    made = alone (Called before (Classed k e f) after span) (FailureHook class times.latency) was answer now (later, seen);
    given = (refl, tt);
    no_chunk = refl;
    carries = λ rest ends. subst (λ (t : Tail K EO FA). EndCalls t (but_chunks rest)) left ends;
    adds = λ ok ends_later faults_later rest due.
        (subst (λ (t : Tail K EO FA). CalledWhenDue t ends_later faults_later rest) left due, λ faulted. refl, λ unended. refl);
  }

  -- a fault
  faulting : (classifies : ClassifiesError K N) (before after : CH) (old new : Tail K EO FA) (text : Option (List ℕ)) (times : Times) (span : Span)
      (was : Recorded) (answer : Result Unit NoMemory) (now : Recorded) → Faults classifies sees_failure old text times.latency span was answer new now →
      Ending false true before after old new None times span was answer now
  faulting classifies before after (Classed k e f) new text times span was answer now faults =
      fault_classed classifies before after k e f new text times span was answer now faults.0 faults.1
  faulting classifies before after (Unclassed e) new text times span was answer now faults =
      none_called false true before after (Unclassed e) new None times span was answer now faults.0.1 (stays (Unclassed e) new faults.1)
      (λ ok ends_later faults_later rest due. subst (λ (t : Tail K EO FA). CalledWhenDue t ends_later faults_later rest) faults.1 due)
  faulting classifies before after Spent new text times span was answer now faults =
      none_called false true before after Spent new None times span was answer now faults.0.1 (stays Spent new faults.1) (λ ok ends_later faults_later rest due. tt)

  -- the end where the body tells it
  closing_if : (classifies : ClassifiesEos K N) (before after : CH) (old new : Tail K EO FA) (ended : Bool) (times : Times) (span : Span) (was : Recorded)
      (answer : Result Unit NoMemory) (now : Recorded) → ClosesIf classifies sees_chunk sees_eos sees_failure ended old times span was answer new now →
      Ending ended false before after old new None times span was answer now
  closing_if classifies before after old new true times span was answer now closes =
      closing classifies before after old new None times span was answer now closes.seen closes.taken
  closing_if classifies before after old new false times span was answer now silent =
      none_called false false before after old new None times span was answer now silent.0.1 (stays old new silent.1) (λ ok. stays_due old new silent.1)

  -- the calls for a ready answer, and what may be called after them
  record ItemOrdered {E : Type 0} (old : BodyHooks K CH EO FA) (item : Option (Result (Frame D) E)) (ended : Bool) (times : Times) (span : Span) (was : Recorded)
      (answer : Result Unit NoMemory) (new : BodyHooks K CH EO FA) (now : Recorded) : Type 0 where
    calls : List (HookCall D N)
    called : ItemCalls sees_chunk sees_eos sees_failure old item times calls span was answer new now
    carries : Carries old.tail new.tail calls
    adds : answer ≡ Ok tt → Adds old.tail new.tail (is_end (passed_of item ended)) (is_fault (passed_of item ended)) calls

  -- an ending is what a ready answer with no chunk calls
  of_ending : {E : Type 0} (old : BodyHooks K CH EO FA) (item : Option (Result (Frame D) E)) (ended : Bool) (times : Times) (span : Span) (was : Recorded)
      (answer : Result Unit NoMemory) (new : BodyHooks K CH EO FA) (now : Recorded) → item_chunk {N = N} item times.latency ≡ [] →
      Ending (is_end (passed_of item ended)) (is_fault (passed_of item ended)) old.on_body_chunk new.on_body_chunk old.tail new.tail (item_trailers item) times span
      was answer now → ItemOrdered old item ended times span was answer new now
  of_ending old item ended times span was answer new now no_chunk x = record {
    calls = x.calls;
    called = record { made = x.made; given = x.given; chunk = x.no_chunk ∙ ap (λ (l : List (HookCall D N)). l ++ but_chunks x.calls) (sym no_chunk) };
    carries = x.carries;
    adds = x.adds;
  }

  -- a chunk that is refused or seen, and then perhaps the end
  of_chunk : {E : Type 0} (classifies : ClassifiesEos K N) (old : BodyHooks K CH EO FA) (chunk : D) (ended : Bool) (times : Times) (span : Span)
      (was : Recorded) (answer : Result Unit NoMemory) (new : BodyHooks K CH EO FA) (now : Recorded) →
      ChunkSeen classifies sees_chunk sees_eos sees_failure old chunk ended times span was answer new now →
      ItemOrdered {E = E} old (Some (Ok (record { kind = Data chunk }))) ended times span was answer new now
  of_chunk classifies old chunk ended times span was answer new now (inl (seen, refused, same)) = record {
    calls = ChunkHook chunk times.latency ∷ [];
    called = record { made = inl (seen, refused, refl); given = (refl, tt); chunk = refl };
    carries = stays old.tail new.tail same;
    adds = not_refused answer refused;
  }
  of_chunk classifies old chunk ended times span was answer new now (inr (between, seen, closes)) =
      let x : Ending ended false old.on_body_chunk new.on_body_chunk old.tail new.tail None times span between answer now =
      closing_if classifies old.on_body_chunk new.on_body_chunk old.tail new.tail ended times span between answer now closes in
      record {
        calls = ChunkHook chunk times.latency ∷ x.calls;
        called = record {
          made = inr (between, seen, x.made);
          given = (refl, x.given);
          chunk = ap (λ (l : List (HookCall D N)). ChunkHook chunk times.latency ∷ l) x.no_chunk;
        };
        carries = x.carries;
        adds = λ ok ends_later faults_later rest due. chunk_due old.tail (ended || ends_later) (not ended && faults_later) chunk times.latency (x.calls ++ rest)
            (x.adds ok ends_later faults_later rest due);
      }

-- a ready answer sets the time of the last one
last_after : (life : Life) (now : ℕ) (passed : Passed) → (life_after life now passed).last ≡ now
last_after life now (Chunk ended) = refl
last_after life now (passed.Trailers ended) = refl
last_after life now End = refl
last_after life now Fault = refl

-- no answer changes when the response came
responded_after : (life : Life) (now : ℕ) (passed : Passed) → (life_after life now passed).responded ≡ life.responded
responded_after life now (Chunk ended) = refl
responded_after life now (passed.Trailers ended) = refl
responded_after life now End = refl
responded_after life now Fault = refl

last_on : {D E : Type 0} (life : Life) (now : ℕ) (answer : Answer D E) (ended : Bool) → (life_on life now answer ended).last ≡ ready_at life.last now answer
last_on life now (Ok (Ready item)) ended = last_after life now (passed_of item ended)
last_on life now (Ok Pending) ended = refl
last_on life now (Err e) ended = refl

responded_on : {D E : Type 0} (life : Life) (now : ℕ) (answer : Answer D E) (ended : Bool) → (life_on life now answer ended).responded ≡ life.responded
responded_on life now (Ok (Ready item)) ended = responded_after life now (passed_of item ended)
responded_on life now (Ok Pending) ended = refl
responded_on life now (Err e) ended = refl

-- any tail may be left as it is
nothing_called : {K EO FA : Type 0} (D N : Type 0) (t : Tail K EO FA) → EndCalls {D = D} {N = N} t []
nothing_called D N (Classed k e f) = tt
nothing_called D N (Unclassed e) = tt
nothing_called D N Spent = refl

nothing_due : {K EO FA : Type 0} (D N : Type 0) (t : Tail K EO FA) → CalledWhenDue {D = D} {N = N} t false false []
nothing_due D N (Classed k e f) = (refl, λ faulted. faulted, λ unended. refl)
nothing_due D N (Unclassed e) = refl
nothing_due D N Spent = tt

module _ {B K CH EO FA N D E : Type 0} (frames : Frames B D E) (ends : B → Bool) (classifies : ClassifiesEos K N)
    (classifies_error : ClassifiesError K N) (shows : E → Option (List ℕ)) (sees_chunk : SeesChunk CH D) (sees_eos : SeesEos EO)
    (sees_failure : SeesFailure FA N) where
  abbrev Polled : Frames (ResponseBody B K CH EO FA) D E
  Polled = TraceFrames frames ends classifies classifies_error shows sees_chunk sees_eos sees_failure

  frame_ordered : (old : BodyHooks K CH EO FA) (kind : Kind D) (ended : Bool) (times : Times) (span : Span) (was : Recorded)
      (answer : Result Unit NoMemory) (new : BodyHooks K CH EO FA) (now : Recorded) →
      FrameSeen classifies classifies_error shows sees_chunk sees_eos sees_failure old kind ended times span was answer new now →
      ItemOrdered sees_chunk sees_eos sees_failure {E = E} old (Some (Ok (record { kind = kind }))) ended times span was answer new now
  frame_ordered old (Data chunk) ended times span was answer new now seen =
      of_chunk sees_chunk sees_eos sees_failure classifies old chunk ended times span was answer new now seen
  frame_ordered old (Trailers trailers) ended times span was answer new now seen =
      of_ending sees_chunk sees_eos sees_failure old (Some (Ok (record { kind = Trailers trailers }))) ended times span was answer new now refl
      (closing sees_chunk sees_eos sees_failure classifies old.on_body_chunk new.on_body_chunk old.tail new.tail (Some trailers) times span was answer now
      seen.0.seen seen.0.taken)

  item_ordered : (old : BodyHooks K CH EO FA) (item : Option (Result (Frame D) E)) (ended : Bool) (times : Times) (span : Span) (was : Recorded)
      (answer : Result Unit NoMemory) (new : BodyHooks K CH EO FA) (now : Recorded) →
      ItemSeen classifies classifies_error shows sees_chunk sees_eos sees_failure old item ended times span was answer new now →
      ItemOrdered sees_chunk sees_eos sees_failure old item ended times span was answer new now
  item_ordered old None ended times span was answer new now seen =
      of_ending sees_chunk sees_eos sees_failure old None ended times span was answer new now refl
      (closing sees_chunk sees_eos sees_failure classifies old.on_body_chunk new.on_body_chunk old.tail new.tail None times span was answer now seen.0.seen seen.0.taken)
  item_ordered old (Some (Err fault)) ended times span was answer new now seen =
      of_ending sees_chunk sees_eos sees_failure old (Some (Err fault)) ended times span was answer new now refl
      (faulting sees_chunk sees_eos sees_failure classifies_error old.on_body_chunk new.on_body_chunk old.tail new.tail (shows fault) times span was answer now seen.0)
  item_ordered old (Some (Ok frame)) ended times span was answer new now seen = frame_ordered old frame.kind ended times span was answer new now seen

  abbrev CallsIn : ResponseBody B K CH EO FA → Option Span → Option (Result (Frame D) E) → Times → Recorded → Result Unit NoMemory → ResponseBody B K CH EO FA → Recorded → List (HookCall D N) → Type 0
  CallsIn old span item times was answer new now calls =
      IsSomeAnd span (λ span. ItemCalls sees_chunk sees_eos sees_failure old.hooks item times calls span was answer new.hooks now)

  span_ordered : (old : ResponseBody B K CH EO FA) (span : Option Span) (item : Option (Result (Frame D) E)) (times : Times) (was : Recorded)
      (answer : Result Unit NoMemory) (new : ResponseBody B K CH EO FA) (now : Recorded) →
      IsSomeAnd span (λ span. ItemSeen classifies classifies_error shows sees_chunk sees_eos sees_failure old.hooks item (ends new.inner) times span was answer new.hooks now) →
      (calls : List (HookCall D N)) × CallsIn old span item times was answer new now calls × Carries old.hooks.tail new.hooks.tail calls
      × (answer ≡ Ok tt → Adds old.hooks.tail new.hooks.tail (is_end (passed_of item (ends new.inner))) (is_fault (passed_of item (ends new.inner))) calls)
  span_ordered old None item times was answer new now seen = absurd seen
  span_ordered old (Some span) item times was answer new now seen =
      let x : ItemOrdered sees_chunk sees_eos sees_failure old.hooks item (ends new.inner) times span was answer new.hooks now =
      item_ordered old.hooks item (ends new.inner) times span was answer new.hooks now seen in
      (x.calls, x.called, x.carries, x.adds)

  -- the calls of a poll, and what may be called after them
  abbrev PollOrdered : ResponseBody B K CH EO FA → Recorded → Moment → Answer D E → ResponseBody B K CH EO FA → Recorded → Type 0
  PollOrdered old was m answer new now =
      (calls : List (HookCall D N)) × PollCalls frames sees_chunk sees_eos sees_failure old was m answer (times_at old.life m.now) calls new now
      × Carries old.hooks.tail new.hooks.tail calls
      × (IsOk answer → Adds old.hooks.tail new.hooks.tail (answers_end answer (ends new.inner)) (answers_fault answer (ends new.inner)) calls)

  same_tail : (old new : ResponseBody B K CH EO FA) → new.hooks ≡ old.hooks → new.hooks.tail ≡ old.hooks.tail
  same_tail old new same = ap (λ (h : BodyHooks K CH EO FA). h.tail) same

  not_called : (old new : ResponseBody B K CH EO FA) → new.hooks ≡ old.hooks → Carries {D = D} {N = N} old.hooks.tail new.hooks.tail []
  not_called old new same = stays old.hooks.tail new.hooks.tail (same_tail old new same)

  answer_ordered : (old : ResponseBody B K CH EO FA) (was : Recorded) (m : Moment) (answer : Answer D E) (new : ResponseBody B K CH EO FA) (now : Recorded) →
      InnerThenHooks frames ends classifies classifies_error shows sees_chunk sees_eos sees_failure old was m answer new now → PollOrdered old was m answer new now
  answer_ordered old was m (Ok Pending) new now (asked, same) = ([], (asked, refl), not_called old new same, λ ok. stays_due old.hooks.tail new.hooks.tail (same_tail old new same))
  answer_ordered old was m (Ok (Ready item)) new now (between, asked, seen) =
      let x = span_ordered old old.span item (times_at old.life m.now) between (Ok tt) new now seen in
      (x.0, (between, asked, x.1), x.2, λ ok. x.3 refl)
  answer_ordered old was m (Err e) new now (inl (asked, same)) = ([], inl (asked, refl), not_called old new same, λ ok. absurd (true≢false (sym ok)))
  answer_ordered old was m (Err e) new now (inr (item, between, asked, seen)) =
      let x = span_ordered old old.span item (times_at old.life m.now) between (Err e) new now seen in
      (x.0, inr (item, between, asked, x.1), x.2, λ ok. absurd (true≢false (sym ok)))

  -- the times that a poll is told are those of the ready answers before it
  retimed : (old : ResponseBody B K CH EO FA) (was : Recorded) (m : Moment) (answer : Answer D E) (new : ResponseBody B K CH EO FA) (now : Recorded) →
      Polled old was m answer new now → (polls : List (FramePoll (ResponseBody B K CH EO FA) D E)) (calls : List (HookCall D N)) →
      BodyCalls frames sees_chunk sees_eos sees_failure new new.life.last new.life.responded polls calls →
      BodyCalls frames sees_chunk sees_eos sees_failure new (ready_at old.life.last m.now answer) old.life.responded polls calls
  retimed old was m answer new now d polls calls =
      subst₂ (λ (last responded : ℕ). BodyCalls frames sees_chunk sees_eos sees_failure new last responded polls calls)
      (ap (λ (l : Life). l.last) d.life ∙ last_on old.life m.now answer (ends new.inner))
      (ap (λ (l : Life). l.responded) d.life ∙ responded_on old.life m.now answer (ends new.inner))

  pub body_ordered : (b : ResponseBody B K CH EO FA) (polls : List (FramePoll (ResponseBody B K CH EO FA) D E)) → PolledFrom Polled b polls →
      (calls : List (HookCall D N)) × BodyCalls frames sees_chunk sees_eos sees_failure b b.life.last b.life.responded polls calls × EndCalls b.hooks.tail (but_chunks calls)
      × (NoneRefused polls → CalledWhenDue b.hooks.tail (end_comes (λ b. ends b.inner) polls) (fault_comes_first (λ b. ends b.inner) polls) calls)
  body_ordered b [] polled = ([], refl, nothing_called D N b.hooks.tail, λ ok. nothing_due D N b.hooks.tail)
  body_ordered b (p ∷ polls) polled =
      let x = answer_ordered b p.was p.moment p.answer p.after p.now polled.0.answered in
      let y = body_ordered p.after polls polled.1 in (
        x.0 ++ y.0,
        (x.0, y.0, refl, x.1, retimed b p.was p.moment p.answer p.after p.now polled.0 polls y.0 y.1),
        x.2 y.0 y.2,
        λ ok. x.3 ok.0 (end_comes (λ b. ends b.inner) polls) (fault_comes_first (λ b. ends b.inner) polls) y.0 (y.3 ok.1),
      )

  -- the hooks of any body are called in order
  pub body_in_order : (b : ResponseBody B K CH EO FA) → OrderlyBody frames ends classifies classifies_error shows sees_chunk sees_eos sees_failure b
  body_in_order b = record { calls_of = body_ordered b }
