-- What a closure that stands for a hook does: it is called once, at what the hook is told.
use Rattle.std.specs.Prelude.{◌≡◌, ℕ, Option, Result}
use Rattle.std.specs.Borrow.{Bor, MutBor}
use Rattle.std.specs.Fn.{Called, Mut, Once}
use Rattle.std.specs.Option.{option_copied}
use Rattle.http_header.specs.FieldValue.{FieldValue}
use Rattle.http_header.specs.HeaderMap.{Entries}
use Rattle.life_core.specs.Recorded.{Recorded}
use Rattle.life_core.specs.declared.message.Request.{Request}
use Rattle.life_core.specs.declared.message.Response.{Response}
use Rattle.life_core.specs.declared.recorder.NoMemory.{NoMemory}
use Rattle.life_core.specs.declared.span.Span.{Span}

-- the answer of a closure that is handed a recorder, and what it leaves of that
abbrev pub Left : Type 0 → Type 0
Left L = Result Unit NoMemory × (MutBor L × Unit {0})

-- the closure is called at the request, and answers the span
pub record ClosureMakesSpan {F A B X : Type 0} (calls : Mut F (A × (Bor (Request B X) × Unit {0})) (Result Span NoMemory))
    (closure : F) (request : Request B X) (answer : Result Span NoMemory) (after : F) : Type 0 where
  pub alloc : A
  pub lent : Bor (Request B X)
  pub called : Called calls closure (alloc, (lent, tt)) answer after
  pub shows : lent.now ≡ request

module _ {F A L : Type 0} (recorded : L → Recorded) where
  -- the closure is called at the request, the span and a recorder
  pub record ClosureSeesRequest {B X : Type 0} (calls : Mut F (A × (Bor (Request B X) × (Bor Span × (MutBor L × Unit {0})))) (Left L))
      (closure : F) (request : Request B X) (span : Span) (was : Recorded) (answer : Result Unit NoMemory) (after : F) (now : Recorded) : Type 0 where
    pub alloc : A
    pub lent : Bor (Request B X)
    pub lent_span : Bor Span
    pub rec : MutBor L
    pub left : MutBor L
    pub called : Called calls closure (alloc, (lent, (lent_span, (rec, tt)))) (answer, (left, tt)) after
    pub shows : lent.now ≡ request
    pub shows_span : lent_span.now ≡ span
    pub begins : recorded rec.now ≡ was
    pub ends : recorded left.now ≡ now

  -- the closure is called at the response, the latency, the span and a recorder
  pub record ClosureSeesResponse {B X : Type 0} (calls : Once F (A × (Bor (Response B X) × (ℕ × (Bor Span × (MutBor L × Unit {0}))))) (Left L))
      (closure : F) (response : Response B X) (latency : ℕ) (span : Span) (was : Recorded) (answer : Result Unit NoMemory) (now : Recorded) : Type 0 where
    pub alloc : A
    pub lent : Bor (Response B X)
    pub lent_span : Bor Span
    pub rec : MutBor L
    pub left : MutBor L
    pub called : calls.post closure (alloc, (lent, (latency, (lent_span, (rec, tt))))) (answer, (left, tt))
    pub shows : lent.now ≡ response
    pub shows_span : lent_span.now ≡ span
    pub begins : recorded rec.now ≡ was
    pub ends : recorded left.now ≡ now

  -- the closure is called at the chunk, the latency, the span and a recorder
  pub record ClosureSeesChunk {D : Type 0} (calls : Mut F (A × (Bor D × (ℕ × (Bor Span × (MutBor L × Unit {0}))))) (Left L))
      (closure : F) (chunk : D) (latency : ℕ) (span : Span) (was : Recorded) (answer : Result Unit NoMemory) (after : F) (now : Recorded) : Type 0 where
    pub alloc : A
    pub lent : Bor D
    pub lent_span : Bor Span
    pub rec : MutBor L
    pub left : MutBor L
    pub called : Called calls closure (alloc, (lent, (latency, (lent_span, (rec, tt))))) (answer, (left, tt)) after
    pub shows : lent.now ≡ chunk
    pub shows_span : lent_span.now ≡ span
    pub begins : recorded rec.now ≡ was
    pub ends : recorded left.now ≡ now

  -- the closure is called at the trailers, if any came, the duration, the span and a recorder
  pub record ClosureSeesEos (calls : Once F (A × (Option (Bor (Entries FieldValue)) × (ℕ × (Bor Span × (MutBor L × Unit {0}))))) (Left L))
      (closure : F) (trailers : Option (Entries FieldValue)) (duration : ℕ) (span : Span) (was : Recorded) (answer : Result Unit NoMemory) (now : Recorded) : Type 0 where
    pub alloc : A
    pub lent : Option (Bor (Entries FieldValue))
    pub lent_span : Bor Span
    pub rec : MutBor L
    pub left : MutBor L
    pub called : calls.post closure (alloc, (lent, (duration, (lent_span, (rec, tt))))) (answer, (left, tt))
    pub shows : option_copied lent ≡ trailers
    pub shows_span : lent_span.now ≡ span
    pub begins : recorded rec.now ≡ was
    pub ends : recorded left.now ≡ now

  -- the closure is called with the class, at the latency, the span and a recorder
  pub record ClosureSeesFailure {C : Type 0} (calls : Mut F (A × (C × (ℕ × (Bor Span × (MutBor L × Unit {0}))))) (Left L))
      (closure : F) (class : C) (latency : ℕ) (span : Span) (was : Recorded) (answer : Result Unit NoMemory) (after : F) (now : Recorded) : Type 0 where
    pub alloc : A
    pub lent_span : Bor Span
    pub rec : MutBor L
    pub left : MutBor L
    pub called : Called calls closure (alloc, (class, (latency, (lent_span, (rec, tt))))) (answer, (left, tt)) after
    pub shows_span : lent_span.now ≡ span
    pub begins : recorded rec.now ≡ was
    pub ends : recorded left.now ≡ now
