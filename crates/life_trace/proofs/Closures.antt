-- A closure as a hook: what a call of it ensures is what the hook's relation says.
use Rattle.std.proofs.Common.{ℕ, Option, Result, refl}
use Rattle.std.specs.Borrow.{Bor, MutBor}
use Rattle.std.specs.Fn.{Called, Mut, Once}
use Rattle.std.specs.Option.{option_copied}
use Rattle.http_header.specs.FieldValue.{FieldValue}
use Rattle.http_header.specs.HeaderMap.{Entries}
use Rattle.life_core.specs.Recorded.{Recorded}
use Rattle.life_core.specs.declared.message.Request.{Request}
use Rattle.life_core.specs.declared.message.Response.{Response}
use Rattle.life_core.specs.declared.recorder.NoMemory.{NoMemory}
use Rattle.life_core.specs.declared.span.Span.{Span}
use Rattle.life_trace.specs.Closures.{Left, ClosureMakesSpan, ClosureSeesRequest, ClosureSeesResponse, ClosureSeesChunk, ClosureSeesEos, ClosureSeesFailure}

pub closure_makes_span : {F A B X : Type 0} (calls : Mut F (A × (Bor (Request B X) × Unit {0})) (Result Span NoMemory)) (closure : F)
    (answer : Result Span NoMemory) (after : F) (alloc : A) (lent : Bor (Request B X)) →
    Called calls closure (alloc, (lent, tt)) answer after → ClosureMakesSpan calls closure lent.now answer after
closure_makes_span calls closure answer after alloc lent c = record { alloc = alloc; lent = lent; called = c; shows = refl }

module _ {F A L : Type 0} (recorded : L → Recorded) where
  pub closure_sees_request : {B X : Type 0} (calls : Mut F (A × (Bor (Request B X) × (Bor Span × (MutBor L × Unit {0})))) (Left L)) (closure : F)
      (answer : Result Unit NoMemory) (after : F) (alloc : A) (lent : Bor (Request B X)) (span : Bor Span) (rec : MutBor L) (left : MutBor L × Unit {0}) →
      Called calls closure (alloc, (lent, (span, (rec, tt)))) (answer, left) after →
      ClosureSeesRequest recorded calls closure lent.now span.now (recorded rec.now) answer after (recorded left.0.now)
  closure_sees_request calls closure answer after alloc lent span rec left c =
      record { alloc = alloc; lent = lent; lent_span = span; rec = rec; left = left.0; called = c; shows = refl; shows_span = refl; begins = refl; ends = refl }

  pub closure_sees_response : {B X : Type 0} (calls : Once F (A × (Bor (Response B X) × (ℕ × (Bor Span × (MutBor L × Unit {0}))))) (Left L)) (closure : F)
      (answer : Result Unit NoMemory) (alloc : A) (lent : Bor (Response B X)) (latency : ℕ) (span : Bor Span) (rec : MutBor L) (left : MutBor L × Unit {0}) →
      calls.post closure (alloc, (lent, (latency, (span, (rec, tt))))) (answer, left) →
      ClosureSeesResponse recorded calls closure lent.now latency span.now (recorded rec.now) answer (recorded left.0.now)
  closure_sees_response calls closure answer alloc lent latency span rec left c =
      record { alloc = alloc; lent = lent; lent_span = span; rec = rec; left = left.0; called = c; shows = refl; shows_span = refl; begins = refl; ends = refl }

  pub closure_sees_chunk : {D : Type 0} (calls : Mut F (A × (Bor D × (ℕ × (Bor Span × (MutBor L × Unit {0}))))) (Left L)) (closure : F)
      (answer : Result Unit NoMemory) (after : F) (alloc : A) (lent : Bor D) (latency : ℕ) (span : Bor Span) (rec : MutBor L) (left : MutBor L × Unit {0}) →
      Called calls closure (alloc, (lent, (latency, (span, (rec, tt))))) (answer, left) after →
      ClosureSeesChunk recorded calls closure lent.now latency span.now (recorded rec.now) answer after (recorded left.0.now)
  closure_sees_chunk calls closure answer after alloc lent latency span rec left c =
      record { alloc = alloc; lent = lent; lent_span = span; rec = rec; left = left.0; called = c; shows = refl; shows_span = refl; begins = refl; ends = refl }

  pub closure_sees_eos : (calls : Once F (A × (Option (Bor (Entries FieldValue)) × (ℕ × (Bor Span × (MutBor L × Unit {0}))))) (Left L)) (closure : F)
      (answer : Result Unit NoMemory) (alloc : A) (lent : Option (Bor (Entries FieldValue))) (duration : ℕ) (span : Bor Span) (rec : MutBor L) (left : MutBor L × Unit {0}) →
      calls.post closure (alloc, (lent, (duration, (span, (rec, tt))))) (answer, left) →
      ClosureSeesEos recorded calls closure (option_copied lent) duration span.now (recorded rec.now) answer (recorded left.0.now)
  closure_sees_eos calls closure answer alloc lent duration span rec left c =
      record { alloc = alloc; lent = lent; lent_span = span; rec = rec; left = left.0; called = c; shows = refl; shows_span = refl; begins = refl; ends = refl }

  pub closure_sees_failure : {C : Type 0} (calls : Mut F (A × (C × (ℕ × (Bor Span × (MutBor L × Unit {0}))))) (Left L)) (closure : F)
      (class : C) (answer : Result Unit NoMemory) (after : F) (alloc : A) (latency : ℕ) (span : Bor Span) (rec : MutBor L) (left : MutBor L × Unit {0}) →
      Called calls closure (alloc, (class, (latency, (span, (rec, tt))))) (answer, left) after →
      ClosureSeesFailure recorded calls closure class latency span.now (recorded rec.now) answer after (recorded left.0.now)
  closure_sees_failure calls closure class answer after alloc latency span rec left c =
      record { alloc = alloc; lent_span = span; rec = rec; left = left.0; called = c; shows_span = refl; begins = refl; ends = refl }
