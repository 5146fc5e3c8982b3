-- What a closure that stands for a hook of early drops does: it is called once, at what the hook is told.
use Rattle.std.specs.Prelude.{◌≡◌, ℕ, Option, Result}
use Rattle.std.specs.Borrow.{Bor, MutBor}
use Rattle.std.specs.Fn.{Called, Mut, Once}
use Rattle.life_core.specs.Moment.{Moment}
use Rattle.life_core.specs.Recorded.{Recorded}
use Rattle.life_core.specs.declared.message.Request.{Request}
use Rattle.life_core.specs.declared.message.ResponseHead.{ResponseHead}
use Rattle.life_core.specs.declared.recorder.NoMemory.{NoMemory}
use Rattle.life_core.specs.declared.span.Span.{Span}

-- the closure is called at the time and a recorder
pub record ClosureDrops {F A L : Type 0} (calls : Once F (A × (ℕ × (MutBor L × Unit {0}))) (Result Unit NoMemory × (MutBor L × Unit {0})))
    (recorded : L → Recorded) (closure : F) (at : ℕ) (was : Recorded) (answer : Result Unit NoMemory) (now : Recorded) : Type 0 where
  pub alloc : A
  pub rec : MutBor L
  pub left : MutBor L
  pub called : calls.post closure (alloc, (at, (rec, tt))) (answer, (left, tt))
  pub begins : recorded rec.now ≡ was
  pub ends : recorded left.now ≡ now

-- the closure is called at the request, the time and the span of the call
pub record ClosureMakes {F A B X C : Type 0} (calls : Mut F (A × (Bor (Request B X) × (ℕ × (Bor (Option Span) × Unit {0})))) (Result C NoMemory))
    (closure : F) (request : Request B X) (m : Moment) (answer : Result C NoMemory) (after : F) : Type 0 where
  pub alloc : A
  pub lent : Bor (Request B X)
  pub lent_span : Bor (Option Span)
  pub called : Called calls closure (alloc, (lent, (m.now, (lent_span, tt)))) answer after
  pub shows : lent.now ≡ request
  pub shows_span : lent_span.now ≡ m.span

-- the closure is called at the head of the response
pub record ClosureResponds {G A X C : Type 0} (calls : Once G (A × (Bor (ResponseHead X) × Unit {0})) (Result C NoMemory))
    (closure : G) (head : ResponseHead X) (answer : Result C NoMemory) : Type 0 where
  pub alloc : A
  pub lent : Bor (ResponseHead X)
  pub called : calls.post closure (alloc, (lent, tt)) answer
  pub shows : lent.now ≡ head
