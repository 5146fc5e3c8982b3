-- A closure as a hook: what a call of it ensures is what the hook's relation says.
use Rattle.std.proofs.Common.{ℕ, Option, Result, refl}
use Rattle.std.specs.Borrow.{Bor, MutBor}
use Rattle.std.specs.Fn.{Called, Mut, Once}
use Rattle.life_core.specs.Recorded.{Recorded}
use Rattle.life_core.specs.declared.message.Request.{Request}
use Rattle.life_core.specs.declared.message.ResponseHead.{ResponseHead}
use Rattle.life_core.specs.declared.recorder.NoMemory.{NoMemory}
use Rattle.life_core.specs.declared.span.Span.{Span}
use Rattle.life_drop.specs.Closures.{ClosureDrops, ClosureMakes, ClosureResponds}

pub closure_drops : {F A L : Type 0} (recorded : L → Recorded) (calls : Once F (A × (ℕ × (MutBor L × Unit {0}))) (Result Unit NoMemory × (MutBor L × Unit {0})))
    (closure : F) (answer : Result Unit NoMemory) (alloc : A) (at : ℕ) (rec : MutBor L) (left : MutBor L × Unit {0}) →
    calls.post closure (alloc, (at, (rec, tt))) (answer, left) → ClosureDrops calls recorded closure at (recorded rec.now) answer (recorded left.0.now)
closure_drops recorded calls closure answer alloc at rec left c = record { alloc = alloc; rec = rec; left = left.0; called = c; begins = refl; ends = refl }

pub closure_makes : {F A B X C : Type 0} (calls : Mut F (A × (Bor (Request B X) × (ℕ × (Bor (Option Span) × Unit {0})))) (Result C NoMemory)) (closure : F)
    (answer : Result C NoMemory) (after : F) (alloc : A) (lent : Bor (Request B X)) (now : ℕ) (span : Bor (Option Span)) →
    Called calls closure (alloc, (lent, (now, (span, tt)))) answer after → ClosureMakes calls closure lent.now (record { now = now; span = span.now }) answer after
closure_makes calls closure answer after alloc lent now span c = record { alloc = alloc; lent = lent; lent_span = span; called = c; shows = refl; shows_span = refl }

pub closure_responds : {G A X C : Type 0} (calls : Once G (A × (Bor (ResponseHead X) × Unit {0})) (Result C NoMemory)) (closure : G)
    (answer : Result C NoMemory) (alloc : A) (lent : Bor (ResponseHead X)) →
    calls.post closure (alloc, (lent, tt)) answer → ClosureResponds calls closure lent.now answer
closure_responds calls closure answer alloc lent c = record { alloc = alloc; lent = lent; called = c; shows = refl }
