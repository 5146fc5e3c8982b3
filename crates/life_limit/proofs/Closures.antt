-- A closure as a handler of panics.
use Rattle.std.proofs.Common.{◌≡◌, Result}
use Rattle.std.specs.Borrow.{MutBor}
use Rattle.std.specs.Fn.{Called, Mut}
use Rattle.life_core.specs.Recorded.{Recorded}
use Rattle.life_core.specs.declared.fault.PanicText.{PanicText}
use Rattle.life_core.specs.declared.message.Response.{Response}
use Rattle.life_core.specs.declared.recorder.NoMemory.{NoMemory}
use Rattle.life_limit.specs.Catch.{ClosureHandles}

pub closure_handles : {F A L P X : Type 0} (calls : Mut F (A × (PanicText × (MutBor L × Unit {0}))) (Result (Response P X) NoMemory × (MutBor L × Unit {0}))) (recorded : L → Recorded)
    (closure : F) (text : PanicText) (was : Recorded) (answer : Result (Response P X) NoMemory) (after : F) (now : Recorded) (alloc : A) (rec : MutBor L) (left : MutBor L × Unit {0}) →
    Called calls closure (alloc, (text, (rec, tt))) (answer, left) after → recorded rec.now ≡ was → recorded left.0.now ≡ now →
    ClosureHandles calls recorded closure text was answer after now
closure_handles calls recorded closure text was answer after now alloc rec left c b e =
    record { alloc = alloc; rec = rec; left = left.0; called = c; begins = b; ends = e }
