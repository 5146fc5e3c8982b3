-- A closure as a validator.
use Rattle.std.proofs.Common.{◌≡◌}
use Rattle.std.specs.Borrow.{MutBor}
use Rattle.std.specs.Fn.{Called, Mut}
use Rattle.life_core.specs.declared.message.Request.{Request}
use Rattle.life_gate.specs.Gate.{ClosureValidates}
use Rattle.life_gate.specs.Judged.{Verdict}

pub closure_validates : {F A B P X : Type 0} (calls : Mut F (A × (MutBor (Request B X) × Unit {0})) (Verdict P X × (MutBor (Request B X) × Unit {0})))
    (closure : F) (request : Request B X) (answer : Verdict P X) (after : F) (seen : Request B X) (alloc : A) (lent : MutBor (Request B X)) (left : MutBor (Request B X) × Unit {0}) →
    Called calls closure (alloc, (lent, tt)) (answer, left) after → lent.now ≡ request → left.0.now ≡ seen →
    ClosureValidates calls closure request answer after seen
closure_validates calls closure request answer after seen alloc lent left c b e =
    record { alloc = alloc; lent = lent; left = left.0; called = c; begins = b; ends = e }
