use Rattle.std.proofs.Common.{◌≡◌, Err, rules}
use Rattle.life_trace.proofs.trace.tail.Tail.close.Goals as goal

pub returns-in_err-classify_end-in-Classed-clause-closes :
    goal.returns-in_err-classify_end-in-Classed-clause-closes
returns-in_err-classify_end-in-Classed-clause-closes g c =
    let answer : c.from_residual.result ≡ Err c.in_err-classify_end-in-Classed.field-0.0 = search rules in
    rw (answer, ← c.in-Classed.ensures.value) (search rules)
