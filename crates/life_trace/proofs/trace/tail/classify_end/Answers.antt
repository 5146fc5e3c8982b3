use Rattle.std.proofs.Common.{inr}
use Rattle.life_trace.proofs.trace.tail.classify_end.Goals as goal

pub returns-clause-classified : goal.returns-clause-classified
returns-clause-classified g c = inr (c.in_ok-class.class, c.in_ok-class.ensures, c.see_class.ensures.seen)
