use Rattle.life_trace.proofs.Closures.{closure_makes_span}
use Rattle.life_trace.proofs.trace.make_span.HookFnMakeSpan.make_span.Goals as goal

pub returns-clause-makes : goal.returns-clause-makes
returns-clause-makes g c = closure_makes_span g.F.FnMut c.args.self.now.closure _ _ _ _ c.closure.ensures
