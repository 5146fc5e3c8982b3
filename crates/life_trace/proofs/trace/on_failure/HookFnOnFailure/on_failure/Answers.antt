use Rattle.life_trace.proofs.Closures.{closure_sees_failure}
use Rattle.life_trace.proofs.trace.on_failure.HookFnOnFailure.on_failure.Goals as goal

pub returns-clause-sees : goal.returns-clause-sees
returns-clause-sees g c = closure_sees_failure g.L.Recorder.recorded g.F.FnMut c.args.self.now.closure _ _ _ _ _ _ _ _ c.closure.ensures
