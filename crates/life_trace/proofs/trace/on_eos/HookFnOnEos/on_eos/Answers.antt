use Rattle.life_trace.proofs.Closures.{closure_sees_eos}
use Rattle.life_trace.proofs.trace.on_eos.HookFnOnEos.on_eos.Goals as goal

pub returns-clause-sees : goal.returns-clause-sees
returns-clause-sees g c = closure_sees_eos g.L.Recorder.recorded g.F.FnOnce c.args.self.closure _ _ _ _ _ _ _ c.closure.ensures
