use Rattle.life_trace.proofs.Closures.{closure_sees_response}
use Rattle.life_trace.proofs.trace.on_response.HookFnOnResponse.on_response.Goals as goal

pub returns-clause-sees : goal.returns-clause-sees
returns-clause-sees g c = closure_sees_response g.L.Recorder.recorded g.F.FnOnce c.args.self.closure _ _ _ _ _ _ _ c.closure.ensures
