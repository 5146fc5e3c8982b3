use Rattle.life_trace.proofs.Closures.{closure_sees_chunk}
use Rattle.life_trace.proofs.trace.on_body_chunk.HookFnOnBodyChunk.on_body_chunk.Goals as goal

pub returns-clause-sees : goal.returns-clause-sees
returns-clause-sees g c = closure_sees_chunk g.L.Recorder.recorded g.F.FnMut c.args.self.now.closure _ _ _ _ _ _ _ _ c.closure.ensures
