use Rattle.std.proofs.Common.{refl}
use Rattle.life_limit.proofs.Closures.{closure_handles}
use Rattle.life_limit.proofs.catch_panic.handler.HookFnResponseForPanic.response_for_panic.Goals as goal

pub returns-clause-handles : goal.returns-clause-handles
returns-clause-handles g c = closure_handles g.F.FnMut g.L.Recorder.recorded c.args.self.now.closure c.args.err _ _ _ _ _ _ _ c.closure.ensures refl refl
