use Rattle.life_drop.proofs.Closures.{closure_drops}
use Rattle.life_drop.proofs.on_early_drop.closures.HookFnOnDropCallback.on_drop.Goals as goal

pub returns-clause-drops : goal.returns-clause-drops
returns-clause-drops g c = closure_drops g.L.Recorder.recorded g.F.FnOnce c.args.self.closure _ _ _ _ _ c.closure.ensures
