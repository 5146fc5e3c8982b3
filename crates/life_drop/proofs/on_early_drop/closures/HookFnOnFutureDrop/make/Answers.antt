use Rattle.life_drop.proofs.Closures.{closure_makes}
use Rattle.life_drop.proofs.on_early_drop.closures.HookFnOnFutureDrop.make.Goals as goal

pub returns-clause-makes : goal.returns-clause-makes
returns-clause-makes g c = closure_makes g.F.FnMut c.args.self.now.closure _ _ _ _ _ _ c.closure.ensures
