use Rattle.std.proofs.Common.{refl}
use Rattle.life_drop.proofs.Closures.{closure_responds}
use Rattle.life_drop.proofs.on_early_drop.closures.OnBodyDropFnOnBodyDrop.make_at_response.Goals as goal

pub returns-clause-makes : goal.returns-clause-makes
returns-clause-makes g c = (closure_responds g.G.FnOnce c.args.intermediate _ _ _ c.intermediate.ensures, refl)
