use Rattle.std.proofs.Common.{refl}
use Rattle.life_gate.proofs.Closures.{closure_validates}
use Rattle.life_gate.proofs.validate_request.validate.HookFnValidateRequest.validate.Goals as goal

pub returns-clause-validates : goal.returns-clause-validates
returns-clause-validates g c = closure_validates g.F.FnMut c.args.self.now.closure c.args.request.now _ _ _ _ _ _ c.closure.ensures refl refl
