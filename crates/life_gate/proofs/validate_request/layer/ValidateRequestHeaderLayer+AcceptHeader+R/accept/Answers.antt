use Rattle.std.proofs.Common.{rules}
use Rattle.life_gate.proofs.Refused.{handed_on}
use Rattle.life_gate.proofs.validate_request.layer.ValidateRequestHeaderLayer+AcceptHeader+R.accept.Goals as goal

pub returns-in_err-validate-clause-invalid : goal.returns-in_err-validate-clause-invalid
returns-in_err-validate-clause-invalid g c = handed_on _ _ _ _ (search rules) c.in_err-validate.ensures.invalid
