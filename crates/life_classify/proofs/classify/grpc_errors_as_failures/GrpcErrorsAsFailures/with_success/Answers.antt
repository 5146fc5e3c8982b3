use Rattle.std.proofs.Common.{◌≡◌, true, ap, ◌∙◌}
use Rattle.std.specs.Prelude.{◌||◌}
use Rattle.life_classify.specs.Code.{has_bit, is_code}
use Rattle.life_classify.specs.declared.classify.grpc_errors_as_failures.code.GrpcCode.TheVariants as code
use Rattle.life_classify.proofs.CodeSets.{has_code_in}
use Rattle.life_classify.proofs.classify.grpc_errors_as_failures.GrpcErrorsAsFailures.with_success.Goals as goal

pub invariant_of-result : goal.invariant_of-result
invariant_of-result c = c.inserted.ensures code.Ok ∙ ap (λ b. b || is_code c.args.code code.Ok) c.self.invariant

pub returns-clause-keeps_ok : goal.returns-clause-keeps_ok
returns-clause-keeps_ok c =
    let kept : has_bit c.inserted.result.0 code.Ok ≡ true = c.inserted.ensures code.Ok ∙ ap (λ b. b || is_code c.args.code code.Ok) c.self.invariant in
    has_code_in c.inserted.result.0 code.Ok ∙ kept
