use Rattle.std.proofs.Common.{◌≡◌, Some, sym, ap, ◌∙◌, rules}
use Rattle.life_classify.specs.Code.{code_numbered, codes_in, has_bit}
use Rattle.life_classify.specs.Grpc.{is_success}
use Rattle.life_classify.proofs.CodeSets.{has_code_in}
use Rattle.life_classify.proofs.classify.grpc_errors_as_failures.metadata.is_success.Goals as goal

pub returns-in-Some : goal.returns-in-Some
returns-in-Some c =
    let found : code_numbered c.args.number ≡ Some c.in-Some.code = search rules in
    let is : c.contains.result ≡ has_bit c.args.success_codes.0 c.in-Some.code = search rules in
    is ∙ (sym (has_code_in c.args.success_codes.0 c.in-Some.code) ∙ ap (is_success (codes_in c.args.success_codes.0)) (sym found))
