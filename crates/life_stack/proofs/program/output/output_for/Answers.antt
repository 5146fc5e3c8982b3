use Rattle.std.proofs.Common.{refl}
use Rattle.std.proofs.lemmas.Result.{IfOk-weaker}
use Rattle.life_stack.proofs.ProgramLaws.Endings.{bad_is_output}
use Rattle.life_stack.proofs.program.output.output_for.Goals as goal

pub returns-in-Ok : goal.returns-in-Ok
returns-in-Ok c = c.output_of.ensures c.args.bytes.now c.in-Ok.ensures.read

pub returns-in-Err-BadScenario : goal.returns-in-Err-BadScenario
returns-in-Err-BadScenario c =
    let cause = (rw c.in-Err-BadScenario.field-0-is at c.in-Err-BadScenario.ensures.bad) refl in
    IfOk-weaker c.line.result _ _ (λ output said. bad_is_output c.args.bytes.now output.text output.status cause said.0 said.1) c.line.ensures
