use Rattle.std.proofs.lemmas.Result.{IfOk-weaker}
use Rattle.life_script.specs.declared.error.DriveError.TheVariants.{TooManyHeaders, ClockBack, NoRequest}
use Rattle.life_stack.proofs.ProgramLaws.Endings.{refusal_is_output}
use Rattle.life_stack.proofs.program.output.output_of.Goals as goal

pub returns-in-Err-TooManyHeaders : goal.returns-in-Err-TooManyHeaders
returns-in-Err-TooManyHeaders c = λ bytes reads.
    IfOk-weaker c.refusal.result _ _ (λ output said. refusal_is_output bytes output.text c.args.limits.now c.args.scenario.now (TooManyHeaders c.in-Err-TooManyHeaders.request) output.status reads (rw c.in-Err-TooManyHeaders.field-0-is at c.in-Err-TooManyHeaders.ensures.refused) said.0 said.1)
    c.refusal.ensures

pub returns-in-Err-ClockBack : goal.returns-in-Err-ClockBack
returns-in-Err-ClockBack c = λ bytes reads.
    IfOk-weaker c.refusal-in-Err-ClockBack.result _ _ (λ output said. refusal_is_output bytes output.text c.args.limits.now c.args.scenario.now (ClockBack c.in-Err-ClockBack.step) output.status reads (rw c.in-Err-ClockBack.field-0-is at c.in-Err-ClockBack.ensures.refused) said.0 said.1)
    c.refusal-in-Err-ClockBack.ensures

pub returns-in-Err-NoRequest : goal.returns-in-Err-NoRequest
returns-in-Err-NoRequest c = λ bytes reads.
    IfOk-weaker c.refusal-in-Err-NoRequest.result _ _ (λ output said. refusal_is_output bytes output.text c.args.limits.now c.args.scenario.now (NoRequest c.in-Err-NoRequest.step) output.status reads (rw c.in-Err-NoRequest.field-0-is at c.in-Err-NoRequest.ensures.refused) said.0 said.1)
    c.refusal-in-Err-NoRequest.ensures
