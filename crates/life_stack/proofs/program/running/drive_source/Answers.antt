use Rattle.std.proofs.Common.{◌≡◌, ◌∙◌, List, ℕ, Some, refl, subst}
use Rattle.life_stack.specs.Program.Output.{IsOutputFor}
use Rattle.life_stack.specs.Program.Lines.{too_long_line}
use Rattle.life_stack.specs.Program.Writing.{IsAnswered}
use Rattle.life_stack.specs.declared.program.words.Command.TheVariants.{Drive}
use Rattle.life_stack.specs.declared.program.status.Status.TheVariants.{TooLong}
use Rattle.life_stack.proofs.ProgramLaws.Endings.{ran_on, output_whole}
use Rattle.life_stack.proofs.program.running.drive_source.Goals as goal

pub returns-in-Err-TooLong-clause-ran : goal.returns-in-Err-TooLong-clause-ran
returns-in-Err-TooLong-clause-ran g c =
    let t = rw c.in-Err-TooLong.field-0-is at c.in-Err-TooLong.ensures.took in
    (t.0, too_long_line, ran_on (Some Drive) t.0 too_long_line _ _ _ _ TooLong _ t.1 (refl, t.2, refl) c.answer.ensures.answered, c.answer.ensures.steady)

pub returns-in-Ok-output_for-clause-ran : goal.returns-in-Ok-output_for-clause-ran
returns-in-Ok-output_for-clause-ran g c =
    let t = c.in-Ok.ensures.took in
    let output = c.in-Ok-output_for.output in
    let same : c.as_slice.result.now ≡ t.0 = c.as_slice.ensures ∙ t.2.1 in
    let for : IsOutputFor t.0 output.status output.text = subst (λ (l : List ℕ). IsOutputFor l output.status output.text) same c.in-Ok-output_for.ensures in
    let answered : IsAnswered output.text (g.K.Sink.held c.args.sink.now) (g.K.Sink.held c.answer-in-Ok-output_for.new.sink) output.status c.answer-in-Ok-output_for.result =
    rw c.as_slice-in-Ok-output_for.ensures at c.answer-in-Ok-output_for.ensures.answered in
    let steady = rw c.as_slice-in-Ok-output_for.ensures at c.answer-in-Ok-output_for.ensures.steady in
    (t.0, output.text, ran_on (Some Drive) t.0 output.text _ _ _ _ output.status _ t.1 (output_whole t.0 output.text _ output.status t.2.0 for) answered, steady)
