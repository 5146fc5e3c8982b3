use Rattle.std.proofs.Common.{Some, ◌∙◌, None, [], refl, sym}
use Rattle.std.proofs.KnownBytes.{Consumes-nil}
use Rattle.life_stack.specs.Program.Lines.{usage_line}
use Rattle.life_stack.specs.declared.program.status.Status.TheVariants.{Usage}
use Rattle.life_stack.specs.declared.program.words.Command.TheVariants.{Drive}
use Rattle.life_stack.proofs.ProgramLaws.Endings.{one_command, ran_on, runs_as, runs_over, runs_through, stands}
use Rattle.life_stack.proofs.program.running.run.Goals as goal

pub returns-in-None-clause-ran : goal.returns-in-None-clause-ran
returns-in-None-clause-ran g c =
    let none = sym c.command_of.ensures ∙ c.in-None.is in
    let ran = ran_on None [] usage_line _ _ _ _ Usage _ (Consumes-nil (g.S.Source.rest c.args.source.now)) (refl, refl, refl) c.answer.ensures.answered in
    ([], usage_line, rw none ran, c.answer.ensures.steady)

pub returns-in-Some-Drive-clause-complete : goal.returns-in-Some-Drive-clause-complete
returns-in-Some-Drive-clause-complete g c = λ limits scenario asked has source sink.
    let e = c.drive_source.ensures in
    runs_through (Some Drive) e.ran.0 e.ran.1 _ _ _ _ limits scenario _ e.ran.2 refl has (λ is. source (e.source_fault is)) (λ is output. sink (e.sink_fault is))

pub returns-in-Some-Drive-clause-assured : goal.returns-in-Some-Drive-clause-assured
returns-in-Some-Drive-clause-assured g c = λ limits scenario room asked has source source_low sink fits sink_low.
    let e = c.drive_source.ensures in
    runs_through (Some Drive) e.ran.0 e.ran.1 _ _ _ _ limits scenario _ e.ran.2 refl has
    (λ is. stands _ _ (e.source_steady source) source_low (e.source_fault is))
    (λ is output. stands _ _ (e.ran.3 room sink (rw output fits)) sink_low (e.sink_fault is))

pub returns-in-Some-Drive-clause-complete_each : goal.returns-in-Some-Drive-clause-complete_each
returns-in-Some-Drive-clause-complete_each g c = λ status asked has source sink.
    let e = c.drive_source.ensures in
    runs_as (Some Drive) e.ran.0 e.ran.1 _ _ _ _ _ status e.ran.2 refl has (λ is. source (e.source_fault is)) (λ is. sink (e.sink_fault is))

pub returns-in-Some-Drive-clause-complete_too_long : goal.returns-in-Some-Drive-clause-complete_too_long
returns-in-Some-Drive-clause-complete_too_long g c = λ bytes asked told long source sink.
    let e = c.drive_source.ensures in
    runs_over (Some Drive) e.ran.0 e.ran.1 bytes _ _ _ _ _ e.ran.2 refl told long (λ is. source (e.source_fault is)) (λ is. sink (e.sink_fault is))

pub returns-in-Some-Drive-clause-ran : goal.returns-in-Some-Drive-clause-ran
returns-in-Some-Drive-clause-ran g c = rw (sym c.in-Some-Drive.ensures, one_command c.in-Some-Drive.field-0) c.drive_source.ensures.ran
