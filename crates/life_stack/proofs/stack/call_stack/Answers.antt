use Rattle.life_stack.proofs.StackLaws.Keeping.{drive_keeps}
use Rattle.life_stack.proofs.stack.call_stack.Goals as goal

pub returns-clause-called : goal.returns-clause-called
returns-clause-called g c = λ k acts asked at ready serves. drive_keeps.called k acts _ _ _ _ c.call.result _ _ asked at ready serves c.call.ensures.calls

pub returns-clause-kept : goal.returns-clause-kept
returns-clause-kept g c = λ k serves. drive_keeps.kept k _ _ _ _ c.call.result _ _ serves c.call.ensures.calls
