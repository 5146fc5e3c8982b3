use Rattle.life_second_stack.proofs.Keeping.{second_keeps}
use Rattle.life_second_stack.proofs.stack.SecondLayersDriven.call_at.Goals as goal

pub returns-clause-called : goal.returns-clause-called
returns-clause-called g c = λ k acts asks at ready stands. second_keeps.called k acts _ _ _ _ c.call.result _ _ asks at ready stands c.call.ensures.calls

pub returns-clause-kept : goal.returns-clause-kept
returns-clause-kept g c = λ k stands. second_keeps.kept k _ _ _ _ c.call.result _ _ stands c.call.ensures.calls
