use Rattle.life_second_stack.proofs.Keeping.{second_keeps}
use Rattle.life_second_stack.proofs.stack.SecondLayersDriven.frame_at.Goals as goal

pub returns-clause-framed : goal.returns-clause-framed
returns-clause-framed g c = λ k acts late at. second_keeps.framed k acts _ _ _ c.poll_frame.result _ _ late at c.poll_frame.ensures.frames
